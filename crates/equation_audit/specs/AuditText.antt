-- The text of `audit`: what is found of each block.
use Rattle.std.specs.Prelude.{◌==◌, ◌++◌, ℕ, Bool, true, false, List, [], length, flat_map, slice_get, Option, Some}
use Rattle.std.specs.Prelude.{None, codes, if◌then◌else◌}
use Rattle.ilk_base.specs.declared.words.Op.{Op}
use Rattle.ilk_base.specs.declared.words.SwitchId.{SwitchId}
use Rattle.station_graph.specs.Diagram.{Diagram, switch_path}
use Rattle.central_rules.specs.Names.{rule_name, position_name, texts_below}
use Rattle.denial_explain.specs.ExplanationText.{operation}
use Rattle.equation_audit.specs.Equations.{is_among}
use Rattle.equation_audit.specs.declared.finding.Loose.{Loose}
use Rattle.equation_audit.specs.declared.finding.Finding.{Finding}

-- The line `with PATH` of a switch that is closed.
abbrev pub closed_line : Option Bool → List ℕ → List ℕ
closed_line (Some true) path = codes "with " ++ path ++ codes "\n"
closed_line (Some false) path = []
closed_line None path = []

-- The same of switch i in the vector, but for the moved switch.
abbrev pub closed_at : Diagram → ℕ → List Bool → ℕ → List ℕ
closed_at d moved v i = if i == moved then [] else closed_line (slice_get v i) (switch_path d i)

-- The same of each switch, in document order.
abbrev pub closed_lines : Diagram → ℕ → List Bool → List ℕ
closed_lines d moved v = texts_below (closed_at d moved v) (length d.switches)

-- The line `loose RULE open PATH` (or `close`), and a line for each other switch that is closed in the
-- vector, in document order.
abbrev pub loose_part : Diagram → Op → Option Loose → List ℕ
loose_part d op None = []
loose_part d op (Some l) =
    codes "loose " ++ rule_name l.rule ++ codes " " ++ operation d op ++ closed_lines d op.switch.0 l.vector

-- The line `with on PATH` or `with off PATH` of a switch.
abbrev pub setting_line : Option Bool → List ℕ → List ℕ
setting_line (Some closed) path = codes "with " ++ position_name closed ++ codes " " ++ path ++ codes "\n"
setting_line None path = []

-- The same of switch i, where it is one of the own.
abbrev pub own_at : Diagram → List SwitchId → List Bool → ℕ → List ℕ
own_at d own u i = if is_among own i then setting_line (slice_get u i) (switch_path d i) else []

-- The same of each switch, in document order.
abbrev pub own_lines : Diagram → List SwitchId → List Bool → List ℕ
own_lines d own u = texts_below (own_at d own u) (length d.switches)

-- The line `strict open PATH` (or `close`), and a line for each own switch in the position, in document order.
abbrev pub strict_part : Diagram → Op → List SwitchId → Option (List Bool) → List ℕ
strict_part d op own None = []
strict_part d op own (Some u) = codes "strict " ++ operation d op ++ own_lines d own u

-- The line `same open PATH` (or `close`), or the loose part and the strict part.
abbrev pub finding_parts : Diagram → Op → List SwitchId → Option Loose → Option (List Bool) → List ℕ
finding_parts d op own None None = codes "same " ++ operation d op
finding_parts d op own (Some l) strict = loose_part d op (Some l) ++ strict_part d op own strict
finding_parts d op own None (Some u) = strict_part d op own (Some u)

-- What is written of a finding.
abbrev pub finding_text : Diagram → Finding → List ℕ
finding_text d f = finding_parts d f.op f.own.items f.loose f.strict

-- The whole text.
abbrev pub audit_text : Diagram → List Finding → List ℕ
audit_text d fs = flat_map (finding_text d) fs
