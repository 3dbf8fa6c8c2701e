-- The text of `order`: the ruling on each step, and where all are ok the ruling on the order undone.
use Rattle.std.specs.Prelude.{◌≡◌, ◌++◌, ◌+◌, ℕ, Bool, true, false, List, [], length, take, slice_get, Option, Some}
use Rattle.std.specs.Prelude.{None, codes, decimal}
use Rattle.std.specs.List.{flat_map, enumerate_from}
use Rattle.ilk_base.specs.declared.words.Op.{Op}
use Rattle.station_graph.specs.Diagram.{Diagram}
use Rattle.central_rules.specs.Names.{rule_name}
use Rattle.denial_explain.specs.ExplanationText.{operation}
use Rattle.switching_orders.specs.OrderRuling.{after_all, IsRuling}
use Rattle.switching_orders.specs.Undoing.{undone}
use Rattle.switching_orders.specs.declared.ruling.Step.{Step}
use Rattle.switching_orders.specs.declared.ruling.Step.TheVariants as step
use Rattle.switching_orders.specs.declared.ruling.Ruling.{Ruling}
use Rattle.switching_orders.specs.declared.text.OrderReport.{OrderReport}

-- What is written of a ruling.
abbrev pub ruling_words : Step → List ℕ
ruling_words step.Ok = codes " ok "
ruling_words (step.Denied rule) = codes " denied " ++ rule_name rule ++ codes " "
ruling_words step.Idle = codes " idle "

-- The line `K ok open PATH`, `K denied RULE open PATH` or `K idle open PATH` (or `close`) of step K.
abbrev pub step_line : Diagram → ℕ → Step → Op → List ℕ
step_line d number s op = decimal number ++ ruling_words s ++ operation d op

-- The lines of steps that are ok, numbered from 1.
abbrev pub ok_lines : Diagram → List Op → List ℕ
ok_lines d ops = flat_map (λ p. step_line d p.0 step.Ok p.1) (enumerate_from 1 ops)

-- The line of a step that is not.
abbrev pub stop_line : Diagram → ℕ → Option Op → Option Step → List ℕ
stop_line d number (Some op) (Some s) = step_line d number s op
stop_line d number (Some op) None = []
stop_line d number None s = []

-- The line of the step at which the order stops, if it does.
abbrev pub stop_of : Diagram → List Op → Ruling → List ℕ
stop_of d ops r = stop_line d (r.passed + 1) (slice_get ops r.passed) r.stopped

-- What is written of the order undone: that it is accepted, or its first step that is not ok.
abbrev pub back_line : Diagram → List Op → Ruling → Option Step → List ℕ
back_line d ops back None = codes "back accepted\n"
back_line d ops back (Some s) = codes "back " ++ stop_of d ops back

-- To the text before, the ruling on the order undone from the vector at its end is appended.
abbrev pub TellsUndone : Diagram → List Bool → List Op → List ℕ → List ℕ → Type 0
TellsUndone d start ops before after = (back : Ruling) × IsRuling d (after_all start ops) (undone ops) back
    × (after ≡ before ++ back_line d (undone ops) back back.stopped)

-- Where a step is denied or idle, the lines end with it, and the order differs. Else the count of the
-- steps follows, and the ruling on the order undone from the vector at its end.
abbrev pub TellsEnd : Diagram → List Bool → List Op → Ruling → Option Step → OrderReport → Type 0
TellsEnd d start ops r (Some s) report = (report.differs ≡ true)
    × (report.text ≡ ok_lines d (take r.passed ops) ++ stop_of d ops r)
TellsEnd d start ops r None report =
    (report.differs ≡ false) × (back : Ruling) × IsRuling d (after_all start ops) (undone ops) back
    × (report.text ≡ ok_lines d ops ++ codes "accepted " ++ decimal (length ops) ++ codes "\n" ++ back_line d
    (undone ops) back back.stopped)

-- The text of `order` for an order from this start, and whether a step of it is denied or idle.
pub record IsOrderText (d : Diagram) (start : List Bool) (ops : List Op) (report : OrderReport) : Type 0 where
  pub ruling : Ruling
  pub rules : IsRuling d start ops ruling
  pub tells : TellsEnd d start ops ruling ruling.stopped report
