-- What each row of a report is: no line feed stands in it, and it begins with the number of its line and a bay.
use Rattle.std.proofs.Common.{◌≡◌, ◌≢◌, ◌+◌, ◌<◌, ◌^◌, ◌∙◌, ap, refl, ℕ, zero, suc, Bool, true, false, List, [], ◌∷◌}
use Rattle.std.proofs.Common.{◌++◌, length, append_assoc, inl, inr, arith, Option, Some, None}
use Rattle.std.specs.Prelude.{slice_index_or, All, codes, decimal}
use Rattle.std.proofs.lemmas.Bool.{cases_Bool}
use Rattle.std.proofs.lemmas.Bool.Decides.{eqb_tells}
use Rattle.ilk_base.specs.declared.words.Direction.{Direction}
use Rattle.ilk_base.specs.declared.words.Direction.TheVariants.{ToOff, ToOn}
use Rattle.ilk_base.specs.declared.words.Rule.{Rule}
use Rattle.ilk_base.specs.declared.words.Rule.TheVariants.{R1, R2, R3}
use Rattle.station_graph.specs.Diagram.{Diagram, switch_path}
use Rattle.central_rules.specs.Names.{rule_name, direction_name}
use Rattle.bay_protocol.specs.declared.values.Outcome.{Outcome}
use Rattle.bay_protocol.specs.declared.values.Outcome.TheVariants.{UnderWay, HeldBy, There, Spent, Collecting, Granted}
use Rattle.bay_protocol.specs.declared.values.Outcome.TheVariants.{Denied, BusyBy, Finished, Withdrawn, Stopped, Quiet}
use Rattle.reservation_core.specs.Lines.{MessageKind, Message, Shown}
use Rattle.reservation_core.specs.ReportLines.{message_name, line_prefix}
use Rattle.reservation_core.specs.declared.values.Which.{Which}
use Rattle.log_replay.specs.Telling.{PathsAreLines, Is32Bits, Are32Bits, IsNumbered, IsShowable}
use Rattle.log_replay.proofs.TextRows.{Each, each_append, free, free_append, free_of, NoDigit, decimal_free, cut}
use Rattle.log_replay.proofs.TextRows.{cut_at, IsRow}
use Rattle.log_replay.proofs.ReportRows.{op_says, with_row, with_rows, says, outcome_rows, message_says, message_row}
use Rattle.log_replay.proofs.ReportRows.{message_rows, shown_rows, all_rows, last_rows}

-- ---- numbers

pub no_blank : NoDigit 32
no_blank k few is = omega (arith, few, is)

no_end : NoDigit 10
no_end k few is = omega (arith, few, is)

pub wide : (n : ℕ) → Is32Bits n → n < 2 ^ 64
wide n less = omega (arith, less)

number_row : (n : ℕ) → Is32Bits n → IsRow (decimal n)
number_row n less = decimal_free 10 n no_end (wide n less)

-- ---- no line feed

path_row : (d : Diagram) (i : ℕ) → PathsAreLines d → IsRow (switch_path d i)
path_row d i paths = free_of 10 (switch_path d i) (paths i)

two_row : (n : ℕ) (t : List ℕ) → Is32Bits n → IsRow t → IsRow (decimal n ++ t)
two_row n t less row = free_append 10 (decimal n) t (number_row n less) row

-- a row is its line's number, a bay, and what follows
prefix_is : (i b : ℕ) (t : List ℕ) → line_prefix i b ++ t ≡ decimal i ++ 32 ∷ (decimal b ++ 32 ∷ t)
prefix_is i b t =
    append_assoc (decimal i ++ codes " " ++ decimal b) (codes " ") t
    ∙ append_assoc (decimal i ++ codes " ") (decimal b) (32 ∷ t)
    ∙ append_assoc (decimal i) (codes " ") (decimal b ++ 32 ∷ t)

whole_row : (i b : ℕ) (t : List ℕ) → Is32Bits i → Is32Bits b → IsRow t → IsRow (line_prefix i b ++ t)
whole_row i b t few less row = ap (free 10) (prefix_is i b t) ∙ two_row i (32 ∷ (decimal b ++ 32 ∷ t)) few
    (two_row b (32 ∷ t) less row)

direction_row : (x : Direction) (t : List ℕ) → IsRow t → IsRow (direction_name x ++ t)
direction_row ToOff t row = row
direction_row ToOn t row = row

rule_row : (x : Rule) (t : List ℕ) → IsRow t → IsRow (rule_name x ++ t)
rule_row R1 t row = row
rule_row R2 t row = row
rule_row R3 t row = row

kind_row : (x : MessageKind) (t : List ℕ) → IsRow t → IsRow (message_name x ++ t)
kind_row MessageKind.reserve t row = row
kind_row MessageKind.answer t row = row
kind_row MessageKind.busy t row = row
kind_row MessageKind.query t row = row
kind_row MessageKind.over t row = row

op_row : (d : Diagram) (x : Direction) (i : ℕ) → PathsAreLines d → IsRow (op_says d x i)
op_row d x i paths = direction_row x (codes " " ++ switch_path d i) (path_row d i paths)

says_row : (d : Diagram) (o : Outcome) → PathsAreLines d → Are32Bits o → IsRow (says d o)
says_row d (Collecting r) paths n = number_row r n
says_row d (Granted r op) paths n = two_row r (codes " " ++ op_says d op.direction op.switch.0) n
    (op_row d op.direction op.switch.0 paths)
says_row d (Denied r op rule v) paths n =
    two_row r (codes " " ++ (rule_name rule ++ (codes " " ++ op_says d op.direction op.switch.0))) n
    (rule_row rule (codes " " ++ op_says d op.direction op.switch.0) (op_row d op.direction op.switch.0 paths))
says_row d (BusyBy r bay holder q) paths n =
    two_row r (codes " from "
    ++ (decimal bay.0 ++ (codes " holder " ++ (decimal holder.0 ++ (codes " round " ++ decimal q))))) n.0
    (two_row bay.0 (codes " holder " ++ (decimal holder.0 ++ (codes " round " ++ decimal q))) n.1
    (two_row holder.0 (codes " round " ++ decimal q) n.2 (number_row q n.3)))
says_row d (HeldBy bay q) paths n = two_row bay.0 (codes " round " ++ decimal q) n.0 (number_row q n.1)
says_row d (UnderWay r) paths n = number_row r n
says_row d There paths n = refl
says_row d Spent paths n = refl
says_row d (Finished r) paths n = number_row r n
says_row d (Withdrawn r) paths n = number_row r n
says_row d (Stopped r) paths n = number_row r n
says_row d Quiet paths n = refl

message_says_row : (x : Message) → IsNumbered x → IsRow (message_says x)
message_says_row x n =
    two_row x.number (codes " "
    ++ (message_name x.kind ++ (codes " " ++ (decimal x.to ++ (codes " " ++ decimal x.round))))) n.number
    (kind_row x.kind (codes " " ++ (decimal x.to ++ (codes " " ++ decimal x.round)))
    (two_row x.to (codes " " ++ decimal x.round) n.to (number_row x.round n.round)))

-- ---- each row

-- a property of the rows of the switches that are closed in a reading
with_one : (P : List ℕ → Type 0) (p : List ℕ) (d : Diagram) (v : List Bool) (moved i : ℕ) →
    (i ≢ moved → slice_index_or v i false ≡ true → P (p ++ (codes "with " ++ switch_path d i))) →
    Each P (with_row p d v moved i)
with_one P p d v moved i has = elim (eqb_tells i moved) [
  | inl e ↦ rw e.0 tt
  | inr e ↦ elim (cases_Bool (slice_index_or v i false)) [
    | inl c ↦ rw (e.0, c) (has e.1 c, tt)
    | inr c ↦ rw (e.0, c) tt
  ]
]

pub with_each : (P : List ℕ → Type 0) (p : List ℕ) (d : Diagram) (v : List Bool) (moved n : ℕ) →
    ((i : ℕ) → i < n → i ≢ moved → slice_index_or v i false ≡ true → P (p ++ (codes "with " ++ switch_path d i))) →
    Each P (with_rows p d v moved n)
with_each P p d v moved zero has = tt
with_each P p d v moved (suc n) has = each_append P (with_rows p d v moved n) (with_row p d v moved n)
    (with_each P p d v moved n (λ i less. has i (omega (arith, less))))
    (with_one P p d v moved n (has n (omega arith)))

-- a property of all rows of an outcome
pub outcome_each : (P : List ℕ → Type 0) (p : List ℕ) (d : Diagram) (o : Outcome) → P (p ++ says d o) →
    ((i : ℕ) → P (p ++ (codes "with " ++ switch_path d i))) → Each P (outcome_rows p d o)
outcome_each P p d (Collecting r) has others = (has, tt)
outcome_each P p d (Granted r op) has others = (has, tt)
outcome_each P p d (Denied r op rule v) has others =
    (has, with_each P p d v op.switch.0 (length d.switches) (λ i less differ closed. others i))
outcome_each P p d (BusyBy r bay holder q) has others = (has, tt)
outcome_each P p d (HeldBy bay q) has others = (has, tt)
outcome_each P p d (UnderWay r) has others = (has, tt)
outcome_each P p d There has others = (has, tt)
outcome_each P p d Spent has others = (has, tt)
outcome_each P p d (Finished r) has others = (has, tt)
outcome_each P p d (Withdrawn r) has others = (has, tt)
outcome_each P p d (Stopped r) has others = (has, tt)
outcome_each P p d Quiet has others = tt

-- a property of the rows of messages
pub messages_each : (P : List ℕ → Type 0) (Q : Message → Type 0) (i : ℕ) (xs : List Message) →
    ((x : Message) → Q x → P (message_row i x)) → All Q xs → Each P (message_rows i xs)
messages_each P Q i [] has all = tt
messages_each P Q i (x ∷ xs) has all =
    (has x (all 0 x (omega arith)), messages_each P Q i xs has (λ k d less. all (suc k) d (omega (arith, less))))

shown_row : (d : Diagram) (i : ℕ) (s : Shown) → PathsAreLines d → Is32Bits i → IsShowable d s →
    Each IsRow (shown_rows d i s)
shown_row d i s paths few is =
    let p = line_prefix i s.bay in
    each_append IsRow (outcome_rows p d s.outcome) (message_rows i s.messages)
    (outcome_each IsRow p d s.outcome
    (whole_row i s.bay (says d s.outcome) few is.bay (says_row d s.outcome paths is.numbers))
    (λ j. whole_row i s.bay (codes "with " ++ switch_path d j) few is.bay (path_row d j paths)))
    (messages_each IsRow IsNumbered i s.messages (λ x n. whole_row i x.from (message_says x) few n.from
    (message_says_row x n)) is.messages)

pub all_row : (d : Diagram) (k : ℕ) (out : List Shown) → PathsAreLines d → k + length out < 2 ^ 32 →
    All (IsShowable d) out → Each IsRow (all_rows d k out)
all_row d k [] paths few all = tt
all_row d k (s ∷ out) paths few all =
    each_append IsRow (shown_rows d k s) (all_rows d (k + 1) out)
    (shown_row d k s paths (omega (arith, few)) (all 0 s (omega arith)))
    (all_row d (k + 1) out paths (omega (arith, few)) (λ j x less. all (suc j) x (omega (arith, less))))

pub last_row : (broken : Option (ℕ × Which)) (count : ℕ) → Is32Bits count → Each IsRow (last_rows broken count)
last_row None count few = (number_row count few, tt)
last_row (Some broken) count few = tt

-- ---- what a row begins with

pub prefix_cut : (i b : ℕ) (t : List ℕ) → Is32Bits i → cut 32 (line_prefix i b ++ t) ≡ (decimal i, decimal b ++ 32 ∷ t)
prefix_cut i b t few = ap (cut 32) (prefix_is i b t) ∙ cut_at 32 (decimal i) (decimal b ++ 32 ∷ t)
    (decimal_free 32 i no_blank (wide i few))
