-- The text of a report, as rows.
use Rattle.std.proofs.Common.{◌≡◌, ◌+◌, ◌∙◌, sym, ap, refl, ℕ, zero, suc, Bool, true, false, List, [], ◌∷◌, ◌++◌}
use Rattle.std.proofs.Common.{length, append-nil, append_assoc, Option, Some, None}
use Rattle.std.specs.Prelude.{◌==◌, slice_index_or, codes, decimal, map, if◌then◌else◌}
use Rattle.std.specs.List.{flat_map, enumerate_from}
use Rattle.std.proofs.lemmas.Grind.{flat_map-append}
use Rattle.ilk_base.specs.declared.words.Direction.{Direction}
use Rattle.ilk_base.specs.declared.words.Op.{Op}
use Rattle.ilk_base.specs.declared.words.Rule.{Rule}
use Rattle.station_graph.specs.Diagram.{Diagram, switch_path}
use Rattle.central_rules.specs.Names.{rule_name, direction_name, texts_below}
use Rattle.bay_protocol.specs.OutcomeLines.{line, operation, with_line, outcome_lines}
use Rattle.bay_protocol.specs.declared.values.Outcome.{Outcome}
use Rattle.bay_protocol.specs.declared.values.Outcome.TheVariants.{UnderWay, HeldBy, There, Spent, Collecting, Granted}
use Rattle.bay_protocol.specs.declared.values.Outcome.TheVariants.{Denied, BusyBy, Finished, Withdrawn, Stopped, Quiet}
use Rattle.reservation_core.specs.Lines.{Message, Shown}
use Rattle.reservation_core.specs.ReportLines.{bay_lines, message_name, line_prefix, message_line, shown_lines}
use Rattle.reservation_core.specs.ReportLines.{all_lines}
use Rattle.reservation_core.specs.declared.values.Which.{Which}
use Rattle.log_replay.specs.Replay.{Replayed, last_line, report_text}
use Rattle.log_replay.proofs.TextRows.{closed}

-- ---- the rows

abbrev pub with_row : List ℕ → Diagram → List Bool → ℕ → ℕ → List (List ℕ)
with_row p d v moved i =
    if i == moved then []
    else if slice_index_or v i false then (p ++ (codes "with " ++ switch_path d i)) ∷ []
    else []

abbrev pub with_rows : List ℕ → Diagram → List Bool → ℕ → ℕ → List (List ℕ)
with_rows p d v moved zero = []
with_rows p d v moved (suc n) = with_rows p d v moved n ++ with_row p d v moved n

-- an operation
abbrev pub op_says : Diagram → Direction → ℕ → List ℕ
op_says d x i = direction_name x ++ (codes " " ++ switch_path d i)

-- what the first row of an outcome says behind its prefix
abbrev pub says : Diagram → Outcome → List ℕ
says d (Collecting r) = codes "collecting " ++ decimal r
says d (Granted r op) = codes "granted " ++ (decimal r ++ (codes " " ++ op_says d op.direction op.switch.0))
says d (Denied r op rule v) =
    codes "denied "
    ++ (decimal r ++ (codes " " ++ (rule_name rule ++ (codes " " ++ op_says d op.direction op.switch.0))))
says d (BusyBy r bay holder q) =
    codes "busy " ++ (decimal r
    ++ (codes " from "
    ++ (decimal bay.0 ++ (codes " holder " ++ (decimal holder.0 ++ (codes " round " ++ decimal q))))))
says d (HeldBy bay q) = codes "held " ++ (decimal bay.0 ++ (codes " round " ++ decimal q))
says d (UnderWay r) = codes "underway " ++ decimal r
says d There = codes "there"
says d Spent = codes "spent"
says d (Finished r) = codes "finished " ++ decimal r
says d (Withdrawn r) = codes "withdrawn " ++ decimal r
says d (Stopped r) = codes "stopped " ++ decimal r
says d Quiet = []

-- what follows it
abbrev pub reading_rows : List ℕ → Diagram → Outcome → List (List ℕ)
reading_rows p d (Denied r op rule v) = with_rows p d v op.switch.0 (length d.switches)
reading_rows p d o = []

abbrev pub outcome_rows : List ℕ → Diagram → Outcome → List (List ℕ)
outcome_rows p d Quiet = []
outcome_rows p d o = (p ++ says d o) ∷ reading_rows p d o

abbrev pub message_says : Message → List ℕ
message_says x = codes "send "
    ++ (decimal x.number ++ (codes " "
    ++ (message_name x.kind ++ (codes " " ++ (decimal x.to ++ (codes " " ++ decimal x.round))))))

abbrev pub message_row : ℕ → Message → List ℕ
message_row i x = line_prefix i x.from ++ message_says x

abbrev pub message_rows : ℕ → List Message → List (List ℕ)
message_rows i xs = map (message_row i) xs

abbrev pub shown_rows : Diagram → ℕ → Shown → List (List ℕ)
shown_rows d i s = outcome_rows (line_prefix i s.bay) d s.outcome ++ message_rows i s.messages

abbrev pub all_rows : Diagram → ℕ → List Shown → List (List ℕ)
all_rows d k [] = []
all_rows d k (s ∷ out) = shown_rows d k s ++ all_rows d (k + 1) out

abbrev pub last_rows : Option (ℕ × Which) → ℕ → List (List ℕ)
last_rows None count = (codes "done " ++ decimal count) ∷ []
last_rows (Some broken) count = []

abbrev pub report_rows : Diagram → Replayed → List (List ℕ)
report_rows d r = all_rows d 1 r.out ++ last_rows r.broken r.count

-- ---- their text

four : (a b c e : List ℕ) → a ++ b ++ c ++ e ≡ a ++ (b ++ (c ++ e))
four a b c e = append_assoc (a ++ b) c e ∙ append_assoc a b (c ++ e)

six : (a b c e f g : List ℕ) → a ++ b ++ c ++ e ++ f ++ g ≡ a ++ (b ++ (c ++ (e ++ (f ++ g))))
six a b c e f g = append_assoc (a ++ b ++ c ++ e) f g ∙ append_assoc (a ++ b ++ c) e (f ++ g)
    ∙ four a b c (e ++ (f ++ g))

eight : (a b c e f g h k : List ℕ) → a ++ b ++ c ++ e ++ f ++ g ++ h ++ k
    ≡ a ++ (b ++ (c ++ (e ++ (f ++ (g ++ (h ++ k))))))
eight a b c e f g h k = append_assoc (a ++ b ++ c ++ e ++ f ++ g) h k ∙ append_assoc (a ++ b ++ c ++ e ++ f) g (h ++ k)
    ∙ six a b c e f (g ++ (h ++ k))

closed_append : (xs ys : List (List ℕ)) → closed (xs ++ ys) ≡ closed xs ++ closed ys
closed_append xs ys = flat_map-append (λ (r : List ℕ). r ++ codes "\n") xs ys

-- a line alone
one_closed : (p t : List ℕ) → line p t ≡ closed ((p ++ t) ∷ [])
one_closed p t = sym (append-nil (line p t))

said_closed : (p s t : List ℕ) → s ≡ t → line p s ≡ closed ((p ++ t) ∷ [])
said_closed p s t same = ap (line p) same ∙ one_closed p t

op_is : (d : Diagram) (op : Op) → operation d op ≡ op_says d op.direction op.switch.0
op_is d op = append_assoc (direction_name op.direction) (codes " ") (switch_path d op.switch.0)

granted_is : (d : Diagram) (r : ℕ) (op : Op) → codes "granted " ++ decimal r ++ codes " " ++ operation d op ≡ says d
    (Granted r op)
granted_is d r op = four (codes "granted ") (decimal r) (codes " ") (operation d op)
    ∙ ap (λ (t : List ℕ). codes "granted " ++ (decimal r ++ (codes " " ++ t))) (op_is d op)

denied_is : (d : Diagram) (r : ℕ) (op : Op) (rule : Rule) (v : List Bool) →
    codes "denied " ++ decimal r ++ codes " " ++ rule_name rule ++ codes " " ++ operation d op ≡ says d
    (Denied r op rule v)
denied_is d r op rule v = six (codes "denied ") (decimal r) (codes " ") (rule_name rule) (codes " ") (operation d op)
    ∙ ap (λ (t : List ℕ). codes "denied " ++ (decimal r ++ (codes " " ++ (rule_name rule ++ (codes " " ++ t)))))
    (op_is d op)

chosen : (b c : Bool) (p t : List ℕ) → (if b then [] else if c then line p t else []) ≡ closed
    (if b then [] else if c then (p ++ t) ∷ [] else [])
chosen true c p t = refl
chosen false true p t = one_closed p t
chosen false false p t = refl

with_closed : (p : List ℕ) (d : Diagram) (v : List Bool) (moved n : ℕ) → texts_below (with_line p d v moved) n ≡ closed
    (with_rows p d v moved n)
with_closed p d v moved zero = refl
with_closed p d v moved (suc n) =
    ap (λ (t : List ℕ). t ++ with_line p d v moved n) (with_closed p d v moved n)
    ∙ ap (λ (t : List ℕ). closed (with_rows p d v moved n) ++ t) (chosen (n == moved) (slice_index_or v n false) p
    (codes "with " ++ switch_path d n))
    ∙ sym (closed_append (with_rows p d v moved n) (with_row p d v moved n))

outcome_closed : (p : List ℕ) (d : Diagram) (o : Outcome) → outcome_lines p d o ≡ closed (outcome_rows p d o)
outcome_closed p d (Collecting r) = one_closed p (says d (Collecting r))
outcome_closed p d (Granted r op) = said_closed p (codes "granted " ++ decimal r ++ codes " " ++ operation d op)
    (says d (Granted r op)) (granted_is d r op)
outcome_closed p d (Denied r op rule v) =
    ap (λ (t : List ℕ). line p t ++ texts_below (with_line p d v op.switch.0) (length d.switches))
    (denied_is d r op rule v)
    ∙ ap (λ (t : List ℕ). line p (says d (Denied r op rule v)) ++ t) (with_closed p d v op.switch.0 (length d.switches))
outcome_closed p d (BusyBy r bay holder q) =
    said_closed p (codes "busy " ++ decimal r ++ codes " from " ++ decimal bay.0 ++ codes " holder " ++ decimal holder.0
    ++ codes " round " ++ decimal q) (says d (BusyBy r bay holder q))
    (eight (codes "busy ") (decimal r) (codes " from ") (decimal bay.0) (codes " holder ") (decimal holder.0)
    (codes " round ") (decimal q))
outcome_closed p d (HeldBy bay q) = said_closed p (codes "held " ++ decimal bay.0 ++ codes " round " ++ decimal q)
    (says d (HeldBy bay q)) (four (codes "held ") (decimal bay.0) (codes " round ") (decimal q))
outcome_closed p d (UnderWay r) = one_closed p (says d (UnderWay r))
outcome_closed p d There = one_closed p (says d There)
outcome_closed p d Spent = one_closed p (says d Spent)
outcome_closed p d (Finished r) = one_closed p (says d (Finished r))
outcome_closed p d (Withdrawn r) = one_closed p (says d (Withdrawn r))
outcome_closed p d (Stopped r) = one_closed p (says d (Stopped r))
outcome_closed p d Quiet = refl

messages_closed : (i : ℕ) (xs : List Message) → flat_map (message_line i) xs ≡ closed (message_rows i xs)
messages_closed i [] = refl
messages_closed i (x ∷ xs) =
    ap (λ (t : List ℕ). message_line i x ++ t) (messages_closed i xs)
    ∙ ap (λ (t : List ℕ). line (line_prefix i x.from) t ++ closed (message_rows i xs))
    (eight (codes "send ") (decimal x.number) (codes " ") (message_name x.kind) (codes " ") (decimal x.to) (codes " ")
    (decimal x.round))

shown_closed : (d : Diagram) (i : ℕ) (s : Shown) → shown_lines d i s ≡ closed (shown_rows d i s)
shown_closed d i s =
    ap (λ (t : List ℕ). t ++ flat_map (message_line i) s.messages) (outcome_closed (line_prefix i s.bay) d s.outcome)
    ∙ ap (λ (t : List ℕ). closed (outcome_rows (line_prefix i s.bay) d s.outcome) ++ t) (messages_closed i s.messages)
    ∙ sym (closed_append (outcome_rows (line_prefix i s.bay) d s.outcome) (message_rows i s.messages))

all_closed : (d : Diagram) (k : ℕ) (out : List Shown) → flat_map (λ (p : ℕ × Shown). shown_lines d p.0 p.1)
    (enumerate_from k out) ≡ closed (all_rows d k out)
all_closed d k [] = refl
all_closed d k (s ∷ out) =
    ap (λ (t : List ℕ). shown_lines d k s ++ t) (all_closed d (k + 1) out)
    ∙ ap (λ (t : List ℕ). t ++ closed (all_rows d (k + 1) out)) (shown_closed d k s)
    ∙ sym (closed_append (shown_rows d k s) (all_rows d (k + 1) out))

last_closed : (broken : Option (ℕ × Which)) (count : ℕ) → last_line broken count ≡ closed (last_rows broken count)
last_closed None count = one_closed (codes "done ") (decimal count)
last_closed (Some broken) count = refl

-- the text is that of the bays, and then that of the rows
pub report_closed : (d : Diagram) (r : Replayed) → report_text d r ≡ bay_lines d ++ closed (report_rows d r)
report_closed d r =
    append_assoc (bay_lines d) (all_lines d r.out) (last_line r.broken r.count)
    ∙ ap (λ (t : List ℕ). bay_lines d ++ (t ++ last_line r.broken r.count)) (all_closed d 1 r.out)
    ∙ ap (λ (t : List ℕ). bay_lines d ++ (closed (all_rows d 1 r.out) ++ t)) (last_closed r.broken r.count)
    ∙ ap (λ (t : List ℕ). bay_lines d ++ t) (sym (closed_append (all_rows d 1 r.out) (last_rows r.broken r.count)))
