-- What is read out of the text of a report is the report.
use Rattle.std.proofs.Common.{◌≡◌, ◌==◌, cond, ℕ, List, Option, Some, None, refl, sym, ap, ◌∙◌}
use Rattle.station_graph.specs.Diagram.{Diagram}
use Rattle.reservation_core.specs.Premises.{number}
use Rattle.reservation_core.specs.declared.values.Which.{Which}
use Rattle.reservation_core.specs.declared.values.Which.TheVariants.{Start, Sensed, Begun, Ended, Withdrawn, Unsent}
use Rattle.reservation_core.specs.declared.values.Which.TheVariants.{Cut as NotCut}
use Rattle.log_replay.specs.Replay.{Replayed, report_text}
use Rattle.log_replay.specs.Telling.{PathsAreLines, IsWholeReport}
use Rattle.interlock_cli.specs.ReplayWrites.{replay_outcome, IsReportOf}
use Rattle.interlock_cli.specs.declared.end.Outcome.{Outcome}
use Rattle.interlock_cli.specs.declared.end.Outcome.TheVariants.{Premise}

-- the premise of a number
abbrev which_of : ℕ → Which
which_of n =
    cond (n == 1) Start (cond (n == 2) Sensed (cond (n == 3) Begun (cond (n == 4) Ended
    (cond (n == 5) Withdrawn (cond (n == 6) Unsent NotCut)))))

back : (w : Which) → which_of (number w) ≡ w
back Start = refl
back Sensed = refl
back Begun = refl
back Ended = refl
back Withdrawn = refl
back Unsent = refl
back NotCut = refl

-- the broken premise that an end tells
abbrev broken_of : Outcome → Option (ℕ × Which)
broken_of (Premise n line) = Some (line, which_of n)
broken_of outcome = None

told : (b : Option (ℕ × Which)) → broken_of (replay_outcome b) ≡ b
told None = refl
told (Some b) = ap (λ (w : Which). let p : Option (ℕ × Which) = Some (b.0, w) in p) (back b.1)

pub read_out : (d : Diagram) (count : ℕ) (outcome : Outcome) (text : List ℕ) (r t : Replayed) → PathsAreLines d →
    ((n : ℕ) (x y : Replayed) → PathsAreLines d → IsWholeReport d n x → IsWholeReport d n y → x.broken ≡ y.broken →
    report_text d x ≡ report_text d y → x ≡ y) → IsWholeReport d count r → outcome ≡ replay_outcome r.broken →
    text ≡ report_text d r → IsReportOf d count outcome text t → r ≡ t
read_out d count outcome text r t lines decides whole ends is it =
    decides count r t lines whole it.whole
    (sym (told r.broken) ∙ ap broken_of (sym ends ∙ it.ends) ∙ told t.broken) (sym is ∙ it.text_is)
