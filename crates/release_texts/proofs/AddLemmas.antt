-- Texts that stand behind what was there before.
use Rattle.std.proofs.Common.{◌≡◌, ◌∙◌, ◌++◌, ap, sym, refl, ℕ, List, [], Bool, Result, Ok, Err, append-nil, append_assoc}
use Rattle.std.specs.Prelude.{OnOk}
use Rattle.ilk_base.specs.declared.words.Dbpos.{Dbpos}
use Rattle.ilk_base.specs.declared.words.Direction.TheVariants.{ToOff, ToOn}
use Rattle.ilk_base.specs.declared.words.Memory.{Memory}
use Rattle.ilk_base.specs.declared.words.Op.{Op}
use Rattle.ilk_base.specs.declared.words.Rule.{Rule}
use Rattle.station_graph.specs.Diagram.{Diagram}
use Rattle.central_rules.specs.Readings.{Decides, IsReading}
use Rattle.central_rules.specs.declared.verdict.Verdict.TheVariants.{Release, Denied}
use Rattle.release_texts.specs.ExplainText.{TellsReading}
use Rattle.release_texts.specs.DenialsText.{Adds, TellsIfDenied, SwitchDenials, operation_on}

-- one that is such was appended
pub added : (r : Result (Unit {0}) Memory) (IsSuch : List ℕ → Type 0) (old new more : List ℕ) →
    OnOk r (new ≡ old ++ more) → IsSuch more → OnOk r (Adds IsSuch old new)
added (Ok u) IsSuch old new more is such = (more, is, such)
added (Err e) IsSuch old new more is such = tt

module _ (d : Diagram) (words : List Dbpos) where
  -- nothing is told of a release
  pub released : (op : Op) (old : List ℕ) → Decides d (IsReading words) op Release →
      Adds (TellsIfDenied d words op) old old
  released op old decides =
      ([], sym (append-nil old), record { verdict = Release; decides = decides; tells = refl })

  -- and of a denial why
  pub denied : (r : Result (Unit {0}) Memory) (op : Op) (rule : Rule) (v : List Bool) (old new : List ℕ) →
      Decides d (IsReading words) op (Denied rule v) → OnOk r (Adds (TellsReading d words op v) old new)
      → OnOk r (Adds (TellsIfDenied d words op) old new)
  denied (Ok u) op rule v old new decides (more, is, tells) =
      (more, is, record { verdict = Denied rule v; decides = decides; tells = tells })
  denied (Err e) op rule v old new decides told = tt

  -- one operation after the other
  pub both : (r : Result (Unit {0}) Memory) (i : ℕ) (old now new : List ℕ) →
      Adds (TellsIfDenied d words (operation_on i ToOff)) old now
      → OnOk r (Adds (TellsIfDenied d words (operation_on i ToOn)) now new)
      → OnOk r (Adds (SwitchDenials d words i) old new)
  both (Ok u) i old now new (opening, opened, opens) (closing, closed, closes) = (
    opening ++ closing,
    closed ∙ ap (λ t. t ++ closing) opened ∙ append_assoc old opening closing,
    record { opening = opening; closing = closing; opens = opens; closes = closes; text_is = refl },
  )
  both (Err e) i old now new opens closes = tt
