-- One copy of words is made before a step, for the one Answer that the step may send.
use Rattle.std.specs.Prelude.{◌≡◌, ℕ, List, length, Option, Some, Contains}
use Rattle.ilk_base.specs.declared.words.Dbpos.{Dbpos}
use Rattle.station_graph.specs.Diagram.{Diagram}
use Rattle.bay_frames.specs.declared.frame.Frame.{Frame}
use Rattle.bay_frames.specs.declared.frame.Body.TheVariants.{Reserve, Answer}
use Rattle.reservation_core.specs.Scene.{Scene, node}
use Rattle.reservation_core.specs.Happens.{IsMessage}
use Rattle.reservation_core.specs.declared.values.WorldEvent.{WorldEvent}
use Rattle.reservation_core.specs.declared.values.WorldEvent.TheVariants.{Deliver}

-- An Answer among the frames is the only one.
abbrev pub AnswersAlone : List Frame → Type 0
AnswersAlone frames = (f : Frame) (s : List ℕ) → Contains frames f → f.body ≡ Answer s → length frames ≡ 1

-- Where a Reserve is delivered, the copy is of the words of the bay that it reaches.
abbrev pub IsCopied : Diagram → Scene → WorldEvent → Option (List Dbpos) → Type 0
IsCopied d w event copy =
    (k : ℕ) (f : Frame) → event ≡ Deliver k → IsMessage w k f → f.body ≡ Reserve → copy ≡ Some (node d w f.to.0).words
