-- A world: its scene, and the words that are kept beside the Answers.
use Rattle.std.specs.Prelude.{◌≡◌, ◌++◌, ⊤, ℕ, Bool, List, [], length, map, drop, Option, Some, None, slice_get}
use Rattle.std.specs.Prelude.{slice_index_or}
use Rattle.std.specs.List.{All}
use Rattle.ilk_base.specs.declared.words.Dbpos.{Dbpos}
use Rattle.ilk_base.specs.declared.words.Dbpos.TheVariants.{Lost}
use Rattle.station_graph.specs.Diagram.{Diagram}
use Rattle.central_rules.specs.Meaning.{Meaning, Summarises, IsBay}
use Rattle.bay_frames.specs.declared.frame.Frame.{Frame}
use Rattle.bay_frames.specs.declared.frame.Body.{Body}
use Rattle.bay_frames.specs.declared.frame.Body.TheVariants.{Reserve, Answer, Busy, Query, Over}
use Rattle.bay_frames.specs.Row.{IsLawful}
use Rattle.bay_protocol.specs.State.{under_way}
use Rattle.bay_protocol.specs.OutcomeLines.{OutcomeFits}
use Rattle.reservation_core.specs.Scene.{Scene, node, true_at, IsTrueWord}
use Rattle.reservation_core.specs.RoundFacts.{RoundFacts}
use Rattle.reservation_core.specs.Held.{IsSwitchOf}
use Rattle.reservation_core.specs.Facts.{Facts}
use Rattle.reservation_core.specs.Start.{IsStart}
use Rattle.reservation_core.specs.declared.values.WorldOutcome.{WorldOutcome}
use Rattle.reservation_core.specs.declared.values.WorldOutcome.TheVariants.{Premise, Drive, Node}

-- The scene, and beside each message, in the order of the messages, the words that its bay had when it sent it,
-- where it is an Answer.
pub record World : Type 0 where
  pub scene : Scene
  pub beside : List (Option (List Dbpos))

-- What is kept beside a frame: these words, where it is an Answer.
abbrev pub kept_beside : Option (List Dbpos) → Body → Option (List Dbpos)
kept_beside words (Answer summary) = words
kept_beside words Reserve = None
kept_beside words (Busy holder q) = None
kept_beside words Query = None
kept_beside words Over = None

-- What is kept beside a frame that is sent in this scene.
abbrev pub words_beside : Diagram → Scene → Frame → Option (List Dbpos)
words_beside d w f = kept_beside (Some (node d w f.from.0).words) f.body

-- What was sent between two scenes.
abbrev pub sent_since : Scene → Scene → List Frame
sent_since old new = drop (length old.sent) new.sent

-- Beside what was sent the words of the senders are kept, and what was kept before stays.
abbrev pub KeepsWords : Diagram → World → World → Type 0
KeepsWords d old new = new.beside ≡ old.beside ++ map (words_beside d old.scene) (sent_since old.scene new.scene)

-- The world before anything happens.
pub record IsNewWorld (d : Diagram) (start : List Bool) (w : World) : Type 0 where
  pub scene : IsStart d start w.scene
  pub beside : w.beside ≡ []

-- The round half of the facts of a world.
pub record WorldRounds (m : Meaning) (w : World) : Type 0 where
  pub rounds : RoundFacts m w.scene
  pub count : length w.beside ≡ length w.scene.sent

-- The words that are kept beside message k, which is an Answer: its summary is made of them, and they are what
-- is held beside it.
pub record WordsHeld (m : Meaning) (w : World) (beside : ℕ → ℕ → Dbpos) (k : ℕ) (f : Frame) (s : List ℕ) : Type 0 where
  pub words : List Dbpos
  pub kept : slice_get w.beside k ≡ Some (Some words)
  pub made : Summarises m f.from.0 f.to.0 words s
  pub held : (i : ℕ) → IsSwitchOf m f.from.0 i → beside k i ≡ slice_index_or words i Lost

-- All facts of a world. What the facts hold beside an Answer is what is kept beside it.
pub record WorldFacts (m : Meaning) (w : World) : Type 0 where
  pub facts : Facts m w.scene
  pub count : length w.beside ≡ length w.scene.sent
  pub words : (k : ℕ) (f : Frame) (s : List ℕ) → slice_get w.scene.sent k ≡ Some f → f.body ≡ Answer s →
      WordsHeld m w facts.truth.held.beside k f s

-- Beside message k, an Answer, the words are kept of which its summary is made (fact 9); and while its round is
-- under way each of them is true of its bay (fact 4).
pub record WordsKept (m : Meaning) (w : World) (k : ℕ) (f : Frame) (s : List ℕ) : Type 0 where
  pub words : List Dbpos
  pub kept : slice_get w.beside k ≡ Some (Some words)
  pub made : Summarises m f.from.0 f.to.0 words s
  pub truly : under_way (node m.diagram w.scene f.to.0) ≡ Some f.round → (i : ℕ) → IsSwitchOf m f.from.0 i →
      IsTrueWord (slice_index_or words i Lost) (true_at w.scene.truth i)

-- So it is of each Answer.
abbrev pub AreWordsKept : Meaning → World → Type 0
AreWordsKept m w =
    (k : ℕ) (f : Frame) (s : List ℕ) → slice_get w.scene.sent k ≡ Some f → f.body ≡ Answer s → WordsKept m w k f s

-- What an outcome names is of the station, and what is sent is lawful.
abbrev pub OutputFits : Diagram → WorldOutcome → Type 0
OutputFits d (Premise which) = ⊤
OutputFits d Drive = ⊤
OutputFits d (Node bay first output) = IsBay d bay.0 × OutcomeFits d output.outcome × All IsLawful output.frames
