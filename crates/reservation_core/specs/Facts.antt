-- All facts, and what they say of the truth.
use Rattle.std.specs.Prelude.{◌≡◌, ◌≢◌, ◌<◌, ℕ, Bool, List, length, Option, Some, None, slice_get, Contains}
use Rattle.ilk_base.specs.declared.words.Dbpos.{Dbpos}
use Rattle.station_graph.specs.Diagram.{Diagram}
use Rattle.station_graph.specs.Alike.{IsVector}
use Rattle.station_graph.specs.CentralRules.{Breaks, GapBreaks}
use Rattle.station_graph.specs.Supply.{Apart}
use Rattle.central_rules.specs.Meaning.{Meaning, bay_of}
use Rattle.bay_frames.specs.declared.frame.Frame.{Frame}
use Rattle.bay_frames.specs.declared.frame.Body.TheVariants.{Answer}
use Rattle.bay_protocol.specs.declared.values.Grant.{Grant}
use Rattle.bay_protocol.specs.State.{under_way}
use Rattle.bay_protocol.specs.Fits.{IsOwn}
use Rattle.reservation_core.specs.Scene.{Scene, node, true_at, IsTrueWord, ReadsAs, Resolves}
use Rattle.reservation_core.specs.declared.values.Position.{Position}
use Rattle.reservation_core.specs.RoundFacts.{RoundFacts, NotGranted, AnswerSent, IsLockedFor}
use Rattle.reservation_core.specs.Held.{Held, TruthFacts, HeardAllow}

-- A note is a word.
abbrev pub itself : Dbpos → Dbpos
itself word = word

-- A word is good where it is true.
abbrev pub IsGood : Scene → ℕ → Dbpos → Type 0
IsGood w i word = IsTrueWord word (true_at w.truth i)

-- There are words, beside each message and known to each bay, with the truth half of the facts.
pub record PlainFacts (m : Meaning) (w : Scene) : Type 0 where
  pub held : Held Dbpos
  pub facts : TruthFacts m Dbpos itself (IsGood w) w held

-- All facts: what holds of a world at the start, and is kept by whatever happens.
pub record Facts (m : Meaning) (w : Scene) : Type 0 where
  pub rounds : RoundFacts m w
  pub truth : PlainFacts m w

-- ---- what follows

-- Each granted operation breaks no rule in any vector that resolves the truth.
abbrev pub Obeys : Meaning → Scene → Type 0
Obeys m w =
    (c : ℕ) (g : Grant) (v : List Bool) → (node m.diagram w c).granted ≡ Some g → IsVector m.diagram v →
    Resolves w.truth v → Breaks m.diagram v g.op None

-- The same of the first two rules.
abbrev pub ObeysFirstTwo : Meaning → Scene → Type 0
ObeysFirstTwo m w =
    (c : ℕ) (g : Grant) (v : List Bool) → (node m.diagram w c).granted ≡ Some g → IsVector m.diagram v →
    Resolves w.truth v → GapBreaks m.diagram v g.op None

-- The truth is sound: in no vector that resolves it is a node both energisable and earthable.
abbrev pub IsSoundTruth : Diagram → List Position → Type 0
IsSoundTruth d truth = (v : List Bool) → IsVector d v → Resolves truth v → Apart d v

-- The switches of bay b stand in v as they truly do.
abbrev pub BayResolves : Diagram → List Position → ℕ → List Bool → Type 0
BayResolves d truth b v =
    (i : ℕ) (closed : Bool) → IsOwn d b i → slice_get v i ≡ Some closed → ReadsAs (true_at truth i) closed

-- The same, but for switch `moved`.
abbrev pub BayResolvesBut : Diagram → List Position → ℕ → ℕ → List Bool → Type 0
BayResolvesBut d truth b moved v =
    (i : ℕ) (closed : Bool) → IsOwn d b i → i ≢ moved → slice_get v i ≡ Some closed → ReadsAs (true_at truth i) closed

-- The sender of the Answer is locked for its round, and its summary allows each vector that resolves the
-- sender's true positions.
pub record Answered (m : Meaning) (w : Scene) (f : Frame) (s : List ℕ) : Type 0 where
  pub locked : IsLockedFor m.diagram w f
  pub allowed : (v : List Bool) → IsVector m.diagram v → BayResolves m.diagram w.truth f.from.0 v →
      m.Allows f.from.0 s v

-- Fact 4 (answers), of each Answer whose round is under way.
abbrev pub AnswersAllow : Meaning → Scene → Type 0
AnswersAllow m w =
    (f : Frame) (s : List ℕ) → Contains w.sent f → f.body ≡ Answer s →
    under_way (node m.diagram w f.to.0) ≡ Some f.round → Answered m w f s

-- Fact 6 (words): a word of a node that is off or on is the true position, unless an operation of its switch is
-- granted.
abbrev pub Words : Meaning → Scene → Type 0
Words m w =
    (i : ℕ) (word : Dbpos) → slice_get (node m.diagram w (bay_of m.diagram i)).words i ≡ Some word →
    i < length m.diagram.switches → NotGranted (node m.diagram w (bay_of m.diagram i)) i →
    IsTrueWord word (true_at w.truth i)

-- Answers were sent to c for its granted operation, at most one of each bay, such that no vector breaks a rule
-- in which the other switches of c stand as they truly do, and each of those bays as its Answer allows.
pub record BackedByTruth (m : Meaning) (w : Scene) (c : ℕ) (g : Grant) : Type 0 where
  pub heard : List (Option (List ℕ))
  pub answers : (b : ℕ) (s : List ℕ) → slice_get heard b ≡ Some (Some s) → AnswerSent w.sent b c g.round s
  pub none : (v : List Bool) → IsVector m.diagram v → BayResolvesBut m.diagram w.truth c g.op.switch.0 v →
      HeardAllow m c heard v → Breaks m.diagram v g.op None

-- Fact 7 (grants), of each granted operation.
abbrev pub Grants : Meaning → Scene → Type 0
Grants m w = (c : ℕ) (g : Grant) → (node m.diagram w c).granted ≡ Some g → BackedByTruth m w c g
