-- The truth half of the facts: the words that are held, and what they are worth.
use Rattle.std.specs.Prelude.{◌≡◌, ◌≢◌, ◌<◌, ℕ, Bool, false, List, length, Option, Some, None, slice_get}
use Rattle.std.specs.Prelude.{slice_index_or}
use Rattle.ilk_base.specs.declared.words.Dbpos.{Dbpos}
use Rattle.ilk_base.specs.declared.words.Dbpos.TheVariants.{Lost}
use Rattle.double_points.specs.Words.{Agrees}
use Rattle.station_graph.specs.Alike.{IsVector}
use Rattle.station_graph.specs.CentralRules.{Breaks}
use Rattle.central_rules.specs.Meaning.{Meaning, bay_of}
use Rattle.bay_frames.specs.declared.frame.Frame.{Frame}
use Rattle.bay_frames.specs.declared.frame.Body.TheVariants.{Answer}
use Rattle.bay_protocol.specs.declared.values.Grant.{Grant}
use Rattle.bay_protocol.specs.declared.values.Collection.{Collection}
use Rattle.bay_protocol.specs.State.{under_way}
use Rattle.reservation_core.specs.Scene.{Scene, node}
use Rattle.reservation_core.specs.RoundFacts.{NotGranted, AnswerSent}

-- The notes that are held, each for a switch: the one in its bay's node, the one that was kept beside a sent
-- message, by the place of the message, and the one that a bay knows in its round under way. A note tells a
-- word, and it may tell more, as when that word was read.
pub record Held (N : Type 0) : Type 0 where
  pub own : ℕ → N
  pub beside : ℕ → ℕ → N
  pub known : ℕ → ℕ → N

-- Switch i is of bay b.
abbrev pub IsSwitchOf : Meaning → ℕ → ℕ → Type 0
IsSwitchOf m b i = (i < length m.diagram.switches) × (bay_of m.diagram i ≡ b)

-- The position of switch i in a vector.
abbrev pub position_in : List Bool → ℕ → Bool
position_in v i = slice_index_or v i false

-- The summary of bay b allows each vector in which the bay agrees with these words.
abbrev pub AllowsAgreeing : Meaning → ℕ → (ℕ → Dbpos) → List ℕ → Type 0
AllowsAgreeing m b words s =
    (v : List Bool) → IsVector m.diagram v → ((i : ℕ) → IsSwitchOf m b i → Agrees (words i) (position_in v i)) →
    m.Allows b s v

-- A summary of b for c that was made of these words: it fits, and allows what agrees with them.
pub record Made (m : Meaning) (words : ℕ → Dbpos) (b c : ℕ) (s : List ℕ) : Type 0 where
  pub fits : m.Fits b c s
  pub allows : AllowsAgreeing m b words s

-- What is known of bay b is good, and its summary allows what agrees with it.
pub record HeardGood (m : Meaning) (N : Type 0) (word : N → Dbpos) (Good : ℕ → N → Type 0) (known : ℕ → N) (b : ℕ)
    (s : List ℕ) : Type 0 where
  pub allows : AllowsAgreeing m b (λ i. word (known i)) s
  pub good : (i : ℕ) → IsSwitchOf m b i → Good i (known i)

-- Nothing was heard of bay b.
abbrev pub IsUnheard : List (Option (List ℕ)) → ℕ → Type 0
IsUnheard heard b = (s : List ℕ) → slice_get heard b ≢ Some (Some s)

-- What a bay knows while it collects g is good for each bay that it has heard, and nothing of the others.
pub record KnownGood (m : Meaning) (N : Type 0) (word : N → Dbpos) (Good : ℕ → N → Type 0) (known : ℕ → N)
    (g : Collection) : Type 0 where
  pub heard : (b : ℕ) (s : List ℕ) → slice_get g.heard b ≡ Some (Some s) → HeardGood m N word Good known b s
  pub unheard : (i : ℕ) → i < length m.diagram.switches → IsUnheard g.heard (bay_of m.diagram i) → word (known i) ≡ Lost

-- The switches of bay c other than the moved one agree with what it knows.
abbrev pub OwnAgreeBut : Meaning → ℕ → ℕ → (ℕ → Dbpos) → List Bool → Type 0
OwnAgreeBut m c switch words v = (i : ℕ) → IsSwitchOf m c i → i ≢ switch → Agrees (words i) (position_in v i)

-- Each other bay stands as its summary allows.
abbrev pub HeardAllow : Meaning → ℕ → List (Option (List ℕ)) → List Bool → Type 0
HeardAllow m c heard v = (b : ℕ) (s : List ℕ) → b ≢ c → slice_get heard b ≡ Some (Some s) → m.Allows b s v

-- What bay c knew at the grant is good, Answers were sent for it, and no vector breaks a rule in which its own
-- switches agree with what it knew and each other bay stands as its Answer allows.
pub record Backed (m : Meaning) (N : Type 0) (word : N → Dbpos) (Good : ℕ → N → Type 0) (sent : List Frame)
    (known : ℕ → N) (c : ℕ) (g : Grant) : Type 0 where
  pub good : (i : ℕ) → i < length m.diagram.switches → i ≢ g.op.switch.0 → Good i (known i)
  pub heard : List (Option (List ℕ))
  pub answers : (b : ℕ) (s : List ℕ) → slice_get heard b ≡ Some (Some s) → AnswerSent sent b c g.round s
  pub allows : (b : ℕ) (s : List ℕ) → slice_get heard b ≡ Some (Some s) → AllowsAgreeing m b (λ i. word (known i)) s
  pub unheard : (i : ℕ) → i < length m.diagram.switches → bay_of m.diagram i ≢ c →
      IsUnheard heard (bay_of m.diagram i) → word (known i) ≡ Lost
  pub none : (v : List Bool) → IsVector m.diagram v → OwnAgreeBut m c g.op.switch.0 (λ i. word (known i)) v →
      HeardAllow m c heard v → Breaks m.diagram v g.op None

-- The truth half of the facts, where a note tells a word and is good for a switch or not.
pub record TruthFacts (m : Meaning) (N : Type 0) (word : N → Dbpos) (Good : ℕ → N → Type 0) (w : Scene)
    (h : Held N) : Type 0 where
  -- the own notes tell the words of the nodes
  pub words_are : (i : ℕ) → i < length m.diagram.switches →
      word (h.own i) ≡ slice_index_or (node m.diagram w (bay_of m.diagram i)).words i Lost
  -- fact 6 (words): the own note of a switch is good, unless an operation of the switch is granted
  pub words : (i : ℕ) → i < length m.diagram.switches → NotGranted (node m.diagram w (bay_of m.diagram i)) i →
      Good i (h.own i)
  -- fact 9 (summaries): each Answer is made of the words beside it
  pub made : (k : ℕ) (f : Frame) (s : List ℕ) → slice_get w.sent k ≡ Some f → f.body ≡ Answer s →
      Made m (λ i. word (h.beside k i)) f.from.0 f.to.0 s
  -- fact 4 (answers): the notes beside an Answer whose round is under way are good
  pub answers : (k : ℕ) (f : Frame) (s : List ℕ) → slice_get w.sent k ≡ Some f → f.body ≡ Answer s →
      under_way (node m.diagram w f.to.0) ≡ Some f.round → (i : ℕ) → IsSwitchOf m f.from.0 i → Good i (h.beside k i)
  -- what a collecting bay knows of those that it has heard is good
  pub heard : (c : ℕ) (g : Collection) → (node m.diagram w c).collecting ≡ Some g →
      KnownGood m N word Good (h.known c) g
  -- fact 7 (grants): each granted operation is backed by what its bay knew
  pub grants : (c : ℕ) (g : Grant) → (node m.diagram w c).granted ≡ Some g → Backed m N word Good w.sent (h.known c) c g
