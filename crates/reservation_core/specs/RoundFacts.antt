-- The round half of the facts: what every step keeps of rounds, locks, frames and drives, whatever is true of
-- the words.
use Rattle.std.specs.Prelude.{◌≡◌, ◌≢◌, ◌<◌, ◌≤◌, ℕ, true, List, length, slice_get, Some, Contains}
use Rattle.station_graph.specs.Diagram.{Diagram, part_count}
use Rattle.central_rules.specs.Meaning.{Meaning, IsBay, bay_of}
use Rattle.bay_frames.specs.declared.frame.Frame.{Frame}
use Rattle.bay_frames.specs.declared.frame.Body.{Body}
use Rattle.bay_frames.specs.declared.frame.Body.TheVariants.{Reserve, Answer, Busy, Query, Over}
use Rattle.bay_frames.specs.Row.{IsLawful}
use Rattle.bay_protocol.specs.declared.values.Lock.{Lock}
use Rattle.bay_protocol.specs.declared.values.Grant.{Grant}
use Rattle.bay_protocol.specs.declared.values.Collection.{Collection}
use Rattle.bay_protocol.specs.State.{State, IsOther, under_way}
use Rattle.bay_protocol.specs.Fits.{IsNode}
use Rattle.reservation_core.specs.Scene.{Scene, node, true_at, runs}
use Rattle.reservation_core.specs.declared.values.Position.TheVariants.{Between}

-- The bay of a frame's round: the sender of a Reserve or Over, the receiver of an Answer, Busy or Query.
abbrev pub round_bay : Frame → Body → ℕ
round_bay f Reserve = f.from.0
round_bay f Over = f.from.0
round_bay f (Answer summary) = f.to.0
round_bay f (Busy holder q) = f.to.0
round_bay f Query = f.to.0

-- The world is one of the station: each bay has a node, which is its own, and no other part has one; there are
-- a true position and a drive for each switch.
pub record Shape (d : Diagram) (w : Scene) : Type 0 where
  pub nodes : length w.nodes ≡ part_count d
  pub present : (b : ℕ) → IsBay d b → (s : State) × (slice_get w.nodes b ≡ Some (Some s))
  pub only : (b : ℕ) (s : State) → slice_get w.nodes b ≡ Some (Some s) → IsBay d b
  pub named : (b : ℕ) → (node d w b).bay ≡ b
  pub truth : length w.truth ≡ length d.switches
  pub drives : length w.drives ≡ length d.switches

-- A frame goes from one bay to another, and its fields are lawful.
pub record FrameFits (d : Diagram) (f : Frame) : Type 0 where
  pub sender : IsBay d f.from.0
  pub receiver : IsOther d f.from.0 f.to.0
  pub lawful : IsLawful f

-- Fact 1 (rounds): the node of each bay is one of the station: it collects or has a grant in its highest
-- round, which is not 0, not both at once, and without a lock; and its lock is another bay's.
abbrev pub Rounds : Diagram → Scene → Type 0
Rounds d w = (b : ℕ) → IsBay d b → IsNode d (node d w b)

-- Fact 2 (bounds): the round of each sent frame and of each lock is at most the highest of its bay, and each
-- sent frame fits.
pub record Bounds (d : Diagram) (w : Scene) : Type 0 where
  pub frames : (f : Frame) → Contains w.sent f → f.round ≤ (node d w (round_bay f f.body)).highest
  pub fit : (f : Frame) → Contains w.sent f → FrameFits d f
  pub locks : (b : ℕ) (l : Lock) → (node d w b).lock ≡ Some l → l.round ≤ (node d w l.holder.0).highest

-- Fact 3 (overs): the round of a sent Over is not under way at its sender.
abbrev pub Overs : Diagram → Scene → Type 0
Overs d w = (f : Frame) → Contains w.sent f → f.body ≡ Over → under_way (node d w f.from.0) ≢ Some f.round

-- The sender of the frame is locked for its round.
abbrev pub IsLockedFor : Diagram → Scene → Frame → Type 0
IsLockedFor d w f = (node d w f.from.0).lock ≡ Some (record { holder = f.to; round = f.round })

-- Of fact 4 (answers), the lock: the sender of an Answer whose round is under way is locked for it.
abbrev pub Locks : Diagram → Scene → Type 0
Locks d w =
    (f : Frame) (summary : List ℕ) → Contains w.sent f → f.body ≡ Answer summary →
    under_way (node d w f.to.0) ≡ Some f.round → IsLockedFor d w f

-- The granted operation of its bay moves switch i, which is between.
pub record Driven (d : Diagram) (w : Scene) (i : ℕ) : Type 0 where
  pub grant : Grant
  pub granted : (node d w (bay_of d i)).granted ≡ Some grant
  pub switch : grant.op.switch.0 ≡ i
  pub between : true_at w.truth i ≡ Between

-- Fact 5 (drives): a drive runs for its bay's granted operation, and its switch is between.
abbrev pub Drives : Diagram → Scene → Type 0
Drives d w = (i : ℕ) → i < length d.switches → runs w.drives i ≡ true → Driven d w i

-- The node has granted no operation of switch i.
abbrev pub NotGranted : State → ℕ → Type 0
NotGranted s i = (g : Grant) → s.granted ≡ Some g → g.op.switch.0 ≢ i

-- Bay b has sent an Answer with this summary for round r of bay c.
pub record AnswerSent (sent : List Frame) (b c r : ℕ) (summary : List ℕ) : Type 0 where
  pub frame : Frame
  pub there : Contains sent frame
  pub from : frame.from.0 ≡ b
  pub to : frame.to.0 ≡ c
  pub round : frame.round ≡ r
  pub body : frame.body ≡ Answer summary

-- The summary fits, and b has sent it for round r of c.
pub record HeardSent (m : Meaning) (sent : List Frame) (c r b : ℕ) (summary : List ℕ) : Type 0 where
  pub fits : m.Fits b c summary
  pub answer : AnswerSent sent b c r summary

-- Fact 8 (heard summaries): each summary that a collecting node has heard fits, and was sent to it for its
-- round.
abbrev pub Heard : Meaning → Scene → Type 0
Heard m w =
    (c b : ℕ) (g : Collection) (summary : List ℕ) → (node m.diagram w c).collecting ≡ Some g →
    slice_get g.heard b ≡ Some (Some summary) → HeardSent m w.sent c g.round b summary

-- The round half of the facts.
pub record RoundFacts (m : Meaning) (w : Scene) : Type 0 where
  pub shape : Shape m.diagram w
  pub rounds : Rounds m.diagram w
  pub bounds : Bounds m.diagram w
  pub overs : Overs m.diagram w
  pub locks : Locks m.diagram w
  pub drives : Drives m.diagram w
  pub heard : Heard m w
