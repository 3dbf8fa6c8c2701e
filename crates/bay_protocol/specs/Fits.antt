-- What holds of a node of the station, of the record that it keeps, and of what may happen to it.
use Rattle.std.specs.Prelude.{◌≡◌, ◌≢◌, ℕ, List, length, Option, Some, None, ⊤}
use Rattle.station_graph.specs.Diagram.{Diagram, part_count}
use Rattle.double_points.specs.Words.{AreWords}
use Rattle.station_graph.specs.Connection.{a_switch}
use Rattle.station_graph.specs.Sharing.{OfPart}
use Rattle.bay_frames.specs.Row.{IsLawful}
use Rattle.central_rules.specs.Meaning.{Meaning, HeardFit, IsBay}
use Rattle.bay_protocol.specs.declared.values.Lock.{Lock}
use Rattle.bay_protocol.specs.declared.values.Grant.{Grant}
use Rattle.bay_protocol.specs.declared.values.Kept.{Kept}
use Rattle.bay_protocol.specs.declared.values.Collection.{Collection}
use Rattle.bay_protocol.specs.declared.values.NodeEvent.{NodeEvent}
use Rattle.bay_protocol.specs.declared.values.NodeEvent.TheVariants.{Command, Sense, Frame as Arrival, Tick, Withdraw}
use Rattle.bay_protocol.specs.declared.values.NodeEvent.TheVariants.{Restart, Cut}
use Rattle.bay_protocol.specs.State.{State, IsOther, kept_of}

-- The switch is of this bay.
abbrev pub IsOwn : Diagram → ℕ → ℕ → Type 0
IsOwn d b i = OfPart d b (a_switch i)

-- A lock fits the record of bay b: it was given to another bay, for a round that is not 0, and b has no
-- granted operation.
pub record LockFits (d : Diagram) (b : ℕ) (granted : Option Grant) (l : Lock) : Type 0 where
  pub holder : IsOther d b l.holder.0
  pub positive : l.round ≢ 0
  pub alone : granted ≡ None

-- A granted operation fits the record of bay b: it moves a switch of b and was granted in the highest
-- round, which is not 0.
pub record GrantFits (d : Diagram) (b highest : ℕ) (g : Grant) : Type 0 where
  pub own : IsOwn d b g.op.switch.0
  pub newest : g.round ≡ highest
  pub positive : g.round ≢ 0

-- The record fits the bay.
pub record KeptFits (d : Diagram) (b : ℕ) (k : Kept) : Type 0 where
  pub lock : (l : Lock) → k.lock ≡ Some l → LockFits d b k.granted l
  pub granted : (g : Grant) → k.granted ≡ Some g → GrantFits d b k.highest g

-- A round that is being collected fits the node: it is the highest and is not 0, it is for a switch of the
-- bay, there is a place for each part that may be heard, and the node has neither a lock nor a granted
-- operation.
pub record CollectionFits (d : Diagram) (s : State) (g : Collection) : Type 0 where
  pub own : IsOwn d s.bay g.op.switch.0
  pub newest : g.round ≡ s.highest
  pub positive : g.round ≢ 0
  pub places : length g.heard ≡ part_count d
  pub no_lock : s.lock ≡ None
  pub no_grant : s.granted ≡ None

-- A node of the station: it is that of a bay, it has a word for each switch, its record fits the bay, and
-- a round that it collects fits it.
pub record IsNode (d : Diagram) (s : State) : Type 0 where
  pub bay : IsBay d s.bay
  pub words : AreWords d s.words
  pub kept : KeptFits d s.bay (kept_of s)
  pub collecting : (g : Collection) → s.collecting ≡ Some g → CollectionFits d s g

-- Each summary that the node has heard in the round that it collects fits by this judge.
abbrev pub FitsHeard : Meaning → State → Type 0
FitsHeard m s = (g : Collection) → s.collecting ≡ Some g → HeardFit m s.bay g.heard

-- What may happen to a node of bay b: a switch of the event is one of the bay, and the fields of a frame
-- are lawful.
abbrev pub EventFits : Diagram → ℕ → NodeEvent → Type 0
EventFits d b (Command op) = IsOwn d b op.switch.0
EventFits d b (Sense i word) = IsOwn d b i.0
EventFits d b (Arrival f) = IsLawful f
EventFits d b Tick = ⊤
EventFits d b Withdraw = ⊤
EventFits d b Restart = ⊤
EventFits d b (Cut i) = IsOwn d b i.0
