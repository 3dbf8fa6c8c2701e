-- The world: the node of each bay, where each switch truly stands, which drives run, and all that was ever
-- sent. And the small changes of which its steps are made.
use Rattle.std.specs.Prelude.{◌≡◌, ℕ, Bool, false, true, List, ◌++◌, Option, Some, None, unwrap_or, slice_get}
use Rattle.std.specs.Prelude.{slice_set, slice_index_or, ⊤}
use Rattle.ilk_base.specs.declared.words.Dbpos.{Dbpos}
use Rattle.ilk_base.specs.declared.words.Dbpos.TheVariants.{Intermediate, Off, On, Bad, Lost}
use Rattle.ilk_base.specs.declared.words.Direction.{Direction}
use Rattle.ilk_base.specs.declared.words.Direction.TheVariants.{ToOff, ToOn}
use Rattle.station_graph.specs.Diagram.{Diagram}
use Rattle.bay_frames.specs.declared.frame.Frame.{Frame}
use Rattle.bay_protocol.specs.State.{State, resumed, nothing_kept}
use Rattle.reservation_core.specs.declared.values.Position.{Position}
use Rattle.reservation_core.specs.declared.values.Position.TheVariants.{Open, Closed, Between}

-- The node of each part that is a bay, the true position of each switch, whether its drive runs, and the
-- messages in the order in which they were sent: the first is number 1.
pub record Scene : Type 0 where
  pub nodes : List (Option State)
  pub truth : List Position
  pub drives : List Bool
  pub sent : List Frame

-- A node to which nothing has happened.
abbrev pub new_node : Diagram → ℕ → State
new_node d b = resumed d b nothing_kept

-- The node of part b; of a part that is no bay, one to which nothing has happened.
abbrev pub node : Diagram → Scene → ℕ → State
node d w b = unwrap_or (slice_index_or w.nodes b None) (new_node d b)

-- The true position of switch i.
abbrev pub true_at : List Position → ℕ → Position
true_at truth i = slice_index_or truth i Between

-- Whether the drive of switch i runs.
abbrev pub runs : List Bool → ℕ → Bool
runs drives i = slice_index_or drives i false

-- A switch of this true position may stand so.
abbrev pub ReadsAs : Position → Bool → Type 0
ReadsAs Open closed = closed ≡ false
ReadsAs Closed closed = closed ≡ true
ReadsAs Between closed = ⊤

-- If the word is off or on, it is the true position.
abbrev pub IsTrueWord : Dbpos → Position → Type 0
IsTrueWord On at = at ≡ Closed
IsTrueWord Off at = at ≡ Open
IsTrueWord Intermediate at = ⊤
IsTrueWord Bad at = ⊤
IsTrueWord Lost at = ⊤

-- The position in which a drive in this direction ends.
abbrev pub end_position : Direction → Position
end_position ToOff = Open
end_position ToOn = Closed

-- The vector resolves the truth: it is the true position of each switch that is not between.
abbrev pub Resolves : List Position → List Bool → Type 0
Resolves truth v = (i : ℕ) (closed : Bool) → slice_get v i ≡ Some closed → ReadsAs (true_at truth i) closed

-- ---- the changes

-- The node of bay b has this state from now on.
abbrev pub at_node : Scene → ℕ → State → Scene
at_node w b s = record { nodes = slice_set w.nodes b (Some s); truth = w.truth; drives = w.drives; sent = w.sent }

-- These frames are sent.
abbrev pub posts : Scene → List Frame → Scene
posts w frames = record { nodes = w.nodes; truth = w.truth; drives = w.drives; sent = w.sent ++ frames }

-- Switch i stands so from now on, and its drive runs or not.
abbrev pub moves : Scene → ℕ → Position → Bool → Scene
moves w i at running = record {
  nodes = w.nodes;
  truth = slice_set w.truth i at;
  drives = slice_set w.drives i running;
  sent = w.sent;
}

-- The drive of switch i runs no longer.
abbrev pub stops : Scene → ℕ → Scene
stops w i = record { nodes = w.nodes; truth = w.truth; drives = slice_set w.drives i false; sent = w.sent }
