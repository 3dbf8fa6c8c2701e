-- What the value of all items but one switch says of moving it, as the label of an inner graph.
use Rattle.std.specs.Prelude.{◌≡◌, ℕ, ◌<◌, Bool, List, length, slice_get, slice_index, Some}
use Rattle.station_graph.specs.Diagram.{Diagram}
use Rattle.station_graph.specs.Connection.{a_switch}
use Rattle.station_graph.specs.Alike.{IsVector}
use Rattle.station_graph.specs.declared.items.Switch.{Switch}
use Rattle.contraction.specs.Answers.{Answers}
use Rattle.contraction.specs.Stands.{AllBut}
use Rattle.contraction.specs.Ends.{EndsKept}
use Rattle.judge_pool.specs.declared.view.View.{View}
use Rattle.judge_pool.specs.declared.view.View.TheVariants.{Gap, Load}
use Rattle.judge_pool.specs.Seen.{SeenFor}
use Rattle.judge_pool.specs.Graphs.{LabelSays}

-- How many labels an inner graph has.
abbrev pub labels_of : View → ℕ
labels_of Gap = 3
labels_of Load = 2

-- Wherever the value answers for all items but the switch m, the label says what holds of m.
abbrev pub CodeSays : View → Diagram → ℕ → Answers → ℕ → Type 0
CodeSays view d m x code =
    (v : List Bool) → IsVector d v → SeenFor view (AllBut (a_switch m)) d v x → LabelSays view d m v code

-- The value keeps the ends of the switch m.
abbrev pub KeepsEnds : Diagram → ℕ → Answers → Type 0
KeepsEnds d m x = (s : Switch) → slice_get d.switches m ≡ Some s → EndsKept x.kept s

-- For each value the label that says what holds of m.
pub record AreCodes (view : View) (d : Diagram) (m : ℕ) (values : List Answers) (codes : List ℕ) : Type 0 where
  pub len : length codes ≡ length values
  pub each : (t : ℕ) (x : Answers) → slice_get values t ≡ Some x → CodeSays view d m x (slice_index codes t)
  pub small : (t : ℕ) → t < length codes → slice_index codes t < labels_of view
