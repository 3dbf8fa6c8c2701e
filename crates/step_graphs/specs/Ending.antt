-- What the value of all items but one switch says of it, where the value keeps those of its ends that the items touch.
use Rattle.std.specs.Prelude.{◌≡◌, ℕ, ◌<◌, ◌↔◌, Bool, List, [], length, slice_get, slice_index, Some}
use Rattle.station_graph.specs.Diagram.{Diagram}
use Rattle.station_graph.specs.Connection.{Item, a_switch}
use Rattle.station_graph.specs.Sharing.{Touches, TouchedBy}
use Rattle.station_graph.specs.Alike.{IsVector}
use Rattle.contraction.specs.Answers.{Answers, Keeps}
use Rattle.contraction.specs.Stands.{Among, AllBut, IsItem, StandsFor}
use Rattle.judge_pool.specs.declared.view.View.{View}
use Rattle.judge_pool.specs.Seen.{SeenFor}
use Rattle.judge_pool.specs.Graphs.{LabelSays}
use Rattle.judge_intake.specs.Coding.{labels_of}

-- The items are all but switch m.
abbrev pub AreAllBut : Diagram → ℕ → List Item → Type 0
AreAllBut d m items = (it : Item) → IsItem d it → Among items it ↔ AllBut (a_switch m) it

-- Wherever the value answers for all items but the switch m, and keeps each end of it that they touch, the label says
-- what holds of m.
abbrev pub EndSays : View → Diagram → ℕ → Answers → ℕ → Type 0
EndSays view d m x code =
    (items : List Item) (v : List Bool) → IsVector d v → AreAllBut d m items →
    ((n : ℕ) → TouchedBy (Among items) d n → Touches d (a_switch m) n → Keeps x.kept n) →
    SeenFor view (Among items) d v x → LabelSays view d m v code

-- For each value such a label.
pub record AreEndCodes (view : View) (d : Diagram) (m : ℕ) (values : List Answers) (codes : List ℕ) : Type 0 where
  pub len : length codes ≡ length values
  pub each : (t : ℕ) (x : Answers) → slice_get values t ≡ Some x → EndSays view d m x (slice_index codes t)
  pub small : (t : ℕ) → t < length codes → slice_index codes t < labels_of view

-- The value of nothing, on the ends of switch m.
pub record IsBare (d : Diagram) (m : ℕ) (bare : Answers) : Type 0 where
  pub kept : (n : ℕ) → Keeps bare.kept n ↔ Touches d (a_switch m) n
  pub stands : (e : Diagram) (v : List Bool) → StandsFor (Among []) e v bare
