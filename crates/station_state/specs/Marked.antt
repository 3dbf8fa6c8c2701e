-- Marks on the classes of joined nodes.
use Rattle.std.specs.Prelude.{◌≡◌, ◌↔◌, ◌<◌, ℕ, Bool, true, false, List, length, slice_get, slice_index, Some}
use Rattle.ilk_base.specs.declared.words.Kind.{Kind}
use Rattle.ilk_base.specs.declared.words.Kind.TheVariants.{Earthing, Infeed}
use Rattle.station_graph.specs.declared.items.Switch.{Switch}
use Rattle.station_graph.specs.Alike.{IsVector}
use Rattle.station_graph.specs.Diagram.{Diagram, node_count}
use Rattle.station_graph.specs.Connection.{Touching}
use Rattle.station_graph.specs.Classes.{LabelsLeast}
use Rattle.central_rules.specs.InClass.{ClosedInClass}
use Rattle.station_state.specs.declared.supply.Supply.{Supply}

-- One of the first k switches is of this kind, closed in v, and stands at a node with this label.
pub record ClosedUnder (d : Diagram) (v : List Bool) (kind : Kind) (labels : List ℕ) (k label : ℕ) : Type 0 where
  pub number : ℕ
  pub switch : Switch
  pub below : number < k
  pub listed : slice_get d.switches number ≡ Some switch
  pub is_kind : switch.kind ≡ kind
  pub closed : slice_get v number ≡ Some true
  pub labelled : slice_index labels switch.first.0 ≡ label

-- There is a mark for each node as a label, and the label of a node is marked exactly where a closed switch
-- of this kind stands in the node's class.
pub record IsMarked (d : Diagram) (v : List Bool) (kind : Kind) (labels : List ℕ) (marks : List Bool) : Type 0 where
  pub count : length marks ≡ node_count d
  pub exact : (n : ℕ) → n < node_count d → (slice_get marks (slice_index labels n) ≡ Some true)
      ↔ ClosedInClass d v kind labels n

-- The labels are those of what is joined in the vector, and the marks are right.
pub record IsSupply (s : Supply) : Type 0 where
  pub whole : IsVector s.station.now s.vector
  pub labels : LabelsLeast (Touching false s.station.now s.vector) (node_count s.station.now) s.labels
  pub fed : IsMarked s.station.now s.vector Infeed s.labels s.fed.items
  pub earthed : IsMarked s.station.now s.vector Earthing s.labels s.earthed.items
