-- What the labels of the graphs of a bay name.
use Rattle.std.specs.Prelude.{◌≡◌, ◌≢◌, ℕ, suc, ◌+◌, ◌<◌, ◌≤◌, ◌==◌, ◌↔◌, nat_lt, if◌then◌else◌, Bool, List, ◌∷◌}
use Rattle.std.specs.Prelude.{length, slice_get, Option, Some, None}
use Rattle.ilk_base.specs.declared.words.Direction.TheVariants.{ToOn}
use Rattle.ilk_base.specs.declared.words.Op.{Op}
use Rattle.ilk_base.specs.declared.words.Rule.{Rule}
use Rattle.ilk_base.specs.declared.words.Rule.TheVariants.{R1, R2, R3}
use Rattle.station_graph.specs.Diagram.{Diagram, part_count, AreSwitchesOf}
use Rattle.station_graph.specs.Connection.{Item}
use Rattle.station_graph.specs.Sharing.{OfPart}
use Rattle.station_graph.specs.Alike.{IsVector}
use Rattle.station_graph.specs.CentralRules.{Applies, GapBreaks}
use Rattle.contraction.specs.Answers.{Answers}
use Rattle.judge_pool.specs.Lettered.{Lettered, index_count, PartHas}
use Rattle.decision_graphs.specs.Label.{Layered, layer_at, label_of, AreLayers}
use Rattle.judge_pool.specs.declared.view.View.{View}
use Rattle.judge_pool.specs.declared.view.View.TheVariants.{Gap, Load}
use Rattle.judge_pool.specs.Folding.{StandsIn, AreChosen}

-- The i-th of the numbers from the first on that are not this one.
abbrev pub other_of : ℕ → ℕ → ℕ → ℕ
other_of first this i = if nat_lt (first + i) this then first + i else suc (first + i)

-- The item is of another part than the bay.
pub record OfOthers (d : Diagram) (b : ℕ) (item : Item) : Type 0 where
  pub part : ℕ
  pub apart : part ≢ b
  pub of_part : OfPart d part item

-- In the vector the j-th other part has this index.
abbrev pub PartChosen : Lettered → ℕ → ℕ → ℕ → List Bool → Type 0
PartChosen a b j c v = PartHas a (other_of 0 b j) c v

-- In the vector the i-th other switch is open for choice 0, closed for choice 1.
pub record SwitchChosen (first m i c : ℕ) (v : List Bool) : Type 0 where
  pub small : c < 2
  pub stands : slice_get v (other_of first m i) ≡ Some (c == 1)

-- An outer graph of a bay: one layer for each other part, whose choices are that part's indices. The label to
-- which the indices of the other parts lead names their view: its value answers for all items of the other parts.
pub record IsOuter (view : View) (a : Lettered) (b : ℕ) (g : Layered) (names : List Answers) : Type 0 where
  pub fits : AreLayers g.labels g.layers
  pub count : suc (length g.layers) ≡ part_count a.diagram
  pub choices : (j : ℕ) → j < length g.layers → (layer_at g.layers j).choices ≡ index_count a (other_of 0 b j)
  pub labels : length names ≡ g.labels
  pub named : (v : List Bool) (cs : List ℕ) → IsVector a.diagram v → length cs ≡ length g.layers →
      AreChosen (PartChosen a b) v cs → StandsIn view (OfOthers a.diagram b) a.diagram v names (label_of g cs)

-- The rule that a label of an inner gap graph says.
abbrev pub gap_rule : ℕ → Option Rule
gap_rule label = if label == 1 then Some R1 else if label == 2 then Some R2 else None

-- What a label of an inner graph says of switch m: of the gap graph the rule that the first two rules give for closing
-- it, of the load graph whether the third applies.
abbrev pub LabelSays : View → Diagram → ℕ → List Bool → ℕ → Type 0
LabelSays Gap d m v label = (op : Op) → op.switch.0 ≡ m → op.direction ≡ ToOn → GapBreaks d v op (gap_rule label)
LabelSays Load d m v label = (op : Op) → op.switch.0 ≡ m → (label ≡ 1) ↔ Applies R3 d v op

-- An inner graph of switch m: first a layer whose choices are the labels of the outer graph, then one for each other
-- switch of the bay, which are `others` many.
pub record IsInner (view : View) (a : Lettered) (b m first others : ℕ) (names : List Answers)
    (g : Layered) : Type 0 where
  pub fits : AreLayers g.labels g.layers
  pub count : length g.layers ≡ suc others
  pub outer : (layer_at g.layers 0).choices ≡ length names
  pub choices : (i : ℕ) → i < others → (layer_at g.layers (suc i)).choices ≡ 2
  pub says : (v : List Bool) (name : ℕ) (ds : List ℕ) → IsVector a.diagram v →
      StandsIn view (OfOthers a.diagram b) a.diagram v names name → length ds ≡ others →
      AreChosen (SwitchChosen first m) v ds → LabelSays view a.diagram m v (label_of g (name ∷ ds))

-- The bay has the switch m and so many others.
pub record IsOwn (d : Diagram) (b m first others : ℕ) : Type 0 where
  pub those : AreSwitchesOf d b first (suc others)
  pub from : first ≤ m
  pub below : m < first + suc others
