-- Of which layers the graphs of a bay tell, as a list, and the graphs of which it is told.
use Rattle.std.specs.Prelude.{◌≡◌, ◌⊎◌, ◌↔◌, ◌<◌, ℕ, Bool, true, false, List, length, slice_get, slice_index_or, Option}
use Rattle.std.specs.Prelude.{Some, None}
use Rattle.judge_graphs.specs.declared.graphs.BayGraphs.{BayGraphs}
use Rattle.judge_graphs.specs.declared.graphs.ViewGraphs.{ViewGraphs}
use Rattle.judge_graphs.specs.declared.graphs.Unmerged.{Unmerged}
use Rattle.judge_graphs.specs.Built.{ViewOf}
use Rattle.judge_graphs.specs.BuiltView.{view_of}
use Rattle.judge_graphs.specs.PartnerLabels.{TellsOf, IsMerged}

-- For each layer of the outer graphs whether the graphs of one of the two views tell of it.
pub record IsToldBy (gap load : ViewOf) (told : List Bool) : Type 0 where
  pub count : length told ≡ length gap.outer.layers
  pub tells : (j : ℕ) → j < length gap.outer.layers → (slice_index_or told j false ≡ true) ↔
      (TellsOf gap.outer gap.inner j ⊎ TellsOf load.outer load.inner j)

-- The outer graphs of both views are merged, and the list says of which layers they tell.
pub record AreMerged (gap load : ViewOf) (told : List Bool) : Type 0 where
  pub gap_merged : IsMerged gap.outer gap.inner gap.merged
  pub load_merged : IsMerged load.outer load.inner load.merged
  pub tells : IsToldBy gap load told

-- So it is of the graphs of a part, if it has some.
abbrev pub HasMerged : Option BayGraphs → Type 0
HasMerged None = Unit {0}
HasMerged (Some g) = AreMerged (view_of g.gap) (view_of g.load) g.told.items

-- So it is of those of each part.
abbrev pub HaveMerged : List (Option BayGraphs) → Type 0
HaveMerged bays = (b : ℕ) (g : Option BayGraphs) → slice_get bays b ≡ Some g → HasMerged g

-- The graphs of one view are these and a merged one.
pub record AreOf (g : ViewGraphs) (graphs : Unmerged) : Type 0 where
  pub outer_is : g.outer.value ≡ graphs.outer.value
  pub inner_is : g.inner.items ≡ graphs.inner.items

-- So are the graphs of a bay in both views.
pub record AreThese (g : BayGraphs) (gap load : Unmerged) : Type 0 where
  pub gap_is : AreOf g.gap gap
  pub load_is : AreOf g.load load
