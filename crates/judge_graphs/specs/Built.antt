-- The graphs of a bay, and of a station.
use Rattle.std.specs.Prelude.{◌≡◌, ℕ, suc, ◌+◌, ◌<◌, Bool, false, List, length, slice_get, slice_index_or, Option, Some}
use Rattle.std.specs.Prelude.{None, MatchBool}
use Rattle.station_graph.specs.Diagram.{Diagram, part_count, AreSwitchesOf}
use Rattle.station_graph.specs.Alike.{Irrelevant, Partner}
use Rattle.contraction.specs.Answers.{Answers}
use Rattle.central_rules.specs.Meaning.{IsBay}
use Rattle.decision_graphs.specs.Label.{Layered, AreReduced}
use Rattle.judge_pool.specs.declared.view.View.{View}
use Rattle.judge_pool.specs.declared.view.View.TheVariants.{Gap, Load}
use Rattle.judge_pool.specs.Lettered.{Lettered}
use Rattle.judge_pool.specs.Graphs.{other_of, IsOuter, IsInner}
use Rattle.judge_intake.specs.Coding.{labels_of}
use Rattle.judge_pool.specs.Counted.{OuterIsSmall, InnerIsSmall}
use Rattle.judge_graphs.specs.PartnerLabels.{IsMerged}

-- The graphs of one view of a bay: the outer one, an inner one for each of its switches, and the outer one in which the
-- labels are one that no inner one tells apart.
pub record ViewOf : Type 0 where
  pub outer : Layered
  pub inner : List Layered
  pub merged : Layered

-- The graphs of a bay, with its first switch, how many it has, and for each other part whether it is a partner.
pub record BayOf : Type 0 where
  pub first : ℕ
  pub count : ℕ
  pub gap : ViewOf
  pub load : ViewOf
  pub told : List Bool

-- The inner graph of the i-th of so many switches of the bay.
pub record IsInnerAt (view : View) (a : Lettered) (b first count : ℕ) (names : List Answers) (i : ℕ)
    (g : Layered) : Type 0 where
  pub others : ℕ
  pub one_more : suc others ≡ count
  pub graph : IsInner view a b (first + i) first others names g
  pub labels : g.labels ≡ labels_of view
  pub reduced : AreReduced g.layers
  pub small : InnerIsSmall view a.diagram b (first + i) first others g

-- The first n of the bay's switches have their inner graphs.
pub record AreInner (view : View) (a : Lettered) (b first count : ℕ) (names : List Answers) (graphs : List Layered)
    (n : ℕ) : Type 0 where
  pub len : length graphs ≡ n
  pub each : (i : ℕ) (g : Layered) → slice_get graphs i ≡ Some g → IsInnerAt view a b first count names i g

-- An outer graph and the inner ones of a bay, in one view: the labels of the outer one name the views of the other parts,
-- and those of the inner ones say what holds of a switch.
pub record AreUnmerged (view : View) (a : Lettered) (b first count : ℕ) (g : Layered) (inners : List Layered) : Type 0 where
  pub names : List Answers
  pub outer : IsOuter view a b g names
  pub outer_reduced : AreReduced g.layers
  pub outer_small : OuterIsSmall view a.diagram b g
  pub inner : AreInner view a b first count names inners count

-- The graphs of one view of a bay: such graphs, and the outer one with labels made one.
pub record AreViewGraphs (view : View) (a : Lettered) (b first count : ℕ) (g : ViewOf) : Type 0 where
  pub unmerged : AreUnmerged view a b first count g.outer g.inner
  pub merged : IsMerged g.outer g.inner g.merged

-- For each other part, in document order, whether it is a partner of the bay.
pub record AreTold (d : Diagram) (b : ℕ) (told : List Bool) : Type 0 where
  pub count : suc (length told) ≡ part_count d
  pub each : (j : ℕ) → j < length told →
      MatchBool (slice_index_or told j false) (Partner d (other_of 0 b j) b) (Irrelevant d (other_of 0 b j) b)

-- The graphs of a bay in both views, and its partners.
pub record AreBayGraphs (a : Lettered) (b : ℕ) (g : BayOf) : Type 0 where
  pub switches : AreSwitchesOf a.diagram b g.first g.count
  pub gap : AreViewGraphs Gap a b g.first g.count g.gap
  pub load : AreViewGraphs Load a b g.first g.count g.load
  pub told : AreTold a.diagram b g.told

-- These are the graphs of a part: it has some exactly where it has switches.
abbrev pub AreGraphsOf : Lettered → ℕ → Option BayOf → Type 0
AreGraphsOf a b (Some g) = IsBay a.diagram b × AreBayGraphs a b g
AreGraphsOf a b None = ¬ IsBay a.diagram b

-- The first n parts have their graphs.
pub record AreBays (a : Lettered) (bays : List (Option BayOf)) (n : ℕ) : Type 0 where
  pub len : length bays ≡ n
  pub each : (b : ℕ) (g : Option BayOf) → slice_get bays b ≡ Some g → AreGraphsOf a b g
