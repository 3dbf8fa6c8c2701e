-- The graphs of both views of a switch.
use Rattle.std.specs.Prelude.{◌≡◌, ℕ, suc, ◌<◌, Bool, List}
use Rattle.ilk_base.specs.declared.words.Dbpos.{Dbpos}
use Rattle.station_graph.specs.Diagram.{part_count}
use Rattle.judge_pool.specs.declared.view.View.TheVariants.{Gap, Load}
use Rattle.release_compile.specs.declared.sides.Sides.{Sides}
use Rattle.judge_intake.specs.Coding.{labels_of}
use Rattle.judge_pool.specs.Lettered.{Lettered}
use Rattle.judge_pool.specs.Graphs.{IsOwn}
use Rattle.release_compile.specs.Allowed.{IsSide}

-- The graphs of both views of switch m, ready for these sets of the other parts and these words of its bay.
pub record AreSides (a : Lettered) (m : ℕ) (words : List Dbpos) (sets : List (List Bool)) (s : Sides) : Type 0 where
  pub bay : s.place.bay.0 < part_count a.diagram
  pub parts : suc s.place.parts ≡ part_count a.diagram
  pub own : IsOwn a.diagram s.place.bay.0 m s.place.first s.place.others
  pub gap : IsSide Gap a s.place.bay.0 m s.place.first s.place.others words sets s.gap
  pub load : IsSide Load a s.place.bay.0 m s.place.first s.place.others words sets s.load
  pub gap_labels : s.gap.inner.now.labels ≡ labels_of Gap
  pub load_labels : s.load.inner.now.labels ≡ labels_of Load
