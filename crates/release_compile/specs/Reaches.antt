-- What the outer graphs of a bay reach by the words of all switches, and the verdicts by it.
use Rattle.std.specs.Prelude.{◌≡◌, ℕ, List, length, slice_get, Some}
use Rattle.ilk_base.specs.declared.words.Dbpos.{Dbpos}
use Rattle.ilk_base.specs.declared.words.Direction.TheVariants.{ToOff, ToOn}
use Rattle.station_graph.specs.Diagram.{Diagram}
use Rattle.central_rules.specs.Readings.{IsReading, Decides}
use Rattle.release_compile.specs.declared.station.BayReach.{BayReach}
use Rattle.release_compile.specs.declared.station.SwitchVerdicts.{SwitchVerdicts}
use Rattle.release_compile.specs.Chaining.{HasReached}
use Rattle.release_compile.specs.Judging.{Judging, ground, bay_at}
use Rattle.release_compile.specs.Summaries.{ArePossibleSets}

-- What the outer graphs of its bay reach by the words.
pub record IsReachOf (j : Judging) (words : List Dbpos) (r : BayReach) : Type 0 where
  pub sets : ArePossibleSets (ground j) r.bay.0 words r.reached.sets
  pub reached : HasReached (bay_at j r.bay.0).gap.merged (bay_at j r.bay.0).load.merged r.reached

-- The verdicts of both operations of a switch, where the words of all switches are known.
pub record AreVerdictsOf (d : Diagram) (words : List Dbpos) (switch : ℕ) (s : SwitchVerdicts) : Type 0 where
  pub opening : Decides d (IsReading words) (record { switch = record { 0 = switch }; direction = ToOff }) s.opening
  pub closing : Decides d (IsReading words) (record { switch = record { 0 = switch }; direction = ToOn }) s.closing

-- Those of the first n switches.
pub record AreVerdicts (d : Diagram) (words : List Dbpos) (list : List SwitchVerdicts) (n : ℕ) : Type 0 where
  pub len : length list ≡ n
  pub each : (switch : ℕ) (s : SwitchVerdicts) → slice_get list switch ≡ Some s → AreVerdictsOf d words switch s
