use Rattle.std.proofs.Common.{◌≡◌, ◌↔◌, ℕ, List, length, slice_get, Some}
use Rattle.std.specs.Prelude.{Contains}
use Rattle.station_graph.specs.Sharing.{IsShared}
use Rattle.judge_intake.proofs.needed.each_shared.Given as goal

abbrev pub invariant-loop-part : goal.invariant-loop-part
invariant-loop-part l = record {
  count : length l.lists.items ≡ l.part;
  each : (p : ℕ) (nodes : List ℕ) → slice_get l.lists.items p ≡ Some nodes → (n : ℕ) → Contains nodes n ↔
      IsShared l.station p n;
}
