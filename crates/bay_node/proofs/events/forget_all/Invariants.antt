use Rattle.std.proofs.Common.{◌≡◌, ◌<◌, ℕ, length, slice_get, Some}
use Rattle.ilk_base.specs.declared.words.Dbpos.TheVariants.{Lost}
use Rattle.station_graph.specs.declared.items.Switch.{Switch}
use Rattle.bay_node.proofs.events.forget_all.Given as goal

abbrev pub invariant-loop-part : goal.invariant-loop-part
invariant-loop-part l = record {
  count : length l.words ≡ length l.station.switches;
  done : (i : ℕ) (x : Switch) → slice_get l.station.switches i ≡ Some x → x.bay.0 < l.part →
      slice_get l.words i ≡ Some Lost;
}
