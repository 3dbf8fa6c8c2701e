use Rattle.std.proofs.Common.{◌≡◌, ℕ, ◌<◌, slice_get, Some}
use Rattle.ilk_base.specs.declared.words.Kind.TheVariants.{Infeed}
use Rattle.station_graph.specs.declared.items.Switch.{Switch}
use Rattle.station_graph.specs.Diagram.{TapAmong}
use Rattle.station_graph.proofs.accepts.all_tapped.Given as goal

abbrev pub invariant-loop-switch : goal.invariant-loop-switch
invariant-loop-switch l =
    (k : ℕ) (x : Switch) → k < l.switch-index → slice_get l.switches k ≡ Some x → x.kind ≡ Infeed →
    TapAmong l.taps x.first.0
