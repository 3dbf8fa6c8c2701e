use Rattle.std.proofs.Common.{◌≡◌, ℕ, ◌<◌, length, slice_index}
use Rattle.station_graph.proofs.classes.Classes.alone.Given as goal

abbrev pub invariant-loop-number : goal.invariant-loop-number
invariant-loop-number l =
    (length l.labels.items ≡ l.number) × ((k : ℕ) → k < l.number → slice_index l.labels.items k ≡ k)
