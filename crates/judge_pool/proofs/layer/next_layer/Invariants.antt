use Rattle.std.proofs.Common.{◌≡◌, ℕ, ◌*◌, ◌≤◌, List, Some, slice_get, length, IfSome}
use Rattle.judge_pool.specs.Numbered.{letter_lists}
use Rattle.judge_pool.specs.Pooling.{AreEdges, GrewTo, SelectsEach}
use Rattle.judge_pool.specs.Layering.{AreSeats}
use Rattle.judge_pool.proofs.layer.next_layer.Given as goal

abbrev pub invariant-states : goal.invariant-states
invariant-states l = record {
  grew : GrewTo l.fn.pool l.pool;
  noted : slice_get (letter_lists l.pool) l.number ≡ Some l.once;
  shared : IfSome l.shared (λ s. SelectsEach l.pool l.states l.once l.keep s.value);
  seats : AreSeats l.next.items l.seats.items;
  few : length l.next.items ≤ l.k * length l.letters;
  edges : (nodes : List ℕ) → slice_get l.fn.pool.keeps.items l.keep ≡ Some nodes →
      AreEdges l.pool.view l.pool.values.items nodes l.states l.letters l.next.items l.edges.items
      (l.k * length l.letters);
}
