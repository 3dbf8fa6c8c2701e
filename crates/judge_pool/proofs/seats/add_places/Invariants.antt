use Rattle.std.proofs.Common.{take}
use Rattle.judge_pool.specs.Layering.{AreSeats, AreAdded}
use Rattle.judge_pool.proofs.seats.add_places.Given as goal

abbrev pub invariant-loop-c : goal.invariant-loop-c
invariant-loop-c l = record {
  seats : AreSeats l.list.items l.seats.items;
  added : AreAdded l.fn.list.items l.fn.places.items (take l.c l.ids) l.list.items l.places.items;
}
