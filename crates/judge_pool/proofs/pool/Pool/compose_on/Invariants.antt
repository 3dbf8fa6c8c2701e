use Rattle.std.proofs.Common.{take}
use Rattle.judge_pool.specs.Pooling.{GrewTo, MakesEach}
use Rattle.judge_pool.proofs.pool.Pool.compose_on.Given as goal

abbrev pub invariant-letters : goal.invariant-letters
invariant-letters l = record {
  grew : GrewTo l.fn.self l.self;
  made : MakesEach l.self l.batch (take l.c l.letters) l.ids.items;
}
