use Rattle.std.proofs.Common.{take}
use Rattle.judge_pool.specs.Pooling.{GrewTo}
use Rattle.judge_pool.specs.Standing.{AreOn}
use Rattle.judge_pool.proofs.pool.Pool.each_on.Given as goal

abbrev pub invariant-values : goal.invariant-values
invariant-values l = record {
  grew : GrewTo l.fn.self l.self;
  on : AreOn l.self l.keep (take l.c l.ids) l.placed.items;
}
