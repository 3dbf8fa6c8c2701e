use Rattle.std.proofs.Common.{arith}
use Rattle.equation_audit.proofs.OwnLemmas.{among_at}
use Rattle.equation_audit.proofs.question.place.Goals as goal

pub set-requires : goal.set-requires
set-requires c = omega (
  arith,
  c.requires _ (among_at c.args.own.now c.loop-id.id-index (record { 0 = 0 })
      c.loop-id-test.true),
  c.loop-id.invariant.count,
)
