use Rattle.std.proofs.Common.{◌+◌, ◌/◌, Bool, List, sym, subst, inl, inr, arith}
use Rattle.bay_contract.proofs.PutLemmas.{PutSoFar, put_none, put_more, put_all}
use Rattle.bay_contract.proofs.walk.put_bits.Goals as goal

pub bits-init : goal.bits-init
bits-init c = put_none c.args.first c.args.position c.args.vector.now

pub set-requires : goal.set-requires
set-requires c = omega (arith, c.requires.within, c.bits-test.true, c.bits.invariant.len)

pub bits-preserved : goal.bits-preserved
bits-preserved c =
    subst (λ (l : List Bool). PutSoFar c.args.first c.args.position c.args.vector.now l (c.bits.k + 1)
    (c.bits.rest / 2)) (sym c.set.ensures)
    (put_more c.args.first c.args.position c.args.vector.now c.bits.vector c.bits.k c.bits.rest (omega
    (arith, c.requires.within, c.bits-test.true)) c.bits.invariant)

pub returns-clause-count : goal.returns-clause-count
returns-clause-count c = c.bits.invariant.len

pub returns-clause-stands : goal.returns-clause-stands
returns-clause-stands c =
    put_all c.args.first c.args.count c.args.position c.args.vector.now c.bits.vector c.bits.k c.bits.rest (omega
    (arith, c.bits-test.false, c.bits.auto.k-end)) c.requires.small c.bits.invariant

pub returns-clause-others : goal.returns-clause-others
returns-clause-others c = λ i o. c.bits.invariant.others i (elim o [
  | inl less ↦ inl less
  | inr more ↦ inr (omega
      (arith, c.bits-test.false, c.bits.auto.k-end))
])
