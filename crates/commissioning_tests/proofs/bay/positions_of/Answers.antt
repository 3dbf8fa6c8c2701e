use Rattle.std.proofs.Common.{List, length, slice_get, ap, ◌∙◌, sym, arith}
use Rattle.ilk_base.specs.declared.words.Op.{Op}
use Rattle.judge_pool.proofs.ErrorLemmas.{passed_on}
use Rattle.commissioning_tests.proofs.ListLemmas.{operations_long, operations_in}
use Rattle.commissioning_tests.proofs.CoverLemmas.{lone_covered}
use Rattle.commissioning_tests.proofs.bay.positions_of.Goals as goal

pub returns-then-len-lt2-clause-covered : goal.returns-then-len-lt2-clause-covered
returns-then-len-lt2-clause-covered c k lt =
    lone_covered c.args.station.now c.args.operations.now c.in_ok-steps.steps.old_steps.items
    c.in_ok-steps.steps.new_steps.items c.in_ok-steps.ensures.steps (omega (arith, c.if-len-lt2.true, c.len.ensures))
    (λ k op at. omega (
      arith,
      operations_in c.args.first.0 c.args.count k op
          (ap (λ (l : List Op). slice_get l k) (sym c.requires.operations) ∙ at),
      c.requires.within,
    )) c.args.stands.now c.new.result.items k

pub returns-clause-covered : goal.returns-clause-covered
returns-clause-covered c k lt =
    c.in_ok-positions.ensures.covered k
    (omega (arith, lt, ap length c.requires.operations, operations_long c.args.first.0 c.args.count))

pub returns-then-len-lt2-clause-narrow : goal.returns-then-len-lt2-clause-narrow
returns-then-len-lt2-clause-narrow c = record {
  steps = c.in_ok-steps.steps.old_steps.items;
  all = c.in_ok-steps.ensures.steps.old_all;
  narrow = λ some m after before. absurd (omega (arith, some, c.if-len-lt2.true, c.len.ensures));
}

pub returns-clause-narrow : goal.returns-clause-narrow
returns-clause-narrow c = record {
  steps = c.in_ok-steps.steps.old_steps.items;
  all = c.in_ok-steps.ensures.steps.old_all;
  narrow = λ some. c.in_ok-positions.ensures.narrow;
}

pub returns-in_err-positions-clause-wide : goal.returns-in_err-positions-clause-wide
returns-in_err-positions-clause-wide c =
    passed_on _ _ c.from_residual-in_err-positions.result c.from_residual-in_err-positions.ensures.1
    (λ trouble same is. record {
      steps = c.in_ok-steps.steps.old_steps.items;
      all = c.in_ok-steps.ensures.steps.old_all;
      some = omega (arith, c.if-len-lt2.false, c.len.ensures);
      too_wide = c.in_err-positions.ensures.wide (sym same ∙ is);
    })
