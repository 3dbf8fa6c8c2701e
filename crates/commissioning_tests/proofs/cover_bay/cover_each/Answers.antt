use Rattle.std.proofs.Common.{◌+◌, ◌*◌, ℕ, List, length, slice_get, sym, ap, ◌∙◌, arith}
use Rattle.ilk_base.specs.declared.words.Op.{Op}
use Rattle.judge_pool.proofs.ErrorLemmas.{passed_on}
use Rattle.commissioning_tests.proofs.ListLemmas.{operations_long, opening_at, closing_at, operations_in}
use Rattle.commissioning_tests.proofs.CoverLemmas.{covered_both}
use Rattle.commissioning_tests.proofs.RefusalLemmas.{narrow_more}
use Rattle.commissioning_tests.proofs.cover_bay.cover_each.Goals as goal

pub overflow_add-switch : goal.overflow_add-switch
overflow_add-switch c = omega (arith, c.requires.few, c.loop-i-test.true)

pub cover_switch-requires-clause-all : goal.cover_switch-requires-clause-all
cover_switch-requires-clause-all c k op at =
    omega (
      arith,
      operations_in c.args.first.0 c.args.count k op
          (ap (λ (l : List Op). slice_get l k) (sym c.requires.operations) ∙ at),
      c.requires.within,
    )

pub cover_switch-requires-clause-room : goal.cover_switch-requires-clause-room
cover_switch-requires-clause-room c =
    omega (
      arith,
      c.from-number.ensures,
      ap length c.requires.operations,
      operations_long c.args.first.0 c.args.count,
      c.loop-i-test.true,
    )

pub cover_switch-requires-clause-opening : goal.cover_switch-requires-clause-opening
cover_switch-requires-clause-opening c =
    ap (λ (k : ℕ). slice_get c.args.operations.now (2 * k)) c.from-number.ensures
    ∙ (ap (λ (l : List Op). slice_get l (2 * c.loop-i.i)) c.requires.operations
    ∙ opening_at c.args.first.0 c.args.count c.loop-i.i c.loop-i-test.true)

pub cover_switch-requires-clause-closing : goal.cover_switch-requires-clause-closing
cover_switch-requires-clause-closing c =
    ap (λ (k : ℕ). slice_get c.args.operations.now (2 * k + 1)) c.from-number.ensures
    ∙ (ap (λ (l : List Op). slice_get l (2 * c.loop-i.i + 1)) c.requires.operations
    ∙ closing_at c.args.first.0 c.args.count c.loop-i.i c.loop-i-test.true)

pub loop-i-preserved : goal.loop-i-preserved
loop-i-preserved c = (
  c.in_ok-cover_switch.ensures.stocks,
  c.in_ok-cover_switch.ensures.more.are,
  covered_both c.args.station.now c.args.operations.now c.args.stands.now c.loop-i.found.positions.items
      c.cover_switch.new.found.positions.items c.loop-i.i _ (ap (λ (x : ℕ). 2 * x) c.from-number.ensures)
      c.loop-i.invariant.2 c.in_ok-cover_switch.ensures.more.grows c.in_ok-cover_switch.ensures.opening
      c.in_ok-cover_switch.ensures.closing,
  narrow_more c.args.station.now c.args.steps.now.old_steps.items c.args.first.0 c.loop-i.i c.args.limit
      c.loop-i.invariant.3 c.in_ok-cover_switch.ensures.narrow,
)

pub returns-in_err-cover_switch-clause-wide : goal.returns-in_err-cover_switch-clause-wide
returns-in_err-cover_switch-clause-wide c =
    passed_on _ _ c.from_residual.result c.from_residual.ensures.1
    (λ trouble same is. record {
      number = c.args.first.0 + c.loop-i.i;
      after = omega arith;
      before = omega (arith, c.loop-i-test.true);
      too_wide = c.in_err-cover_switch.ensures.wide (sym same ∙ is);
    })

pub returns-clause-narrow : goal.returns-clause-narrow
returns-clause-narrow c m after before =
    c.loop-i.invariant.3 m after (omega (arith, before, c.loop-i-test.false, c.loop-i.auto.i-end))
