use Rattle.std.proofs.Common.{◌≡◌, Some, slice_get, refl, arith}
use Rattle.std.proofs.lemmas.Option.{slice_get_within}
use Rattle.commissioning_tests.specs.declared.values.TestPosition.{TestPosition}
use Rattle.commissioning_tests.proofs.ShownLemmas.{there, none_more}
use Rattle.commissioning_tests.proofs.shown.is_rule_shown.Goals as goal

pub returns-then-shows_rule : goal.returns-then-shows_rule
returns-then-shows_rule c = (
  λ _. record {
    place = c.loop-i.i;
    position = c.index-positions-i.result;
    at = there c.args.positions.now c.loop-i.i c.index-positions-i.result c.loop-i-test.true c.index-positions-i.is;
    answer = c.if-shows_rule.ensures.0 refl;
  },
  λ _. refl,
)

pub loop-i-preserved : goal.loop-i-preserved
loop-i-preserved c =
    none_more (λ (p : TestPosition). slice_get p.answers.items c.args.k ≡ Some (Some c.args.rule))
    c.args.positions.now c.loop-i.i c.index-positions-i.result
    (there c.args.positions.now c.loop-i.i c.index-positions-i.result c.loop-i-test.true c.index-positions-i.is)
    c.loop-i.invariant (λ t. let e = c.if-shows_rule.ensures.1 t in cc e)

pub returns : goal.returns
returns c = (
  λ e. cc e,
  λ t. absurd (c.loop-i.invariant t.place t.position
      (omega (arith, slice_get_within c.args.positions.now t.place t.position t.at, c.loop-i-test.false)) t.at t.answer),
)
