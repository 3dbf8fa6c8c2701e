use Rattle.std.proofs.Common.{refl, arith}
use Rattle.std.proofs.lemmas.Option.{slice_get_within}
use Rattle.commissioning_tests.specs.declared.values.TestPosition.{TestPosition}
use Rattle.commissioning_tests.specs.Covering.{TurnIsAmong}
use Rattle.commissioning_tests.proofs.ShownLemmas.{there, none_more}
use Rattle.commissioning_tests.proofs.shown.is_turn_shown.Goals as goal

pub returns-then-shows_turn : goal.returns-then-shows_turn
returns-then-shows_turn c = (
  λ _. record {
    place = c.loop-i.i;
    position = c.index-positions-i.result;
    at = there c.args.positions.now c.loop-i.i c.index-positions-i.result c.loop-i-test.true c.index-positions-i.is;
    turn = c.if-shows_turn.ensures.0 refl;
  },
  λ _. refl,
)

pub loop-i-preserved : goal.loop-i-preserved
loop-i-preserved c =
    none_more (λ (p : TestPosition). TurnIsAmong p.answers.items p.moves.items c.args.k c.args.switch.0)
    c.args.positions.now c.loop-i.i c.index-positions-i.result
    (there c.args.positions.now c.loop-i.i c.index-positions-i.result c.loop-i-test.true c.index-positions-i.is)
    c.loop-i.invariant (λ t. let e = c.if-shows_turn.ensures.1 t in cc e)

pub returns : goal.returns
returns c = (
  λ e. cc e,
  λ t. absurd (c.loop-i.invariant t.place t.position
      (omega (arith, slice_get_within c.args.positions.now t.place t.position t.at, c.loop-i-test.false)) t.at t.turn),
)
