use Rattle.std.proofs.Common.{◌≡◌, refl, arith}
use Rattle.std.proofs.lemmas.Option.{slice_get_within}
use Rattle.commissioning_tests.specs.declared.values.TestMove.{TestMove}
use Rattle.commissioning_tests.specs.Answering.{TurnsAt}
use Rattle.commissioning_tests.proofs.ShownLemmas.{there, none_more}
use Rattle.commissioning_tests.proofs.shown.is_turn_among.Goals as goal

pub returns-then-is_turn : goal.returns-then-is_turn
returns-then-is_turn c =
    let is = c.if-is_turn.ensures.0 refl in (
      λ _. record {
        number = c.loop-j.j;
        move = c.index-moves-j.result;
        at = there c.args.moves.now c.loop-j.j c.index-moves-j.result c.loop-j-test.true c.index-moves-j.is;
        switch = is.0;
        turns = is.1;
      },
      λ _. refl,
    )

pub loop-j-preserved : goal.loop-j-preserved
loop-j-preserved c =
    none_more (λ (m : TestMove). (m.switch.0 ≡ c.args.switch.0) × TurnsAt c.args.k c.args.answers.now m.answers.items)
    c.args.moves.now c.loop-j.j c.index-moves-j.result
    (there c.args.moves.now c.loop-j.j c.index-moves-j.result c.loop-j-test.true c.index-moves-j.is) c.loop-j.invariant
    (λ p. let e = c.if-is_turn.ensures.1 p in cc e)

pub returns : goal.returns
returns c = (
  λ e. cc e,
  λ t. absurd (c.loop-j.invariant t.number t.move
      (omega (arith, slice_get_within c.args.moves.now t.number t.move t.at, c.loop-j-test.false)) t.at
      (t.switch, t.turns)),
)
