use Rattle.commissioning_tests.proofs.ShownLemmas.{there}
use Rattle.commissioning_tests.proofs.turn_index.is_there.Goals as goal

pub returns-then-at-positions : goal.returns-then-at-positions
returns-then-at-positions c e = record {
  place = c.args.at.position;
  position = c.index-positions-at.result;
  at =
      there c.args.positions.now c.args.at.position c.index-positions-at.result c.if-at-positions.true
      c.index-positions-at.is;
  turn = c.shows_turn_at.ensures e;
}
