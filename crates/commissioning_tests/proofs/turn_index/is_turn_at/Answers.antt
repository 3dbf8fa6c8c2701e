use Rattle.commissioning_tests.proofs.ShownLemmas.{there}
use Rattle.commissioning_tests.proofs.turn_index.is_turn_at.Goals as goal

pub returns-then-number-moves : goal.returns-then-number-moves
returns-then-number-moves c e =
    let is = c.is_turn.ensures.0 e in
    record {
      number = c.args.number;
      move = c.index-moves-number.result;
      at =
          there c.args.moves.now c.args.number c.index-moves-number.result c.if-number-moves.true
          c.index-moves-number.is;
      switch = is.0;
      turns = is.1;
    }
