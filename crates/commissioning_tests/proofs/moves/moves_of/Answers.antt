use Rattle.std.proofs.Common.{arith}
use Rattle.commissioning_tests.proofs.MoveLemmas.{moves_more, moves_all}
use Rattle.commissioning_tests.proofs.moves.moves_of.Goals as goal

pub loop-s-preserved : goal.loop-s-preserved
loop-s-preserved c =
    rw c.in_ok-push_move.ensures (moves_more c.args.station.now c.args.operations.now c.args.asked.now c.args.found.now.positions.items
    c.args.vector.now c.args.answers.now c.requires.answers c.loop-s.moves.items c.loop-s.s c.in_ok-one.one
    c.loop-s.invariant c.in_ok-one.ensures)

pub returns : goal.returns
returns c =
    moves_all c.args.station.now c.args.operations.now c.args.asked.now c.args.found.now.positions.items c.args.vector.now c.args.answers.now
    c.requires.answers c.loop-s.moves.items c.loop-s.s c.loop-s.invariant
    (omega (arith, c.loop-s-test.false, c.switch_count-s-end.ensures))
