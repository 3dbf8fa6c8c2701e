use Rattle.std.proofs.Common.{arith}
use Rattle.log_replay.proofs.StartLemmas.{all_told}
use Rattle.log_replay.proofs.start.start_of.Goals as goal

pub returns-clause-some : goal.returns-clause-some
returns-clause-some c = (all_told c.args.station.now c.args.log.now c.loop-i.start c.loop-i.i c.loop-i.invariant
    (omega (arith, c.loop-i-test.false, c.loop-i.auto.i-end, c.switch_count-i-end.ensures.count))).0
