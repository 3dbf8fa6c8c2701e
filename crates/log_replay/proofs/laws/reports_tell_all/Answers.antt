use Rattle.std.proofs.Common.{arith}
use Rattle.log_replay.proofs.Telling.{tells_all}
use Rattle.log_replay.proofs.laws.reports_tell_all.Goals as goal

pub returns : goal.returns
returns c r t paths first second few less one other same = tells_all c.args.station.now c.is_station.ensures r t paths
    (omega (arith, few)) (omega (arith, less)) first second (omega (arith, one)) (omega (arith, other)) same
