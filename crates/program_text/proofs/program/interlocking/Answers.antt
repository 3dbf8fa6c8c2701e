use Rattle.std.proofs.Common.{◌<◌, ◌^◌, length, arith}
use Rattle.program_text.proofs.VariableLemmas.{on_ok}
use Rattle.program_text.proofs.program.interlocking.Goals as goal

pub returns-clause-few : goal.returns-clause-few
returns-clause-few c =
    let few : length c.args.station.now.switches < 2 ^ 16 = omega arith in
    on_ok c.program_with.result few
