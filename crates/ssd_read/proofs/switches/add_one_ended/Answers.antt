use Rattle.ssd_read.proofs.Stepped.{built_one, built_refused}
use Rattle.ssd_read.proofs.switches.add_one_ended.Goals as goal

pub returns-in-Ok-clause-builds : goal.returns-in-Ok-clause-builds
returns-in-Ok-clause-builds c = built_one _ _ _ c.in-Ok.ensures.within c.in-Ok.ensures.added

pub returns-in-Err-clause-builds : goal.returns-in-Err-clause-builds
returns-in-Err-clause-builds c = built_refused _ _ c.in-Err.fault c.from.result c.from.ensures c.in-Err.ensures.fault
