use Rattle.interlock_cli.proofs.Asked.{leaves_others, never_both, reads_asked, reads_given}
use Rattle.interlock_cli.proofs.loading.read_file.Goals as goal

pub returns-in-Ok-clause-read : goal.returns-in-Ok-clause-read
returns-in-Ok-clause-read g c =
    reads_given (never_both _ _) c.in-Ok.ensures.asked (leaves_others c.read.ensures.others c.read.ensures.kept)

pub returns-in-Ok-clause-reads : goal.returns-in-Ok-clause-reads
returns-in-Ok-clause-reads g c =
    reads_asked c.read.ensures.asked (leaves_others c.read.ensures.others c.read.ensures.kept)

pub returns-in-Err-Memory-clause-reads : goal.returns-in-Err-Memory-clause-reads
returns-in-Err-Memory-clause-reads g c =
    reads_asked c.read.ensures.asked (leaves_others c.read.ensures.others c.read.ensures.kept)

pub returns-in-Err-Failed-clause-reads : goal.returns-in-Err-Failed-clause-reads
returns-in-Err-Failed-clause-reads g c =
    reads_asked c.read.ensures.asked (leaves_others c.read.ensures.others c.read.ensures.kept)
