use Rattle.std.proofs.lemmas.Option.{slice_get_within, slice_get-get_or}
use Rattle.commissioning_tests.proofs.operations.operation_of.Goals as goal

pub returns : goal.returns
returns c =
    slice_get-get_or c.args.walked.now.operations.now c.args.walked.now.number _
    (slice_get_within c.args.walked.now.operations.now c.args.walked.now.number c.requires.op c.requires.at)

pub bounds-walked-walked : goal.bounds-walked-walked
bounds-walked-walked c =
    slice_get_within c.args.walked.now.operations.now c.args.walked.now.number c.requires.op c.requires.at
