use Rattle.std.proofs.lemmas.Option.{slice_get-get_or}
use Rattle.commissioning_tests.proofs.AnswerLemmas.{answers_more}
use Rattle.commissioning_tests.proofs.answers.answers_in.Goals as goal

pub loop-k-preserved : goal.loop-k-preserved
loop-k-preserved c =
    rw c.in_ok-push.ensures.items (answers_more c.args.station.now c.args.operations.now c.args.vector.now
    c.loop-k.answers.items c.loop-k.k _ c.in_ok-breaks.field-0 c.loop-k.invariant
    (slice_get-get_or c.args.operations.now c.loop-k.k _ c.loop-k-test.true) c.in_ok-breaks.ensures)
