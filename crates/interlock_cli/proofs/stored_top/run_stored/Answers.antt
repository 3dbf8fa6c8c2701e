use Rattle.interlock_cli.proofs.Asked.{reads_none}
use Rattle.interlock_cli.proofs.Storing.{want, wants_as_run, of_some}
use Rattle.std.proofs.Common.{refl, inr, map, string_bytes}
use Rattle.interlock_cli.specs.StoredWords.{stored_of}
use Rattle.interlock_cli.proofs.stored_top.run_stored.Goals as goal

pub returns-in-None-clause-others : goal.returns-in-None-clause-others
returns-in-None-clause-others g c = λ _. record {
  answers = c.run.ensures.answers;
  usage = c.run.ensures.usage;
  unnamed = c.run.ensures.unnamed;
  complete = c.run.ensures.complete;
}

pub returns-in-Err-clause-others : goal.returns-in-Err-clause-others
returns-in-Err-clause-others g c = λ _. rw c.answer_want.ensures.status
    (wants_as_run _ _ _ _ _ _ refl c.answer_want.ensures.line)

pub returns-in-Err-clause-stored : goal.returns-in-Err-clause-stored
returns-in-Err-clause-stored g c = of_some (stored_of (map string_bytes c.args.words.now)) _
    (λ w. rw c.answer_want.ensures.status (want _ w _ _ _ _ _ _ refl c.answer_want.ensures.line))

pub returns-in-Err-clause-stored_complete : goal.returns-in-Err-clause-stored_complete
returns-in-Err-clause-stored_complete g c = of_some (stored_of (map string_bytes c.args.words.now)) _
    (λ w answered calm. inr c.answer_want.ensures.status)

pub returns-in-Err-clause-reads : goal.returns-in-Err-clause-reads
returns-in-Err-clause-reads g c = λ _. reads_none _ _

pub returns-in-Err-clause-stored_reads : goal.returns-in-Err-clause-stored_reads
returns-in-Err-clause-stored_reads g c = of_some (stored_of (map string_bytes c.args.words.now)) _
    (λ w. reads_none _ _)

pub returns-in-None-clause-reads : goal.returns-in-None-clause-reads
returns-in-None-clause-reads g c = λ _. c.run.ensures.reads
