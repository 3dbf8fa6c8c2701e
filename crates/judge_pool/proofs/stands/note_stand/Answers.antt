use Rattle.judge_pool.proofs.StandLemmas.{stands_more}
use Rattle.judge_pool.proofs.stands.note_stand.Goals as goal

pub returns : goal.returns
returns c p right is =
    stands_more p c.args.notes.now c.insert.new.self c.args.stand c.args.id right is c.in_ok-insert.ensures.updates
