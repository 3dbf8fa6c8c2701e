use Rattle.judge_pool.proofs.StandLemmas.{list_stands_more}
use Rattle.judge_pool.proofs.list_stands.note_list_stand.Goals as goal

pub returns : goal.returns
returns c p right is =
    list_stands_more p c.args.notes.now c.insert.new.self c.args.stand c.args.number right is
    c.in_ok-insert.ensures.updates
