use Rattle.judge_pool.proofs.KeepLemmas.{numbers_more}
use Rattle.judge_pool.proofs.keeps.note_keep.Goals as goal

pub returns : goal.returns
returns c p right at =
    numbers_more p c.args.numbers.now c.insert.new.self c.args.nodes c.args.number right at c.in_ok-insert.ensures.updates
