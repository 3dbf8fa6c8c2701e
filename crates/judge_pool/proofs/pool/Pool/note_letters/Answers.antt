use Rattle.judge_pool.specs.declared.pool.Pool.{Pool}
use Rattle.judge_pool.proofs.LayeringLemmas.{grew_more}
use Rattle.judge_pool.proofs.BatchLemmas.{places_other}
use Rattle.judge_pool.proofs.pool.Pool.note_letters.Goals as goal

pub returns-in_ok-insert-in-None-clause-grew : goal.returns-in_ok-insert-in-None-clause-grew
returns-in_ok-insert-in-None-clause-grew c =
    let p = c.args.self.now in
    let q = c.put_letters.new.self in
    let g = c.in_ok-place-in-None.ensures.grew in
    let r : Pool = record q { letter_places = c.insert.new.self } in
    grew_more p q r g (places_other q r g.is_pool)
