use Rattle.contraction.specs.Answers.{Answers}
use Rattle.judge_pool.specs.Places.{node_listed, pool_on}
use Rattle.judge_intake.proofs.InputsLemmas.{links_of}
use Rattle.judge_intake.proofs.own.links.Goals as goal

pub intern_in_places-requires-clause-has : goal.intern_in_places-requires-clause-has
intern_in_places-requires-clause-has c n kept = (c.in_ok-value.ensures.kept n).0 kept

pub returns-clause-links : goal.returns-clause-links
returns-clause-links c =
    let x : Answers = c.in_ok-value.value in
    links_of (pool_on (node_listed c.args.list.now) c.intern_in_places.new.pool) c.args.station.now c.args.bay.0
    c.args.list.now x c.in_ok-id.id c.in_ok-id.ensures.same c.in_ok-value.ensures.kept c.in_ok-value.ensures.stands
