use Rattle.contraction.specs.Answers.{Answers}
use Rattle.judge_pool.specs.Places.{node_listed, pool_on}
use Rattle.judge_intake.proofs.InputsLemmas.{switch_of}
use Rattle.judge_intake.proofs.own.switch_id.Goals as goal

pub intern_in_places-requires-clause-has : goal.intern_in_places-requires-clause-has
intern_in_places-requires-clause-has c n kept = c.requires.has n ((c.in_ok-value.ensures.kept n).0 kept)

pub returns-clause-has : goal.returns-clause-has
returns-clause-has c =
    let x : Answers = c.in_ok-value.value in
    switch_of (pool_on (node_listed c.args.list.now) c.intern_in_places.new.pool) c.args.station.now c.args.id.0
    c.args.closed x c.in_ok-place.place c.in_ok-place.ensures.same c.in_ok-value.ensures.kept
    c.in_ok-value.ensures.stands
