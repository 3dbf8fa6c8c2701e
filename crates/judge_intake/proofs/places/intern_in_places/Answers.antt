use Rattle.contraction.specs.Answers.{Answers}
use Rattle.judge_pool.specs.Places.{node_listed}
use Rattle.judge_intake.proofs.PlacesLemmas.{same_on, places_rise}
use Rattle.judge_intake.proofs.places.intern_in_places.Goals as goal

pub returns-clause-same : goal.returns-clause-same
returns-clause-same c =
    let list = c.args.list.now in
    let x : Answers = c.args.value.now in
    same_on (node_listed list) c.intern.new.self c.in_ok-moved.moved x c.in_ok-id.id (places_rise list c.requires.nodes)
    c.in_ok-moved.ensures.mapped c.in_places.ensures.answers c.in_ok-id.ensures.same
