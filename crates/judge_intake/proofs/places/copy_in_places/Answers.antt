use Rattle.std.proofs.Common.{◌∙◌, refl, sym, subst}
use Rattle.std.proofs.lemmas.Option.{slice_get_read, same_Some}
use Rattle.contraction.specs.Answers.{Answers}
use Rattle.judge_pool.specs.Pooling.{HasCopy}
use Rattle.judge_pool.specs.Places.{node_listed, pool_on}
use Rattle.judge_pool.proofs.PoolLemmas.{copy_of}
use Rattle.judge_intake.proofs.PlacesLemmas.{same_on, places_rise}
use Rattle.judge_intake.proofs.places.copy_in_places.Goals as goal

pub in_places-requires-clause-has : goal.in_places-requires-clause-has
in_places-requires-clause-has c =
    let p = c.args.pool.now in
    let y : Answers = c.index-value.result.now in
    c.requires.has y (slice_get_read p.values.items _ c.args.id y refl c.requires.within c.index-value.ensures)

pub returns-clause-copy : goal.returns-clause-copy
returns-clause-copy c x at =
    let list = c.args.list.now in
    let p = c.args.pool.now in
    let q = c.intern.new.self in
    let y : Answers = c.index-value.result.now in
    let here = slice_get_read p.values.items _ c.args.id y refl c.requires.within c.index-value.ensures in
    let has = same_on (node_listed list) q c.in_ok-moved.moved y c.in_ok-place.place (places_rise list c.requires.nodes)
    c.in_ok-moved.ensures.mapped c.in_places.ensures.answers c.in_ok-place.ensures.same in
    subst (λ z. HasCopy (pool_on (node_listed list) q) z c.in_ok-place.place) (same_Some y x (sym here ∙ at))
    (copy_of (pool_on (node_listed list) q) y y c.in_ok-place.place has (λ n. (λ k. k, λ k. k)) (λ view items d v s. s))
