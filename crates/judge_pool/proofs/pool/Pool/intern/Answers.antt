use Rattle.std.proofs.Common.{◌≡◌, Some, None, rules, refl, sym, ap, ◌∙◌, subst}
use Rattle.std.specs.HashMap.Entry.{entry_value}
use Rattle.contraction.specs.Answers.{Answers}
use Rattle.judge_pool.specs.Pooling.{number_in}
use Rattle.judge_pool.proofs.PoolLemmas.{has_found}
use Rattle.judge_pool.proofs.BatchLemmas.{index_other, value_grew, value_same}
use Rattle.judge_pool.proofs.pool.Pool.intern.Goals as goal

pub returns-in-Occupied-clause-grew : goal.returns-in-Occupied-clause-grew
returns-in-Occupied-clause-grew c = index_other c.args.self.now _ refl c.requires (search rules)

pub returns-in-Occupied-clause-same : goal.returns-in-Occupied-clause-same
returns-in-Occupied-clause-same c =
    let p = c.args.self.now in
    let row = c.in_ok-row.row in
    let at : number_in p.index row ≡ Some c.get.result.now =
    sym c.in_ok-entry.ensures.value ∙ (ap entry_value c.in-Occupied.is ∙ c.get.ensures) in
    has_found p _ c.args.value c.get.result.now refl c.requires c.row_in.ensures.answers
    (subst (λ r. number_in p.index r ≡ Some c.get.result.now) c.in_ok-row.ensures.row at)

pub returns-in_ok-push-in-Vacant-clause-grew : goal.returns-in_ok-push-in-Vacant-clause-grew
returns-in_ok-push-in-Vacant-clause-grew c =
    let p = c.args.self.now in
    let x : Answers = c.args.value in
    let row = c.in_ok-row.row in
    let none : number_in p.index row ≡ None = search rules in
    value_grew p _ x refl c.in_ok-push-in-Vacant.ensures.items c.row_in.ensures.answers c.requires
    (search (rules, none)) (search rules)

pub returns-in_ok-push-in-Vacant-clause-same : goal.returns-in_ok-push-in-Vacant-clause-same
returns-in_ok-push-in-Vacant-clause-same c =
    value_same c.args.self.now _ c.args.value refl c.in_ok-push-in-Vacant.ensures.items c.row_in.ensures.answers
    c.len-place.result (search rules)
