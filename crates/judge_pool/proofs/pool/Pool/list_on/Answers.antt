use Rattle.std.proofs.Common.{ℕ, List, sym, ◌∙◌, subst}
use Rattle.std.proofs.lemmas.Option.{slice_get_within, same_Some}
use Rattle.judge_pool.specs.Standing.{AreOn}
use Rattle.judge_pool.specs.Numbered.{letter_lists}
use Rattle.judge_pool.proofs.pool.Pool.list_on.Goals as goal

pub list_again-requires : goal.list_again-requires
list_again-requires c =
    let p = c.args.self.now in
    let is = c.in-Some.ensures p c.requires.pool.list_stands in
    slice_get_within (letter_lists p) c.in-Some.number is.ts is.behind

pub returns-in_ok-placed-in-Some-clause-on : goal.returns-in_ok-placed-in-Some-clause-on
returns-in_ok-placed-in-Some-clause-on c =
    let p = c.args.self.now in
    let is = c.in-Some.ensures p c.requires.pool.list_stands in
    let placed : List ℕ = c.in_ok-placed-in-Some.placed.items in
    subst (λ (ts : List ℕ). AreOn p c.args.stand.keep c.args.ids.now ts)
    (same_Some is.ts placed (sym is.behind ∙ c.in_ok-placed-in-Some.ensures))
    (subst (λ (ids : List ℕ). AreOn p c.args.stand.keep ids is.ts)
    (same_Some is.ids c.args.ids.now (sym is.before ∙ c.requires.listed)) is.on)
