use Rattle.std.proofs.Common.{◌≡◌, ℕ, List, get_or, ap, sym, ◌∙◌, subst}
use Rattle.std.proofs.lemmas.Option.{MatchOption-at_some, MatchOption-at_none}
use Rattle.decision_graphs.specs.Label.{Reaches}
use Rattle.decision_graphs.specs.Reaching.{IsSet, IsPathTo}
use Rattle.decision_graphs.specs.Marked.{path_to}
use Rattle.release_compile.proofs.ChainLemmas.{none_leads, some_choice, first_in, is_marked, is_chain}
use Rattle.release_compile.proofs.chain.find_chain.Goals as goal

pub choice-requires : goal.choice-requires
choice-requires c =
    let a = c.args in
    let r = c.requires in
    let found = MatchOption-at_some (Reaches a.inner.now a.inner_sets.now a.goal → ⊥)
    (λ (p : List ℕ). IsPathTo a.inner.now a.inner_sets.now a.goal p) c.in-Some.path c.in-Some.is
    c.in_ok-path_to.ensures in
    some_choice a.outer.now a.inner.now a.sets.now a.inner_sets.now a.marks.now.labels a.goal
    c.labels-labels.ensures.layered r.row r.outer_sets r.inner_sets r.marks r.first c.in-Some.path found.allows

pub path_to-requires-in-Some : goal.path_to-requires-in-Some
path_to-requires-in-Some c =
    let a = c.args in
    let r = c.requires in
    let found = MatchOption-at_some (Reaches a.inner.now a.inner_sets.now a.goal → ⊥)
    (λ (p : List ℕ). IsPathTo a.inner.now a.inner_sets.now a.goal p) c.in-Some.path c.in-Some.is
    c.in_ok-path_to.ensures in
    let marked = is_marked a.outer.now a.inner.now a.sets.now a.inner_sets.now a.marks.now.labels a.goal
    c.labels-labels.ensures.layered r.row r.outer_sets r.inner_sets r.marks r.first c.in-Some.path found.allows in
    subst (λ l. IsSet a.marks.now.labels l) (sym c.choice.ensures) marked

pub returns-in_ok-before-in-Some : goal.returns-in_ok-before-in-Some
returns-in_ok-before-in-Some c =
    let a = c.args in
    let r = c.requires in
    let found = MatchOption-at_some (Reaches a.inner.now a.inner_sets.now a.goal → ⊥)
    (λ (p : List ℕ). IsPathTo a.inner.now a.inner_sets.now a.goal p) c.in-Some.path c.in-Some.is
    c.in_ok-path_to.ensures in
    let label = get_or c.in-Some.path 0 0 in
    let marked = is_marked a.outer.now a.inner.now a.sets.now a.inner_sets.now a.marks.now.labels a.goal
    c.labels-labels.ensures.layered r.row r.outer_sets r.inner_sets r.marks r.first c.in-Some.path found.allows in
    let within = first_in a.outer.now a.inner.now a.sets.now a.inner_sets.now a.marks.now.labels a.goal
    c.labels-labels.ensures.layered r.row r.outer_sets r.inner_sets r.marks r.first c.in-Some.path found.allows in
    let before : c.in_ok-before-in-Some.before ≡ path_to a.marks.now label =
    c.in_ok-before-in-Some.ensures.path ∙ ap (path_to a.marks.now) c.choice.ensures in
    let led = subst (λ cs. IsPathTo a.outer.now a.sets.now label cs) (sym before) (r.paths label within marked) in
    is_chain a.outer.now a.inner.now a.sets.now a.inner_sets.now a.marks.now.labels a.goal
    c.labels-labels.ensures.layered r.row r.outer_sets r.inner_sets r.marks r.first c.in-Some.path found.allows
    c.in_ok-before-in-Some.before led.allows led.led found.led

pub returns-in-None : goal.returns-in-None
returns-in-None c =
    let a = c.args in
    let r = c.requires in
    let none = MatchOption-at_none (Reaches a.inner.now a.inner_sets.now a.goal → ⊥)
    (λ (p : List ℕ). IsPathTo a.inner.now a.inner_sets.now a.goal p) c.in-None.is c.in_ok-path_to.ensures in
    none_leads a.outer.now a.inner.now a.sets.now a.inner_sets.now a.marks.now.labels a.goal
    c.labels-labels.ensures.layered r.row r.outer_sets r.inner_sets r.marks r.first none
