use Rattle.std.proofs.Common.{◌≡◌, ◌-◌, ℕ, List, Bool, Some, subst, sym, arith}
use Rattle.std.proofs.lemmas.Option.{slice_get_within}
use Rattle.decision_graphs.specs.Label.{label_of}
use Rattle.decision_graphs.specs.Reaching.{IsSet}
use Rattle.graph_walks.specs.declared.codes.Codes.{Codes}
use Rattle.graph_walks.specs.Walks.{AreTwos}
use Rattle.dependence_search.specs.RuleWalks.{AreWanted, rule_of}
use Rattle.dependence_search.proofs.DependLemmas.{breach_shown, no_breach}
use Rattle.dependence_search.proofs.breach.find_breach.Goals as goal

pub returns-in-Some : goal.returns-in-Some
returns-in-Some c =
    let found = rw c.in-Some.is at c.in_ok-choices.ensures in
    let shown = c.in_ok-closed_by-in-Some.ensures in (
      shown.vector,
      breach_shown c.args.station.now c.is_station.ensures c.args.steps.now.old_steps.items
          c.args.steps.now.new_steps.items c.requires.steps.steps c.args.place c.args.op c.args.walk.now.graph
          c.args.walk.now.codes.items c.requires.walk c.in_ok-wanted.wanted.items c.args.rule
          (subst (λ (l : List Codes). AreWanted (λ (x : Codes). rule_of c.args.op.direction x ≡ Some c.args.rule) l
          c.in_ok-wanted.wanted.items) c.deref.ensures.value c.in_ok-wanted.ensures)
          c.in_ok-closed_by-in-Some.field-0.items c.in-Some.choices shown.vector shown.given
          (subst (λ (l : List Bool). IsSet l (label_of c.args.walk.now.graph c.in-Some.choices)) c.deref-2.ensures.value
          found.1),
    )

pub returns : goal.returns
returns c =
    let none = rw c.in-None.is at c.in_ok-choices.ensures in
    let n : c.requires.walk.others ≡ c.len.result - 1 = omega (arith, c.requires.walk.count, c.len.ensures) in
    no_breach c.args.station.now c.is_station.ensures c.args.steps.now.old_steps.items
    c.args.steps.now.new_steps.items c.requires.steps.steps c.args.place c.args.op c.args.walk.now.graph
    c.args.walk.now.codes.items c.requires.walk c.in_ok-wanted.wanted.items c.args.rule
    (subst (λ (l : List Codes). AreWanted (λ (x : Codes). rule_of c.args.op.direction x ≡ Some c.args.rule) l
    c.in_ok-wanted.wanted.items) c.deref.ensures.value c.in_ok-wanted.ensures)
    (slice_get_within c.args.steps.now.old_steps.items c.args.place c.requires.moved.step c.requires.moved.at)
    (λ cs two set. none cs (subst (λ (k : ℕ). AreTwos k cs) n two)
    (subst (λ (l : List Bool). IsSet l (label_of c.args.walk.now.graph cs)) (sym c.deref-2.ensures.value) set))
