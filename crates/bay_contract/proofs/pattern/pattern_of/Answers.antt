use Rattle.std.proofs.Common.{◌≡◌, ℕ, List, Some, slice_get, refl, sym, ◌∙◌, ap, subst, arith}
use Rattle.std.proofs.lemmas.Option.{slice_get-get_or}
use Rattle.bay_contract.specs.Building.{AreReversed}
use Rattle.bay_contract.proofs.AlphabetLemmas.{count_few}
use Rattle.bay_contract.proofs.CourseLemmas.{first_rises, like_self}
use Rattle.bay_contract.proofs.PatternLemmas.{Follows, follows_none, follows_next, follows_past, values_few}
use Rattle.bay_contract.proofs.PatternLemmas.{forks_few, ranks_each, ranks_low, turn_inside, follows_pattern}
use Rattle.bay_contract.proofs.pattern.pattern_of.Goals as goal

pub switches-init : goal.switches-init
switches-init c =
    follows_none c.args.station.now c.args.part.0 c.args.first c.args.count c.args.course
    c.in_ok-layer.layer.values.items c.in_ok-layer.layer.ranks.items c.new-forks.result.items c.requires.course
    c.in_ok-layer.ensures.values c.in_ok-layer.ensures.ranks c.new-forks.ensures.items

pub next_layer-requires-clause-few : goal.next_layer-requires-clause-few
next_layer-requires-clause-few c =
    values_few c.args.station.now c.args.part.0 c.args.first c.args.count c.args.course c.requires.course
    c.switches.j c.switches.layer.values.items c.switches.layer.ranks.items c.switches.forks.items c.switches.invariant

pub next_layer-requires-clause-steps : goal.next_layer-requires-clause-steps
next_layer-requires-clause-steps c =
    forks_few c.args.station.now c.args.part.0 c.args.first c.args.count c.args.course c.requires.course c.switches.j
    c.switches.layer.values.items c.switches.layer.ranks.items c.switches.forks.items c.switches.invariant

pub next_layer-requires-clause-kept : goal.next_layer-requires-clause-kept
next_layer-requires-clause-kept c =
    let there : slice_get c.args.course.turns.items c.switches.j ≡ Some c.index-turn.result.now =
    slice_get-get_or c.args.course.turns.items c.switches.j c.index-turn.result.now (omega
    (arith, c.switches-test.true, c.requires.course.counted)) ∙ ap Some (sym c.index-turn.ensures) in
    turn_inside c.args.station.now c.args.part.0 c.args.first c.args.count c.args.course c.requires.course
    c.switches.j c.switches.layer.values.items c.switches.layer.ranks.items c.switches.forks.items
    c.switches.invariant c.index-turn.result.now there

pub next_layer-requires-clause-rises : goal.next_layer-requires-clause-rises
next_layer-requires-clause-rises c =
    let there : slice_get c.args.course.turns.items c.switches.j ≡ Some c.index-turn.result.now =
    slice_get-get_or c.args.course.turns.items c.switches.j c.index-turn.result.now (omega
    (arith, c.switches-test.true, c.requires.course.counted)) ∙ ap Some (sym c.index-turn.ensures) in
    (c.requires.course.turns c.switches.j c.index-turn.result.now there).nodes.rises

pub next_layer-requires-clause-ranks : goal.next_layer-requires-clause-ranks
next_layer-requires-clause-ranks c =
    ranks_each c.args.station.now c.args.part.0 c.args.first c.args.count c.args.course c.requires.course
    c.switches.j c.switches.layer.values.items c.switches.layer.ranks.items c.switches.forks.items c.switches.invariant

pub next_layer-requires-clause-small : goal.next_layer-requires-clause-small
next_layer-requires-clause-small c = λ i lt.
    let few = count_few c.args.station.now c.args.part.0 c.args.first c.args.count c.switch_count.ensures.station
    c.requires.course.switches in
    omega (
      arith,
      ranks_low c.args.station.now c.args.part.0 c.args.first c.args.count c.args.course
          c.requires.course c.switches.j c.switches.layer.values.items c.switches.layer.ranks.items
          c.switches.forks.items c.switches.invariant (omega (arith, few, c.switches-test.true)) i lt,
    )

pub overflow_cast-result : goal.overflow_cast-result
overflow_cast-result c =
    let few = count_few c.args.station.now c.args.part.0 c.args.first c.args.count c.switch_count.ensures.station
    c.requires.course.switches in
    omega (arith, few, c.switches-test.true)

pub returns-in-None-clause-refusal : goal.returns-in-None-clause-refusal
returns-in-None-clause-refusal c =
    let there : slice_get c.args.course.turns.items c.switches.j ≡ Some c.index-turn.result.now =
    slice_get-get_or c.args.course.turns.items c.switches.j c.index-turn.result.now (omega
    (arith, c.switches-test.true, c.requires.course.counted)) ∙ ap Some (sym c.index-turn.ensures) in (
      refl,
      follows_past c.args.station.now c.args.count c.args.course
          (first_rises c.args.station.now c.args.part.0 c.args.first c.args.count c.args.course c.requires.course)
          c.switches.j c.switches.layer.values.items c.switches.layer.ranks.items c.switches.forks.items
          c.switches.invariant c.index-turn.result.now there c.switches-test.true c.limit_after-limit.result
          (rw c.in-None.is at c.in_ok-next.ensures.past) c.limit_after-limit.ensures.last
          c.limit_after-limit.ensures.on_the_way c.args.part.0 c.args.first c.args.course c.requires.course
          (like_self c.args.station.now c.args.part.0 c.args.first c.args.count c.args.course c.requires.course),
    )

pub switches-preserved : goal.switches-preserved
switches-preserved c =
    let there : slice_get c.args.course.turns.items c.switches.j ≡ Some c.index-turn.result.now =
    slice_get-get_or c.args.course.turns.items c.switches.j c.index-turn.result.now (omega
    (arith, c.switches-test.true, c.requires.course.counted)) ∙ ap Some (sym c.index-turn.ensures) in
    follows_next c.args.station.now c.args.count c.args.course
    (first_rises c.args.station.now c.args.part.0 c.args.first c.args.count c.args.course c.requires.course)
    c.switches.j c.switches.layer.values.items c.switches.layer.ranks.items c.switches.forks.items
    c.switches.invariant c.index-turn.result.now there c.switches-test.true c.limit_after-limit.result
    c.in-Some.after.values.items c.in-Some.after.ranks.items c.next_layer.new.forks.items
    (rw c.in-Some.is at c.in_ok-next.ensures.next)
    (rw c.in-Some.is at c.in_ok-next.ensures.within) c.limit_after-limit.ensures.last
    c.limit_after-limit.ensures.most

pub returns-clause-pattern : goal.returns-clause-pattern
returns-clause-pattern c =
    let at_end : c.switches.j ≡ c.args.count = omega (arith, c.switches-test.false, c.switches.auto.j-end) in
    follows_pattern c.args.station.now c.args.part.0 c.args.first c.args.count (record {
      course = c.args.course;
      values = c.switches.layer.values;
      examples = c.in_ok-examples.examples;
      forks =
          c.switches.forks;
    }) c.switches.layer.ranks.items c.switch_count.ensures.station c.requires.course
    (subst (λ n. Follows c.args.station.now c.args.count c.args.course n c.switches.layer.values.items
    c.switches.layer.ranks.items c.switches.forks.items) at_end c.switches.invariant)
    (subst (λ (l : List ℕ). AreReversed c.args.count l c.in_ok-examples.examples.items) c.deref.ensures.value
    c.in_ok-examples.ensures)
