use Rattle.std.proofs.Common.{◌≡◌, List, length, map, sym, ◌∙◌, ap, subst, arith}
use Rattle.contraction.specs.Answers.{Answers, AreNodes}
use Rattle.contraction.specs.Renaming.{renamed}
use Rattle.part_alphabets.specs.declared.fork.Fork.{Fork}
use Rattle.bay_contract.specs.Courses.{nodes_after, shifted}
use Rattle.bay_contract.proofs.CourseLemmas.{nodes_are}
use Rattle.bay_contract.proofs.PatternLemmas.{sized_like, switch_room, built_like, steps_like, shaped_like}
use Rattle.bay_contract.proofs.alphabet.alphabet_from.Goals as goal

pub values_on-requires-clause-nodes : goal.values_on-requires-clause-nodes
values_on-requires-clause-nodes c =
    let (p, is) = c.requires.course in
    subst AreNodes (sym c.last_nodes.ensures)
    (nodes_are c.args.station.now p c.args.first c.args.count c.args.course.now is
    (length c.args.course.now.turns.items) (omega (arith, is.counted)))

pub values_on-requires-clause-sized : goal.values_on-requires-clause-sized
values_on-requires-clause-sized c =
    let (p, is) = c.requires.course in
    sized_like c.args.station.now c.switch_count.ensures.station p c.args.first c.args.count c.args.course.now
    c.args.pattern.now is c.requires.like c.requires.pattern c.last_nodes.result.now c.deref.result.now
    c.last_nodes.ensures c.deref.ensures.value

pub steps_from-requires : goal.steps_from-requires
steps_from-requires c =
    let (p, is) = c.requires.course in
    switch_room c.args.station.now c.switch_count.ensures.station p c.args.first c.args.count c.args.course.now
    c.args.pattern.now is c.requires.like c.requires.pattern c.deref-3.result.now c.deref-3.ensures.value

pub invariant_of-result : goal.invariant_of-result
invariant_of-result c =
    let (p, is) = c.requires.course in
    let en : c.last_nodes.result.now ≡ nodes_after c.args.course.now c.args.count = c.last_nodes.ensures ∙ ap
    (nodes_after c.args.course.now) is.counted in
    let el : c.in_ok-values_on.field-0.items ≡ map (renamed
    (nodes_after c.args.course.now c.args.count)) c.args.pattern.now.values.items = c.in_ok-values_on.ensures
    ∙ (ap (λ l. map (renamed l) c.deref.result.now) en ∙ ap (λ (l : List Answers). map (renamed
    (nodes_after c.args.course.now c.args.count)) l) c.deref.ensures.value) in
    let ee : c.in_ok-from_slice.field-0.items ≡ c.args.pattern.now.examples.items = c.in_ok-from_slice.ensures.items
    ∙ c.deref-2.ensures.value in
    let ef : c.in_ok-steps_from.field-0.items ≡ map (shifted c.args.first) c.args.pattern.now.forks.items =
    c.in_ok-steps_from.ensures ∙ ap (λ (l : List Fork). map (shifted c.args.first) l) c.deref-3.ensures.value in
    shaped_like c.args.station.now c.switch_count.ensures.station p c.args.first c.args.count c.args.course.now
    c.args.pattern.now is c.requires.like c.requires.pattern c.switch_count.result
    c.in_ok-values_on.field-0.items c.in_ok-from_slice.field-0.items c.in_ok-steps_from.field-0.items
    c.switch_count.ensures.count el ee ef

pub returns-clause-built : goal.returns-clause-built
returns-clause-built c = λ p is.
    let en : c.last_nodes.result.now ≡ nodes_after c.args.course.now c.args.count = c.last_nodes.ensures ∙ ap
    (nodes_after c.args.course.now) is.counted in
    let el : c.in_ok-values_on.field-0.items ≡ map (renamed
    (nodes_after c.args.course.now c.args.count)) c.args.pattern.now.values.items = c.in_ok-values_on.ensures
    ∙ (ap (λ l. map (renamed l) c.deref.result.now) en ∙ ap (λ (l : List Answers). map (renamed
    (nodes_after c.args.course.now c.args.count)) l) c.deref.ensures.value) in
    let ee : c.in_ok-from_slice.field-0.items ≡ c.args.pattern.now.examples.items = c.in_ok-from_slice.ensures.items
    ∙ c.deref-2.ensures.value in
    let ef : c.in_ok-steps_from.field-0.items ≡ map (shifted c.args.first) c.args.pattern.now.forks.items =
    c.in_ok-steps_from.ensures ∙ ap (λ (l : List Fork). map (shifted c.args.first) l) c.deref-3.ensures.value in
    record {
      switches = c.switch_count.ensures.count;
      built = built_like c.args.station.now c.switch_count.ensures.station p c.args.first c.args.count
          c.args.course.now c.args.pattern.now is c.requires.like c.requires.pattern c.switch_count.result
          c.in_ok-values_on.field-0.items c.in_ok-from_slice.field-0.items c.in_ok-steps_from.field-0.items
          c.switch_count.ensures.count el ee ef;
    }

pub returns-clause-steps : goal.returns-clause-steps
returns-clause-steps c = λ p is.
    let en : c.last_nodes.result.now ≡ nodes_after c.args.course.now c.args.count = c.last_nodes.ensures ∙ ap
    (nodes_after c.args.course.now) is.counted in
    let el : c.in_ok-values_on.field-0.items ≡ map (renamed
    (nodes_after c.args.course.now c.args.count)) c.args.pattern.now.values.items = c.in_ok-values_on.ensures
    ∙ (ap (λ l. map (renamed l) c.deref.result.now) en ∙ ap (λ (l : List Answers). map (renamed
    (nodes_after c.args.course.now c.args.count)) l) c.deref.ensures.value) in
    let ee : c.in_ok-from_slice.field-0.items ≡ c.args.pattern.now.examples.items = c.in_ok-from_slice.ensures.items
    ∙ c.deref-2.ensures.value in
    let ef : c.in_ok-steps_from.field-0.items ≡ map (shifted c.args.first) c.args.pattern.now.forks.items =
    c.in_ok-steps_from.ensures ∙ ap (λ (l : List Fork). map (shifted c.args.first) l) c.deref-3.ensures.value in
    steps_like c.args.station.now c.switch_count.ensures.station p c.args.first c.args.count c.args.course.now
    c.args.pattern.now is c.requires.like c.requires.pattern c.switch_count.result
    c.in_ok-values_on.field-0.items c.in_ok-from_slice.field-0.items c.in_ok-steps_from.field-0.items
    c.switch_count.ensures.count el ee ef
