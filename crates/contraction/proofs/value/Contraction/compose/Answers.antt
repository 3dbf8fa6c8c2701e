use Rattle.std.proofs.Common.{◌≤◌, ◌++◌, ℕ, List, length, arith, subst}
use Rattle.station_graph.specs.declared.limits.TheConstants.{NODES}
use Rattle.contraction.specs.Answers.{Answers}
use Rattle.contraction.specs.Stands.{Among}
use Rattle.contraction.specs.Composing.{Composes}
use Rattle.contraction.specs.Inside.{answers_of}
use Rattle.contraction.proofs.MergeLemmas.{merged_few, first_fits, second_fits}
use Rattle.contraction.proofs.ItemSets.{Either, gap_over, load_over, among_both}
use Rattle.contraction.proofs.StandsLemmas.{composes_gap, composes_load}
use Rattle.contraction.proofs.ComposedLemmas.{Made, steps_made, composed, composed_well}
use Rattle.contraction.proofs.value.Contraction.compose.Goals as goal

pub of_both-requires-clause-few : goal.of_both-requires-clause-few
of_both-requires-clause-few c =
    let u = c.in_ok-union.union in
    merged_few c.nodes.result.now c.self.inside.kept c.nodes-2.result.now c.other.inside.kept u.kept.items
    u.first.items u.second.items c.nodes.ensures c.nodes-2.ensures c.self.invariant.nodes
    c.other.invariant.nodes c.in_ok-union.ensures

pub of_both-requires-2-clause-few : goal.of_both-requires-2-clause-few
of_both-requires-2-clause-few c =
    let u = c.in_ok-union.union in
    merged_few c.nodes.result.now c.self.inside.kept c.nodes-2.result.now c.other.inside.kept u.kept.items
    u.first.items u.second.items c.nodes.ensures c.nodes-2.ensures c.self.invariant.nodes
    c.other.invariant.nodes c.in_ok-union.ensures

pub overflow_cast-len : goal.overflow_cast-len
overflow_cast-len c =
    let u = c.in_ok-union.union in
    let few : length u.kept.items ≤ NODES =
    merged_few c.nodes.result.now c.self.inside.kept c.nodes-2.result.now c.other.inside.kept u.kept.items
    u.first.items u.second.items c.nodes.ensures c.nodes-2.ensures c.self.invariant.nodes
    c.other.invariant.nodes c.in_ok-union.ensures in
    omega (arith, c.len.ensures)

pub bonds_of_both-requires-clause-first : goal.bonds_of_both-requires-clause-first
bonds_of_both-requires-clause-first c =
    let x = c.self.inside in
    let u = c.in_ok-union.union in
    first_fits c.nodes.result.now x.kept c.nodes-2.result.now u.kept.items u.first.items u.second.items x.bonded
    c.deref.result.now c.numbers.result.now c.len.result c.in_ok-union.ensures c.nodes.ensures
    c.self.invariant.bonded c.deref.ensures.value c.numbers.ensures (omega arith)

pub bonds_of_both-requires-clause-second : goal.bonds_of_both-requires-clause-second
bonds_of_both-requires-clause-second c =
    let y = c.other.inside in
    let u = c.in_ok-union.union in
    second_fits c.nodes.result.now c.nodes-2.result.now y.kept u.kept.items u.first.items u.second.items y.bonded
    c.deref-2.result.now c.numbers-2.result.now c.len.result c.in_ok-union.ensures c.nodes-2.ensures
    c.other.invariant.bonded c.deref-2.ensures.value c.numbers-2.ensures (omega arith)

pub invariant_of-result : goal.invariant_of-result
invariant_of-result c =
    let x = c.self.inside in
    let y = c.other.inside in
    let u = c.in_ok-union.union in
    let gap = c.in_ok-gap.gap in
    let load = c.in_ok-load.load in
    let bonded : List ℕ = c.in_ok-bonded.bonded in
    let kept : List ℕ = c.in_ok-kept.kept in
    let z : Answers = answers_of (record { kept = kept; gap = gap; load = load; bonded = bonded }) in
    let made : Made x y u kept gap load bonded c.nodes.result.now c.nodes-2.result.now c.deref.result.now
    c.numbers.result.now c.deref-2.result.now c.numbers-2.result.now c.len.result = record {
      first_kept = c.nodes.ensures;
      second_kept = c.nodes-2.ensures;
      merged = c.in_ok-union.ensures;
      kept_is = c.in_ok-kept.ensures;
      gap_row = c.in_ok-gap.ensures;
      load_row = c.in_ok-load.ensures;
      first_places = c.deref.ensures.value;
      first_labels = c.numbers.ensures;
      second_places = c.deref-2.ensures.value;
      second_labels = c.numbers-2.ensures;
      counted = omega arith;
      bonded_row = c.in_ok-bonded.ensures;
    } in
    let steps = steps_made x y u kept gap load bonded c.nodes.result.now c.nodes-2.result.now c.deref.result.now
    c.numbers.result.now c.deref-2.result.now c.numbers-2.result.now c.len.result made in
    composed_well (answers_of x) (answers_of y) z u.first.items u.second.items c.self.invariant c.other.invariant steps

pub returns-clause-contraction : goal.returns-clause-contraction
returns-clause-contraction c =
    let x = c.self.inside in
    let y = c.other.inside in
    let u = c.in_ok-union.union in
    let gap = c.in_ok-gap.gap in
    let load = c.in_ok-load.load in
    let bonded : List ℕ = c.in_ok-bonded.bonded in
    let kept : List ℕ = c.in_ok-kept.kept in
    let z : Answers = answers_of (record { kept = kept; gap = gap; load = load; bonded = bonded }) in
    let made : Made x y u kept gap load bonded c.nodes.result.now c.nodes-2.result.now c.deref.result.now
    c.numbers.result.now c.deref-2.result.now c.numbers-2.result.now c.len.result = record {
      first_kept = c.nodes.ensures;
      second_kept = c.nodes-2.ensures;
      merged = c.in_ok-union.ensures;
      kept_is = c.in_ok-kept.ensures;
      gap_row = c.in_ok-gap.ensures;
      load_row = c.in_ok-load.ensures;
      first_places = c.deref.ensures.value;
      first_labels = c.numbers.ensures;
      second_places = c.deref-2.ensures.value;
      second_labels = c.numbers-2.ensures;
      counted = omega arith;
      bonded_row = c.in_ok-bonded.ensures;
    } in
    let steps = steps_made x y u kept gap load bonded c.nodes.result.now c.nodes-2.result.now c.deref.result.now
    c.numbers.result.now c.deref-2.result.now c.numbers-2.result.now c.len.result made in
    composed_well (answers_of x) (answers_of y) z u.first.items u.second.items c.self.invariant c.other.invariant steps

pub returns-clause-composes : goal.returns-clause-composes
returns-clause-composes c =
    let x = c.self.inside in
    let y = c.other.inside in
    let u = c.in_ok-union.union in
    let gap = c.in_ok-gap.gap in
    let load = c.in_ok-load.load in
    let bonded : List ℕ = c.in_ok-bonded.bonded in
    let kept : List ℕ = c.in_ok-kept.kept in
    let z : Answers = answers_of (record { kept = kept; gap = gap; load = load; bonded = bonded }) in
    let made : Made x y u kept gap load bonded c.nodes.result.now c.nodes-2.result.now c.deref.result.now
    c.numbers.result.now c.deref-2.result.now c.numbers-2.result.now c.len.result = record {
      first_kept = c.nodes.ensures;
      second_kept = c.nodes-2.ensures;
      merged = c.in_ok-union.ensures;
      kept_is = c.in_ok-kept.ensures;
      gap_row = c.in_ok-gap.ensures;
      load_row = c.in_ok-load.ensures;
      first_places = c.deref.ensures.value;
      first_labels = c.numbers.ensures;
      second_places = c.deref-2.ensures.value;
      second_labels = c.numbers-2.ensures;
      counted = omega arith;
      bonded_row = c.in_ok-bonded.ensures;
    } in
    let steps = steps_made x y u kept gap load bonded c.nodes.result.now c.nodes-2.result.now c.deref.result.now
    c.numbers.result.now c.deref-2.result.now c.numbers-2.result.now c.len.result made in
    let composes : Composes c.args.self.now c.args.other.now z =
    subst (λ s. Composes s c.args.other.now z) c.self.view_is
    (subst (λ s. Composes (answers_of x) s z) c.other.view_is
    (composed (answers_of x) (answers_of y) z u.first.items u.second.items c.self.invariant c.other.invariant steps)) in
    composes

pub returns-clause-gap : goal.returns-clause-gap
returns-clause-gap c =
    let x = c.self.inside in
    let y = c.other.inside in
    let u = c.in_ok-union.union in
    let gap = c.in_ok-gap.gap in
    let load = c.in_ok-load.load in
    let bonded : List ℕ = c.in_ok-bonded.bonded in
    let kept : List ℕ = c.in_ok-kept.kept in
    let z : Answers = answers_of (record { kept = kept; gap = gap; load = load; bonded = bonded }) in
    let made : Made x y u kept gap load bonded c.nodes.result.now c.nodes-2.result.now c.deref.result.now
    c.numbers.result.now c.deref-2.result.now c.numbers-2.result.now c.len.result = record {
      first_kept = c.nodes.ensures;
      second_kept = c.nodes-2.ensures;
      merged = c.in_ok-union.ensures;
      kept_is = c.in_ok-kept.ensures;
      gap_row = c.in_ok-gap.ensures;
      load_row = c.in_ok-load.ensures;
      first_places = c.deref.ensures.value;
      first_labels = c.numbers.ensures;
      second_places = c.deref-2.ensures.value;
      second_labels = c.numbers-2.ensures;
      counted = omega arith;
      bonded_row = c.in_ok-bonded.ensures;
    } in
    let steps = steps_made x y u kept gap load bonded c.nodes.result.now c.nodes-2.result.now c.deref.result.now
    c.numbers.result.now c.deref-2.result.now c.numbers-2.result.now c.len.result made in
    let composes : Composes c.args.self.now c.args.other.now z =
    subst (λ s. Composes s c.args.other.now z) c.self.view_is
    (subst (λ s. Composes (answers_of x) s z) c.other.view_is
    (composed (answers_of x) (answers_of y) z u.first.items u.second.items c.self.invariant c.other.invariant steps)) in
    λ items others d v meets sx sy. gap_over (Either (Among items) (Among others)) (Among (items ++ others)) d v z
    (λ item has. among_both items others item)
    (composes_gap (Among items) (Among others) d v c.args.self.now c.args.other.now z meets composes sx sy)

pub returns-clause-load : goal.returns-clause-load
returns-clause-load c =
    let x = c.self.inside in
    let y = c.other.inside in
    let u = c.in_ok-union.union in
    let gap = c.in_ok-gap.gap in
    let load = c.in_ok-load.load in
    let bonded : List ℕ = c.in_ok-bonded.bonded in
    let kept : List ℕ = c.in_ok-kept.kept in
    let z : Answers = answers_of (record { kept = kept; gap = gap; load = load; bonded = bonded }) in
    let made : Made x y u kept gap load bonded c.nodes.result.now c.nodes-2.result.now c.deref.result.now
    c.numbers.result.now c.deref-2.result.now c.numbers-2.result.now c.len.result = record {
      first_kept = c.nodes.ensures;
      second_kept = c.nodes-2.ensures;
      merged = c.in_ok-union.ensures;
      kept_is = c.in_ok-kept.ensures;
      gap_row = c.in_ok-gap.ensures;
      load_row = c.in_ok-load.ensures;
      first_places = c.deref.ensures.value;
      first_labels = c.numbers.ensures;
      second_places = c.deref-2.ensures.value;
      second_labels = c.numbers-2.ensures;
      counted = omega arith;
      bonded_row = c.in_ok-bonded.ensures;
    } in
    let steps = steps_made x y u kept gap load bonded c.nodes.result.now c.nodes-2.result.now c.deref.result.now
    c.numbers.result.now c.deref-2.result.now c.numbers-2.result.now c.len.result made in
    let composes : Composes c.args.self.now c.args.other.now z =
    subst (λ s. Composes s c.args.other.now z) c.self.view_is
    (subst (λ s. Composes (answers_of x) s z) c.other.view_is
    (composed (answers_of x) (answers_of y) z u.first.items u.second.items c.self.invariant c.other.invariant steps)) in
    λ items others d v meets sx sy. load_over (Either (Among items) (Among others)) (Among (items ++ others)) d v z
    (λ item has. among_both items others item)
    (composes_load (Among items) (Among others) d v c.args.self.now c.args.other.now z meets composes sx sy)
