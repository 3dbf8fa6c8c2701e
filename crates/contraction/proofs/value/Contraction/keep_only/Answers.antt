use Rattle.std.proofs.Common.{ℕ, List, subst, sym}
use Rattle.contraction.specs.Answers.{Answers, AreNodes, Keeps}
use Rattle.contraction.specs.Stands.{Among}
use Rattle.contraction.specs.Composing.{Restricts}
use Rattle.contraction.specs.Inside.{answers_of}
use Rattle.contraction.specs.Restricting.{Picks}
use Rattle.contraction.proofs.MergeLemmas.{few_nodes}
use Rattle.contraction.proofs.KeepLemmas.{restricts_gap, restricts_load}
use Rattle.contraction.proofs.RestrictLemmas.{Kept, RestrictSteps, steps_kept, few_places, restricted, restricted_kept}
use Rattle.contraction.proofs.RestrictLemmas.{restricted_well}
use Rattle.contraction.proofs.RisingLemmas.{kept_is}
use Rattle.contraction.proofs.value.Contraction.keep_only.Goals as goal

pub places_of-requires : goal.places_of-requires
places_of-requires c =
    let nodes : AreNodes c.nodes-all.result.now = subst AreNodes (sym c.nodes-all.ensures) c.self.invariant.nodes in
    record { few = few_nodes c.nodes-all.result.now nodes; small = nodes.small }

pub at-requires-clause-few : goal.at-requires-clause-few
at-requires-clause-few c =
    few_places c.args.nodes.now c.numbers.result.now c.self.inside.kept c.nodes-all.result.now
    c.in_ok-places.places.items c.deref-2.result.now c.deref-2.ensures.value c.nodes-all.ensures
    c.self.invariant.nodes c.in_ok-places.ensures

pub at-requires-2-clause-few : goal.at-requires-2-clause-few
at-requires-2-clause-few c =
    few_places c.args.nodes.now c.numbers.result.now c.self.inside.kept c.nodes-all.result.now
    c.in_ok-places.places.items c.deref-3.result.now c.deref-3.ensures.value c.nodes-all.ensures
    c.self.invariant.nodes c.in_ok-places.ensures

pub bonds_at-requires-clause-few : goal.bonds_at-requires-clause-few
bonds_at-requires-clause-few c =
    few_places c.args.nodes.now c.numbers.result.now c.self.inside.kept c.nodes-all.result.now
    c.in_ok-places.places.items c.deref-4.result.now c.deref-4.ensures.value c.nodes-all.ensures
    c.self.invariant.nodes c.in_ok-places.ensures

pub invariant_of-result : goal.invariant_of-result
invariant_of-result c =
    let x = c.self.inside in
    let places : List ℕ = c.in_ok-places.places.items in
    let kept : List ℕ = c.in_ok-new.field-0 in
    let gap = c.in_ok-at.field-0 in
    let load = c.in_ok-at-2.field-0 in
    let bonded : List ℕ = c.in_ok-bonds_at.field-0 in
    let z : Answers = record {
      kept = kept;
      coupled = gap.labels;
      joined = load.labels;
      bonded = bonded;
      energisable = gap.first.items;
      earthable = gap.second.items;
      fed = load.first.items;
      loaded = load.second.items;
    } in
    let made : Kept c.args.nodes.now x places kept gap load bonded c.numbers.result.now c.nodes-all.result.now
    c.nodes-all.result.now c.deref.result.now c.deref-2.result.now c.deref-3.result.now c.numbers-2.result.now
    c.deref-4.result.now = record {
      names = c.numbers.ensures;
      kept_seen = c.nodes-all.ensures;
      places_of = c.in_ok-places.ensures;
      all_seen = c.nodes-all.ensures;
      places1 = c.deref.ensures.value;
      picks =
          subst (Picks c.nodes-all.result.now c.deref.result.now) (sym c.in_ok-new.ensures) c.in_ok-picked.ensures;
      places2 = c.deref-2.ensures.value;
      gap_row = c.in_ok-at.ensures;
      places3 = c.deref-3.ensures.value;
      load_row = c.in_ok-at-2.ensures;
      bonded_seen = c.numbers-2.ensures;
      places4 = c.deref-4.ensures.value;
      bonded_row = c.in_ok-bonds_at.ensures;
    } in
    let steps : RestrictSteps c.args.nodes.now (answers_of x) z places =
    steps_kept c.args.nodes.now x places kept gap load bonded c.numbers.result.now c.nodes-all.result.now
    c.nodes-all.result.now c.deref.result.now c.deref-2.result.now c.deref-3.result.now c.numbers-2.result.now
    c.deref-4.result.now made in
    restricted_well c.args.nodes.now (answers_of x) z places c.self.invariant steps

pub returns-clause-contraction : goal.returns-clause-contraction
returns-clause-contraction c =
    let x = c.self.inside in
    let places : List ℕ = c.in_ok-places.places.items in
    let kept : List ℕ = c.in_ok-new.field-0 in
    let gap = c.in_ok-at.field-0 in
    let load = c.in_ok-at-2.field-0 in
    let bonded : List ℕ = c.in_ok-bonds_at.field-0 in
    let z : Answers = record {
      kept = kept;
      coupled = gap.labels;
      joined = load.labels;
      bonded = bonded;
      energisable = gap.first.items;
      earthable = gap.second.items;
      fed = load.first.items;
      loaded = load.second.items;
    } in
    let made : Kept c.args.nodes.now x places kept gap load bonded c.numbers.result.now c.nodes-all.result.now
    c.nodes-all.result.now c.deref.result.now c.deref-2.result.now c.deref-3.result.now c.numbers-2.result.now
    c.deref-4.result.now = record {
      names = c.numbers.ensures;
      kept_seen = c.nodes-all.ensures;
      places_of = c.in_ok-places.ensures;
      all_seen = c.nodes-all.ensures;
      places1 = c.deref.ensures.value;
      picks =
          subst (Picks c.nodes-all.result.now c.deref.result.now) (sym c.in_ok-new.ensures) c.in_ok-picked.ensures;
      places2 = c.deref-2.ensures.value;
      gap_row = c.in_ok-at.ensures;
      places3 = c.deref-3.ensures.value;
      load_row = c.in_ok-at-2.ensures;
      bonded_seen = c.numbers-2.ensures;
      places4 = c.deref-4.ensures.value;
      bonded_row = c.in_ok-bonds_at.ensures;
    } in
    let steps : RestrictSteps c.args.nodes.now (answers_of x) z places =
    steps_kept c.args.nodes.now x places kept gap load bonded c.numbers.result.now c.nodes-all.result.now
    c.nodes-all.result.now c.deref.result.now c.deref-2.result.now c.deref-3.result.now c.numbers-2.result.now
    c.deref-4.result.now made in
    restricted_well c.args.nodes.now (answers_of x) z places c.self.invariant steps

pub returns-clause-kept : goal.returns-clause-kept
returns-clause-kept c =
    let x = c.self.inside in
    let places : List ℕ = c.in_ok-places.places.items in
    let kept : List ℕ = c.in_ok-new.field-0 in
    let gap = c.in_ok-at.field-0 in
    let load = c.in_ok-at-2.field-0 in
    let bonded : List ℕ = c.in_ok-bonds_at.field-0 in
    let z : Answers = record {
      kept = kept;
      coupled = gap.labels;
      joined = load.labels;
      bonded = bonded;
      energisable = gap.first.items;
      earthable = gap.second.items;
      fed = load.first.items;
      loaded = load.second.items;
    } in
    let made : Kept c.args.nodes.now x places kept gap load bonded c.numbers.result.now c.nodes-all.result.now
    c.nodes-all.result.now c.deref.result.now c.deref-2.result.now c.deref-3.result.now c.numbers-2.result.now
    c.deref-4.result.now = record {
      names = c.numbers.ensures;
      kept_seen = c.nodes-all.ensures;
      places_of = c.in_ok-places.ensures;
      all_seen = c.nodes-all.ensures;
      places1 = c.deref.ensures.value;
      picks =
          subst (Picks c.nodes-all.result.now c.deref.result.now) (sym c.in_ok-new.ensures) c.in_ok-picked.ensures;
      places2 = c.deref-2.ensures.value;
      gap_row = c.in_ok-at.ensures;
      places3 = c.deref-3.ensures.value;
      load_row = c.in_ok-at-2.ensures;
      bonded_seen = c.numbers-2.ensures;
      places4 = c.deref-4.ensures.value;
      bonded_row = c.in_ok-bonds_at.ensures;
    } in
    let steps : RestrictSteps c.args.nodes.now (answers_of x) z places =
    steps_kept c.args.nodes.now x places kept gap load bonded c.numbers.result.now c.nodes-all.result.now
    c.nodes-all.result.now c.deref.result.now c.deref-2.result.now c.deref-3.result.now c.numbers-2.result.now
    c.deref-4.result.now made in
    restricted_kept c.args.nodes.now (answers_of x) z places c.self.invariant steps
    (λ n has. subst (λ (s : Answers). Keeps s.kept n) (sym c.self.view_is) (c.requires n has))

pub returns-clause-list : goal.returns-clause-list
returns-clause-list c =
    let x = c.self.inside in
    let places : List ℕ = c.in_ok-places.places.items in
    let kept : List ℕ = c.in_ok-new.field-0 in
    let gap = c.in_ok-at.field-0 in
    let load = c.in_ok-at-2.field-0 in
    let bonded : List ℕ = c.in_ok-bonds_at.field-0 in
    let z : Answers = record {
      kept = kept;
      coupled = gap.labels;
      joined = load.labels;
      bonded = bonded;
      energisable = gap.first.items;
      earthable = gap.second.items;
      fed = load.first.items;
      loaded = load.second.items;
    } in
    let made : Kept c.args.nodes.now x places kept gap load bonded c.numbers.result.now c.nodes-all.result.now
    c.nodes-all.result.now c.deref.result.now c.deref-2.result.now c.deref-3.result.now c.numbers-2.result.now
    c.deref-4.result.now = record {
      names = c.numbers.ensures;
      kept_seen = c.nodes-all.ensures;
      places_of = c.in_ok-places.ensures;
      all_seen = c.nodes-all.ensures;
      places1 = c.deref.ensures.value;
      picks =
          subst (Picks c.nodes-all.result.now c.deref.result.now) (sym c.in_ok-new.ensures) c.in_ok-picked.ensures;
      places2 = c.deref-2.ensures.value;
      gap_row = c.in_ok-at.ensures;
      places3 = c.deref-3.ensures.value;
      load_row = c.in_ok-at-2.ensures;
      bonded_seen = c.numbers-2.ensures;
      places4 = c.deref-4.ensures.value;
      bonded_row = c.in_ok-bonds_at.ensures;
    } in
    let steps : RestrictSteps c.args.nodes.now (answers_of x) z places =
    steps_kept c.args.nodes.now x places kept gap load bonded c.numbers.result.now c.nodes-all.result.now
    c.nodes-all.result.now c.deref.result.now c.deref-2.result.now c.deref-3.result.now c.numbers-2.result.now
    c.deref-4.result.now made in
    kept_is c.args.nodes.now z
    (restricted_well c.args.nodes.now (answers_of x) z places c.self.invariant steps)
    (restricted_kept c.args.nodes.now (answers_of x) z places c.self.invariant steps
    (λ n has. subst (λ (s : Answers). Keeps s.kept n) (sym c.self.view_is) (c.requires n has)))

pub returns-clause-restricts : goal.returns-clause-restricts
returns-clause-restricts c =
    let x = c.self.inside in
    let places : List ℕ = c.in_ok-places.places.items in
    let kept : List ℕ = c.in_ok-new.field-0 in
    let gap = c.in_ok-at.field-0 in
    let load = c.in_ok-at-2.field-0 in
    let bonded : List ℕ = c.in_ok-bonds_at.field-0 in
    let z : Answers = record {
      kept = kept;
      coupled = gap.labels;
      joined = load.labels;
      bonded = bonded;
      energisable = gap.first.items;
      earthable = gap.second.items;
      fed = load.first.items;
      loaded = load.second.items;
    } in
    let made : Kept c.args.nodes.now x places kept gap load bonded c.numbers.result.now c.nodes-all.result.now
    c.nodes-all.result.now c.deref.result.now c.deref-2.result.now c.deref-3.result.now c.numbers-2.result.now
    c.deref-4.result.now = record {
      names = c.numbers.ensures;
      kept_seen = c.nodes-all.ensures;
      places_of = c.in_ok-places.ensures;
      all_seen = c.nodes-all.ensures;
      places1 = c.deref.ensures.value;
      picks =
          subst (Picks c.nodes-all.result.now c.deref.result.now) (sym c.in_ok-new.ensures) c.in_ok-picked.ensures;
      places2 = c.deref-2.ensures.value;
      gap_row = c.in_ok-at.ensures;
      places3 = c.deref-3.ensures.value;
      load_row = c.in_ok-at-2.ensures;
      bonded_seen = c.numbers-2.ensures;
      places4 = c.deref-4.ensures.value;
      bonded_row = c.in_ok-bonds_at.ensures;
    } in
    let steps : RestrictSteps c.args.nodes.now (answers_of x) z places =
    steps_kept c.args.nodes.now x places kept gap load bonded c.numbers.result.now c.nodes-all.result.now
    c.nodes-all.result.now c.deref.result.now c.deref-2.result.now c.deref-3.result.now c.numbers-2.result.now
    c.deref-4.result.now made in
    let restricts : Restricts c.args.self.now z =
    subst (λ (s : Answers). Restricts s z) c.self.view_is
    (restricted c.args.nodes.now (answers_of x) z places c.self.invariant steps) in
    restricts

pub returns-clause-gap : goal.returns-clause-gap
returns-clause-gap c =
    let x = c.self.inside in
    let places : List ℕ = c.in_ok-places.places.items in
    let kept : List ℕ = c.in_ok-new.field-0 in
    let gap = c.in_ok-at.field-0 in
    let load = c.in_ok-at-2.field-0 in
    let bonded : List ℕ = c.in_ok-bonds_at.field-0 in
    let z : Answers = record {
      kept = kept;
      coupled = gap.labels;
      joined = load.labels;
      bonded = bonded;
      energisable = gap.first.items;
      earthable = gap.second.items;
      fed = load.first.items;
      loaded = load.second.items;
    } in
    let made : Kept c.args.nodes.now x places kept gap load bonded c.numbers.result.now c.nodes-all.result.now
    c.nodes-all.result.now c.deref.result.now c.deref-2.result.now c.deref-3.result.now c.numbers-2.result.now
    c.deref-4.result.now = record {
      names = c.numbers.ensures;
      kept_seen = c.nodes-all.ensures;
      places_of = c.in_ok-places.ensures;
      all_seen = c.nodes-all.ensures;
      places1 = c.deref.ensures.value;
      picks =
          subst (Picks c.nodes-all.result.now c.deref.result.now) (sym c.in_ok-new.ensures) c.in_ok-picked.ensures;
      places2 = c.deref-2.ensures.value;
      gap_row = c.in_ok-at.ensures;
      places3 = c.deref-3.ensures.value;
      load_row = c.in_ok-at-2.ensures;
      bonded_seen = c.numbers-2.ensures;
      places4 = c.deref-4.ensures.value;
      bonded_row = c.in_ok-bonds_at.ensures;
    } in
    let steps : RestrictSteps c.args.nodes.now (answers_of x) z places =
    steps_kept c.args.nodes.now x places kept gap load bonded c.numbers.result.now c.nodes-all.result.now
    c.nodes-all.result.now c.deref.result.now c.deref-2.result.now c.deref-3.result.now c.numbers-2.result.now
    c.deref-4.result.now made in
    let restricts : Restricts c.args.self.now z =
    subst (λ (s : Answers). Restricts s z) c.self.view_is
    (restricted c.args.nodes.now (answers_of x) z places c.self.invariant steps) in
    λ items d v s. restricts_gap (Among items) d v c.args.self.now z restricts s

pub returns-clause-load : goal.returns-clause-load
returns-clause-load c =
    let x = c.self.inside in
    let places : List ℕ = c.in_ok-places.places.items in
    let kept : List ℕ = c.in_ok-new.field-0 in
    let gap = c.in_ok-at.field-0 in
    let load = c.in_ok-at-2.field-0 in
    let bonded : List ℕ = c.in_ok-bonds_at.field-0 in
    let z : Answers = record {
      kept = kept;
      coupled = gap.labels;
      joined = load.labels;
      bonded = bonded;
      energisable = gap.first.items;
      earthable = gap.second.items;
      fed = load.first.items;
      loaded = load.second.items;
    } in
    let made : Kept c.args.nodes.now x places kept gap load bonded c.numbers.result.now c.nodes-all.result.now
    c.nodes-all.result.now c.deref.result.now c.deref-2.result.now c.deref-3.result.now c.numbers-2.result.now
    c.deref-4.result.now = record {
      names = c.numbers.ensures;
      kept_seen = c.nodes-all.ensures;
      places_of = c.in_ok-places.ensures;
      all_seen = c.nodes-all.ensures;
      places1 = c.deref.ensures.value;
      picks =
          subst (Picks c.nodes-all.result.now c.deref.result.now) (sym c.in_ok-new.ensures) c.in_ok-picked.ensures;
      places2 = c.deref-2.ensures.value;
      gap_row = c.in_ok-at.ensures;
      places3 = c.deref-3.ensures.value;
      load_row = c.in_ok-at-2.ensures;
      bonded_seen = c.numbers-2.ensures;
      places4 = c.deref-4.ensures.value;
      bonded_row = c.in_ok-bonds_at.ensures;
    } in
    let steps : RestrictSteps c.args.nodes.now (answers_of x) z places =
    steps_kept c.args.nodes.now x places kept gap load bonded c.numbers.result.now c.nodes-all.result.now
    c.nodes-all.result.now c.deref.result.now c.deref-2.result.now c.deref-3.result.now c.numbers-2.result.now
    c.deref-4.result.now made in
    let restricts : Restricts c.args.self.now z =
    subst (λ (s : Answers). Restricts s z) c.self.view_is
    (restricted c.args.nodes.now (answers_of x) z places c.self.invariant steps) in
    λ items d v s. restricts_load (Among items) d v c.args.self.now z restricts s
