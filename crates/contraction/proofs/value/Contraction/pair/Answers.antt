use Rattle.std.proofs.Common.{◌≡◌, min, max, arith, subst}
use Rattle.contraction.specs.Answers.{Answers, IsContraction}
use Rattle.contraction.specs.Single.{IsPair}
use Rattle.contraction.proofs.PairLemmas.{pair_answers, pair_is, pair_well}
use Rattle.contraction.proofs.value.Contraction.pair.Goals as goal

pub invariant_of-result : goal.invariant_of-result
invariant_of-result c =
    let g = c.in_ok-of_two.field-0 in
    let l = c.in_ok-of_two-2.field-0 in
    let z : Answers = record {
      kept = c.in_ok-rising.field-0;
      coupled = g.labels;
      joined = l.labels;
      bonded = c.in_ok-bonds_of_two.field-0;
      energisable = g.first.items;
      earthable = g.second.items;
      fed = l.first.items;
      loaded = l.second.items;
    } in
    let same : pair_answers (min c.args.a c.args.b) (max c.args.a c.args.b) c.args.coupled c.args.joined c.args.bonded
    ≡ z =
    cc (
      c.in_ok-rising.ensures,
      c.in_ok-of_two.ensures.labels,
      c.in_ok-of_two.ensures.first,
      c.in_ok-of_two.ensures.second,
      c.in_ok-of_two-2.ensures.labels,
      c.in_ok-of_two-2.ensures.first,
      c.in_ok-of_two-2.ensures.second,
      c.in_ok-bonds_of_two.ensures,
    ) in
    subst IsContraction same (pair_well (min c.args.a c.args.b) (max c.args.a c.args.b) c.args.coupled c.args.joined
    c.args.bonded (let ne = c.requires.apart in omega arith)
    (let a_in = c.requires.first in let b_in = c.requires.second in omega arith))

pub returns-clause-contraction : goal.returns-clause-contraction
returns-clause-contraction c =
    let g = c.in_ok-of_two.field-0 in
    let l = c.in_ok-of_two-2.field-0 in
    let z : Answers = record {
      kept = c.in_ok-rising.field-0;
      coupled = g.labels;
      joined = l.labels;
      bonded = c.in_ok-bonds_of_two.field-0;
      energisable = g.first.items;
      earthable = g.second.items;
      fed = l.first.items;
      loaded = l.second.items;
    } in
    let same : pair_answers (min c.args.a c.args.b) (max c.args.a c.args.b) c.args.coupled c.args.joined c.args.bonded
    ≡ z =
    cc (
      c.in_ok-rising.ensures,
      c.in_ok-of_two.ensures.labels,
      c.in_ok-of_two.ensures.first,
      c.in_ok-of_two.ensures.second,
      c.in_ok-of_two-2.ensures.labels,
      c.in_ok-of_two-2.ensures.first,
      c.in_ok-of_two-2.ensures.second,
      c.in_ok-bonds_of_two.ensures,
    ) in
    subst IsContraction same (pair_well (min c.args.a c.args.b) (max c.args.a c.args.b) c.args.coupled c.args.joined
    c.args.bonded (let ne = c.requires.apart in omega arith)
    (let a_in = c.requires.first in let b_in = c.requires.second in omega arith))

pub returns-clause-pair : goal.returns-clause-pair
returns-clause-pair c =
    let g = c.in_ok-of_two.field-0 in
    let l = c.in_ok-of_two-2.field-0 in
    let z : Answers = record {
      kept = c.in_ok-rising.field-0;
      coupled = g.labels;
      joined = l.labels;
      bonded = c.in_ok-bonds_of_two.field-0;
      energisable = g.first.items;
      earthable = g.second.items;
      fed = l.first.items;
      loaded = l.second.items;
    } in
    let same : pair_answers (min c.args.a c.args.b) (max c.args.a c.args.b) c.args.coupled c.args.joined c.args.bonded
    ≡ z =
    cc (
      c.in_ok-rising.ensures,
      c.in_ok-of_two.ensures.labels,
      c.in_ok-of_two.ensures.first,
      c.in_ok-of_two.ensures.second,
      c.in_ok-of_two-2.ensures.labels,
      c.in_ok-of_two-2.ensures.first,
      c.in_ok-of_two-2.ensures.second,
      c.in_ok-bonds_of_two.ensures,
    ) in
    subst (IsPair c.args.a c.args.b c.args.coupled c.args.joined c.args.bonded) same
    (pair_is c.args.a c.args.b c.args.coupled c.args.joined c.args.bonded)
