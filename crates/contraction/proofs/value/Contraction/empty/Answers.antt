use Rattle.std.proofs.Common.{◌≡◌, ℕ, List, [], length, ap, arith, subst, sym}
use Rattle.contraction.specs.Answers.{Answers}
use Rattle.contraction.specs.Stands.{StandsFor, Among}
use Rattle.contraction.specs.Single.{IsBare, AreBare}
use Rattle.contraction.proofs.MergeLemmas.{few_nodes}
use Rattle.contraction.proofs.EmptyLemmas.{bare_answers, bare_stands}
use Rattle.contraction.proofs.value.Contraction.empty.Goals as goal

pub of-requires-2 : goal.of-requires-2
of-requires-2 c =
    omega (arith, few_nodes c.args.kept.now c.requires, ap length c.in_ok-list.ensures, ap length c.numbers.ensures)

pub returns-clause-stands : goal.returns-clause-stands
returns-clause-stands c =
    let kept : List ℕ = c.views.inside.kept in
    let l = c.views.inside.row in
    let b = c.views.inside.bonded in
    let g = c.in_ok-share.field-0 in
    let bare : AreBare (length kept) l b = c.views.invariant in
    let again : IsBare (length kept) g = subst (IsBare (length kept)) (sym c.in_ok-share.ensures) bare.bare in
    let z : Answers = record {
      kept = kept;
      coupled = g.labels;
      joined = l.labels;
      bonded = b;
      energisable = g.first.items;
      earthable = g.second.items;
      fed = l.first.items;
      loaded = l.second.items;
    } in
    let is : bare_answers kept g.labels l.labels b ≡ z =
    cc (again.first, again.second, bare.bare.first, bare.bare.second) in
    λ diagram v. subst (StandsFor (Among []) diagram v) is
    (bare_stands kept g.labels l.labels b again.labels bare.bare.labels bare.alone diagram v)
