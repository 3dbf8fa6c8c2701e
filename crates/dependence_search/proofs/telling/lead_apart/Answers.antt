use Rattle.std.proofs.Common.{◌≡◌, ◌<◌, ℕ, suc, List, length, sym, subst, add-one, arith}
use Rattle.dependence_search.specs.Parting.{LeadApart}
use Rattle.graph_products.proofs.ListLemmas.{size_in}
use Rattle.dependence_search.proofs.TellingLemmas.{apart_more}
use Rattle.dependence_search.proofs.telling.lead_apart.Goals as goal

pub choice_apart-choice-requires-clause-one : goal.choice_apart-choice-requires-clause-one
choice_apart-choice-requires-clause-one c =
    omega (
      arith,
      c.loop-j.invariant.one_in,
      size_in c.args.graph.now.labels c.args.graph.now.layers c.loop-j.j
          (omega (arith, c.loop-j-test.true, c.layers-layers.ensures.count)),
    )

pub choice_apart-choice-requires-clause-other : goal.choice_apart-choice-requires-clause-other
choice_apart-choice-requires-clause-other c =
    omega (
      arith,
      c.loop-j.invariant.other_in,
      size_in c.args.graph.now.labels c.args.graph.now.layers c.loop-j.j
          (omega (arith, c.loop-j-test.true, c.layers-layers.ensures.count)),
    )

pub next_place-one-requires-clause-node : goal.next_place-one-requires-clause-node
next_place-one-requires-clause-node c =
    omega (
      arith,
      c.loop-j.invariant.one_in,
      size_in c.args.graph.now.labels c.args.graph.now.layers c.loop-j.j
          (omega (arith, c.loop-j-test.true, c.layers-layers.ensures.count)),
    )

pub next_place-other-requires-clause-node : goal.next_place-other-requires-clause-node
next_place-other-requires-clause-node c =
    omega (
      arith,
      c.loop-j.invariant.other_in,
      size_in c.args.graph.now.labels c.args.graph.now.layers c.loop-j.j
          (omega (arith, c.loop-j-test.true, c.layers-layers.ensures.count)),
    )

pub loop-j-preserved : goal.loop-j-preserved
loop-j-preserved c =
    let g = c.args.graph.now in
    let j : ℕ = c.loop-j.j in
    let lt : j < length g.layers = omega (arith, c.loop-j-test.true, c.layers-layers.ensures.count) in
    let more = apart_more g c.args.layer j c.loop-j.choices.items c.loop-j.one c.loop-j.other
    c.choice_apart-choice.result c.next_place-one.result c.next_place-other.result c.labels-fits.ensures.layered
    (omega (arith, c.loop-j.auto.j)) lt (c.requires.twos.choices j lt) c.choice_apart-choice.ensures.small
    c.loop-j.invariant c.next_place-one.ensures c.next_place-other.ensures c.choice_apart-choice.ensures.apart in
    subst (λ (n : ℕ). LeadApart g c.args.layer n c.push.new.self.items c.next_place-one.result c.next_place-other.result)
    (sym (add-one j))
    (subst (λ (l : List ℕ). LeadApart g c.args.layer (suc j) l c.next_place-one.result c.next_place-other.result)
    (sym c.in_ok-push.ensures.items) more)

pub returns : goal.returns
returns c = (
  c.loop-j.one,
  (
    c.loop-j.other,
    let done : c.loop-j.j ≡ length c.args.graph.now.layers =
        omega (arith, c.loop-j-test.false, c.loop-j.auto.j-end, c.layers-layers.ensures.count, c.requires.layer) in
        subst (λ (n : ℕ). LeadApart c.args.graph.now c.args.layer n c.loop-j.choices.items c.loop-j.one c.loop-j.other) done
        c.loop-j.invariant,
  ),
)
