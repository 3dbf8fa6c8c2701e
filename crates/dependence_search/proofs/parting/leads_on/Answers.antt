use Rattle.std.proofs.Common.{◌≡◌, ◌<◌, ◌⊎◌, suc, false, get_or, inl, inr, ◌∙◌, sym, arith, length}
use Rattle.std.proofs.lemmas.Bool.{false≢true}
use Rattle.decision_graphs.specs.Label.{layer_at, step}
use Rattle.dependence_search.proofs.PartingLemmas.{next_in, marked_on}
use Rattle.dependence_search.proofs.parting.leads_on.Goals as goal

pub bounds-after-first : goal.bounds-after-first
bounds-after-first c =
    let two = c.requires.twos.choices c.args.layer (omega (arith, c.requires.layer)) in
    omega (
      arith,
      next_in c.args.graph.now c.args.layer c.args.node 0 c.labels-fits.ensures.layered c.requires.layer c.requires.node
          (omega (arith, two)),
      c.next_place-first.ensures,
      c.requires.after,
    )

pub bounds-after-second : goal.bounds-after-second
bounds-after-second c =
    let two = c.requires.twos.choices c.args.layer (omega (arith, c.requires.layer)) in
    omega (
      arith,
      next_in c.args.graph.now c.args.layer c.args.node 1 c.labels-fits.ensures.layered c.requires.layer c.requires.node
          (omega (arith, two)),
      c.next_place-second.ensures,
      c.requires.after,
    )

pub returns-then-after-first : goal.returns-then-after-first
returns-then-after-first c count are =
    let two = c.requires.twos.choices c.args.layer (omega (arith, c.requires.layer)) in
    let first_in : c.next_place-first.result < length (layer_at c.args.graph.now.layers (suc c.args.layer)).rows = omega (
      arith,
      next_in c.args.graph.now c.args.layer c.args.node 0 c.labels-fits.ensures.layered c.requires.layer c.requires.node
          (omega (arith, two)),
      c.next_place-first.ensures,
    ) in
    let second_in : c.next_place-second.result < length (layer_at c.args.graph.now.layers (suc c.args.layer)).rows = omega (
      arith,
      next_in c.args.graph.now c.args.layer c.args.node 1 c.labels-fits.ensures.layered c.requires.layer c.requires.node
          (omega (arith, two)),
      c.next_place-second.ensures,
    ) in
    let on = marked_on c.args.graph.now.layers c.args.layer c.args.node c.next_place-first.result
    c.next_place-second.result c.args.after.now (omega (arith, c.requires.layer)) c.next_place-first.ensures
    c.next_place-second.ensures first_in second_in count are in
    (λ e. on.0 (inl e), λ p. c.if-after-first.true)

pub returns-else-after-first : goal.returns-else-after-first
returns-else-after-first c count are =
    let two = c.requires.twos.choices c.args.layer (omega (arith, c.requires.layer)) in
    let first_in : c.next_place-first.result < length (layer_at c.args.graph.now.layers (suc c.args.layer)).rows = omega (
      arith,
      next_in c.args.graph.now c.args.layer c.args.node 0 c.labels-fits.ensures.layered c.requires.layer c.requires.node
          (omega (arith, two)),
      c.next_place-first.ensures,
    ) in
    let second_in : c.next_place-second.result < length (layer_at c.args.graph.now.layers (suc c.args.layer)).rows = omega (
      arith,
      next_in c.args.graph.now c.args.layer c.args.node 1 c.labels-fits.ensures.layered c.requires.layer c.requires.node
          (omega (arith, two)),
      c.next_place-second.ensures,
    ) in
    let on = marked_on c.args.graph.now.layers c.args.layer c.args.node c.next_place-first.result
    c.next_place-second.result c.args.after.now (omega (arith, c.requires.layer)) c.next_place-first.ensures
    c.next_place-second.ensures first_in second_in count are in (
      λ e. on.0 (inr e),
      λ p. elim (on.1 p) [
        | inl s ↦ absurd (false≢true (sym c.if-after-first.false ∙ s))
        | inr s ↦ s
      ],
    )
