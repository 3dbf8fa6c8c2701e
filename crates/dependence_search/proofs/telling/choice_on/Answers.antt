use Rattle.std.proofs.Common.{◌≡◌, ◌<◌, suc, length, sym, ◌∙◌, arith}
use Rattle.std.proofs.lemmas.Bool.{false≢true}
use Rattle.decision_graphs.specs.Label.{layer_at}
use Rattle.dependence_search.proofs.PartingLemmas.{next_in, leads_first, leads_second}
use Rattle.dependence_search.proofs.telling.choice_on.Goals as goal

pub bounds-after-first : goal.bounds-after-first
bounds-after-first c =
    let two = c.requires.twos.choices c.args.layer (omega (arith, c.requires.layer)) in
    omega (
      arith,
      next_in c.args.graph.now c.args.layer c.args.node 0 c.labels-fits.ensures.layered c.requires.layer c.requires.node
          (omega (arith, two)),
      c.next_place-first.ensures,
      c.requires.after,
    )

pub returns-then-after-first-clause-on : goal.returns-then-after-first-clause-on
returns-then-after-first-clause-on c count are p =
    let two = c.requires.twos.choices c.args.layer (omega (arith, c.requires.layer)) in
    let within : c.next_place-first.result < length (layer_at c.args.graph.now.layers (suc c.args.layer)).rows = omega (
      arith,
      next_in c.args.graph.now c.args.layer c.args.node 0 c.labels-fits.ensures.layered c.requires.layer c.requires.node
          (omega (arith, two)),
      c.next_place-first.ensures,
    ) in
    leads_first c.args.graph.now.layers c.args.layer c.args.node c.next_place-first.result c.args.after.now
    c.next_place-first.ensures within c.if-after-first.true count are

pub returns-else-after-first-clause-on : goal.returns-else-after-first-clause-on
returns-else-after-first-clause-on c count are p =
    let two = c.requires.twos.choices c.args.layer (omega (arith, c.requires.layer)) in
    let within : c.next_place-first.result < length (layer_at c.args.graph.now.layers (suc c.args.layer)).rows = omega (
      arith,
      next_in c.args.graph.now c.args.layer c.args.node 0 c.labels-fits.ensures.layered c.requires.layer c.requires.node
          (omega (arith, two)),
      c.next_place-first.ensures,
    ) in
    leads_second c.args.graph.now.layers c.args.layer c.args.node c.next_place-first.result c.args.after.now
    (omega (arith, c.requires.layer)) c.next_place-first.ensures within
    (λ set. false≢true (sym c.if-after-first.false ∙ set)) count are p
