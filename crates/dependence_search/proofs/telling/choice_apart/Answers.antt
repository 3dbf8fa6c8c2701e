use Rattle.std.proofs.Common.{◌≡◌, arith}
use Rattle.decision_graphs.specs.Label.{layer_at, step}
use Rattle.dependence_search.proofs.TellingLemmas.{same_node}
use Rattle.dependence_search.proofs.telling.choice_apart.Goals as goal

pub returns-else-to_one-to_other-clause-apart : goal.returns-else-to_one-to_other-clause-apart
returns-else-to_one-to_other-clause-apart c second =
    let l = layer_at c.args.graph.now.layers c.args.layer in
    let first : step l c.args.one 0 ≡ step l c.args.other 0 = omega (
      arith,
      c.if-to_one-to_other.false,
      c.next_place-to_one.ensures,
      c.next_place-to_other.ensures,
    ) in
    c.requires.apart
    (same_node c.args.graph.now c.args.layer c.args.one c.args.other c.labels-fits.ensures.layered c.requires.reduced
    c.requires.layer (c.requires.twos.choices c.args.layer c.requires.layer) c.requires.one c.requires.other first second)
