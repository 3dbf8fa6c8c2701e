use Rattle.std.proofs.Common.{◌≡◌, false, true}
use Rattle.dependence_search.proofs.TellingLemmas.{no_parting}
use Rattle.dependence_search.proofs.telling.turning_choices.Goals as goal

pub returns-then-not-starts_parting : goal.returns-then-not-starts_parting
returns-then-not-starts_parting c cs two turns =
    turns (no_parting c.args.graph.now.layers c.args.layer 0 cs
    (λ p. let both : false ≡ true = c.if-not-starts_parting.ensures.1 p in cc both) c.requires.layer two)
