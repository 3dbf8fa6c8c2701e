use Rattle.std.proofs.Common.{◌⊎◌, ℕ, subst, sym}
use Rattle.std.specs.Prelude.{Contains}
use Rattle.contraction.specs.Answers.{Keeps}
use Rattle.test_judge.proofs.unchanged.stays_so.Goals as goal

pub views_stay-requires-clause-nodes : goal.views_stay-requires-clause-nodes
views_stay-requires-clause-nodes c =
    subst (λ l. (n : ℕ) → Contains l n → Keeps c.args.x.now.kept n ⊎ Keeps c.args.y.now.kept n)
    (sym c.in_ok-selection.ensures.nodes) c.requires
