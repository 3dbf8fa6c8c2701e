use Rattle.std.proofs.Common.{◌⊎◌, ℕ, subst, sym}
use Rattle.std.specs.Prelude.{Contains}
use Rattle.contraction.specs.Answers.{Keeps}
use Rattle.contraction.specs.Selecting.{Selected}
use Rattle.test_judge.proofs.selected.has_rows_selected.Goals as goal

pub has_rows_on-requires-clause-nodes : goal.has_rows_on-requires-clause-nodes
has_rows_on-requires-clause-nodes c =
    subst (λ (s : Selected). (n : ℕ) → Contains s.nodes n → Keeps c.args.x.now.kept n ⊎ Keeps c.args.y.now.kept n)
    (sym c.deref-then-both.ensures)
    (subst (λ l. (n : ℕ) → Contains l n → Keeps c.args.x.now.kept n ⊎ Keeps c.args.y.now.kept n)
    (sym c.in_ok-selection.ensures.nodes) c.requires)
