use Rattle.std.proofs.Common.{◌⊎◌, ℕ, subst, sym}
use Rattle.std.specs.Prelude.{Contains}
use Rattle.contraction.specs.Answers.{AreNodes, Keeps}
use Rattle.contraction.proofs.value.Contraction.compose_gap.Goals as goal

pub of-requires-clause-first : goal.of-requires-clause-first
of-requires-clause-first c = subst AreNodes (sym c.nodes.ensures.nodes) c.nodes.ensures.answers.nodes

pub of-requires-clause-second : goal.of-requires-clause-second
of-requires-clause-second c = subst AreNodes (sym c.nodes-2.ensures.nodes) c.nodes-2.ensures.answers.nodes

pub compose_gap_on-requires-clause-nodes : goal.compose_gap_on-requires-clause-nodes
compose_gap_on-requires-clause-nodes c =
    subst (λ l. (n : ℕ) → Contains l n → Keeps c.args.self.now.kept n ⊎ Keeps c.args.other.now.kept n)
    (sym c.in_ok-selection.ensures.nodes) c.requires
