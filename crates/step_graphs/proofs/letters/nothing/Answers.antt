use Rattle.std.proofs.Common.{◌≡◌, ℕ, List, [], slice_get, Some, zero, suc, sym, ap, ◌∙◌}
use Rattle.contraction.specs.Answers.{Keeps}
use Rattle.step_graphs.proofs.letters.nothing.Goals as goal

no_keep : (kept : List ℕ) (n : ℕ) → kept ≡ [] → Keeps kept n → ⊥
no_keep kept n e k = none k.place (ap (λ ks. slice_get ks k.place) (sym e) ∙ k.at)
  where
    none : (i : ℕ) → slice_get {X = ℕ} [] i ≡ Some n → ⊥
    none zero at = cc
    none (suc i) at = cc

pub returns-clause-letter : goal.returns-clause-letter
returns-clause-letter c d closed = record {
  stands = λ v at. c.in_ok-value.ensures.stands d v;
  kept = λ n. (
    λ k. absurd (no_keep c.in_ok-value.value.kept n (c.in_ok-value.ensures.kept ∙ c.new-nodes.ensures) k),
    λ t. absurd t.among,
  );
}
