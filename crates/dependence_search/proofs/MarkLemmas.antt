-- Marks that are made one by one.
use Rattle.std.proofs.Common.{◌≡◌, ℕ, ◌+◌, ◌<◌, Bool, false, List, [], ◌∷◌, ◌++◌, length, get_or, sym, ap, ◌∙◌, subst, inl, inr, arith}
use Rattle.std.specs.Prelude.{◌↔◌, IsTrue}
use Rattle.std.proofs.lemmas.Bool.{cases_eq}
use Rattle.std.proofs.lemmas.List.{get_or_push, get_or_append_left, length_push}
use Rattle.decision_graphs.specs.Reaching.{IsSet}

-- the first so many places are marked exactly where this holds of them
pub record MarkedUpto (P : ℕ → Type 0) (n : ℕ) (marks : List Bool) : Type 0 where
  pub len : length marks ≡ n
  pub each : (k : ℕ) → k < n → IsSet marks k ↔ P k

pub marked_none : (P : ℕ → Type 0) → MarkedUpto P 0 []
marked_none P = record { len = omega arith; each = λ k lt. absurd (omega (arith, lt)) }

pub marked_more : (P : ℕ → Type 0) (n : ℕ) (marks : List Bool) (b : Bool) → MarkedUpto P n marks → IsTrue b ↔ P n →
    MarkedUpto P (n + 1) (marks ++ b ∷ [])
marked_more P n marks b so is = record {
  len = omega (arith, length_push marks b, so.len);
  each = λ k lt. elim (cases_eq k n) [
    | inl equal ↦
        let here : get_or (marks ++ b ∷ []) k false ≡ b = get_or_push marks b false k (omega (arith, equal, so.len)) in (
          λ e. subst P (sym equal) (is.0 (sym here ∙ e)),
          λ p. here ∙ is.1 (subst P equal p),
        )
    | inr other ↦
        let same : get_or (marks ++ b ∷ []) k false ≡ get_or marks k false =
        get_or_append_left marks (b ∷ []) false k (omega (arith, lt, other, so.len)) in
        let h = so.each k (omega (arith, lt, other)) in
        (λ e. h.0 (sym same ∙ e), λ p. same ∙ h.1 p)
  ];
}
