-- The first nodes of a station, in order.
use Rattle.std.proofs.Common.{◌≡◌, ℕ, ◌+◌, ◌<◌, ◌≤◌, List, [], ◌∷◌, ◌++◌, length, slice_index, inl, inr, refl, arith}
use Rattle.std.proofs.lemmas.Bool.{cases_lt}
use Rattle.std.proofs.lemmas.List.{length_push}
use Rattle.contraction.specs.Answers.{AreNodes}
use Rattle.contraction.proofs.MergeLemmas.{push_old, push_new}

-- The list has the nodes below n, each at its own place.
pub record AreFirst (n : ℕ) (list : List ℕ) : Type 0 where
  pub len : length list ≡ n
  pub told : (k : ℕ) → k < n → slice_index list k ≡ k

pub first_none : AreFirst 0 []
first_none = record { len = refl; told = λ k h. absurd (omega arith) }

pub first_push : (n : ℕ) (list : List ℕ) → AreFirst n list → AreFirst (n + 1) (list ++ n ∷ [])
first_push n list h = record {
  len = omega (arith, length_push list n, h.len);
  told = λ k k_in. elim (cases_lt k n) [
    | inl old ↦ omega (arith, push_old list n k (omega (arith, h.len)), h.told k old)
    | inr last ↦
        let at : k ≡ n = omega arith in
        omega (arith, push_new list n k (omega (arith, h.len)))
  ];
}

pub first_are_nodes : (n : ℕ) (list : List ℕ) → n ≤ 1024 → AreFirst n list → AreNodes list
first_are_nodes n list few h = record {
  rises = λ j k less k_in. omega (arith, h.len, h.told j (omega (arith, h.len)), h.told k (omega (arith, h.len)));
  small = λ k k_in. omega (arith, h.len, h.told k (omega (arith, h.len)));
}
