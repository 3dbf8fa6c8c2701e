-- How many variables of a list are of a kind.
use Rattle.std.proofs.Common.{◌≡◌, ◌⊎◌, ◌∙◌, ◌+◌, ◌<◌, ◌≤◌, ℕ, zero, suc, List, [], ◌∷◌, length, get_or, take, refl, sym, ap, subst, inl, inr, arith}
use Rattle.structured_text.specs.declared.name.Name.{Name}
use Rattle.program_text.specs.BayExchange.{IsCount}

-- there is one more where the next one is of the kind
count_more : (P : Name → Type 0) (xs : List Name) (i k new : ℕ) (x none : Name) → i < length xs →
    x ≡ get_or xs i none → (P x × (new ≡ suc k)) ⊎ (¬ P x × (new ≡ k)) → IsCount P (take i xs) k →
    IsCount P (take (suc i) xs) new
count_more P [] i k new x none low is one h = absurd (omega (arith, low))
count_more P (y ∷ ys) zero k new x none low is (inl (of, e)) h =
    inl (subst P is of, (0, e ∙ ap (λ (n : ℕ). suc n) h, refl))
count_more P (y ∷ ys) zero k new x none low is (inr (off, e)) h =
    inr (subst (λ (z : Name). ¬ P z) is off, e ∙ h)
count_more P (y ∷ ys) (suc i) k new x none low is (inl (of, e)) (inl (p, (j, f, c))) =
    let more : IsCount P (take (suc i) ys) k =
    subst (λ (n : ℕ). IsCount P (take (suc i) ys) n) (sym f)
    (count_more P ys i j (suc j) x none (omega (arith, low)) is (inl (of, refl)) c) in
    inl (p, (k, e, more))
count_more P (y ∷ ys) (suc i) k new x none low is (inl (of, e)) (inr (p, c)) =
    inr (p, count_more P ys i k new x none (omega (arith, low)) is (inl (of, e)) c)
count_more P (y ∷ ys) (suc i) k new x none low is (inr (off, e)) (inl (p, (j, f, c))) =
    inl (p, (j, e ∙ f, count_more P ys i j j x none (omega (arith, low)) is (inr (off, refl)) c))
count_more P (y ∷ ys) (suc i) k new x none low is (inr (off, e)) (inr (p, c)) =
    inr (p, count_more P ys i k new x none (omega (arith, low)) is (inr (off, e)) c)

pub count_next : (P : Name → Type 0) (xs : List Name) (i k new : ℕ) (x none : Name) → i < length xs →
    x ≡ get_or xs i none → (P x × (new ≡ k + 1)) ⊎ (¬ P x × (new ≡ k)) → IsCount P (take i xs) k →
    IsCount P (take (i + 1) xs) new
count_next P xs i k new x none low is one h =
    let next : suc i ≡ i + 1 = omega arith in
    subst (λ (n : ℕ). IsCount P (take n xs) new) next (count_more P xs i k new x none low is (by one) h)
  where
    by : (P x × (new ≡ k + 1)) ⊎ (¬ P x × (new ≡ k)) → (P x × (new ≡ suc k)) ⊎ (¬ P x × (new ≡ k))
    by (inl (of, e)) = inl (of, omega (arith, e))
    by (inr (off, e)) = inr (off, e)

pub count_low : (A : Type 0) (i k new : ℕ) → (A × (new ≡ k + 1)) ⊎ (¬ A × (new ≡ k)) → k ≤ i → new ≤ i + 1
count_low A i k new (inl (of, e)) low = omega (arith, e, low)
count_low A i k new (inr (off, e)) low = omega (arith, e, low)
