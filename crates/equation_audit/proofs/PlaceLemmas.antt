-- Places of a list: what a write changes, and one more taken.
use Rattle.std.proofs.Common.{◌≡◌, ◌≢◌, ◌∙◌, sym, ap, refl, ℕ, zero, suc, ◌+◌, ◌<◌, ◌==◌, true, false, List, [], ◌∷◌}
use Rattle.std.proofs.Common.{◌++◌, length, take, get_or, set, add-one, arith, Some, eq-eqb}
use Rattle.std.specs.Prelude.{slice_get}

pub set_same : {X : Type 0} (v : List X) (at : ℕ) (b : X) → at < length v → slice_get (set v at b) at ≡ Some b
set_same [] at b lt = absurd (omega (arith, lt))
set_same (x ∷ v) zero b lt = refl
set_same (x ∷ v) (suc at) b lt = set_same v at b (omega (arith, lt))

pub set_other : {X : Type 0} (v : List X) (at i : ℕ) (b : X) → i ≢ at → slice_get (set v at b) i ≡ slice_get v i
set_other [] at i b ne = refl
set_other (x ∷ v) zero zero b ne = absurd (ne refl)
set_other (x ∷ v) zero (suc i) b ne = refl
set_other (x ∷ v) (suc at) zero b ne = refl
set_other (x ∷ v) (suc at) (suc i) b ne = set_other v at i b (λ e. ne (ap suc e))

pub not_equal : (a b : ℕ) → (a == b) ≡ false → b ≢ a
not_equal a b differ same = let is : (a == b) ≡ true = eq-eqb a b (sym same) in cc (is, differ)

take-suc : {X : Type 0} (xs : List X) (k : ℕ) (d : X) → k < length xs →
    take (suc k) xs ≡ take k xs ++ get_or xs k d ∷ []
take-suc [] k d lt = absurd (omega (arith, lt))
take-suc (x ∷ xs) zero d lt = refl
take-suc {X} (x ∷ xs) (suc k) d lt = ap (λ (ys : List X). x ∷ ys) (take-suc xs k d (omega (arith, lt)))

-- one more element is taken
pub take-next : {X : Type 0} (xs : List X) (k : ℕ) (d : X) → k < length xs →
    take (k + 1) xs ≡ take k xs ++ get_or xs k d ∷ []
take-next xs k d lt = ap (λ n. take n xs) (add-one k) ∙ take-suc xs k d lt
