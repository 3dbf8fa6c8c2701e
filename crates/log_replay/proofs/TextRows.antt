-- A text cut at a character, and into rows.
use Rattle.std.proofs.Common.{◌≡◌, ◌≢◌, ◌+◌, ◌<◌, ◌^◌, ◌%◌, ◌∙◌, ap, refl, ℕ, suc, Bool, true, false, List, [], ◌∷◌}
use Rattle.std.proofs.Common.{◌++◌, append_assoc, inl, inr, arith}
use Rattle.std.specs.Prelude.{◌==◌, Contains, codes, decimal, if◌then◌else◌, ⊤}
use Rattle.std.specs.List.{flat_map}
use Rattle.std.proofs.lemmas.Bool.{cases_Bool}
use Rattle.std.proofs.lemmas.Bool.Decides.{eqb_tells}
use Rattle.std.proofs.lemmas.Fmt.{decimal_by_steps}

-- ---- each of a list

abbrev pub Each : {A : Type 0} → (A → Type 0) → List A → Type 0
Each P [] = ⊤
Each P (x ∷ xs) = P x × Each P xs

pub each_append : {A : Type 0} (P : A → Type 0) (xs ys : List A) → Each P xs → Each P ys → Each P (xs ++ ys)
each_append P [] ys first last = last
each_append P (x ∷ xs) ys first last = (first.0, each_append P xs ys first.1 last)

-- ---- texts without a character

-- the text does not hold the character
abbrev pub free : ℕ → List ℕ → Bool
free c [] = true
free c (x ∷ t) = if x == c then false else free c t

pick : (b r : Bool) → (if b then false else r) ≡ true → (b ≡ false) × (r ≡ true)
pick true r e = absurd (cc e)
pick false r e = (refl, e)

pub free_append : (c : ℕ) (a b : List ℕ) → free c a ≡ true → free c b ≡ true → free c (a ++ b) ≡ true
free_append c [] b first last = last
free_append c (x ∷ a) b first last = let p = pick (x == c) (free c a) first in rw (p.0, free_append c a b p.1 last) refl

pub free_of : (c : ℕ) (t : List ℕ) → ¬ Contains t c → free c t ≡ true
free_of c [] none = refl
free_of c (x ∷ t) none = elim (eqb_tells x c) [
  | inl p ↦ absurd (none (0, omega arith, p.1))
  | inr p ↦ rw (p.0, free_of c t (λ k. none (suc k.0, omega (arith, k.1), k.2))) refl
]

-- no digit is this character
abbrev pub NoDigit : ℕ → Type 0
NoDigit c = (k : ℕ) → k < 10 → 48 + k ≢ c

one_free : (c k : ℕ) → NoDigit c → k < 10 → free c ((48 + k) ∷ []) ≡ true
one_free c k none few = elim (eqb_tells (48 + k) c) [
  | inl p ↦ absurd (none k few p.1)
  | inr p ↦ rw p.0 refl
]

pub decimal_free : (c n : ℕ) → NoDigit c → n < 2 ^ 64 → free c (decimal n) ≡ true
decimal_free c n none few = decimal_by_steps (λ (m : ℕ) (ds : List ℕ). free c ds ≡ true)
    (λ m less. one_free c m none less)
    (λ m ds ten is. free_append c ds ((48 + m % 10) ∷ []) is (one_free c (m % 10) none (omega arith)))
    n few

-- ---- cut at a character

-- what stands before the first such character, and what stands behind it
abbrev pub cut : ℕ → List ℕ → List ℕ × List ℕ
cut c [] = ([], [])
cut c (x ∷ t) = if x == c then ([], t) else (x ∷ (cut c t).0, (cut c t).1)

same_test : (c : ℕ) → (c == c) ≡ true
same_test c = elim (eqb_tells c c) [
  | inl p ↦ p.0
  | inr p ↦ absurd (p.1 refl)
]

pub cut_at : (c : ℕ) (a t : List ℕ) → free c a ≡ true → cut c (a ++ c ∷ t) ≡ (a, t)
cut_at c [] t is = rw (same_test c) refl
cut_at c (x ∷ a) t is = let p = pick (x == c) (free c a) is in rw (p.0, cut_at c a t p.1) refl

-- ---- rows

abbrev pub push : ℕ → List (List ℕ) → List (List ℕ)
push x [] = (x ∷ []) ∷ []
push x (r ∷ rs) = (x ∷ r) ∷ rs

-- the rows of a text, each of which ends with a line feed
abbrev pub rows_of : List ℕ → List (List ℕ)
rows_of [] = []
rows_of (x ∷ t) = if x == 10 then [] ∷ rows_of t else push x (rows_of t)

-- the text of rows
abbrev pub closed : List (List ℕ) → List ℕ
closed rs = flat_map (λ (r : List ℕ). r ++ codes "\n") rs

-- the row holds no line feed
abbrev pub IsRow : List ℕ → Type 0
IsRow r = free 10 r ≡ true

rows_more : (a t : List ℕ) → IsRow a → rows_of (a ++ 10 ∷ t) ≡ a ∷ rows_of t
rows_more [] t is = refl
rows_more (x ∷ a) t is = let p = pick (x == 10) (free 10 a) is in rw (p.0, rows_more a t p.1) refl

pub rows_closed : (rs : List (List ℕ)) → Each IsRow rs → rows_of (closed rs) ≡ rs
rows_closed [] each = refl
rows_closed (r ∷ rs) each = ap rows_of (append_assoc r (codes "\n") (closed rs)) ∙ rows_more r (closed rs) each.0
    ∙ ap (λ (xs : List (List ℕ)). r ∷ xs) (rows_closed rs each.1)

-- ---- rows that are kept

abbrev pub kept : (List ℕ → Bool) → List (List ℕ) → List (List ℕ)
kept p [] = []
kept p (r ∷ rs) = if p r then r ∷ kept p rs else kept p rs

pub kept_append : (p : List ℕ → Bool) (xs ys : List (List ℕ)) → kept p (xs ++ ys) ≡ kept p xs ++ kept p ys
kept_append p [] ys = refl
kept_append p (x ∷ xs) ys = elim (cases_Bool (p x)) [
  | inl e ↦ rw (e, kept_append p xs ys) refl
  | inr e ↦ rw (e, kept_append p xs ys) refl
]

pub all_kept : (p : List ℕ → Bool) (xs : List (List ℕ)) → Each (λ (r : List ℕ). p r ≡ true) xs → kept p xs ≡ xs
all_kept p [] each = refl
all_kept p (x ∷ xs) each = rw (each.0, all_kept p xs each.1) refl

pub none_kept : (p : List ℕ → Bool) (xs : List (List ℕ)) → Each (λ (r : List ℕ). p r ≡ false) xs → kept p xs ≡ []
none_kept p [] each = refl
none_kept p (x ∷ xs) each = rw (each.0, none_kept p xs each.1) refl
