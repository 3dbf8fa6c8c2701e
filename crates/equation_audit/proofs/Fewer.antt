-- A list without repeats, all of which are in a second list, is not longer than that.
use Rattle.std.proofs.Common.{◌≡◌, ◌∙◌, sym, ap, refl, ℕ, ◌+◌, ◌≤◌, ◌==◌, ◌||◌, Bool, true, false, cond, List, [], ◌∷◌}
use Rattle.std.proofs.Common.{length, arith, eq-eqb}
use Rattle.std.proofs.lemmas.Bool.{eqb-true}
use Rattle.ilk_base.specs.declared.words.SwitchId.{SwitchId}
use Rattle.equation_audit.specs.Equations.{is_among, AllDiffer}

-- the list without the first that is this one
abbrev without : ℕ → List SwitchId → List SwitchId
without n [] = []
without n (id ∷ ids) = cond (id.0 == n) ids (id ∷ without n ids)

shorter : (n : ℕ) (ids : List SwitchId) → is_among ids n ≡ true → length (without n ids) + 1 ≡ length ids
shorter n [] there = absurd (cc)
shorter n (id ∷ ids) there = by_test (id.0 == n) there (λ later. shorter n ids later)
  where
    by_test : (t : Bool) → (t || is_among ids n) ≡ true →
        (is_among ids n ≡ true → length (without n ids) + 1 ≡ length ids) → length (cond t ids (id ∷ without n ids)) + 1
        ≡ length (id ∷ ids)
    by_test true is rest = omega arith
    by_test false is rest = omega (arith, rest is)

place : (a b c : Bool) → (a || b) ≡ true → (b ≡ true → c ≡ true) → (a || c) ≡ true
place true b c is rest = refl
place false b c is rest = rest is

kept : (n i : ℕ) (ids : List SwitchId) → (n == i) ≡ false → is_among ids i ≡ true → is_among (without n ids) i ≡ true
kept n i [] other there = absurd (cc)
kept n i (id ∷ ids) other there =
    by_test (id.0 == n) refl (place (id.0 == i) (is_among ids i) (is_among (without n ids) i) there
    (λ is. kept n i ids other is))
  where
    by_test : (t : Bool) → (id.0 == n) ≡ t → is_among (id ∷ without n ids) i ≡ true →
        is_among (cond t ids (id ∷ without n ids)) i ≡ true
    by_test true same rest = let e : (id.0 == i) ≡ false = ap (λ m. m == i) (eqb-true id.0 n same) ∙ other in
        sym (ap (λ t. t || is_among ids i) e) ∙ there
    by_test false differ rest = rest

not_there : (ids : List SwitchId) (n i : ℕ) → is_among ids n ≡ false → is_among ids i ≡ true → (n == i) ≡ false
not_there ids n i none there = by_test (n == i) refl
  where
    by_test : (t : Bool) → (n == i) ≡ t → (n == i) ≡ false
    by_test false is = is
    by_test true is = absurd (let same : is_among ids n ≡ is_among ids i = ap (is_among ids) (eqb-true n i is) in
        cc (same, none, there))

later : (a b : Bool) → b ≡ true → (a || b) ≡ true
later true b is = refl
later false b is = is

here : (a b : Bool) → a ≡ true → (a || b) ≡ true
here true b is = refl
here false b is = absurd (cc)

pub not_longer : (xs ys : List SwitchId) → AllDiffer xs → ((i : ℕ) → is_among xs i ≡ true → is_among ys i ≡ true) →
    length xs ≤ length ys
not_longer [] ys differ all = omega arith
not_longer (x ∷ xs) ys differ all =
    let first : is_among ys x.0 ≡ true = all x.0 (here (x.0 == x.0) (is_among xs x.0) (eq-eqb x.0 x.0 refl)) in
    let rest = not_longer xs (without x.0 ys) differ.1 (λ i there. kept x.0 i ys (not_there xs x.0 i differ.0 there)
    (all i (later (x.0 == i) (is_among xs i) there))) in
    omega (arith, rest, shorter x.0 ys first)
