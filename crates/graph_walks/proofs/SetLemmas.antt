-- The sets of allowed choices, layer by layer.
use Rattle.std.proofs.Common.{◌≡◌, ℕ, ◌<◌, zero, suc, Bool, true, false, List, [], ◌∷◌, length, map, replicate}
use Rattle.std.proofs.Common.{get_or, slice_set, drop, refl, ap, ◌∙◌, arith}
use Rattle.decision_graphs.specs.Label.{Layer}
use Rattle.decision_graphs.specs.Reaching.{set_at, empty_sets}
use Rattle.graph_walks.specs.Walks.{set_for}

-- the sets before layer j are made, and those from it on are empty
abbrev pub made_to : List Bool → ℕ → List (List Bool)
made_to [] j = []
made_to (f ∷ fs) zero = (false ∷ false ∷ []) ∷ made_to fs 0
made_to (f ∷ fs) (suc j) = set_for f ∷ made_to fs j

pub made_none : (ls : List Layer) (fs : List Bool) → map (λ (x : Layer). x.choices) ls ≡ replicate (length fs) 2 →
    empty_sets ls ≡ made_to fs 0
made_none [] [] e = refl
made_none [] (f ∷ fs) e = cc
made_none (l ∷ ls) [] e = cc
made_none (l ∷ ls) (f ∷ fs) e =
    let here : l.choices ≡ 2 = ap (λ ks. get_or ks 0 0) e in
    ap (λ n. replicate n false ∷ empty_sets ls) here
    ∙ ap (λ ss. (false ∷ false ∷ []) ∷ ss) (made_none ls fs (ap (λ ks. drop 1 ks) e))

pub made_length : (fs : List Bool) (j : ℕ) → length (made_to fs j) ≡ length fs
made_length [] j = refl
made_length (f ∷ fs) zero = ap suc (made_length fs 0)
made_length (f ∷ fs) (suc j) = ap suc (made_length fs j)

pub made_next : (fs : List Bool) (j : ℕ) → j < length fs → set_at (made_to fs j) j ≡ false ∷ false ∷ []
made_next [] j lt = absurd (omega (arith, lt))
made_next (f ∷ fs) zero lt = refl
made_next (f ∷ fs) (suc j) lt = made_next fs j (omega (arith, lt))

pub made_more : (fs : List Bool) (j : ℕ) → j < length fs →
    slice_set (made_to fs j) j (set_for (get_or fs j false)) ≡ made_to fs (suc j)
made_more [] j lt = absurd (omega (arith, lt))
made_more (f ∷ fs) zero lt = refl
made_more (f ∷ fs) (suc j) lt = ap (λ ss. set_for f ∷ ss) (made_more fs j (omega (arith, lt)))

pub made_all : (fs : List Bool) → made_to fs (length fs) ≡ map set_for fs
made_all [] = refl
made_all (f ∷ fs) = ap (λ ss. set_for f ∷ ss) (made_all fs)

-- ---- one layer

set_there : {X : Type 0} (xs : List X) (j : ℕ) (a d : X) → j < length xs → get_or (slice_set xs j a) j d ≡ a
set_there [] j a d lt = absurd (omega (arith, lt))
set_there (x ∷ xs) zero a d lt = refl
set_there (x ∷ xs) (suc j) a d lt = set_there xs j a d (omega (arith, lt))

set_again : {X : Type 0} (xs : List X) (j : ℕ) (a b : X) → slice_set (slice_set xs j a) j b ≡ slice_set xs j b
set_again [] j a b = refl
set_again (x ∷ xs) zero a b = refl
set_again (x ∷ xs) (suc j) a b = ap (λ ys. x ∷ ys) (set_again xs j a b)

pub allowed_one : (s t : List (List Bool)) (j : ℕ) → set_at s j ≡ false ∷ false ∷ [] →
    t ≡ slice_set s j (slice_set (set_at s j) 0 true) → t ≡ slice_set s j (true ∷ false ∷ [])
allowed_one s t j none first = first ∙ ap (λ a. slice_set s j (slice_set a 0 true)) none

pub allowed_two : (s t u : List (List Bool)) (j : ℕ) → j < length s → set_at s j ≡ false ∷ false ∷ [] →
    t ≡ slice_set s j (slice_set (set_at s j) 0 true) → u ≡ slice_set t j (slice_set (set_at t j) 1 true) →
    u ≡ slice_set s j (true ∷ true ∷ [])
allowed_two s t u j lt none first second =
    let is : t ≡ slice_set s j (true ∷ false ∷ []) = allowed_one s t j none first in
    let here : set_at t j ≡ true ∷ false ∷ [] =
    ap (λ x. set_at x j) is ∙ set_there s j (true ∷ false ∷ []) [] lt in
    second
    ∙ (ap (λ a. slice_set t j (slice_set a 1 true)) here
    ∙ (ap (λ x. slice_set x j (true ∷ true ∷ [])) is ∙ set_again s j (true ∷ false ∷ []) (true ∷ true ∷ [])))

pub sizes_two : (fs : List Bool) → map length (map set_for fs) ≡ replicate (length fs) 2
sizes_two [] = refl
sizes_two (f ∷ fs) = ap (λ ks. 2 ∷ ks) (sizes_two fs)
