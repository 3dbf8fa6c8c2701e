-- A text that grows by the lines of one entry of a list after another.
use Rattle.std.proofs.Common.{◌≡◌, ◌∙◌, ℕ, zero, suc, ◌+◌, ◌≤◌, List, [], ◌∷◌, ◌++◌, length, take, Some, sym, ap}
use Rattle.std.proofs.Common.{add-one, arith}
use Rattle.std.specs.Prelude.{slice_get}
use Rattle.std.specs.List.{flat_map, enumerate_from, zip}
use Rattle.std.proofs.lemmas.List.{flat_map_more, take_all}
use Rattle.std.proofs.lemmas.List.FromFn.{length-enumerate_from}
use Rattle.std.proofs.lemmas.Slice.Zip.{length-zip}

take-next : {X : Type 0} (xs : List X) (k : ℕ) (x : X) → slice_get xs k ≡ Some x →
    take (suc k) xs ≡ take k xs ++ x ∷ []
take-next [] k x at = absurd (cc)
take-next {X} (y ∷ xs) zero x at = let e : y ≡ x = cc in ap (λ (z : X). z ∷ []) e
take-next {X} (y ∷ xs) (suc k) x at = ap (λ (zs : List X). y ∷ zs) (take-next xs k x at)

-- a text to which the lines of the next entry were appended
pub one_more : {X : Type 0} (lines : X → List ℕ) (xs : List X) (k : ℕ) (x : X) (old now new : List ℕ) →
    slice_get xs k ≡ Some x → now ≡ old ++ flat_map lines (take k xs) → new ≡ now ++ lines x →
    new ≡ old ++ flat_map lines (take (k + 1) xs)
one_more {X} lines xs k x old now new at is next =
    next ∙ ap (λ t. t ++ lines x) is ∙ flat_map_more lines old (take k xs) x
    ∙ ap (λ (ys : List X). old ++ flat_map lines ys) (sym (ap (λ n. take n xs) (add-one k) ∙ take-next xs k x at))

-- a text to which the lines of all entries were appended
pub all_lines : {X : Type 0} (lines : X → List ℕ) (xs : List X) (k : ℕ) (old now : List ℕ) → length xs ≤ k →
    now ≡ old ++ flat_map lines (take k xs) → now ≡ old ++ flat_map lines xs
all_lines {X} lines xs k old now all is = is ∙ ap (λ (ys : List X). old ++ flat_map lines ys) (take_all k xs all)

-- an entry with its number
pub numbered_at : {X : Type 0} (n m : ℕ) (xs : List X) (k : ℕ) (x : X) → slice_get xs k ≡ Some x → m ≡ n + k →
    slice_get (enumerate_from n xs) k ≡ Some (m, x)
numbered_at n m [] k x at is = absurd (cc)
numbered_at {X} n m (y ∷ xs) zero x at is = let e : n ≡ m = omega arith in let f : y ≡ x = cc in
    (λ i. let pair : ℕ × X = (e i, f i) in Some pair)
numbered_at n m (y ∷ xs) (suc k) x at is = numbered_at (n + 1) m xs k x at (omega arith)

-- an entry with that beside it
pub paired_at : {X Y : Type 0} (xs : List X) (ys : List Y) (k : ℕ) (x : X) (y : Y) → slice_get xs k ≡ Some x →
    slice_get ys k ≡ Some y → slice_get (zip xs ys) k ≡ Some (x, y)
paired_at [] ys k x y at beside = absurd (cc)
paired_at (a ∷ xs) [] k x y at beside = absurd (cc)
paired_at {X} {Y} (a ∷ xs) (b ∷ ys) zero x y at beside = let e : a ≡ x = cc in let f : b ≡ y = cc in
    (λ i. let pair : X × Y = (e i, f i) in Some pair)
paired_at (a ∷ xs) (b ∷ ys) (suc k) x y at beside = paired_at xs ys k x y at beside

-- there are no more numbered entries than entries
pub numbered_end : {X : Type 0} (n : ℕ) (xs : List X) (k : ℕ) → length xs ≤ k → length (enumerate_from n xs) ≤ k
numbered_end n xs k all = omega (arith, length-enumerate_from n xs)

-- there are no more pairs than entries
pub paired_end : {X Y : Type 0} (xs : List X) (ys : List Y) (k : ℕ) → length xs ≤ k → length (zip xs ys) ≤ k
paired_end xs ys k all = omega (arith, length-zip xs ys)
