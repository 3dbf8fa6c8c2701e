-- One more element of a list, in a loop that counts or seeks.
use Rattle.std.proofs.Common.{◌≡◌, ℕ, ◌<◌, ◌+◌, List, [], ◌∷◌, length, take, get_or, Some, Bool, ◌||◌, cond, arith}
use Rattle.std.proofs.Common.{ap, ◌∙◌, sym, zero, suc}
use Rattle.std.specs.List.{slice_get, list_any, count_by}
use Rattle.std.proofs.lemmas.List.Folds.{list_any_more}
use Rattle.std.proofs.lemmas.List.Sums.{length-filter}
use Rattle.drawing_remarks.proofs.RemarkRows.{count_more}

at_is : {X : Type 0} (xs : List X) (i : ℕ) (x : X) → slice_get xs i ≡ Some x → (i < length xs) × (get_or xs i x ≡ x)
at_is [] i x e = absurd (cc)
at_is (y ∷ ys) zero x e = (omega arith, cc)
at_is (y ∷ ys) (suc i) x e =
    let rest = at_is ys i x e in
    (omega arith, rest.1)

pub any_next : {X : Type 0} (p : X → Bool) (xs : List X) (i : ℕ) (x : X) → slice_get xs i ≡ Some x →
    list_any p (take (i + 1) xs) ≡ (list_any p (take i xs) || p x)
any_next p xs i x e =
    let at = at_is xs i x e in
    list_any_more p xs i x at.0 ∙ ap (λ y. list_any p (take i xs) || p y) at.1

pub count_next : {X : Type 0} (p : X → Bool) (xs : List X) (i : ℕ) (x : X) → slice_get xs i ≡ Some x →
    count_by p (take (i + 1) xs) ≡ count_by p (take i xs) + cond (p x) 1 0
count_next p xs i x e =
    let at = at_is xs i x e in
    sym (length-filter p (take (i + 1) xs))
    ∙ (count_more (λ y. []) p xs i x at.0 at.1 ∙ ap (λ (n : ℕ). n + cond (p x) 1 0) (length-filter p (take i xs)))
