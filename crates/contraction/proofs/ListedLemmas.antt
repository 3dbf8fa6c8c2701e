-- A list of so many entries, each with a property of its place, where there is one for each place.
use Rattle.std.proofs.Common.{◌≡◌, ℕ, ◌<◌, zero, suc, List, [], ◌∷◌, ◌++◌, length, slice_get, Some, refl}
use Rattle.std.proofs.Common.{sym, ◌∙◌, subst, inl, inr, arith}
use Rattle.std.proofs.lemmas.List.{length_push}
use Rattle.std.proofs.lemmas.Bool.{cases_lt}
use Rattle.station_graph.proofs.PathLemmas.{slice_get-push}

-- a list of so many, each with a property of its place
abbrev pub Listed : {X : Type 0} → (ℕ → X → Type 0) → ℕ → Type 0
Listed {X = X} P n = (list : List X) × (length list ≡ n) × ((i : ℕ) (v : X) → slice_get list i ≡ Some v
    → P i v) × ((i : ℕ) → i < n → (v : X) × (slice_get list i ≡ Some v))

get_old : {X : Type 0} (xs : List X) (y x : X) (i : ℕ) → slice_get xs i ≡ Some x → slice_get (xs ++ y ∷ []) i ≡ Some x
get_old [] y x i h = cc
get_old (z ∷ xs) y x zero h = h
get_old (z ∷ xs) y x (suc i) h = get_old xs y x i h

get_new : {X : Type 0} (xs : List X) (y : X) → slice_get (xs ++ y ∷ []) (length xs) ≡ Some y
get_new [] y = refl
get_new (z ∷ xs) y = get_new xs y

pub list_of : {X : Type 0} (P : ℕ → X → Type 0) (n : ℕ) → ((i : ℕ) → i < n → (v : X) × P i v) → Listed P n
list_of P zero each = ([], refl, (λ i v h. cc), (λ i lt. absurd (omega arith)))
list_of {X = X} P (suc n) each =
    let (list, len, holds, some) = list_of P n (λ i lt. each i (omega arith)) in
    let (v, p) = each n (omega arith) in (
      list ++ v ∷ [],
      omega (arith, length_push list v),
      (λ i w h. elim (slice_get-push list v w i h) [
        | inl old ↦ holds i w old
        | inr new ↦ subst (λ (u : X). P i u) new.1 (subst (λ k. P k v) (sym (new.0 ∙ len)) p)
      ]),
      (λ i lt. elim (cases_lt i n) [
        | inl less ↦ (let (w, at) = some i less in (w, get_old list v w i at))
        | inr more ↦ (v, subst (λ k. slice_get (list ++ v ∷ []) k ≡ Some v) (len ∙ omega arith) (get_new list v))
      ]),
    )
