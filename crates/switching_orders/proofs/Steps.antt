-- What holds of each step of an order in the vector after those before it, by index and by recursion.
use Rattle.std.proofs.Common.{◌≡◌, ◌∙◌, ap, subst, refl, ℕ, zero, suc, ◌+◌, Bool, List, [], ◌∷◌, ◌++◌, take}
use Rattle.std.proofs.Common.{add-one, Some}
use Rattle.std.specs.Prelude.{slice_get, fold, ⊤}
use Rattle.std.proofs.lemmas.Option.{none-some, same_Some}
use Rattle.ilk_base.specs.declared.words.Op.{Op}
use Rattle.station_graph.specs.CentralRules.{carried_out}
use Rattle.switching_orders.specs.OrderRuling.{after_all}

-- it holds of each operation in the vector after those before it
abbrev pub EachAfter : (List Bool → Op → Type 0) → List Bool → List Op → Type 0
EachAfter P v [] = ⊤
EachAfter P v (op ∷ ops) = P v op × EachAfter P (carried_out v op) ops

pub EachAfter-from_index : (P : List Bool → Op → Type 0) (v : List Bool) (ops : List Op) →
    ((k : ℕ) (op : Op) → slice_get ops k ≡ Some op → P (after_all v (take k ops)) op) → EachAfter P v ops
EachAfter-from_index P v [] each = tt
EachAfter-from_index P v (op ∷ ops) each = (
  each zero op refl,
  EachAfter-from_index P (carried_out v op) ops
      (λ k next at. each (suc k) next at),
)

pub index-from_EachAfter : (P : List Bool → Op → Type 0) (v : List Bool) (ops : List Op) → EachAfter P v ops →
    (k : ℕ) (op : Op) → slice_get ops k ≡ Some op → P (after_all v (take k ops)) op
index-from_EachAfter P v [] each k op at = absurd (none-some op at)
index-from_EachAfter P v (first ∷ ops) each zero op at = subst (P v) (same_Some first op at) each.0
index-from_EachAfter P v (first ∷ ops) each (suc k) op at = index-from_EachAfter P (carried_out v first) ops
    each.1 k op at

pub EachAfter-push : (P : List Bool → Op → Type 0) (v : List Bool) (ops : List Op) (op : Op) → EachAfter P v ops →
    P (after_all v ops) op → EachAfter P v (ops ++ op ∷ [])
EachAfter-push P v [] op each last = (last, tt)
EachAfter-push P v (first ∷ ops) op each last = (each.0, EachAfter-push P (carried_out v first) ops op each.1 last)

pub after_all-append : (v : List Bool) (xs ys : List Op) → after_all v (xs ++ ys) ≡ after_all (after_all v xs) ys
after_all-append v [] ys = refl
after_all-append v (x ∷ xs) ys = after_all-append (carried_out v x) xs ys

take-suc : {X : Type 0} (xs : List X) (k : ℕ) (x : X) → slice_get xs k ≡ Some x → take (suc k) xs ≡ take k xs ++ x ∷ []
take-suc [] k x at = absurd (none-some x at)
take-suc (y ∷ xs) zero x at = ap (λ z. z ∷ []) (same_Some y x at)
take-suc {X} (y ∷ xs) (suc k) x at = ap (λ (zs : List X). y ∷ zs) (take-suc xs k x at)

pub take-next : {X : Type 0} (xs : List X) (k : ℕ) (x : X) → slice_get xs k ≡ Some x →
    take (k + 1) xs ≡ take k xs ++ x ∷ []
take-next xs k x at = ap (λ n. take n xs) (add-one k) ∙ take-suc xs k x at
