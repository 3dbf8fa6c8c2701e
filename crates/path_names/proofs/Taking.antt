-- One item more of the front of a list, behind another list.
use Rattle.std.proofs.Common.{◌≡◌, ◌+◌, ℕ, List, [], ◌∷◌, ◌++◌, Some, sym, ap, take, ◌∙◌, append_assoc}
use Rattle.std.specs.Prelude.{slice_get}
use Rattle.std.proofs.lemmas.List.{take_more}
use Rattle.std.proofs.lemmas.Option.{slice_get_within, get_or_from_slice_get}

pub one_more : {X : Type 0} (front now xs : List X) (k : ℕ) (x : X) → now ≡ front ++ take k xs → slice_get xs k ≡ Some x
    → now ++ x ∷ [] ≡ front ++ take (k + 1) xs
one_more {X} front now xs k x is at =
    ap (λ (ys : List X). ys ++ x ∷ []) is ∙ append_assoc front (take k xs) (x ∷ [])
    ∙ ap (λ (ys : List X). front ++ ys) (ap (λ (y : X). take k xs ++ y ∷ []) (sym (get_or_from_slice_get xs k x x at))
    ∙ sym (take_more xs k x (slice_get_within xs k x at)))
