-- Lists of numbers that are kept, and one more.
use Rattle.std.proofs.Common.{◌≡◌, ℕ, List, [], ◌∷◌, ◌++◌, length, slice_get, map, Some, sym, ap, ◌∙◌, Vec, Global}
use Rattle.std.proofs.lemmas.List.{map_push, length-map}
use Rattle.judge_pool.specs.Pooling.{Extends}
use Rattle.judge_pool.proofs.LayerLemmas.{get_front, get_last}

abbrev items_in : List (Vec ℕ Global) → List (List ℕ)
items_in vs = map (λ (v : Vec ℕ Global). v.items) vs

module _ (old new : List (Vec ℕ Global)) (v : Vec ℕ Global) (pushed : new ≡ old ++ v ∷ []) where
  items_pushed : items_in new ≡ items_in old ++ v.items ∷ []
  items_pushed = ap items_in pushed ∙ map_push (λ (w : Vec ℕ Global). w.items) old v

  -- a list that is put last leaves those before it
  pub lists_more : Extends (items_in old) (items_in new)
  lists_more i x at = ap (λ ls. slice_get ls i) items_pushed ∙ get_front (items_in old) (v.items ∷ []) i x at

  -- and stands behind them
  pub list_last : slice_get (items_in new) (length old) ≡ Some v.items
  list_last =
      ap (λ ls. slice_get ls (length old)) items_pushed
      ∙ (ap (slice_get (items_in old ++ v.items ∷ [])) (sym (length-map old (λ (w : Vec ℕ Global). w.items)))
      ∙ get_last (items_in old) v.items)
