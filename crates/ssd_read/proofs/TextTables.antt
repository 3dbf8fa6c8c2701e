-- Tables of texts in order, and the lists of what was put into them.
use Rattle.std.proofs.Common.{◌≡◌, ◌<◌, ℕ, ◌+◌, List, [], ◌∷◌, ◌++◌, length, Option, Some, None, Bool, true, false, not}
use Rattle.std.proofs.Common.{cond, refl, ap, sym, ◌∙◌, String, Global, IsTrue, is_some, arith}
use Rattle.std.specs.Prelude.{IfSome}
use Rattle.std.specs.List.{list_any, position}
use Rattle.std.specs.String.{string_bytes, string_cmp}
use Rattle.std.specs.Str.{bytes_eq}
use Rattle.std.specs.BTreeMap.{BTreeMap, get_by_text, get, Updates}
use Rattle.std.proofs.lemmas.Map.Text.{btree_map_updates_text}
use Rattle.std.proofs.lemmas.List.{length-append}
use Rattle.std.proofs.lemmas.List.Quantifiers.{position-Some}
use Rattle.station_graph.proofs.TextPlaces.{some_place, placed_push}

-- a place is within the list
pub place_within : {X : Type 0} (p : X → Bool) (xs : List X) (o : Option ℕ) → o ≡ position p xs → IfSome o
    (λ i. i < length xs)
place_within p xs None e = tt
place_within p [] (Some i) e = cc
place_within p (x ∷ xs) (Some i) e = (position-Some p (x ∷ xs) i x (sym e)).0

-- nothing is found where the answer says so
nothing : {X : Type 0} (o : Option X) (b : Bool) → is_some o ≡ not b → IsTrue b → o ≡ None
nothing None b e t = refl
nothing (Some x) true e t = cc
nothing (Some x) false e t = cc

as_not : (a b : Bool) → a ≡ not b → b ≡ not a
as_not true true e = e
as_not true false e = refl
as_not false true e = refl
as_not false false e = e

module _ (m : BTreeMap (String Global) ℕ) (texts : List (List ℕ)) (seen : (t : List ℕ) → get_by_text m t
    ≡ position (bytes_eq t) texts) (text : String Global) (o : Option ℕ) (found : o ≡ get string_cmp m text) (b : Bool)
    (says : is_some o ≡ not b) where
  -- the answer tells whether the text was there
  pub new_text : b ≡ not (list_any (bytes_eq (string_bytes text)) texts)
  new_text = as_not (is_some o) b says ∙ ap not (ap is_some (found ∙ seen (string_bytes text))
      ∙ some_place (bytes_eq (string_bytes text)) texts)

  -- the places after an insertion of a text that was not there
  pub places_push : (n : BTreeMap (String Global) ℕ) (number : ℕ) → number ≡ length texts → Updates string_cmp m n text
      (Some number) → IsTrue b → (t : List ℕ) → get_by_text n t
      ≡ position (bytes_eq t) (texts ++ string_bytes text ∷ [])
  places_push n number count updates new =
      let x = string_bytes text in
      placed_push texts x (get_by_text m) (get_by_text n) seen (sym (seen x) ∙ (sym found ∙ nothing o b says new))
      (λ t. btree_map_updates_text x m n (Some number) updates t
      ∙ ap (λ k. cond (bytes_eq x t) (Some k) (get_by_text m t)) count)

  -- how many texts there are then
  pub count_push : (count more : ℕ) → count ≡ length texts → more ≡ count + cond (is_some o) 0 1 → IsTrue b →
      more ≡ length (texts ++ string_bytes text ∷ [])
  count_push count more e h new =
      let one : cond {A = ℕ} (is_some o) 0 1 ≡ 1 = ap (λ (o : Option ℕ). cond {A = ℕ} (is_some o) 0 1)
      (nothing o b says new) in
      let long : length (texts ++ string_bytes text ∷ []) ≡ length texts + 1 = length-append texts (string_bytes text
      ∷ []) in
      omega arith
