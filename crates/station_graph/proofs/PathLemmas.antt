-- Tables of paths: a set of texts, seen as the list of their bytes.
use Rattle.std.proofs.Common.{◌≡◌, ℕ, ◌⊎◌, inl, inr, zero, suc, cond, true, List, []}
use Rattle.std.proofs.Common.{◌∷◌, ◌++◌, length, map, slice_get, get_or, position, Contains, Option, Some, None}
use Rattle.std.proofs.Common.{is_some, Global, refl, sym, ◌∙◌, ap, subst}
use Rattle.std.specs.Prelude.{IfSome, IfNone}
use Rattle.std.specs.List.{list_any}
use Rattle.std.proofs.lemmas.List.{length-map, map-append}
use Rattle.std.specs.Str.{bytes_eq}
use Rattle.std.proofs.lemmas.Slice.Eq.{bytes_eq-Decides}
use Rattle.std.proofs.lemmas.Map.Views.{Contains-from_any}
use Rattle.std.proofs.lemmas.List.Quantifiers.{position-Some}
use Rattle.std.proofs.lemmas.List.Folds.{list_any_at}
use Rattle.std.proofs.lemmas.Option.{slice_get-get_or, slice_get_within, get_or_from_slice_get}
use Rattle.station_graph.specs.Diagram.{Differ}
use Rattle.std.specs.declared.rc.RcStr.{RcStr}
use Rattle.std.specs.Rc.{rc_str_bytes}
use Rattle.std.specs.Ordering.{nat_cmp}
use Rattle.std.specs.Cmp.Lexicographic.{slice_cmp}
use Rattle.std.specs.BTreeMap.{BTreeMap, Updates}
use Rattle.station_graph.specs.Placing.{place_of, ArePlaces}
use Rattle.station_graph.proofs.TextPlaces.{some_place, placed_push, place_updates}

-- an element of a list stands in it
pub Contains-from_slice_get : {X : Type 0} (xs : List X) (i : ℕ) (x : X) → slice_get xs i ≡ Some x → Contains xs x
Contains-from_slice_get xs i x e = (i, slice_get_within xs i x e, get_or_from_slice_get xs i x x e)

-- an element of a list with one more
pub slice_get-push : {X : Type 0} (xs : List X) (y x : X) (i : ℕ) → slice_get (xs ++ y ∷ []) i ≡ Some x →
    (slice_get xs i ≡ Some x) ⊎ ((i ≡ length xs) × (y ≡ x))
slice_get-push [] y x zero e = inr (refl, cc)
slice_get-push [] y x (suc i) e = cc
slice_get-push (z ∷ zs) y x zero e = inl e
slice_get-push (z ∷ zs) y x (suc i) e = elim (slice_get-push zs y x i e) [
  | inl h ↦ inl h
  | inr h ↦ inr (ap suc h.0, h.1)
]

-- a new path differs from the others
pub Differ-push : (paths : List (List ℕ)) (p : List ℕ) → ¬ Contains paths p → Differ paths → Differ (paths ++ p ∷ [])
Differ-push paths p new h i j q at_i at_j =
    elim (slice_get-push paths p q i at_i) [
      | inl old_i ↦ elim (slice_get-push paths p q j at_j) [
        | inl old_j ↦ h i j q old_i old_j
        | inr new_j ↦ absurd (new (subst (λ r. Contains paths r) (sym new_j.1)
            (Contains-from_slice_get paths i q old_i)))
      ]
      | inr new_i ↦ elim (slice_get-push paths p q j at_j) [
        | inl old_j ↦ absurd (new (subst (λ r. Contains paths r) (sym new_i.1)
            (Contains-from_slice_get paths j q old_j)))
        | inr new_j ↦ new_i.0 ∙ sym new_j.0
      ]
    ]

module _ (all : List (List ℕ)) (p : List ℕ) (o : Option ℕ) (found : o ≡ position (bytes_eq p) all) where
  -- what is found has the text
  pub found_text : IfSome o (λ i. slice_get all i ≡ Some p)
  found_text = by o found
    where
      by : (o : Option ℕ) → o ≡ position (bytes_eq p) all → IfSome o (λ i. slice_get all i ≡ Some p)
      by None e = tt
      by (Some i) e = let at = position-Some (bytes_eq p) all i p (sym e) in
          slice_get-get_or all i p at.0 ∙ ap Some (sym ((bytes_eq-Decides p (get_or all i p)).0 at.1))

  -- what is not found is not there
  pub none_text : IfNone o (¬ Contains all p)
  none_text = by o (ap is_some found ∙ some_place (bytes_eq p) all)
    where
      by : (o : Option ℕ) → is_some o ≡ list_any (bytes_eq p) all → IfNone o (¬ Contains all p)
      by (Some i) e = tt
      by None e = λ (k, k_in, at).
          let passes : bytes_eq p (get_or all k p) ≡ true = (bytes_eq-Decides p (get_or all k p)).1 (sym at) in
          let any : list_any (bytes_eq p) all ≡ true = list_any_at (bytes_eq p) all k p k_in passes in
          cc

-- a text that is not in the list has no place
pub no_place : (all : List (List ℕ)) (p : List ℕ) → ¬ Contains all p → position (bytes_eq p) all ≡ None
no_place all p new = by (position (bytes_eq p) all) refl
  where
    by : (o : Option ℕ) → position (bytes_eq p) all ≡ o → o ≡ None
    by None e = refl
    by (Some i) e = absurd (new (Contains-from_any (λ x y. (bytes_eq-Decides x y).0) p all (sym (some_place
        (bytes_eq p) all) ∙ ap is_some e)))

-- the places after a path that was not there goes to the end
pub places_push : (m n : BTreeMap (RcStr Global) ℕ) (old : List (List ℕ)) (items news : List (RcStr Global))
    (path key : RcStr Global) (text : List ℕ) (place : ℕ) → map rc_str_bytes items ≡ old →
    ArePlaces m (map rc_str_bytes items) → ¬ Contains old text → rc_str_bytes path ≡ text →
    rc_str_bytes key ≡ rc_str_bytes path → place ≡ length items → Updates (λ x y. slice_cmp nat_cmp (rc_str_bytes x)
    (rc_str_bytes y)) m n key (Some place) → news ≡ items ++ path ∷ [] → ArePlaces n (map rc_str_bytes news)
places_push m n old items news path key text place seen h new is copy at updates more t =
    let texts = map rc_str_bytes items in
    let none : position (bytes_eq text) texts ≡ None = subst (λ (l : List (List ℕ)). position (bytes_eq text) l ≡ None)
    (sym seen) (no_place old text new) in
    let changes : (cs : List ℕ) → place_of n cs ≡ cond (bytes_eq text cs) (Some (length texts)) (place_of m cs) =
    λ cs. place_updates m n (Some place) (rc_str_bytes key) updates cs
    ∙ (ap (λ b. cond (bytes_eq b cs) (Some place) (place_of m cs)) (copy ∙ is)
    ∙ ap (λ k. cond (bytes_eq text cs) (Some k) (place_of m cs)) (at ∙ sym (length-map items rc_str_bytes))) in
    placed_push texts text (place_of m) (place_of n) h none changes t
    ∙ sym (ap (position (bytes_eq t)) (ap (map rc_str_bytes) more ∙ (map-append rc_str_bytes items (path ∷ [])
    ∙ ap (λ l. texts ++ l ∷ []) is)))
