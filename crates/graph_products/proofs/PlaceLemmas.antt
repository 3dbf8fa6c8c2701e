-- Places in a list without repeats.
use Rattle.std.proofs.Common.{◌≡◌, ◌≢◌, ℕ, ◌⊎◌, Bool, true, false, cond, List, [], ◌∷◌, ◌++◌, length, get_or, slice_get}
use Rattle.std.proofs.Common.{Some, refl, sym, ap, ◌∙◌, subst, inl, inr, arith, nat_eq}
use Rattle.std.specs.Bool.{Decides}
use Rattle.std.specs.Prelude.{◌&&◌}
use Rattle.std.specs.List.{list_any}
use Rattle.std.proofs.lemmas.Bool.{false≢true}
use Rattle.std.proofs.lemmas.Bool.Decides.{Decides-eqb, Decides-and, Decides-like}
use Rattle.std.proofs.lemmas.List.{length_push}
use Rattle.std.proofs.lemmas.List.Folds.{list_any_at}
use Rattle.std.proofs.lemmas.Option.{slice_get_within, get_or_from_slice_get}
use Rattle.indexmap.specs.IndexSet.{insert_key}
use Rattle.graph_products.specs.declared.pair.Pair.{Pair}
use Rattle.graph_products.specs.Products.{pair_of}
use Rattle.graph_products.specs.Layering.{NoneTwice, IsPlaced}
use Rattle.graph_products.proofs.ListLemmas.{get_front, slice_get-push}

-- whether both numbers are equal
abbrev pub same_pair : Pair → Pair → Bool
same_pair x y = nat_eq x.first y.first && nat_eq x.second y.second

-- pairs of equal numbers are one
pub pair_same : (a b c d : ℕ) → a ≡ c → b ≡ d → pair_of a b ≡ pair_of c d
pair_same a b c d first second = rw (first, second) refl

pair_decides : (x y : Pair) → Decides (same_pair x y) (x ≡ y)
pair_decides x y =
    Decides-like (same_pair x y) (λ e. pair_same x.first x.second y.first y.second e.0 e.1)
    (λ e. (ap (λ (z : Pair). z.first) e, ap (λ (z : Pair). z.second) e))
    (Decides-and (nat_eq x.first y.first) (nat_eq x.second y.second) (Decides-eqb x.first y.first)
    (Decides-eqb x.second y.second))

none_there : (pairs : List Pair) (pair : Pair) → list_any (same_pair pair) pairs ≡ false → (k : ℕ) (x : Pair) →
    slice_get pairs k ≡ Some x → pair ≢ x
none_there pairs pair none k x at e =
    let passes : same_pair pair (get_or pairs k x) ≡ true =
    (pair_decides pair (get_or pairs k x)).1 (e ∙ sym (get_or_from_slice_get pairs k x x at)) in
    false≢true (sym none ∙ list_any_at (same_pair pair) pairs k x (slice_get_within pairs k x at) passes)

module _ (old : List Pair) (pair : Pair) (place : ℕ) where
  pub placed_old : (new : List Pair) → new ≡ old → slice_get new place ≡ Some pair → IsPlaced old new pair place
  placed_old new e at = record {
    at = at;
    stays = λ i x h. ap (λ l. slice_get l i) e ∙ h;
    only = λ b x h. inl (ap (λ l. slice_get l b) (sym e) ∙ h);
    none_twice = λ h. subst (λ l. NoneTwice l) (sym e) h;
    grown = omega (arith, ap length e);
  }

  module _ (new : List Pair) (e : new ≡ old ++ pair ∷ []) (at : slice_get new place ≡ Some pair)
      (none : (k : ℕ) (x : Pair) → slice_get old k ≡ Some x → pair ≢ x) where
    at_end : place ≡ length old
    at_end = elim (slice_get-push old pair pair place (ap (λ l. slice_get l place) (sym e) ∙ at)) [
      | inl before ↦ absurd (none place pair before refl)
      | inr here ↦ here.0
    ]

    new_cases : (b : ℕ) (x : Pair) → slice_get new b ≡ Some x → (slice_get old b ≡ Some x) ⊎ ((b ≡ place) × (x ≡ pair))
    new_cases b x h = elim (slice_get-push old pair x b (ap (λ l. slice_get l b) (sym e) ∙ h)) [
      | inl before ↦ inl before
      | inr here ↦ inr (here.0 ∙ sym at_end, sym here.1)
    ]

    pub placed_new : IsPlaced old new pair place
    placed_new = record {
      at = at;
      stays = λ i x h. ap (λ l. slice_get l i) e ∙ get_front old (pair ∷ []) i x h;
      only = new_cases;
      none_twice = λ twice a b t at_a at_b. elim (new_cases a t at_a) [
        | inl a_old ↦ elim (new_cases b t at_b) [
          | inl b_old ↦ twice a b t a_old b_old
          | inr b_new ↦ absurd (none a t a_old (sym b_new.1))
        ]
        | inr a_new ↦ elim (new_cases b t at_b) [
          | inl b_old ↦ absurd (none b t b_old (sym a_new.1))
          | inr b_new ↦ a_new.0 ∙ sym b_new.0
        ]
      ];
      grown = omega (arith, ap length e, length_push old pair);
    }

pub placed : (old new : List Pair) (pair : Pair) (place : ℕ) → new ≡ insert_key same_pair old pair →
    (k : Pair) × (slice_get new place ≡ Some k) × (same_pair pair k ≡ true) → IsPlaced old new pair place
placed old new pair place keys (k, at, same) = by_case (list_any (same_pair pair) old) refl
  where
    at_pair : slice_get new place ≡ Some pair
    at_pair = at ∙ ap Some (sym ((pair_decides pair k).0 same))

    by_case : (b : Bool) → list_any (same_pair pair) old ≡ b → IsPlaced old new pair place
    by_case true any =
        placed_old old pair place new (keys ∙ ap (λ b. cond b old (old ++ pair ∷ [])) any) at_pair
    by_case false none =
        placed_new old pair place new (keys ∙ ap (λ b. cond b old (old ++ pair ∷ [])) none) at_pair
        (none_there old pair none)
