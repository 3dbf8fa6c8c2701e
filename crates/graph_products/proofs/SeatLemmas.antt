-- Seats that tell the places of pairs.
use Rattle.std.proofs.Common.{◌≡◌, ◌≢◌, ℕ, ◌+◌, ◌<◌, List, [], ◌∷◌, ◌++◌, length, get_or, set}
use Rattle.std.proofs.Common.{slice_get, Some, refl, sym, ap, ◌∙◌, subst, inl, inr, arith}
use Rattle.std.proofs.lemmas.Bool.{cases_eq}
use Rattle.std.proofs.lemmas.List.{get_or-set_same, get_or-set_other}
use Rattle.std.proofs.lemmas.Nat.{same_from_place}
use Rattle.graph_products.specs.declared.pair.Pair.{Pair}
use Rattle.graph_products.specs.Layering.{IsPlaced}
use Rattle.graph_products.specs.Seating.{seat_of, AreSeats}
use Rattle.graph_products.proofs.ListLemmas.{get_front, get_last, slice_get-push}
use Rattle.graph_products.proofs.PlaceLemmas.{pair_same, placed_old, placed_new}

-- pairs of one seat are one
same_seat : (width : ℕ) (x y : Pair) → x.second < width → y.second < width → seat_of width x ≡ seat_of width y → x ≡ y
same_seat width x y x_in y_in e =
    let parts = same_from_place x.first x.second y.first y.second width x_in y_in e in
    pair_same x.first x.second y.first y.second parts.0 parts.1

module _ (width : ℕ) (seats : List ℕ) (list : List Pair) (pair : Pair) (are : AreSeats width seats list)
    (second : pair.second < width) where
  pub placed_there : (p : ℕ) → get_or seats (seat_of width pair) 0 ≡ p + 1 → IsPlaced list list pair p
  placed_there p told =
      let s = are.stands (seat_of width pair) p told in
      let same : s.0 ≡ pair = same_seat width s.0 pair (are.told p s.0 s.1).0 second s.2 in
      placed_old list pair p list refl (s.1 ∙ ap Some same)

  module _ (free_seat : get_or seats (seat_of width pair) 0 ≡ 0) where
    not_there : (k : ℕ) (x : Pair) → slice_get list k ≡ Some x → pair ≢ x
    not_there k x at e =
        omega (arith, (are.told k x at).1, free_seat, ap (λ (y : Pair). get_or seats (seat_of width y) 0) e)

    pub placed_behind : IsPlaced list (list ++ pair ∷ []) pair (length list)
    placed_behind = placed_new list pair (length list) (list ++ pair ∷ []) refl (get_last list pair) not_there

    abbrev after : List ℕ
    after = set seats (seat_of width pair) (length list + 1)

    other : (k : ℕ) → k ≢ seat_of width pair → get_or after k 0 ≡ get_or seats k 0
    other k ne = get_or-set_other seats (seat_of width pair) k (length list + 1) 0 ne

    module _ (within : seat_of width pair < length seats) where
      here : get_or after (seat_of width pair) 0 ≡ length list + 1
      here = get_or-set_same seats (seat_of width pair) (length list + 1) 0 within

      told_after : (p : ℕ) (x : Pair) → slice_get (list ++ pair ∷ []) p ≡ Some x →
          (x.second < width) × (get_or after (seat_of width x) 0 ≡ p + 1)
      told_after p x at = elim (slice_get-push list pair x p at) [
        | inl before ↦
            let t = are.told p x before in
            let ne : seat_of width x ≢ seat_of width pair =
            λ e. not_there p x before (sym (same_seat width x pair t.0 second e)) in
            (t.0, other (seat_of width x) ne ∙ t.1)
        | inr last ↦ (
          subst (λ (y : Pair). y.second < width) last.1 second,
          ap (λ (y : Pair). get_or after (seat_of width y) 0) (sym last.1) ∙ (here ∙ ap (λ n. n + 1) (sym last.0)),
        )
      ]

      stands_after : (k p : ℕ) → get_or after k 0 ≡ p + 1 →
          (x : Pair) × (slice_get (list ++ pair ∷ []) p ≡ Some x) × (seat_of width x ≡ k)
      stands_after k p told = elim (cases_eq k (seat_of width pair)) [
        | inl same ↦
            let last : p ≡ length list = omega (arith, told, here, ap (λ n. get_or after n 0) same) in
            (pair, ap (slice_get (list ++ pair ∷ [])) last ∙ get_last list pair, sym same)
        | inr ne ↦
            let s = are.stands k p (sym (other k ne) ∙ told) in
            (s.0, get_front list (pair ∷ []) p s.0 s.1, s.2)
      ]

      pub seats_after : AreSeats width after (list ++ pair ∷ [])
      seats_after = record {
        told = told_after;
        stands = stands_after;
      }
