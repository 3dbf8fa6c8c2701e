-- Places in a list without repeats, which seats tell.
use Rattle.std.proofs.Common.{◌≡◌, ◌≢◌, ℕ, ◌<◌, ◌⊎◌, List, [], ◌∷◌, ◌++◌, length, set, slice_get, Some, sym, ap}
use Rattle.std.proofs.Common.{◌∙◌, inl, inr, arith}
use Rattle.std.proofs.lemmas.List.{length_push, length-set, get_or-set_same, get_or-set_other}
use Rattle.std.proofs.lemmas.Option.{slice_get_within, slice_get-get_or, get_or_from_slice_get, same_Some}
use Rattle.station_graph.proofs.PathLemmas.{slice_get-push}
use Rattle.judge_pool.specs.Pooling.{Extends}
use Rattle.judge_pool.specs.Layering.{AreSeats, IsPlaced}
use Rattle.judge_pool.proofs.LayerLemmas.{get_front, get_last}

-- no number stands in the list
pub seats_none : (list seats : List ℕ) → list ≡ [] → AreSeats list seats
seats_none list seats none b t at = absurd (let h : slice_get {X = ℕ} [] b ≡ Some t = ap (λ l. slice_get l b) (sym none) ∙ at in cc)

pub seats_more : (list seats seats' : List ℕ) → Extends seats seats' → AreSeats list seats → AreSeats list seats'
seats_more list seats seats' more h b t at = more t b (h b t at)

-- a number that does not stand where its seat tells stands nowhere
pub seat_tells : (list seats : List ℕ) (id told : ℕ) → AreSeats list seats → slice_get seats id ≡ Some told →
    (slice_get list told ≡ Some id → ⊥) → (b : ℕ) → slice_get list b ≡ Some id → ⊥
seat_tells list seats id told h at not b at_b =
    not (ap (slice_get list) (same_Some told b (sym at ∙ h b id at_b)) ∙ at_b)

-- where the number stands already
pub placed_old : (list : List ℕ) (id place : ℕ) → slice_get list place ≡ Some id → IsPlaced list list id place
placed_old list id place at = record {
  at = at;
  stays = λ i x h. h;
  only = λ b t h. inl h;
  none_twice = λ h. h;
  grown = omega arith;
}

-- a new number at the end
module _ (list : List ℕ) (id : ℕ) (new : (b : ℕ) → slice_get list b ≡ Some id → ⊥) where
  cases : (b t : ℕ) → slice_get (list ++ id ∷ []) b ≡ Some t → (slice_get list b ≡ Some t) ⊎ ((b ≡ length list) × (t ≡ id))
  cases b t h = elim (slice_get-push list id t b h) [
    | inl before ↦ inl before
    | inr here ↦ inr (here.0, sym here.1)
  ]

  other : (b t : ℕ) → slice_get list b ≡ Some t → t ≢ id
  other b t at e = new b (at ∙ ap Some e)

  pub placed_new : IsPlaced list (list ++ id ∷ []) id (length list)
  placed_new = record {
    at = get_last list id;
    stays = λ i x h. get_front list (id ∷ []) i x h;
    only = cases;
    none_twice = λ twice a b t at_a at_b. elim (cases a t at_a) [
      | inl a_old ↦ elim (cases b t at_b) [
        | inl b_old ↦ twice a b t a_old b_old
        | inr b_new ↦ absurd (other a t a_old b_new.1)
      ]
      | inr a_new ↦ elim (cases b t at_b) [
        | inl b_old ↦ absurd (other b t b_old a_new.1)
        | inr b_new ↦ a_new.0 ∙ sym b_new.0
      ]
    ];
    grown = omega (arith, length_push list id);
  }

  module _ (seats : List ℕ) (h : AreSeats list seats) (seat : id < length seats) where
    set_here : slice_get (set seats id (length list)) id ≡ Some (length list)
    set_here =
        slice_get-get_or (set seats id (length list)) id 0 (omega (arith, seat, length-set seats id (length list)))
        ∙ ap Some (get_or-set_same seats id (length list) 0 seat)

    set_there : (b t : ℕ) → t ≢ id → slice_get seats t ≡ Some b → slice_get (set seats id (length list)) t ≡ Some b
    set_there b t ne at =
        slice_get-get_or (set seats id (length list)) t 0
        (omega (arith, slice_get_within seats t b at, length-set seats id (length list)))
        ∙ ap Some (get_or-set_other seats id t (length list) 0 ne ∙ get_or_from_slice_get seats t b 0 at)

    pub seats_new : AreSeats (list ++ id ∷ []) (set seats id (length list))
    seats_new b t at = elim (cases b t at) [
      | inl before ↦ set_there b t (other b t before) (h b t before)
      | inr here ↦
          ap (slice_get (set seats id (length list))) here.1 ∙ (set_here ∙ ap Some (sym here.0))
    ]
