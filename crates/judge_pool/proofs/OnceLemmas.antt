-- Letters that stand in a list once, and the edges of the choices that have them.
use Rattle.std.proofs.Common.{◌≡◌, ℕ, ◌<◌, List, [], ◌++◌, length, get_or, slice_get, Some, sym, ap, ◌∙◌}
use Rattle.std.proofs.Common.{subst, inl, inr, arith}
use Rattle.std.proofs.lemmas.List.{length-map, get_or-map}
use Rattle.std.proofs.lemmas.Option.{slice_get_within, slice_get-get_or, get_or_from_slice_get}
use Rattle.judge_pool.specs.declared.batch.Batch.{Batch}
use Rattle.judge_pool.specs.declared.pool.Pool.{Pool}
use Rattle.judge_pool.specs.Pooling.{WasMade, MakesEach, composition}
use Rattle.judge_pool.specs.Layering.{AreAdded, NameAll, at_places}

-- ---- each letter once

module _ (letters once places : List ℕ) (by : AreAdded [] [] letters once places) where
  same_count : length places ≡ length letters
  same_count = ap length by.behind ∙ by.len

  place_at : (c j : ℕ) → slice_get letters c ≡ Some j → slice_get once (get_or places c 0) ≡ Some j
  place_at c j at = ap (λ l. slice_get once (get_or l c 0)) by.behind ∙ by.at c j at

  pub letter_of : (m j : ℕ) → slice_get once m ≡ Some j →
      (c : ℕ) × (slice_get letters c ≡ Some j) × (get_or places c 0 ≡ m)
  letter_of m j at = elim (by.only m j at) [
    | inl none ↦ absurd (let h : slice_get {X = ℕ} [] m ≡ Some j = none in cc)
    | inr h ↦ (h.0, h.1, ap (λ l. get_or l h.0 0) by.behind ∙ h.2)
  ]

  pub some_once : 0 < length letters → 0 < length once
  some_once some =
      let at = place_at 0 (get_or letters 0 0) (slice_get-get_or letters 0 0 some) in
      omega (arith, slice_get_within once (get_or places 0 0) (get_or letters 0 0) at)

  within_once : (c k : ℕ) → slice_get places c ≡ Some k → k < length once
  within_once c k at =
      let lt : c < length letters = omega (arith, slice_get_within places c k at, same_count) in
      let here = place_at c (get_or letters c 0) (slice_get-get_or letters c 0 lt) in
      subst (λ n. n < length once) (get_or_from_slice_get places c k 0 at)
      (slice_get_within once (get_or places c 0) (get_or letters c 0) here)

  named : (k : ℕ) → k < length once → (c : ℕ) × (slice_get places c ≡ Some k)
  named k lt =
      let h = letter_of k (get_or once k 0) (slice_get-get_or once k 0 lt) in
      let c_in : h.0 < length places =
      omega (arith, slice_get_within letters h.0 (get_or once k 0) h.1, same_count) in
      (h.0, slice_get-get_or places h.0 0 c_in ∙ ap Some h.2)

  pub names_all : NameAll (length once) places
  names_all = record { within = within_once; each = named; few = omega (arith, by.grown, same_count) }

-- ---- what stands at places

module _ (ids places : List ℕ) where
  spread_len : length (at_places ids places) ≡ length places
  spread_len = length-map places (λ k. get_or ids k 0)

  spread_is : (c : ℕ) → c < length places → get_or (at_places ids places) c 0 ≡ get_or ids (get_or places c 0) 0
  spread_is c lt = get_or-map (λ k. get_or ids k 0) places c 0 0 lt

  spread_in : (c t : ℕ) → slice_get (at_places ids places) c ≡ Some t → c < length places
  spread_in c t at = omega (arith, slice_get_within (at_places ids places) c t at, spread_len)

  spread_at : (c t : ℕ) → slice_get (at_places ids places) c ≡ Some t → get_or ids (get_or places c 0) 0 ≡ t
  spread_at c t at =
      sym (spread_is c (spread_in c t at)) ∙ get_or_from_slice_get (at_places ids places) c t 0 at

-- what a value and each letter make together is what it and the letter of each choice make
pub spread_made : (p : Pool) (b : Batch) (letters once places ids : List ℕ) → AreAdded [] [] letters once places →
    MakesEach p b once ids → MakesEach p b letters (at_places ids places)
spread_made p b letters once places ids by m = record {
  len = spread_len ids places ∙ same_count letters once places by;
  made = λ c j t at_c at_t.
      let at_k = place_at letters once places by c j at_c in
      let lt : get_or places c 0 < length ids =
      omega (arith, slice_get_within once (get_or places c 0) j at_k, m.len) in
      subst (λ n. WasMade p.view p.values.items p.keeps.items (composition b j) n) (spread_at ids places c t at_t)
      (m.made (get_or places c 0) j (get_or ids (get_or places c 0) 0) at_k
      (slice_get-get_or ids (get_or places c 0) 0 lt));
}

-- ---- edges

pub ends_within : (old ids next ends : List ℕ) → AreAdded old [] ids next ends → (k t : ℕ) →
    slice_get ends k ≡ Some t → t < length next
ends_within old ids next ends added k t at =
    let lt : k < length ids = omega (arith, slice_get_within ends k t at, ap length added.behind, added.len) in
    let is : get_or added.to k 0 ≡ t =
    ap (λ l. get_or l k 0) (sym added.behind) ∙ get_or_from_slice_get ends k t 0 at in
    slice_get_within next t (get_or ids k 0)
    (ap (slice_get next) (sym is) ∙ added.at k (get_or ids k 0) (slice_get-get_or ids k 0 lt))

module _ (old edges ids places next ends edges' : List ℕ) (names : NameAll (length ids) places)
    (added : AreAdded old [] ids next ends) (e : edges' ≡ edges ++ at_places ends places) where
  to_at : (c : ℕ) → c < length places →
      get_or (at_places ends places) c 0 ≡ get_or added.to (get_or places c 0) 0
  to_at c lt = spread_is ends places c lt ∙ ap (λ l. get_or l (get_or places c 0) 0) added.behind

  at_spread : (c id : ℕ) → slice_get (at_places ids places) c ≡ Some id →
      slice_get next (get_or (at_places ends places) c 0) ≡ Some id
  at_spread c id at =
      let c_in = spread_in ids places c id at in
      let k_in = names.within c (get_or places c 0) (slice_get-get_or places c 0 c_in) in
      ap (slice_get next) (to_at c c_in)
      ∙ (added.at (get_or places c 0) (get_or ids (get_or places c 0) 0)
      (slice_get-get_or ids (get_or places c 0) 0 k_in) ∙ ap Some (spread_at ids places c id at))

  -- a choice of a letter
  choice_of : (k t b : ℕ) → slice_get ids k ≡ Some t → get_or added.to k 0 ≡ b →
      (c : ℕ) × (slice_get (at_places ids places) c ≡ Some t) × (get_or (at_places ends places) c 0 ≡ b)
  choice_of k t b at_k leads =
      let n = names.each k (slice_get_within ids k t at_k) in
      let c_in = slice_get_within places n.0 k n.1 in
      let is_k : get_or places n.0 0 ≡ k = get_or_from_slice_get places n.0 k 0 n.1 in (
        n.0,
        slice_get-get_or (at_places ids places) n.0 0 (omega (arith, c_in, spread_len ids places))
            ∙ ap Some (spread_is ids places n.0 c_in ∙ (ap (λ m. get_or ids m 0) is_k
            ∙ get_or_from_slice_get ids k t 0 at_k)),
        to_at n.0 c_in ∙ (ap (λ m. get_or added.to m 0) is_k ∙ leads),
      )

  pub added_spread : AreAdded old edges (at_places ids places) next edges'
  added_spread = record {
    to = at_places ends places;
    behind = e;
    len = spread_len ends places ∙ sym (spread_len ids places);
    at = at_spread;
    stays = added.stays;
    only = λ b t at. elim (added.only b t at) [
      | inl was ↦ inl was
      | inr h ↦ inr (choice_of h.0 t b h.1 h.2)
    ];
    none_twice = added.none_twice;
    grown = omega (arith, added.grown, names.few, spread_len ids places);
  }
