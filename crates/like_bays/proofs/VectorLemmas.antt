-- Positions of all switches, exchanged by a table.
use Rattle.std.proofs.Common.{◌≡◌, ℕ, ◌+◌, ◌<◌, ◌≤◌, zero, suc, Bool, false, List, [], ◌∷◌, ◌++◌, length, map, slice_get, Some, get_or}
use Rattle.std.proofs.Common.{refl, sym, ap, ◌∙◌, subst, inl, inr, arith}
use Rattle.std.specs.List.{range_with_len}
use Rattle.std.proofs.lemmas.Bool.{cases_lt}
use Rattle.std.proofs.lemmas.List.FromFn.{length-map-range_with_len, get_or-map-range_with_len, map-range_with_len_more}
use Rattle.std.proofs.lemmas.Option.{slice_get-get_or, slice_get_past, slice_get_within}
use Rattle.station_graph.specs.Diagram.{Diagram}
use Rattle.station_graph.specs.declared.items.Switch.{Switch}
use Rattle.release_dependence.specs.Exchange.{IsExchanged}
use Rattle.like_bays.specs.Like.{led_by, IsExchangeBy}

-- the positions of the first n switches, exchanged
abbrev pub exchanged_first : List ℕ → List Bool → ℕ → List Bool
exchanged_first table v n = map (λ (i : ℕ). get_or v (led_by table i) false) (range_with_len 0 n)

pub exchanged_more : (table : List ℕ) (v : List Bool) (i : ℕ) →
    exchanged_first table v (i + 1) ≡ exchanged_first table v i ++ get_or v (led_by table i) false ∷ []
exchanged_more table v i = map-range_with_len_more (λ (k : ℕ). get_or v (led_by table k) false) 0 i i (omega arith)

-- those of all switches
abbrev pub exchanged : Diagram → List ℕ → List Bool → List Bool
exchanged d table v = exchanged_first table v (length d.switches)

pub exchanged_len : (d : Diagram) (table : List ℕ) (v : List Bool) → length (exchanged d table v) ≡ length d.switches
exchanged_len d table v = length-map-range_with_len (λ (i : ℕ). get_or v (led_by table i) false) 0 (length d.switches)

some_at : (xs : List Switch) (i : ℕ) → i < length xs → (x : Switch) × (slice_get xs i ≡ Some x)
some_at [] i lt = absurd (omega (arith, lt))
some_at (x ∷ xs) zero lt = (x, refl)
some_at (x ∷ xs) (suc i) lt = some_at xs i (omega (arith, lt))

module _ (d : Diagram) (table : List ℕ) (h : IsExchangeBy d table) where
  pub led_back : (i : ℕ) → led_by table (led_by table i) ≡ i
  led_back i =
      sym (h.leads (led_by table i)) ∙ (ap h.exchange.switch_to (sym (h.leads i)) ∙ h.exchange.switch_back i)

  pub led_within : (i : ℕ) → i < length d.switches → led_by table i < length d.switches
  led_within i lt =
      let (s, at) = some_at d.switches i lt in
      let y = h.exchange.switches i s at in
      subst (λ (k : ℕ). k < length d.switches) (h.leads i)
      (slice_get_within d.switches (h.exchange.switch_to i) y.switch y.listed)

  led_past : (i : ℕ) → length d.switches ≤ i → length d.switches ≤ led_by table i
  led_past i le = elim (cases_lt (led_by table i) (length d.switches)) [
    | inl lt ↦
        let back : led_by table (led_by table i) < length d.switches = led_within (led_by table i) lt in
        absurd (omega (arith, back, led_back i, le))
    | inr past ↦ past
  ]

  pub is_exchanged : (v : List Bool) → length v ≡ length d.switches →
      IsExchanged (led_by table) v (exchanged d table v)
  is_exchanged v len i = elim (cases_lt i (length d.switches)) [
    | inl lt ↦
        let j = led_by table i in
        let there : j < length d.switches = led_within i lt in
        let position : get_or (exchanged d table v) j false ≡ get_or v (led_by table j) false =
        get_or-map-range_with_len (λ (k : ℕ). get_or v (led_by table k) false) 0 (length d.switches) j j false there
        (omega arith) in
        slice_get-get_or v i false (omega (arith, len, lt))
        ∙ sym (slice_get-get_or (exchanged d table v) j false (omega (arith, exchanged_len d table v, there))
        ∙ ap Some (position ∙ ap (λ (k : ℕ). get_or v k false) (led_back i)))
    | inr le ↦
        slice_get_past v i (omega (arith, len, le))
        ∙ sym (slice_get_past (exchanged d table v) (led_by table i)
        (omega (arith, exchanged_len d table v, led_past i le)))
  ]
