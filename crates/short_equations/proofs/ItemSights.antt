-- The load and bond sights of one switch, and the sights of one link and of one tap.
use Rattle.std.proofs.Common.{◌≡◌, ◌↔◌, ◌+◌, ◌<◌, length, ℕ, Bool, true, false, List, slice_get, Some, refl, sym, ◌∙◌}
use Rattle.std.proofs.Common.{ap, subst, inl, inr, arith}
use Rattle.ilk_base.specs.declared.words.Kind.{Kind}
use Rattle.ilk_base.specs.declared.words.Kind.TheVariants.{Breaker, Disconnector, Earthing, Infeed}
use Rattle.station_graph.specs.declared.items.Switch.{Switch}
use Rattle.station_graph.specs.declared.items.Link.{Link}
use Rattle.station_graph.specs.declared.items.Tap.{Tap}
use Rattle.station_graph.specs.Diagram.{Diagram, IsTwoEnded}
use Rattle.station_graph.specs.Connection.{Item, a_switch, a_link, a_tap, ItemBetween, LinkBetween, TouchingBy, AreEnds}
use Rattle.station_graph.specs.Connection.{with_breakers_closed}
use Rattle.station_graph.specs.Views.{ClosedAtBy, HasTapBy}
use Rattle.contraction.specs.Single.{Only}
use Rattle.short_equations.specs.declared.view.View.{View}
use Rattle.short_equations.specs.declared.view.View.TheVariants.{Gap, Load, Bond}
use Rattle.short_equations.specs.Sights.{second_mark, GapSight, LoadSight, BondSight, StepSight, step_in, SightBy}
use Rattle.short_equations.specs.Sights.{SwitchSight, LinkSight, TapSight}
use Rattle.short_equations.proofs.SightLemmas.{touching_there, touching_back, closed_there, closed_back, gap_of_switch}

abbrev tag : Item → ℕ
tag (a_switch k) = 0
tag (a_link k) = 1
tag (a_tap k) = 2

abbrev place : Item → ℕ
place (a_switch k) = k
place (a_link k) = k
place (a_tap k) = k

module _ (d : Diagram) (i : ℕ) (x : Switch) (listed : slice_get d.switches i ≡ Some x) (v : List Bool) where
  abbrev Closed : Type 0
  Closed = slice_get v i ≡ Some true

  no_tap : (n : ℕ) → HasTapBy (Only (a_switch i)) d n → ⊥
  no_tap n h = let e : 2 + 0 ≡ 0 + 0 = ap tag h.among in omega (arith, e)

  load_there : (k : Kind) → k ≡ x.kind → (a b : ℕ) → LoadSight (Only (a_switch i)) d v a b →
      StepSight (step_in Load k) x Closed a b
  load_there Breaker e a b (inl t) =
      let (q, second, ends, more) = touching_there d i x listed false v a b t in (q, second, ends, more.1)
  load_there Breaker e a b (inr h) = elim h.1 [
    | inl k ↦ let c = closed_there d i x listed v Infeed a k.1 in let f = e ∙ c.0 in cc
    | inr k ↦ absurd (no_tap a k.1)
  ]
  load_there Disconnector e a b (inl t) =
      let (q, second, ends, more) = touching_there d i x listed false v a b t in (q, second, ends, more.1)
  load_there Disconnector e a b (inr h) = elim h.1 [
    | inl k ↦ let c = closed_there d i x listed v Infeed a k.1 in let f = e ∙ c.0 in cc
    | inr k ↦ absurd (no_tap a k.1)
  ]
  load_there Earthing e a b (inl t) =
      let (q, second, ends, more) = touching_there d i x listed false v a b t in
      subst IsTwoEnded (sym e) more.0
  load_there Earthing e a b (inr h) = elim h.1 [
    | inl k ↦ let c = closed_there d i x listed v Infeed a k.1 in let f = e ∙ c.0 in cc
    | inr k ↦ no_tap a k.1
  ]
  load_there Infeed e a b (inl t) =
      let (q, second, ends, more) = touching_there d i x listed false v a b t in
      absurd (subst IsTwoEnded (sym e) more.0)
  load_there Infeed e a b (inr h) = elim h.1 [
    | inl k ↦ let c = closed_there d i x listed v Infeed a k.1 in (c.1, k.0, c.2)
    | inr k ↦ absurd (no_tap a k.1)
  ]

  load_back : (k : Kind) → k ≡ x.kind → (a b : ℕ) → StepSight (step_in Load k) x Closed a b → LoadSight (Only (a_switch i)) d v a b
  load_back Breaker e a b (q, second, ends, closed) =
      inl (touching_back d i x listed false v a b q second ends (subst IsTwoEnded e tt) closed)
  load_back Disconnector e a b (q, second, ends, closed) =
      inl (touching_back d i x listed false v a b q second ends (subst IsTwoEnded e tt) closed)
  load_back Earthing e a b h = absurd h
  load_back Infeed e a b (at, mark, closed) =
      inr (omega (arith, mark), inl (mark, closed_back d i x listed v Infeed a (sym e) at closed))

  pub load_of_switch : (a b : ℕ) → LoadSight (Only (a_switch i)) d v a b ↔ StepSight (step_in Load x.kind) x Closed a b
  load_of_switch a b = (load_there x.kind refl a b, load_back x.kind refl a b)

  bond_there : (k : Kind) → k ≡ x.kind → (a b : ℕ) → BondSight (Only (a_switch i)) d v a b →
      StepSight (step_in Bond k) x Closed a b
  bond_there Breaker e a b t =
      let (q, second, ends, more) = touching_there d i x listed true v a b t in (q, second, ends, more.1)
  bond_there Disconnector e a b t =
      let (q, second, ends, more) = touching_there d i x listed true v a b t in (q, second, ends, more.1)
  bond_there Earthing e a b t =
      let (q, second, ends, more) = touching_there d i x listed true v a b t in subst IsTwoEnded (sym e) more.0
  bond_there Infeed e a b t =
      let (q, second, ends, more) = touching_there d i x listed true v a b t in subst IsTwoEnded (sym e) more.0

  bond_back : (k : Kind) → k ≡ x.kind → (a b : ℕ) → StepSight (step_in Bond k) x Closed a b →
      BondSight (Only (a_switch i)) d v a b
  bond_back Breaker e a b (q, second, ends, closed) =
      touching_back d i x listed true v a b q second ends (subst IsTwoEnded e tt) closed
  bond_back Disconnector e a b (q, second, ends, closed) =
      touching_back d i x listed true v a b q second ends (subst IsTwoEnded e tt) closed
  bond_back Earthing e a b h = absurd h
  bond_back Infeed e a b h = absurd h

  pub bond_of_switch : (a b : ℕ) → BondSight (Only (a_switch i)) d v a b ↔ StepSight (step_in Bond x.kind) x Closed a b
  bond_of_switch a b = (bond_there x.kind refl a b, bond_back x.kind refl a b)

-- THE SIGHT OF ONE SWITCH
pub sight_of_switch : (view : View) (d : Diagram) (i : ℕ) (x : Switch) → slice_get d.switches i ≡ Some x →
    (v : List Bool) → i < length v → (a b : ℕ) →
    SightBy view (Only (a_switch i)) d v a b ↔ SwitchSight view x (slice_get v i ≡ Some true) a b
sight_of_switch Gap d i x listed v within a b = gap_of_switch d i x listed v within a b
sight_of_switch Load d i x listed v within a b = load_of_switch d i x listed v a b
sight_of_switch Bond d i x listed v within a b = bond_of_switch d i x listed v a b

-- one link
module _ (d : Diagram) (i : ℕ) (x : Link) (listed : slice_get d.links i ≡ Some x) (v : List Bool) where
  link_touches : (bonds_only : Bool) (w : List Bool) (a b : ℕ) → TouchingBy (Only (a_link i)) bonds_only d w a b ↔
      (AreEnds x.first.0 x.second.0 a b × (bonds_only ≡ true → x.bond ≡ true))
  link_touches bonds_only w a b = (
    λ h.
        let c : LinkBetween d bonds_only i a b = subst (λ k. ItemBetween bonds_only d w k a b) h.among h.between in
        let same : c.link ≡ x = cc (c.listed, listed) in (
          subst (λ (l : Link). AreEnds l.first.0 l.second.0 a b) same c.ends,
          λ e. subst (λ (l : Link). l.bond ≡ true) same (c.counts e),
        ),
    λ (ends, counts). record {
      item = a_link i;
      among = refl;
      between = record { link = x; listed = listed; counts = counts; ends = ends };
    },
  )

  no_switch : (kind : Kind) (n : ℕ) → ClosedAtBy (Only (a_link i)) d v kind n → ⊥
  no_switch kind n h = let e : 0 + 0 ≡ 1 + 0 = ap tag h.among in omega (arith, e)

  no_tap_there : (n : ℕ) → HasTapBy (Only (a_link i)) d n → ⊥
  no_tap_there n h = let e : 2 + 0 ≡ 1 + 0 = ap tag h.among in omega (arith, e)

  pub gap_of_link : (a b : ℕ) → GapSight (Only (a_link i)) d v a b ↔ AreEnds x.first.0 x.second.0 a b
  gap_of_link a b = (
    λ h. elim h [
      | inl t ↦ let w = (link_touches false (with_breakers_closed d v) a b).0 t in w.0
      | inr k ↦ absurd (elim k.1 [ inl c ↦ no_switch Infeed a c.1 | inr c ↦ no_switch Earthing a c.1 ])
    ],
    λ ends. inl ((link_touches false (with_breakers_closed d v) a b).1 (ends, λ e. cc)),
  )

  pub load_of_link : (a b : ℕ) → LoadSight (Only (a_link i)) d v a b ↔ AreEnds x.first.0 x.second.0 a b
  load_of_link a b = (
    λ h. elim h [
      | inl t ↦ let w = (link_touches false v a b).0 t in w.0
      | inr k ↦ absurd (elim k.1 [ inl c ↦ no_switch Infeed a c.1 | inr c ↦ no_tap_there a c.1 ])
    ],
    λ ends. inl ((link_touches false v a b).1 (ends, λ e. cc)),
  )

  pub bond_of_link : (a b : ℕ) → BondSight (Only (a_link i)) d v a b ↔
      (AreEnds x.first.0 x.second.0 a b × (x.bond ≡ true))
  bond_of_link a b =
      let w = link_touches true v a b in (
        λ h. let k = w.0 h in (k.0, k.1 refl),
        λ k. w.1 (k.0, λ e. k.1),
      )

-- one tap
module _ (d : Diagram) (i : ℕ) (x : Tap) (listed : slice_get d.taps i ≡ Some x) (v : List Bool) where
  tap_none : (bonds_only : Bool) (w : List Bool) (a b : ℕ) → TouchingBy (Only (a_tap i)) bonds_only d w a b → ⊥
  tap_none bonds_only w a b h = subst (λ k. ItemBetween bonds_only d w k a b) h.among h.between

  no_switch_there : (kind : Kind) (n : ℕ) → ClosedAtBy (Only (a_tap i)) d v kind n → ⊥
  no_switch_there kind n h = let e : 0 + 0 ≡ 2 + 0 = ap tag h.among in omega (arith, e)

  pub gap_of_tap : (a b : ℕ) → GapSight (Only (a_tap i)) d v a b → ⊥
  gap_of_tap a b h = elim h [
    | inl t ↦ tap_none false (with_breakers_closed d v) a b t
    | inr k ↦ elim k.1 [ inl c ↦ no_switch_there Infeed a c.1 | inr c ↦ no_switch_there Earthing a c.1 ]
  ]

  pub load_of_tap : (a b : ℕ) → LoadSight (Only (a_tap i)) d v a b ↔ ((a ≡ x.node.0) × (b ≡ second_mark))
  load_of_tap a b = (
    λ h. elim h [
      | inl t ↦ absurd (tap_none false v a b t)
      | inr k ↦ elim k.1 [
        | inl c ↦ absurd (no_switch_there Infeed a c.1)
        | inr c ↦
            let m = c.1 in
            let number : m.number ≡ i = ap place m.among in
            let there : slice_get d.taps i ≡ Some m.tap =
            subst (λ j. slice_get d.taps j ≡ Some m.tap) number m.listed in
            let same : m.tap ≡ x = cc (there, listed) in
            (sym m.stands ∙ ap (λ (t : Tap). t.node.0) same, c.0)
      ]
    ],
    λ (at, mark). inr (
      omega (arith, mark),
      inr (
        mark,
        record { number = i; tap = x; listed = listed; stands = sym at; among = refl },
      ),
    ),
  )

  pub bond_of_tap : (a b : ℕ) → BondSight (Only (a_tap i)) d v a b → ⊥
  bond_of_tap a b t = tap_none true v a b t

-- THE SIGHT OF ONE LINK
pub sight_of_link : (view : View) (d : Diagram) (i : ℕ) (x : Link) → slice_get d.links i ≡ Some x → (v : List Bool)
    (a b : ℕ) → SightBy view (Only (a_link i)) d v a b ↔ LinkSight view x a b
sight_of_link Gap d i x listed v a b =
    let w = gap_of_link d i x listed v a b in (λ h. (w.0 h, λ e. cc), λ h. w.1 h.0)
sight_of_link Load d i x listed v a b =
    let w = load_of_link d i x listed v a b in (λ h. (w.0 h, λ e. cc), λ h. w.1 h.0)
sight_of_link Bond d i x listed v a b =
    let w = bond_of_link d i x listed v a b in
    (λ h. let k = w.0 h in (k.0, λ e. k.1), λ h. w.1 (h.0, h.1 refl))

-- THE SIGHT OF ONE TAP
pub sight_of_tap : (view : View) (d : Diagram) (i : ℕ) (x : Tap) → slice_get d.taps i ≡ Some x → (v : List Bool)
    (a b : ℕ) → SightBy view (Only (a_tap i)) d v a b ↔ TapSight view x a b
sight_of_tap Gap d i x listed v a b =
    (λ h. absurd (gap_of_tap d i x listed v a b h), λ h. let e = h.0 in cc)
sight_of_tap Load d i x listed v a b =
    let w = load_of_tap d i x listed v a b in
    (λ h. let k = w.0 h in (refl, k.0, k.1), λ h. w.1 (h.1, h.2))
sight_of_tap Bond d i x listed v a b =
    (λ h. absurd (bond_of_tap d i x listed v a b h), λ h. let e = h.0 in cc)
