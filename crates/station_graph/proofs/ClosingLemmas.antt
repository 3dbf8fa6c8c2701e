-- Opening a switch keeps soundness, and so does closing one where the first two rules are not broken.
use Rattle.std.proofs.Common.{◌≡◌, ◌≢◌, ℕ, ◌⊎◌, zero, suc, Bool, true, false, List, [], ◌∷◌, length, slice_get}
use Rattle.std.proofs.Common.{slice_set, Some, None, refl, sym, subst, ap, ◌∙◌, inl, inr, length-set, arith}
use Rattle.std.proofs.lemmas.Bool.{cases_eq}
use Rattle.ilk_base.specs.declared.words.Kind.{Kind}
use Rattle.ilk_base.specs.declared.words.Kind.TheVariants.{Breaker, Disconnector, Earthing, Infeed}
use Rattle.ilk_base.specs.declared.words.Direction.{Direction}
use Rattle.ilk_base.specs.declared.words.Direction.TheVariants.{ToOff, ToOn}
use Rattle.ilk_base.specs.declared.words.Op.{Op}
use Rattle.station_graph.specs.declared.items.Switch.{Switch}
use Rattle.station_graph.specs.Diagram.{Diagram, IsTwoEnded}
use Rattle.station_graph.specs.CentralRules.{before, after, carried_out, wanted_end, IsOperation, Breaks, GapBreaks}
use Rattle.station_graph.specs.Connection.{Item, a_switch, a_link, a_tap, ItemBetween, Touching, Joined, Linked}
use Rattle.station_graph.specs.Connection.{LeadsTo, close_breakers, unless_breaker, with_breakers_closed, Coupled}
use Rattle.station_graph.specs.Supply.{ClosedAt, Energisable, Earthable, Apart}
use Rattle.station_graph.proofs.LinkedLemmas.{linked_self, linked_one, linked_trans, linked_sym, linked_weaker}
use Rattle.station_graph.proofs.PartialEdges.{touching_back}
use Rattle.station_graph.proofs.Decided.{element}
use Rattle.station_graph.proofs.PositionLemmas.{slice_get-set_other, close_breakers_at}

-- ---- what is closed in u is closed in w

abbrev Below : List Bool → List Bool → Type 0
Below u w = (i : ℕ) → slice_get u i ≡ Some true → slice_get w i ≡ Some true

one_below : (k : Kind) (b c : Bool) → (b ≡ true → c ≡ true) → unless_breaker k b ≡ true → unless_breaker k c ≡ true
one_below Breaker b c f is = refl
one_below Disconnector b c f is = f is
one_below Earthing b c f is = f is
one_below Infeed b c f is = f is

below_cons : (b c : Bool) (u w : List Bool) → (b ≡ true → c ≡ true) → Below u w → Below (b ∷ u) (c ∷ w)
below_cons b c u w first rest zero is = let e : b ≡ true = cc is in ap (λ y. Some y) (first e)
below_cons b c u w first rest (suc i) is = rest i is

below_closed : (xs : List Switch) (u w : List Bool) → length u ≡ length w → Below u w →
    Below (close_breakers xs u) (close_breakers xs w)
below_closed [] u w len below = below
below_closed (x ∷ xs) [] [] len below = below
below_closed (x ∷ xs) [] (c ∷ w) len below = absurd (cc len)
below_closed (x ∷ xs) (b ∷ u) [] len below = absurd (cc len)
below_closed (x ∷ xs) (b ∷ u) (c ∷ w) len below = below_cons (unless_breaker x.kind b) (unless_breaker x.kind c)
    (close_breakers xs u) (close_breakers xs w)
    (one_below x.kind b c (λ t. let at : slice_get (c ∷ w) zero ≡ Some true = below zero (ap (λ y. Some y) t) in cc at))
    (below_closed xs u w (omega (arith, len)) (λ j. below (suc j)))

between_below : (d : Diagram) (u w : List Bool) → Below u w → (item : Item) (a b : ℕ) → ItemBetween false d u item a b →
    ItemBetween false d w item a b
between_below d u w below (a_switch i) a b h = record {
  switch = h.switch;
  second = h.second;
  listed = h.listed;
  two_ended = h.two_ended;
  has_second = h.has_second;
  closed = below i h.closed;
  ends = h.ends;
}
between_below d u w below (a_link i) a b h = record {
  link = h.link;
  listed = h.listed;
  counts = h.counts;
  ends = h.ends;
}
between_below d u w below (a_tap i) a b h = h

joined_below : (d : Diagram) (u w : List Bool) → Below u w → (a b : ℕ) → Joined d u a b → Joined d w a b
joined_below d u w below a b l = linked_weaker (Touching false d u) (Touching false d w)
    (λ x y e. record { item = e.item; among = e.among; between = between_below d u w below e.item x y e.between }) a b l

closed_below : (d : Diagram) (u w : List Bool) (kind : Kind) (n : ℕ) → Below u w → ClosedAt d u kind n →
    ClosedAt d w kind n
closed_below d u w kind n below h = record {
  number = h.number;
  switch = h.switch;
  listed = h.listed;
  is_kind =
      h.is_kind;
  closed = below h.number h.closed;
  stands = h.stands;
}

module _ (d : Diagram) (u w : List Bool) (len : length u ≡ length w) (below : Below u w) where
  coupled_below : (a b : ℕ) → Coupled d u a b → Coupled d w a b
  coupled_below a b = joined_below d (with_breakers_closed d u) (with_breakers_closed d w)
      (below_closed d.switches u w len below) a b

  apart_below : Apart d w → Apart d u
  apart_below sound n (m, l, at) (k, r, by) = sound n (m, coupled_below n m l, closed_below d u w Infeed m below at)
      (k, coupled_below n k r, closed_below d u w Earthing k below by)

opened_below : (v : List Bool) (i : ℕ) → Below (slice_set v i false) v
opened_below [] i j is = is
opened_below (b ∷ v) zero zero is = cc is
opened_below (b ∷ v) zero (suc j) is = is
opened_below (b ∷ v) (suc i) zero is = is
opened_below (b ∷ v) (suc i) (suc j) is = opened_below v i j is

pub apart_opened : (d : Diagram) (v : List Bool) (i : ℕ) → Apart d v → Apart d (slice_set v i false)
apart_opened d v i = apart_below d (slice_set v i false) v (length-set v i false) (opened_below v i)

-- ---- one switch closes

module _ (d : Diagram) (v : List Bool) (s : ℕ) (x : Switch) (listed : slice_get d.switches s ≡ Some x) where
  abbrev S0 : List Bool
  S0 = slice_set v s false

  abbrev S1 : List Bool
  S1 = slice_set v s true

  abbrev C0 : List Bool
  C0 = with_breakers_closed d (slice_set v s false)

  abbrev C1 : List Bool
  C1 = with_breakers_closed d (slice_set v s true)

  elsewhere : (j : ℕ) → j ≢ s → slice_get S1 j ≡ slice_get S0 j
  elsewhere j other = slice_get-set_other v s j true other ∙ sym (slice_get-set_other v s j false other)

  closed_elsewhere : (j : ℕ) → j ≢ s → slice_get C1 j ≡ slice_get C0 j
  closed_elsewhere j other = close_breakers_at d.switches (slice_set v s true) (slice_set v s false) j
      (elsewhere j other)

  -- what the new edge joins
  record NewEdge (a b : ℕ) : Type 0 where
    two_ended : IsTwoEnded x.kind
    from : Linked (Touching false d C1) a x.first.0

  old_or_new : (item : Item) (a b : ℕ) → ItemBetween false d C1 item a b → ItemBetween false d C0 item a b ⊎ NewEdge a b
  old_or_new (a_switch j) a b h = elim (cases_eq j s) [
    | inr other ↦ inl (record {
      switch = h.switch;
      second = h.second;
      listed = h.listed;
      two_ended = h.two_ended;
      has_second = h.has_second;
      closed = sym (closed_elsewhere j other) ∙ h.closed;
      ends = h.ends;
    })
    | inl same ↦
        let at : slice_get d.switches s ≡ Some h.switch = ap (λ (k : ℕ). slice_get d.switches k) (sym same)
        ∙ h.listed in
        let e : h.switch ≡ x = cc (at, listed) in
        inr (record {
          two_ended = subst (λ (y : Switch). IsTwoEnded y.kind) e h.two_ended;
          from = subst (λ (y : Switch). Linked (Touching false d C1) a y.first.0) e (elim h.ends [
            | inl p ↦ subst (λ (k : ℕ). Linked (Touching false d C1) a k) p.0 (linked_self (Touching false d C1) a)
            | inr p ↦ subst (λ (k : ℕ). Linked (Touching false d C1) a k) p.1 (linked_one (Touching false d C1) a b
                (record { item = a_switch j; among = tt; between = h }))
          ]);
        })
  ]
  old_or_new (a_link j) a b h = inl (record { link = h.link; listed = h.listed; counts = h.counts; ends = h.ends })
  old_or_new (a_tap j) a b h = inl h

  record ToFirst (a : ℕ) : Type 0 where
    two_ended : IsTwoEnded x.kind
    from : Coupled d S1 a x.first.0

  split_leads : (a b : ℕ) (after : List ℕ) → LeadsTo (Touching false d C1) a after b → Coupled d S0 a b ⊎ ToFirst a
  split_leads a b [] e = inl (subst (λ (k : ℕ). Coupled d S0 a k) e (linked_self (Touching false d C0) a))
  split_leads a b (c ∷ rest) h = elim (old_or_new h.0.item a c h.0.between) [
    | inr new_edge ↦ inr (record { two_ended = new_edge.two_ended; from = new_edge.from })
    | inl old ↦ elim (split_leads c b rest h.1) [
      | inl l ↦ inl (linked_trans (Touching false d C0) a c b (linked_one (Touching false d C0) a c
          (record { item = h.0.item; among = h.0.among; between = old })) l)
      | inr to ↦ inr (record {
        two_ended = to.two_ended;
        from = linked_trans (Touching false d C1) a c x.first.0
            (linked_one (Touching false d C1) a c h.0) to.from;
      })
    ]
  ]

  split : (a b : ℕ) → Coupled d S1 a b → Coupled d S0 a b ⊎ ToFirst a
  split a b l = split_leads a b l.after l.leads

  back : (a b : ℕ) → Coupled d S1 a b → Coupled d S1 b a
  back a b l = linked_sym (Touching false d C1) (touching_back false d C1) a b l

  back0 : (a b : ℕ) → Coupled d S0 a b → Coupled d S0 b a
  back0 a b l = linked_sym (Touching false d C0) (touching_back false d C0) a b l

  on : (a b c : ℕ) → Coupled d S1 a b → Coupled d S1 b c → Coupled d S1 a c
  on a b c = linked_trans (Touching false d C1) a b c

  -- a closed switch of S1 is the moved one, or closed in S0
  moved_or_old : (kind : Kind) (n : ℕ) → ClosedAt d S1 kind n → ((x.kind ≡ kind) × (x.first.0 ≡ n))
      ⊎ ClosedAt d S0 kind n
  moved_or_old kind n h = elim (cases_eq h.number s) [
    | inl same ↦
        let at : slice_get d.switches s ≡ Some h.switch = ap (λ (k : ℕ). slice_get d.switches k) (sym same)
        ∙ h.listed in
        let e : h.switch ≡ x = cc (at, listed) in
        inl (subst (λ (y : Switch). y.kind ≡ kind) e h.is_kind, subst (λ (y : Switch). y.first.0 ≡ n) e h.stands)
    | inr other ↦ inr (record {
      number = h.number;
      switch = h.switch;
      listed = h.listed;
      is_kind = h.is_kind;
      closed = sym (elsewhere h.number other) ∙ h.closed;
      stands = h.stands;
    })
  ]

  two_ended_is_not : (k : Kind) → IsTwoEnded k → (k ≢ Infeed) × (k ≢ Earthing)
  two_ended_is_not Breaker t = (λ e. cc e, λ e. cc e)
  two_ended_is_not Disconnector t = (λ e. cc e, λ e. cc e)
  two_ended_is_not Earthing t = absurd t
  two_ended_is_not Infeed t = absurd t

  -- a breaker or disconnector closes
  closes_two : IsTwoEnded x.kind → (Energisable d S1 x.first.0 → Earthable d S1 x.first.0 → ⊥) → Apart d S0 → Apart d S1
  closes_two two none sound n (m, l, at) (k, r, by) =
      let to_first : ToFirst n → ⊥ = λ t. none (m, on x.first.0 n m (back n x.first.0 t.from) l, at)
      (k, on x.first.0 n k (back n x.first.0 t.from) r, by) in
      let not = two_ended_is_not x.kind two in
      elim (split n m l) [
        | inr t ↦ to_first t
        | inl l0 ↦ elim (split n k r) [
          | inr t ↦ to_first t
          | inl r0 ↦ elim (moved_or_old Infeed m at) [
            | inl p ↦ not.0 p.0
            | inr at0 ↦ elim (moved_or_old Earthing k by) [
              | inl p ↦ not.1 p.0
              | inr by0 ↦ sound n (m, l0, at0) (k, r0, by0)
            ]
          ]
        ]
      ]

  one_ended : (x.kind ≡ Earthing) ⊎ (x.kind ≡ Infeed) → IsTwoEnded x.kind → ⊥
  one_ended (inl is) two = subst IsTwoEnded is two
  one_ended (inr is) two = subst IsTwoEnded is two

  same_coupled : (x.kind ≡ Earthing) ⊎ (x.kind ≡ Infeed) → (a b : ℕ) → Coupled d S1 a b → Coupled d S0 a b
  same_coupled one a b l = elim (split a b l) [ inl l0 ↦ l0 | inr t ↦ absurd (one_ended one t.two_ended) ]

  -- an earthing switch closes
  closes_earth : x.kind ≡ Earthing → (Energisable d S0 x.first.0 → ⊥) → Apart d S0 → Apart d S1
  closes_earth is none sound n (m, l, at) (k, r, by) =
      let l0 = same_coupled (inl is) n m l in
      let r0 = same_coupled (inl is) n k r in
      elim (moved_or_old Infeed m at) [
        | inl p ↦ absurd (cc (is, p.0))
        | inr at0 ↦ elim (moved_or_old Earthing k by) [
          | inl p ↦ none (
            m,
            linked_trans (Touching false d C0) x.first.0 n m
                (back0 n x.first.0 (subst (λ (y : ℕ). Coupled d S0 n y) (sym p.1) r0)) l0,
            at0,
          )
          | inr by0 ↦ sound n (m, l0, at0) (k, r0, by0)
        ]
      ]

  -- an infeed is set on
  closes_feed : x.kind ≡ Infeed → (Earthable d S0 x.first.0 → ⊥) → Apart d S0 → Apart d S1
  closes_feed is none sound n (m, l, at) (k, r, by) =
      let l0 = same_coupled (inr is) n m l in
      let r0 = same_coupled (inr is) n k r in
      elim (moved_or_old Earthing k by) [
        | inl p ↦ absurd (cc (is, p.0))
        | inr by0 ↦ elim (moved_or_old Infeed m at) [
          | inl p ↦ none (
            k,
            linked_trans (Touching false d C0) x.first.0 n k
                (back0 n x.first.0 (subst (λ (y : ℕ). Coupled d S0 n y) (sym p.1) l0)) r0,
            by0,
          )
          | inr at0 ↦ sound n (m, l0, at0) (k, r0, by0)
        ]
      ]

closed_kind : (d : Diagram) (v : List Bool) (op : Op) (x : Switch) (k : Kind) →
    slice_get d.switches op.switch.0 ≡ Some x → x.kind ≡ k → op.direction ≡ ToOn → GapBreaks d v op None →
    Apart d (slice_set v op.switch.0 false) → Apart d (slice_set v op.switch.0 true)
closed_kind d v op x Breaker listed is closes gap = closes_two d v op.switch.0 x listed (subst IsTwoEnded (sym is) tt)
    (λ live earthed. gap.1 (inl (record {
      switch = x;
      moves = listed;
      closes = closes;
      is_two_ended =
          subst IsTwoEnded (sym is) tt;
      energisable = live;
      earthable = earthed;
    })))
closed_kind d v op x Disconnector listed is closes gap = closes_two d v op.switch.0 x listed
    (subst IsTwoEnded (sym is) tt) (λ live earthed. gap.1 (inl (record {
      switch = x;
      moves = listed;
      closes = closes;
      is_two_ended = subst IsTwoEnded (sym is) tt;
      energisable = live;
      earthable = earthed;
    })))
closed_kind d v op x Earthing listed is closes gap = closes_earth d v op.switch.0 x listed is
    (λ live. gap.0 (record { switch = x; moves = listed; closes = closes; is_earthing = is; energisable = live }))
closed_kind d v op x Infeed listed is closes gap = closes_feed d v op.switch.0 x listed is
    (λ earthed. gap.1 (inr (record {
      switch = x;
      moves = listed;
      closes = closes;
      is_infeed = is;
      earthable =
          earthed;
    })))

-- closing keeps soundness where the first two rules give none
pub apart_closed : (d : Diagram) (v : List Bool) (op : Op) → IsOperation d op → op.direction ≡ ToOn →
    GapBreaks d v op None → Apart d (before v op) → Apart d (after v op)
apart_closed d v op is_op =
    let x = element d.switches op.switch.0 is_op in
    closed_kind d v op x.0 x.0.kind x.1 refl

-- and so does each operation that breaks no rule
pub apart_done : (d : Diagram) (v : List Bool) (op : Op) → IsOperation d op → Breaks d v op None → Apart d v →
    Apart d (carried_out v op)
apart_done d v op is_op none apart = by_direction op.direction refl where
  by_direction : (way : Direction) → op.direction ≡ way → Apart d (slice_set v op.switch.0 (wanted_end op.direction))
  by_direction ToOff is = subst (λ (way : Direction). Apart d (slice_set v op.switch.0 (wanted_end way))) (sym is)
      (apart_opened d v op.switch.0 apart)
  by_direction ToOn is = subst (λ (way : Direction). Apart d (slice_set v op.switch.0 (wanted_end way))) (sym is)
      (apart_closed d v op is_op is (none.0, none.1) (apart_opened d v op.switch.0 apart))
