-- What is so in a vector is so where the items are arranged in another way.
use Rattle.std.proofs.Common.{◌≡◌, ℕ, zero, suc, Bool, true, false, List, [], ◌∷◌, length, slice_get, slice_set, Some}
use Rattle.std.proofs.Common.{None, Option, refl, sym, subst, ap, ◌∙◌, inl, inr}
use Rattle.std.specs.Prelude.{◌↔◌}
use Rattle.std.proofs.lemmas.Bool.{cases_eq}
use Rattle.std.proofs.lemmas.Option.{same_Some}
use Rattle.ilk_base.specs.declared.words.Kind.{Kind}
use Rattle.ilk_base.specs.declared.words.Kind.TheVariants.{Earthing, Infeed}
use Rattle.ilk_base.specs.declared.words.NodeId.{NodeId}
use Rattle.ilk_base.specs.declared.words.Op.{Op}
use Rattle.ilk_base.specs.declared.words.Rule.{Rule}
use Rattle.ilk_base.specs.declared.words.Rule.TheVariants.{R1, R2, R3}
use Rattle.station_graph.specs.declared.items.Switch.{Switch}
use Rattle.station_graph.specs.Diagram.{Diagram, IsTwoEnded}
use Rattle.station_graph.specs.Connection.{LeadsTo, Linked, AreEnds, Item, a_switch, a_link}
use Rattle.station_graph.specs.Connection.{a_tap, ItemBetween, TouchingBy, Touching, Joined, Bonded, Coupled}
use Rattle.station_graph.specs.Connection.{unless_breaker, close_breakers, with_breakers_closed}
use Rattle.station_graph.specs.Supply.{ClosedAt, Live, Quiet, Energisable, Earthable}
use Rattle.station_graph.specs.CentralRules.{before, after, Applies, Breaks, GapCarriesLoad}
use Rattle.station_graph.specs.CentralRules.{BreaksEarthing, BreaksClosing, BreaksFeeding, BreaksLoad}
use Rattle.station_graph.proofs.PositionLemmas.{slice_get-set_other}
use Rattle.station_changes.specs.Arranged.{HasSwitch, HasItems, IsArranged, IsArrangedVector, IsArrangedOp}

-- ---- breakers closed

closed_at : (xs : List Switch) (v : List Bool) (i : ℕ) (x : Switch) (b : Bool) → slice_get xs i ≡ Some x →
    slice_get v i ≡ Some b → slice_get (close_breakers xs v) i ≡ Some (unless_breaker x.kind b)
closed_at [] v i x b at there = cc at
closed_at (y ∷ xs) [] i x b at there = cc there
closed_at (y ∷ xs) (c ∷ v) zero x b at there =
    let same : y ≡ x = same_Some y x at in
    let is : c ≡ b = same_Some c b there in
    rw (same, is) refl
closed_at (y ∷ xs) (c ∷ v) (suc i) x b at there = closed_at xs v i x b at there

closed_from : (xs : List Switch) (v : List Bool) (i : ℕ) (x : Switch) (t : Bool) → slice_get xs i ≡ Some x →
    slice_get (close_breakers xs v) i ≡ Some t →
    (b : Bool) × ((slice_get v i ≡ Some b) × (unless_breaker x.kind b ≡ t))
closed_from [] v i x t at there = cc at
closed_from (y ∷ xs) [] i x t at there = cc there
closed_from (y ∷ xs) (c ∷ v) zero x t at there =
    let same : y ≡ x = same_Some y x at in
    let is : unless_breaker y.kind c ≡ t = same_Some (unless_breaker y.kind c) t there in
    (c, (refl, subst (λ (z : Switch). unless_breaker z.kind c ≡ t) same is))
closed_from (y ∷ xs) (c ∷ v) (suc i) x t at there = closed_from xs v i x t at there

-- w gives each switch, at its new place, the position that v gives it
abbrev Follows : Diagram → (ℕ → ℕ) → List Bool → List Bool → Type 0
Follows d place v w = (i : ℕ) (x : Switch) (b : Bool) → slice_get d.switches i ≡ Some x → slice_get v i ≡ Some b →
    slice_get w (place i) ≡ Some b

module _ (d e : Diagram) (place : ℕ → ℕ) (h : HasItems d e place) (v w : List Bool) (f : Follows d place v w) where
  follows_closed : Follows d place (with_breakers_closed d v) (with_breakers_closed e w)
  follows_closed i x b at there =
      let r = closed_from d.switches v i x b at there in
      let y = h.switches i x at in
      closed_at e.switches w (place i) y.switch r.0 y.listed (f i x r.0 at r.1.0)
      ∙ ap Some (ap (λ k. unless_breaker k r.0) y.same.kind ∙ r.1.1)

  between_to : (bonds : Bool) (item : Item) (a b : ℕ) → ItemBetween bonds d v item a b → Touching bonds e w a b
  between_to bonds (a_switch i) a b t =
      let y = h.switches i t.switch t.listed in
      record {
        item = a_switch (place i);
        among = tt;
        between = record {
          switch = y.switch;
          second = t.second;
          listed = y.listed;
          two_ended = subst (λ (k : Kind). IsTwoEnded k) (sym y.same.kind) t.two_ended;
          has_second = y.same.second ∙ t.has_second;
          closed = f i t.switch true t.listed t.closed;
          ends = subst (λ (n : NodeId). AreEnds n.0 t.second.0 a b) (sym y.same.first) t.ends;
        };
      }
  between_to bonds (a_link i) a b t =
      let y = h.links i t.link t.listed in
      record {
        item = a_link y.place;
        among = tt;
        between = record {
          link = y.link;
          listed = y.listed;
          counts = λ q. y.bond ∙ t.counts q;
          ends =
              subst (λ (n : NodeId). AreEnds n.0 y.link.second.0 a b) (sym y.first)
              (subst (λ (n : NodeId). AreEnds t.link.first.0 n.0 a b) (sym y.second) t.ends);
        };
      }
  between_to bonds (a_tap i) a b t = absurd t

  leads_to : (bonds : Bool) (a : ℕ) (rest : List ℕ) (b : ℕ) → LeadsTo (Touching bonds d v) a rest b →
      LeadsTo (Touching bonds e w) a rest b
  leads_to bonds a [] b t = t
  leads_to bonds a (c ∷ rest) b t = (between_to bonds t.0.item a c t.0.between, leads_to bonds c rest b t.1)

  linked_to : (bonds : Bool) (a b : ℕ) → Linked (Touching bonds d v) a b → Linked (Touching bonds e w) a b
  linked_to bonds a b t = record { after = t.after; leads = leads_to bonds a t.after b t.leads }

  closed_to : (k : Kind) (n : ℕ) → ClosedAt d v k n → ClosedAt e w k n
  closed_to k n t =
      let y = h.switches t.number t.switch t.listed in
      record {
        number = place t.number;
        switch = y.switch;
        listed = y.listed;
        is_kind = y.same.kind ∙ t.is_kind;
        closed = f t.number t.switch true t.listed t.closed;
        stands = ap (λ (m : NodeId). m.0) y.same.first ∙ t.stands;
      }

  live_to : (n : ℕ) → Live d v n → Live e w n
  live_to n t = (t.0, linked_to false n t.0 t.1, closed_to Infeed t.0 t.2)

  quiet_back : (n : ℕ) → Quiet e w n → Quiet d v n
  quiet_back n quiet m tap joined = quiet m (h.taps m tap) (linked_to false n m joined)

supplied_to : (d e : Diagram) (place : ℕ → ℕ) (h : HasItems d e place) (v w : List Bool) → Follows d place v w →
    (k : Kind) (n : ℕ) → (m : ℕ) × Coupled d v n m × ClosedAt d v k m → (m : ℕ) × Coupled e w n m × ClosedAt e w k m
supplied_to d e place h v w f k n t = (
  t.0,
  linked_to d e place h (with_breakers_closed d v) (with_breakers_closed e w) (follows_closed d e place h v w f) false n
      t.0 t.1,
  closed_to d e place h v w f k t.0 t.2,
)

set_both : (v w : List Bool) (m n : ℕ) (c : Bool) → slice_get v m ≡ slice_get w n →
    slice_get (slice_set v m c) m ≡ slice_get (slice_set w n c) n
set_both [] [] m n c same = refl
set_both [] (b ∷ w) m zero c same = cc same
set_both [] (b ∷ w) m (suc n) c same = set_both [] w m n c same
set_both (a ∷ v) [] zero n c same = cc same
set_both (a ∷ v) [] (suc m) n c same = set_both v [] m n c same
set_both (a ∷ v) (b ∷ w) zero zero c same = refl
set_both (a ∷ v) (b ∷ w) zero (suc n) c same = set_both (a ∷ v) w zero n c same
set_both (a ∷ v) (b ∷ w) (suc m) zero c same = set_both v (b ∷ w) m zero c same
set_both (a ∷ v) (b ∷ w) (suc m) (suc n) c same = set_both v w m n c same

module _ (place back : ℕ → ℕ) (place_back : (i : ℕ) → back (place i) ≡ i) where
  arranged_set : (v w : List Bool) (m : ℕ) (c : Bool) → IsArrangedVector place v w →
      IsArrangedVector place (slice_set v m c) (slice_set w (place m) c)
  arranged_set v w m c e i = elim (cases_eq i m) [
    | inl same ↦
        subst (λ n. slice_get (slice_set v m c) n ≡ slice_get (slice_set w (place m) c) (place n)) (sym same)
        (set_both v w m (place m) c (e m))
    | inr other ↦
        slice_get-set_other v m i c other ∙ (e i ∙ sym (slice_get-set_other w (place m) (place i) c
        (λ same. other (sym (place_back i) ∙ (ap back same ∙ place_back m)))))
  ]

-- ---- one way, by what holds the other way round

module _ (d e : Diagram) (place back : ℕ → ℕ) (place_back : (i : ℕ) → back (place i) ≡ i)
    (back_place : (k : ℕ) → place (back k) ≡ k) (there : HasItems d e place) (again : HasItems e d back) where
  vector_back : (v w : List Bool) → IsArrangedVector place v w → IsArrangedVector back w v
  vector_back v w is k = ap (slice_get w) (sym (back_place k)) ∙ sym (is (back k))

  follows : (v w : List Bool) → IsArrangedVector place v w → Follows d place v w
  follows v w is i x b at there' = sym (is i) ∙ there'

  follows_back : (v w : List Bool) → IsArrangedVector place v w → Follows e back w v
  follows_back v w is i x b at there' = sym (vector_back v w is i) ∙ there'

  gap_to : (v w : List Bool) (a b : ℕ) → IsArrangedVector place v w → GapCarriesLoad d v a b → GapCarriesLoad e w a b
  gap_to v w a b is t = record {
    live = elim t.live [
      | inl x ↦ inl (live_to d e place there v w (follows v w is) a x)
      | inr x ↦ inr (live_to d e place there v w (follows v w is) b x)
    ];
    first_loaded = λ q. t.first_loaded (quiet_back d e place there v w (follows v w is) a q);
    second_loaded = λ q. t.second_loaded (quiet_back d e place there v w (follows v w is) b q);
    not_bonded = λ joined. t.not_bonded (linked_to e d back again w v (follows_back v w is) true a b joined);
  }

  module _ (op other : Op) (o : IsArrangedOp place op other) (v w : List Bool) (is : IsArrangedVector place v w) where
    set_to : (c : Bool) → IsArrangedVector place (slice_set v op.switch.0 c) (slice_set w other.switch.0 c)
    set_to c =
        subst (λ n. IsArrangedVector place (slice_set v op.switch.0 c) (slice_set w n c)) (sym o.switch)
        (arranged_set place back place_back v w op.switch.0 c is)

    moved : (x : Switch) → slice_get d.switches op.switch.0 ≡ Some x → HasSwitch e other.switch.0 x
    moved x at = subst (λ n. HasSwitch e n x) (sym o.switch) (there.switches op.switch.0 x at)

    supplied : (c : Bool) (k : Kind) (n : ℕ) →
        (m : ℕ) × Coupled d (slice_set v op.switch.0 c) n m × ClosedAt d (slice_set v op.switch.0 c) k m →
        (m : ℕ) × Coupled e (slice_set w other.switch.0 c) n m × ClosedAt e (slice_set w other.switch.0 c) k m
    supplied c k n t =
        supplied_to d e place there (slice_set v op.switch.0 c) (slice_set w other.switch.0 c)
        (follows (slice_set v op.switch.0 c) (slice_set w other.switch.0 c) (set_to c)) k n t

    earthing_to : BreaksEarthing d v op → BreaksEarthing e w other
    earthing_to t =
        let y = moved t.switch t.moves in
        record {
          switch = y.switch;
          moves = y.listed;
          closes = o.direction ∙ t.closes;
          is_earthing = y.same.kind ∙ t.is_earthing;
          energisable =
              subst (λ (n : NodeId). Energisable e (before w other) n.0) (sym y.same.first)
              (supplied false Infeed t.switch.first.0 t.energisable);
        }

    closing_to : BreaksClosing d v op → BreaksClosing e w other
    closing_to t =
        let y = moved t.switch t.moves in
        record {
          switch = y.switch;
          moves = y.listed;
          closes = o.direction ∙ t.closes;
          is_two_ended = subst (λ (k : Kind). IsTwoEnded k) (sym y.same.kind) t.is_two_ended;
          energisable =
              subst (λ (n : NodeId). Energisable e (after w other) n.0) (sym y.same.first)
              (supplied true Infeed t.switch.first.0 t.energisable);
          earthable =
              subst (λ (n : NodeId). Earthable e (after w other) n.0) (sym y.same.first)
              (supplied true Earthing t.switch.first.0 t.earthable);
        }

    feeding_to : BreaksFeeding d v op → BreaksFeeding e w other
    feeding_to t =
        let y = moved t.switch t.moves in
        record {
          switch = y.switch;
          moves = y.listed;
          closes = o.direction ∙ t.closes;
          is_infeed = y.same.kind ∙ t.is_infeed;
          earthable =
              subst (λ (n : NodeId). Earthable e (before w other) n.0) (sym y.same.first)
              (supplied false Earthing t.switch.first.0 t.earthable);
        }

    load_to : BreaksLoad d v op → BreaksLoad e w other
    load_to t =
        let y = moved t.switch t.moves in
        record {
          switch = y.switch;
          second = t.second;
          moves = y.listed;
          is_disconnector = y.same.kind ∙ t.is_disconnector;
          has_second = y.same.second ∙ t.has_second;
          load =
              subst (λ (n : NodeId). GapCarriesLoad e (before w other) n.0 t.second.0) (sym y.same.first)
              (gap_to (before v op) (before w other) t.switch.first.0 t.second.0 (set_to false) t.load);
        }

    applies_to : (rule : Rule) → Applies rule d v op → Applies rule e w other
    applies_to R1 t = earthing_to t
    applies_to R2 (inl t) = inl (closing_to t)
    applies_to R2 (inr t) = inr (feeding_to t)
    applies_to R3 t = load_to t

  op_back : (op other : Op) → IsArrangedOp place op other → IsArrangedOp back other op
  op_back op other o = record {
    switch = sym (ap back o.switch ∙ place_back op.switch.0);
    direction = sym o.direction;
  }

pub same_rule : (d e : Diagram) (a : IsArranged d e) (op other : Op) (v w : List Bool) → IsArrangedOp a.place op other →
    IsArrangedVector a.place v w → (rule : Rule) → Applies rule d v op ↔ Applies rule e w other
same_rule d e a op other v w o is rule = (
  applies_to d e a.place a.back a.place_back a.back_place a.there a.again op other o v w is rule,
  applies_to e d a.back a.place a.back_place a.place_back a.again a.there other op
      (op_back d e a.place a.back a.place_back a.back_place a.there a.again op other o) w v
      (vector_back d e a.place a.back a.place_back a.back_place a.there a.again v w is) rule,
)

same_to : (d e : Diagram) (op other : Op) (v w : List Bool) →
    ((rule : Rule) → Applies rule d v op ↔ Applies rule e w other) → (answer : Option Rule) → Breaks d v op answer →
    Breaks e w other answer
same_to d e op other v w same None t =
    (λ a. t.0 ((same R1).1 a), λ a. t.1 ((same R2).1 a), λ a. t.2 ((same R3).1 a))
same_to d e op other v w same (Some R1) t = (same R1).0 t
same_to d e op other v w same (Some R2) t = (λ a. t.0 ((same R1).1 a), (same R2).0 t.1)
same_to d e op other v w same (Some R3) t =
    (λ a. t.0 ((same R1).1 a), λ a. t.1 ((same R2).1 a), (same R3).0 t.2)

pub same_answer : (d e : Diagram) (a : IsArranged d e) (op other : Op) (v w : List Bool) →
    IsArrangedOp a.place op other → IsArrangedVector a.place v w → (answer : Option Rule) →
    Breaks d v op answer ↔ Breaks e w other answer
same_answer d e a op other v w o is answer = (
  same_to d e op other v w (same_rule d e a op other v w o is) answer,
  same_to e d other op w v
      (λ rule. let s = same_rule d e a op other v w o is rule in (s.1, s.0)) answer,
)
