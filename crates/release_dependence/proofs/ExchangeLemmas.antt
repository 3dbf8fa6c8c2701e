-- What is so in a vector is so with the switches exchanged.
use Rattle.std.proofs.Common.{◌≡◌, ℕ, zero, suc, Bool, true, false, List, [], ◌∷◌, length, slice_get, Some}
use Rattle.std.proofs.Common.{None, Option, refl, sym, subst, ap, ◌∙◌, inl, inr, slice_set}
use Rattle.std.proofs.lemmas.Bool.{cases_eq}
use Rattle.ilk_base.specs.declared.words.Kind.{Kind}
use Rattle.ilk_base.specs.declared.words.Kind.TheVariants.{Earthing, Infeed}
use Rattle.ilk_base.specs.declared.words.NodeId.{NodeId}
use Rattle.ilk_base.specs.declared.words.Op.{Op}
use Rattle.ilk_base.specs.declared.words.Rule.{Rule}
use Rattle.ilk_base.specs.declared.words.Rule.TheVariants.{R1, R2, R3}
use Rattle.station_graph.specs.declared.items.Switch.{Switch}
use Rattle.station_graph.specs.Diagram.{Diagram, IsTwoEnded}
use Rattle.station_graph.specs.Connection.{LeadsTo, Linked, AreEnds, Item, a_switch, a_link}
use Rattle.station_graph.specs.Connection.{a_tap, ItemBetween, TouchingBy, Touching, Joined, Bonded, Coupled}
use Rattle.station_graph.specs.Connection.{unless_breaker, close_breakers, with_breakers_closed}
use Rattle.station_graph.specs.Supply.{ClosedAt, Live, Quiet, Energisable, Earthable}
use Rattle.station_graph.specs.CentralRules.{before, after, Applies, Breaks, GapCarriesLoad}
use Rattle.station_graph.specs.CentralRules.{BreaksEarthing, BreaksClosing, BreaksFeeding, BreaksLoad}
use Rattle.station_graph.proofs.PositionLemmas.{slice_get-set_other}
use Rattle.release_dependence.specs.Depends.{DifferAt, Turns}
use Rattle.release_dependence.specs.Exchange.{SecondAs, HasSwitch, Exchange, IsExchanged, IsExchangedOp}
use Rattle.release_dependence.proofs.TurnLemmas.{turned, turned_at, turned_from}

-- the breakers closed, as a turned vector
closed_is_turned : (xs : List Switch) (v : List Bool) → close_breakers xs v ≡ turned unless_breaker xs v
closed_is_turned [] v = refl
closed_is_turned (x ∷ xs) [] = refl
closed_is_turned (x ∷ xs) (b ∷ v) = ap (λ w. unless_breaker x.kind b ∷ w) (closed_is_turned xs v)

-- w gives each switch of the station, exchanged, the position that v gives it
abbrev Follows : (d : Diagram) → Exchange d → List Bool → List Bool → Type 0
Follows d h v w = (i : ℕ) (x : Switch) (b : Bool) → slice_get d.switches i ≡ Some x → slice_get v i ≡ Some b →
    slice_get w (h.switch_to i) ≡ Some b

module _ (d : Diagram) (h : Exchange d) where
  follows : (v w : List Bool) → IsExchanged h.switch_to v w → Follows d h v w
  follows v w e i x b at there = sym (e i) ∙ there

  turned_back : (v w : List Bool) → IsExchanged h.switch_to v w → IsExchanged h.switch_to w v
  turned_back v w e i =
      ap (λ n. slice_get w n) (sym (h.switch_back i)) ∙ sym (e (h.switch_to i))

  follows_closed : (v w : List Bool) → Follows d h v w →
      Follows d h (with_breakers_closed d v) (with_breakers_closed d w)
  follows_closed v w e i x b at there =
      let r = turned_from unless_breaker d.switches v i x b at
      (sym (ap (λ u. slice_get u i) (closed_is_turned d.switches v)) ∙ there) in
      let y = h.switches i x at in
      ap (λ u. slice_get u (h.switch_to i)) (closed_is_turned d.switches w)
      ∙ turned_at unless_breaker d.switches w (h.switch_to i) y.switch r.0 y.listed (e i x r.0 at r.1.0)
      ∙ ap Some (ap (λ k. unless_breaker k r.0) y.same.kind ∙ r.1.1)

  exchanged_set : (v w : List Bool) (m : ℕ) (c : Bool) → IsExchanged h.switch_to v w →
      IsExchanged h.switch_to (slice_set v m c) (slice_set w (h.switch_to m) c)
  exchanged_set v w m c e i = elim (cases_eq i m) [
    | inl same ↦
        subst (λ n. slice_get (slice_set v m c) n ≡ slice_get (slice_set w (h.switch_to m) c) (h.switch_to n))
        (sym same) (set_both v w m (h.switch_to m) c (e m))
    | inr other ↦
        slice_get-set_other v m i c other ∙ (e i ∙ sym (slice_get-set_other w (h.switch_to m) (h.switch_to i) c
        (λ same. other (sym (h.switch_back i) ∙ (ap h.switch_to same ∙ h.switch_back m)))))
  ]
    where
      set_both : (v w : List Bool) (m n : ℕ) (c : Bool) → slice_get v m ≡ slice_get w n →
          slice_get (slice_set v m c) m ≡ slice_get (slice_set w n c) n
      set_both [] [] m n c same = refl
      set_both [] (b ∷ w) m zero c same = cc same
      set_both [] (b ∷ w) m (suc n) c same = set_both [] w m n c same
      set_both (a ∷ v) [] zero n c same = cc same
      set_both (a ∷ v) [] (suc m) n c same = set_both v [] m n c same
      set_both (a ∷ v) (b ∷ w) zero zero c same = refl
      set_both (a ∷ v) (b ∷ w) zero (suc n) c same = set_both (a ∷ v) w zero n c same
      set_both (a ∷ v) (b ∷ w) (suc m) zero c same = set_both v (b ∷ w) m zero c same
      set_both (a ∷ v) (b ∷ w) (suc m) (suc n) c same = set_both v w m n c same

  ends_to : (p q p' q' a b : ℕ) → p' ≡ h.node_to p → q' ≡ h.node_to q → AreEnds p q a b →
      AreEnds p' q' (h.node_to a) (h.node_to b)
  ends_to p q p' q' a b pe qe (inl e) = inl (ap h.node_to e.0 ∙ sym pe, ap h.node_to e.1 ∙ sym qe)
  ends_to p q p' q' a b pe qe (inr e) = inr (ap h.node_to e.0 ∙ sym qe, ap h.node_to e.1 ∙ sym pe)

  second_of : (x : Option NodeId) (y : Option NodeId) (n : NodeId) → x ≡ Some n → SecondAs h.node_to x y →
      (m : NodeId) × ((y ≡ Some m) × (m.0 ≡ h.node_to n.0))
  second_of x y n e second = subst (λ z. SecondAs h.node_to z y) e second

  between_to : (bonds : Bool) (v w : List Bool) (item : Item) (a b : ℕ) → Follows d h v w →
      ItemBetween bonds d v item a b → TouchingBy (λ _. Unit {0}) bonds d w (h.node_to a) (h.node_to b)
  between_to bonds v w (a_switch i) a b e t =
      let y = h.switches i t.switch t.listed in
      let s = second_of t.switch.second y.switch.second t.second t.has_second y.same.second in
      record {
        item = a_switch (h.switch_to i);
        among = tt;
        between = record {
          switch = y.switch;
          second = s.0;
          listed = y.listed;
          two_ended = subst (λ k. IsTwoEnded k) (sym y.same.kind) t.two_ended;
          has_second = s.1.0;
          closed = e i t.switch true t.listed t.closed;
          ends = ends_to t.switch.first.0 t.second.0 y.switch.first.0 s.0.0 a b y.same.first s.1.1 t.ends;
        };
      }
  between_to bonds v w (a_link i) a b e t =
      let y = h.links i t.link t.listed in
      record {
        item = a_link y.place;
        among = tt;
        between = record {
          link = y.link;
          listed = y.listed;
          counts = λ q. y.bond ∙ t.counts q;
          ends = ends_to t.link.first.0 t.link.second.0 y.link.first.0 y.link.second.0 a b y.first y.second t.ends;
        };
      }
  between_to bonds v w (a_tap i) a b e t = absurd t

  abbrev list_to : List ℕ → List ℕ
  list_to [] = []
  list_to (n ∷ ns) = h.node_to n ∷ list_to ns

  leads_to : (bonds : Bool) (v w : List Bool) (a : ℕ) (rest : List ℕ) (b : ℕ) → Follows d h v w →
      LeadsTo (Touching bonds d v) a rest b →
      LeadsTo (Touching bonds d w) (h.node_to a) (list_to rest) (h.node_to b)
  leads_to bonds v w a [] b e t = ap h.node_to t
  leads_to bonds v w a (c ∷ rest) b e t =
      (between_to bonds v w t.0.item a c e t.0.between, leads_to bonds v w c rest b e t.1)

  linked_to : (bonds : Bool) (v w : List Bool) (a b : ℕ) → Follows d h v w → Linked (Touching bonds d v) a b →
      Linked (Touching bonds d w) (h.node_to a) (h.node_to b)
  linked_to bonds v w a b e t =
      record { after = list_to t.after; leads = leads_to bonds v w a t.after b e t.leads }

  closed_to : (v w : List Bool) (k : Kind) (n : ℕ) → Follows d h v w → ClosedAt d v k n →
      ClosedAt d w k (h.node_to n)
  closed_to v w k n e t =
      let y = h.switches t.number t.switch t.listed in
      record {
        number = h.switch_to t.number;
        switch = y.switch;
        listed = y.listed;
        is_kind = y.same.kind ∙ t.is_kind;
        closed = e t.number t.switch true t.listed t.closed;
        stands = y.same.first ∙ ap h.node_to t.stands;
      }

  live_to : (v w : List Bool) (n : ℕ) → Follows d h v w → Live d v n → Live d w (h.node_to n)
  live_to v w n e t =
      (h.node_to t.0, linked_to false v w n t.0 e t.1, closed_to v w Infeed t.0 e t.2)

  supplied_to : (v w : List Bool) (k : Kind) (n : ℕ) → Follows d h v w → (m : ℕ) × Coupled d v n m × ClosedAt d v k m →
      (m : ℕ) × Coupled d w (h.node_to n) m × ClosedAt d w k m
  supplied_to v w k n e t = (
    h.node_to t.0,
    linked_to false (with_breakers_closed d v) (with_breakers_closed d w) n t.0 (follows_closed v w e) t.1,
    closed_to v w k t.0 e t.2,
  )

  quiet_to : (v w : List Bool) (n : ℕ) → Follows d h w v → Quiet d v n → Quiet d w (h.node_to n)
  quiet_to v w n e quiet m tap joined =
      quiet (h.node_to m) (h.taps m tap)
      (subst (λ k. Joined d v k (h.node_to m)) (h.node_back n) (linked_to false w v (h.node_to n) m e joined))

  quiet_back : (v w : List Bool) (n : ℕ) → Follows d h v w → Quiet d w (h.node_to n) → Quiet d v n
  quiet_back v w n e quiet m tap joined = quiet (h.node_to m) (h.taps m tap) (linked_to false v w n m e joined)

  unbonded_to : (v w : List Bool) (a b : ℕ) → Follows d h w v → ¬ Bonded d v a b →
      ¬ Bonded d w (h.node_to a) (h.node_to b)
  unbonded_to v w a b e not joined =
      not (subst (λ n. Bonded d v n b) (h.node_back a)
      (subst (λ n. Bonded d v (h.node_to (h.node_to a)) n) (h.node_back b)
      (linked_to true w v (h.node_to a) (h.node_to b) e joined)))

  gap_to : (v w : List Bool) (a b : ℕ) → Follows d h v w → Follows d h w v → GapCarriesLoad d v a b →
      GapCarriesLoad d w (h.node_to a) (h.node_to b)
  gap_to v w a b e back t =
      record {
        live = elim t.live [
          | inl x ↦ inl (live_to v w a e x)
          | inr x ↦ inr (live_to v w b e x)
        ];
        first_loaded = λ q. t.first_loaded (quiet_back v w a e q);
        second_loaded = λ q. t.second_loaded (quiet_back v w b e q);
        not_bonded = unbonded_to v w a b back t.not_bonded;
      }

  module _ (op other : Op) (o : IsExchangedOp h.switch_to op other) (v w : List Bool)
      (e : IsExchanged h.switch_to v w) where
    set_to : (c : Bool) → IsExchanged h.switch_to (slice_set v op.switch.0 c) (slice_set w other.switch.0 c)
    set_to c = subst (λ n. IsExchanged h.switch_to (slice_set v op.switch.0 c) (slice_set w n c)) (sym o.switch)
        (exchanged_set v w op.switch.0 c e)

    moved : (x : Switch) → slice_get d.switches op.switch.0 ≡ Some x → HasSwitch d h.node_to other.switch.0 x
    moved x at = subst (λ n. HasSwitch d h.node_to n x) (sym o.switch) (h.switches op.switch.0 x at)

    to : (c : Bool) → Follows d h (slice_set v op.switch.0 c) (slice_set w other.switch.0 c)
    to c = follows (slice_set v op.switch.0 c) (slice_set w other.switch.0 c) (set_to c)

    back : (c : Bool) → Follows d h (slice_set w other.switch.0 c) (slice_set v op.switch.0 c)
    back c = follows (slice_set w other.switch.0 c) (slice_set v op.switch.0 c)
        (turned_back (slice_set v op.switch.0 c) (slice_set w other.switch.0 c) (set_to c))

    earthing_to : BreaksEarthing d v op → BreaksEarthing d w other
    earthing_to t =
        let y = moved t.switch t.moves in
        record {
          switch = y.switch;
          moves = y.listed;
          closes = o.direction ∙ t.closes;
          is_earthing = y.same.kind ∙ t.is_earthing;
          energisable = subst (λ n. Energisable d (before w other) n) (sym y.same.first)
              (supplied_to (before v op) (before w other) Infeed t.switch.first.0 (to false) t.energisable);
        }

    closing_to : BreaksClosing d v op → BreaksClosing d w other
    closing_to t =
        let y = moved t.switch t.moves in
        record {
          switch = y.switch;
          moves = y.listed;
          closes = o.direction ∙ t.closes;
          is_two_ended = subst (λ k. IsTwoEnded k) (sym y.same.kind) t.is_two_ended;
          energisable = subst (λ n. Energisable d (after w other) n) (sym y.same.first)
              (supplied_to (after v op) (after w other) Infeed t.switch.first.0 (to true) t.energisable);
          earthable = subst (λ n. Earthable d (after w other) n) (sym y.same.first)
              (supplied_to (after v op) (after w other) Earthing t.switch.first.0 (to true) t.earthable);
        }

    feeding_to : BreaksFeeding d v op → BreaksFeeding d w other
    feeding_to t =
        let y = moved t.switch t.moves in
        record {
          switch = y.switch;
          moves = y.listed;
          closes = o.direction ∙ t.closes;
          is_infeed = y.same.kind ∙ t.is_infeed;
          earthable = subst (λ n. Earthable d (before w other) n) (sym y.same.first)
              (supplied_to (before v op) (before w other) Earthing t.switch.first.0 (to false) t.earthable);
        }

    load_to : BreaksLoad d v op → BreaksLoad d w other
    load_to t =
        let y = moved t.switch t.moves in
        let s = second_of t.switch.second y.switch.second t.second t.has_second y.same.second in
        record {
          switch = y.switch;
          second = s.0;
          moves = y.listed;
          is_disconnector = y.same.kind ∙ t.is_disconnector;
          has_second = s.1.0;
          load = subst (λ n. GapCarriesLoad d (before w other) n s.0.0) (sym y.same.first)
              (subst (λ n. GapCarriesLoad d (before w other) (h.node_to t.switch.first.0) n) (sym s.1.1)
              (gap_to (before v op) (before w other) t.switch.first.0 t.second.0 (to false) (back false) t.load));
        }

    pub applies_to : (rule : Rule) → Applies rule d v op → Applies rule d w other
    applies_to R1 t = earthing_to t
    applies_to R2 (inl t) = inl (closing_to t)
    applies_to R2 (inr t) = inr (feeding_to t)
    applies_to R3 t = load_to t

  module _ (op other : Op) (o : IsExchangedOp h.switch_to op other) where
    o_back : IsExchangedOp h.switch_to other op
    o_back = record {
      switch = sym (ap h.switch_to o.switch ∙ h.switch_back op.switch.0);
      direction = sym o.direction;
    }

    pub breaks_to : (v w : List Bool) → IsExchanged h.switch_to v w → (answer : Option Rule) → Breaks d v op answer →
        Breaks d w other answer
    breaks_to v w e None t = (
      λ a. t.0 (applies_to other op o_back w v (turned_back v w e) R1 a),
      λ a. t.1 (applies_to other op o_back w v (turned_back v w e) R2 a),
      λ a. t.2 (applies_to other op o_back w v (turned_back v w e) R3 a),
    )
    breaks_to v w e (Some R1) t = applies_to op other o v w e R1 t
    breaks_to v w e (Some R2) t = (
      λ a. t.0 (applies_to other op o_back w v (turned_back v w e) R1 a),
      applies_to op other o v w e R2 t.1,
    )
    breaks_to v w e (Some R3) t = (
      λ a. t.0 (applies_to other op o_back w v (turned_back v w e) R1 a),
      λ a. t.1 (applies_to other op o_back w v (turned_back v w e) R2 a),
      applies_to op other o v w e R3 t.2,
    )

    pub turns_to : (rule : Rule) (v w x y : List Bool) → IsExchanged h.switch_to v x → IsExchanged h.switch_to w y →
        Turns d op rule v w → Turns d other rule x y
    turns_to rule v w x y e f (inl t) =
        inl (breaks_to v x e None t.0, breaks_to w y f (Some rule) t.1)
    turns_to rule v w x y e f (inr t) =
        inr (breaks_to v x e (Some rule) t.0, breaks_to w y f None t.1)

  pub differ_to : (s : ℕ) (v w x y : List Bool) → length x ≡ length d.switches → length y ≡ length d.switches →
      IsExchanged h.switch_to v x → IsExchanged h.switch_to w y → DifferAt d s v w → DifferAt d (h.switch_to s) x y
  differ_to s v w x y len len' e f t =
      record {
        first = len;
        second = len';
        opened = sym (e s) ∙ t.opened;
        closed = sym (f s) ∙ t.closed;
        others = λ i ne. turned_back v x e i ∙ (t.others (h.switch_to i)
            (λ q. ne (sym (h.switch_back i) ∙ ap h.switch_to q)) ∙ sym (turned_back w y f i));
      }
