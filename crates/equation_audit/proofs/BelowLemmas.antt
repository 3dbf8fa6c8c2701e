-- What is denied while own switches are open, and what is denied whatever their position.
use Rattle.std.proofs.Common.{◌≡◌, ℕ, zero, suc, Bool, true, false, List, [], ◌∷◌, length, slice_get, slice_set}
use Rattle.std.proofs.Common.{◌<◌, ◌==◌, ◌||◌, Some, None, refl, sym, subst, ap, ◌∙◌, inl, inr, length-set, arith}
use Rattle.std.specs.Prelude.{replicate}
use Rattle.std.proofs.lemmas.Bool.{eqb-true}
use Rattle.ilk_base.specs.declared.words.Kind.{Kind}
use Rattle.ilk_base.specs.declared.words.SwitchId.{SwitchId}
use Rattle.ilk_base.specs.declared.words.Kind.TheVariants.{Breaker, Disconnector, Earthing, Infeed}
use Rattle.ilk_base.specs.declared.words.Op.{Op}
use Rattle.ilk_base.specs.declared.words.Rule.TheVariants.{R1, R2, R3}
use Rattle.ilk_base.specs.declared.words.NodeId.{NodeId}
use Rattle.station_graph.specs.declared.items.Switch.{Switch}
use Rattle.station_graph.specs.Diagram.{Diagram}
use Rattle.station_graph.specs.CentralRules.{before, after, Breaks, BreaksEarthing, BreaksClosing, BreaksFeeding}
use Rattle.station_graph.specs.CentralRules.{BreaksLoad, GapCarriesLoad}
use Rattle.station_graph.specs.Connection.{Item, a_switch, a_link, a_tap, ItemBetween, Touching, Linked, Coupled}
use Rattle.station_graph.specs.Connection.{close_breakers, unless_breaker, with_breakers_closed, Bonded}
use Rattle.station_graph.specs.Supply.{ClosedAt, Live, Quiet, Energisable, Earthable}
use Rattle.station_graph.specs.Alike.{IsVector}
use Rattle.station_graph.proofs.LinkedLemmas.{linked_weaker}
use Rattle.equation_audit.specs.Equations.{Equation, is_among, is_own, AreOwn, OwnBelow}
use Rattle.equation_audit.specs.Positions.{placed, all_closed, SharesPosition, AllAmong}
use Rattle.equation_audit.specs.Findings.{IsStrict, IsStrictAt}
use Rattle.equation_audit.proofs.PlaceLemmas.{set_same, set_other, not_equal}
use Rattle.equation_audit.proofs.PositionLemmas.{neither, placed-other, length-placed, Number, number_of}

-- what is closed in the first vector is closed in the second
abbrev pub Below : List Bool → List Bool → Type 0
Below u w = (i : ℕ) → slice_get u i ≡ Some true → slice_get w i ≡ Some true

one_below : (k : Kind) (b c : Bool) → (b ≡ true → c ≡ true) → unless_breaker k b ≡ true → unless_breaker k c ≡ true
one_below Breaker b c f is = refl
one_below Disconnector b c f is = f is
one_below Earthing b c f is = f is
one_below Infeed b c f is = f is

below_cons : (b c : Bool) (u w : List Bool) → (b ≡ true → c ≡ true) → Below u w → Below (b ∷ u) (c ∷ w)
below_cons b c u w first rest zero is = let e : b ≡ true = cc is in ap (λ y. Some y) (first e)
below_cons b c u w first rest (suc i) is = rest i is

below_closed : (xs : List Switch) (u w : List Bool) → length u ≡ length w → Below u w →
    Below (close_breakers xs u) (close_breakers xs w)
below_closed [] u w len below = below
below_closed (x ∷ xs) [] [] len below = below
below_closed (x ∷ xs) [] (c ∷ w) len below = absurd (cc len)
below_closed (x ∷ xs) (b ∷ u) [] len below = absurd (cc len)
below_closed (x ∷ xs) (b ∷ u) (c ∷ w) len below = below_cons (unless_breaker x.kind b) (unless_breaker x.kind c)
    (close_breakers xs u) (close_breakers xs w)
    (one_below x.kind b c (λ t. let at : slice_get (c ∷ w) zero ≡ Some true = below zero (ap (λ y. Some y) t) in cc at))
    (below_closed xs u w (omega (arith, len)) (λ j. below (suc j)))

set_below : (u w : List Bool) (i : ℕ) (b : Bool) → length u ≡ length w → Below u w →
    Below (slice_set u i b) (slice_set w i b)
set_below [] [] i b len below j is = below j is
set_below [] (c ∷ w) i b len below j is = absurd (cc len)
set_below (x ∷ u) [] i b len below j is = absurd (cc len)
set_below (x ∷ u) (c ∷ w) zero b len below zero is = is
set_below (x ∷ u) (c ∷ w) zero b len below (suc j) is = below (suc j) is
set_below (x ∷ u) (c ∷ w) (suc i) b len below zero is = below zero is
set_below (x ∷ u) (c ∷ w) (suc i) b len below (suc j) is =
    set_below u w i b (omega (arith, len)) (λ k. below (suc k)) j is

between_below : (bonds : Bool) (d : Diagram) (u w : List Bool) → Below u w → (item : Item) (a b : ℕ) →
    ItemBetween bonds d u item a b → ItemBetween bonds d w item a b
between_below bonds d u w below (a_switch i) a b h = record {
  switch = h.switch;
  second = h.second;
  listed = h.listed;
  two_ended = h.two_ended;
  has_second = h.has_second;
  closed = below i h.closed;
  ends = h.ends;
}
between_below bonds d u w below (a_link i) a b h = record {
  link = h.link;
  listed = h.listed;
  counts = h.counts;
  ends = h.ends;
}
between_below bonds d u w below (a_tap i) a b h = h

touched_below : (bonds : Bool) (d : Diagram) (u w : List Bool) → Below u w → (a b : ℕ) →
    Linked (Touching bonds d u) a b → Linked (Touching bonds d w) a b
touched_below bonds d u w below a b l = linked_weaker (Touching bonds d u) (Touching bonds d w) (λ x y e. record {
  item = e.item;
  among = e.among;
  between = between_below bonds d u w below e.item x y e.between;
}) a b l

closed_below : (d : Diagram) (u w : List Bool) (kind : Kind) (n : ℕ) → Below u w → ClosedAt d u kind n →
    ClosedAt d w kind n
closed_below d u w kind n below h = record {
  number = h.number;
  switch = h.switch;
  listed = h.listed;
  is_kind = h.is_kind;
  closed = below h.number h.closed;
  stands = h.stands;
}

module _ (d : Diagram) (u w : List Bool) (len : length u ≡ length w) (below : Below u w) where
  coupled_below : (a b : ℕ) → Coupled d u a b → Coupled d w a b
  coupled_below a b = touched_below false d (with_breakers_closed d u) (with_breakers_closed d w)
      (below_closed d.switches u w len below) a b

  energisable_below : (n : ℕ) → Energisable d u n → Energisable d w n
  energisable_below n (m, l, at) = (m, coupled_below n m l, closed_below d u w Infeed m below at)

  earthable_below : (n : ℕ) → Earthable d u n → Earthable d w n
  earthable_below n (m, l, at) = (m, coupled_below n m l, closed_below d u w Earthing m below at)

  live_below : (n : ℕ) → Live d u n → Live d w n
  live_below n (m, l, at) = (m, touched_below false d u w below n m l, closed_below d u w Infeed m below at)

  loaded_below : (n : ℕ) → (Quiet d u n → ⊥) → Quiet d w n → ⊥
  loaded_below n loaded quiet = loaded (λ m tap l. quiet m tap (touched_below false d u w below n m l))

-- ---- what the rules deny

module _ (d : Diagram) (u w : List Bool) (op : Op) (len : length u ≡ length w) (below : Below u w) where
  long : (b : Bool) → length (slice_set u op.switch.0 b) ≡ length (slice_set w op.switch.0 b)
  long b = length-set u op.switch.0 b ∙ (len ∙ sym (length-set w op.switch.0 b))

  set : (b : Bool) → Below (slice_set u op.switch.0 b) (slice_set w op.switch.0 b)
  set b = set_below u w op.switch.0 b len below

  earthing_below : BreaksEarthing d u op → BreaksEarthing d w op
  earthing_below h = record {
    switch = h.switch;
    moves = h.moves;
    closes = h.closes;
    is_earthing = h.is_earthing;
    energisable =
        energisable_below d (before u op) (before w op) (long false) (set false) h.switch.first.0 h.energisable;
  }

  closing_below : BreaksClosing d u op → BreaksClosing d w op
  closing_below h = record {
    switch = h.switch;
    moves = h.moves;
    closes = h.closes;
    is_two_ended = h.is_two_ended;
    energisable = energisable_below d (after u op) (after w op) (long true) (set true) h.switch.first.0 h.energisable;
    earthable = earthable_below d (after u op) (after w op) (long true) (set true) h.switch.first.0 h.earthable;
  }

  feeding_below : BreaksFeeding d u op → BreaksFeeding d w op
  feeding_below h = record {
    switch = h.switch;
    moves = h.moves;
    closes = h.closes;
    is_infeed = h.is_infeed;
    earthable = earthable_below d (before u op) (before w op) (long false) (set false) h.switch.first.0 h.earthable;
  }

  -- the first rule forbids it with more switches closed
  pub earths_below : Breaks d u op (Some R1) → Breaks d w op None → ⊥
  earths_below h none = none.0 (earthing_below h)

  -- and so does the second, or else the first
  pub joins_below : Breaks d u op (Some R2) → Breaks d w op None → ⊥
  joins_below h none = none.1 (elim h.1 [ inl c ↦ inl (closing_below c) | inr f ↦ inr (feeding_below f) ])

module _ (d : Diagram) (u v w : List Bool) (op : Op) (low_len : length u ≡ length v) (low : Below u v)
    (high_len : length v ≡ length w) (high : Below v w) where
  carries : (a b : ℕ) → GapCarriesLoad d (before u op) a b → (Bonded d (before w op) a b → ⊥) →
      GapCarriesLoad d (before v op) a b
  carries a b h apart =
      let len = long d u v op low_len low false in
      let below = set d u v op low_len low false in
      let over = set d v w op high_len high false in
      record {
        live = elim h.live [
          | inl l ↦ inl (live_below d (before u op) (before v op) len below a l)
          | inr l ↦ inr
              (live_below d (before u op) (before v op) len below b l)
        ];
        first_loaded = loaded_below d (before u op) (before v op) len below a h.first_loaded;
        second_loaded = loaded_below d (before u op) (before v op) len below b h.second_loaded;
        not_bonded = λ l. apart (touched_below true d (before v op) (before w op) over a b l);
      }

  load_between : BreaksLoad d u op → BreaksLoad d w op → BreaksLoad d v op
  load_between h k =
      let same : k.switch ≡ h.switch = cc (h.moves, k.moves) in
      let second : k.switch.second ≡ Some h.second = ap (λ (x : Switch). x.second) same ∙ h.has_second in
      let ends : k.second ≡ h.second = cc (second, k.has_second) in
      let apart : Bonded d (before w op) h.switch.first.0 h.second.0 → ⊥ =
      subst (λ (n : NodeId). Bonded d (before w op) h.switch.first.0 n.0 → ⊥) ends
      (subst (λ (x : Switch). Bonded d (before w op) x.first.0 k.second.0 → ⊥) same k.load.not_bonded) in
      record {
        switch = h.switch;
        second = h.second;
        moves = h.moves;
        is_disconnector = h.is_disconnector;
        has_second = h.has_second;
        load = carries h.switch.first.0 h.second.0 h.load apart;
      }

  -- what the third rule forbids with few and with many switches closed a rule forbids between
  pub loads_between : Breaks d u op (Some R3) → Breaks d w op (Some R3) → Breaks d v op None → ⊥
  loads_between h k none = none.2 (load_between h.2 k.2)

-- ---- own switches closed

closed_other : (v : List Bool) (ids : List SwitchId) (i : ℕ) → is_among ids i ≡ false →
    slice_get (all_closed v ids) i ≡ slice_get v i
closed_other v [] i none = refl
closed_other v (id ∷ ids) i none =
    let both = neither (id.0 == i) (is_among ids i) none in
    closed_other (slice_set v id.0 true) ids i both.1 ∙ set_other v id.0 i true (not_equal id.0 i both.0)

set_stays : (v : List Bool) (at : ℕ) → Below v (slice_set v at true)
set_stays [] at i is = is
set_stays (x ∷ v) zero zero is = refl
set_stays (x ∷ v) zero (suc i) is = is
set_stays (x ∷ v) (suc at) zero is = is
set_stays (x ∷ v) (suc at) (suc i) is = set_stays v at i is

closed_stays : (v : List Bool) (ids : List SwitchId) → Below v (all_closed v ids)
closed_stays v [] i is = is
closed_stays v (id ∷ ids) i is = closed_stays (slice_set v id.0 true) ids i (set_stays v id.0 i is)

second_of : (a b : Bool) → a ≡ false → (a || b) ≡ true → b ≡ true
second_of true b is some = absurd (cc is)
second_of false b is some = some

one_closed : (v : List Bool) (id : SwitchId) (ids : List SwitchId) (i : ℕ) → i < length v → (is_among ids i ≡ true →
    slice_get (all_closed (slice_set v id.0 true) ids) i ≡ Some true) → ((id.0 == i) || is_among ids i) ≡ true →
    (t : Bool) → (id.0 == i) ≡ t → slice_get (all_closed (slice_set v id.0 true) ids) i ≡ Some true
one_closed v id ids i lt rest among true is =
    let e : id.0 ≡ i = eqb-true id.0 i is in
    closed_stays (slice_set v id.0 true) ids i
    (subst (λ (k : ℕ). slice_get (slice_set v id.0 true) k ≡ Some true) e
    (set_same v id.0 true (subst (λ (k : ℕ). k < length v) (sym e) lt)))
one_closed v id ids i lt rest among false is = rest (second_of (id.0 == i) (is_among ids i) is among)

closed_own : (v : List Bool) (ids : List SwitchId) (i : ℕ) → i < length v → is_among ids i ≡ true →
    slice_get (all_closed v ids) i ≡ Some true
closed_own v [] i lt among = absurd (cc among)
closed_own v (id ∷ ids) i lt among = one_closed v id ids i lt
    (closed_own (slice_set v id.0 true) ids i (subst (λ (n : ℕ). i < n) (sym (length-set v id.0 true)) lt)) among
    (id.0 == i) refl

pub length-all_closed : (v : List Bool) (ids : List SwitchId) → length (all_closed v ids) ≡ length v
length-all_closed v [] = refl
length-all_closed v (id ∷ ids) = length-all_closed (slice_set v id.0 true) ids ∙ length-set v id.0 true

none_closed : (n i : ℕ) → slice_get (replicate n false) i ≡ Some true → ⊥
none_closed zero i is = cc is
none_closed (suc n) zero is = cc is
none_closed (suc n) (suc i) is = none_closed n i is

-- ---- no position suffices

module _ (d : Diagram) (e : Equation) (own : List SwitchId) (r : List Bool) (are : AreOwn e.alternatives own)
    (inside : OwnBelow (length d.switches) e.alternatives)
    (shares : SharesPosition d (is_own e.alternatives) (replicate (length d.switches) false) r) where
  within : AllAmong (length r) own
  within i among = subst (λ (n : ℕ). i < n) (sym shares.whole) (inside i (sym (are.each i) ∙ among))

  module _ (u : List Bool) (whole : IsVector d u) where
    number : Number r own u
    number = number_of r own u are.differ within (whole ∙ sym shares.whole)

    abbrev mixed : List Bool
    mixed = placed r own number.number

    mixed_long : length r ≡ length mixed
    mixed_long = sym (length-placed r own number.number)

    mixed_low : Below r mixed
    mixed_low i is = by (is_among own i) refl
      where
        by : (t : Bool) → is_among own i ≡ t → slice_get mixed i ≡ Some true
        by true among = absurd (none_closed (length d.switches) i
            (sym (shares.same i (sym (are.each i) ∙ among)) ∙ is))
        by false among = placed-other r own number.number i among ∙ is

    mixed_high : Below mixed (all_closed r own)
    mixed_high i is = by (is_among own i) refl
      where
        by : (t : Bool) → is_among own i ≡ t → slice_get (all_closed r own) i ≡ Some true
        by true among = closed_own r own i (within i among) among
        by false among = closed_other r own i among ∙ (sym (placed-other r own number.number i among) ∙ is)

    mixed_suffices : IsStrictAt d e u → Breaks d mixed e.op None
    mixed_suffices strict = strict.suffices mixed (record {
      whole = length-placed r own number.number ∙ shares.whole;
      same = λ i is. sym (number.same i (are.each i ∙ is));
    })

  pub first_throughout : Breaks d r e.op (Some R1) → ¬ IsStrict d e
  first_throughout h (u, strict) = earths_below d r (mixed u strict.whole) e.op (mixed_long u strict.whole)
      (mixed_low u strict.whole) h (mixed_suffices u strict.whole strict)

  pub second_throughout : Breaks d r e.op (Some R2) → ¬ IsStrict d e
  second_throughout h (u, strict) = joins_below d r (mixed u strict.whole) e.op (mixed_long u strict.whole)
      (mixed_low u strict.whole) h (mixed_suffices u strict.whole strict)

  pub third_throughout : Breaks d r e.op (Some R3) → Breaks d (all_closed r own) e.op (Some R3) → ¬ IsStrict d e
  third_throughout h k (u, strict) = loads_between d r (mixed u strict.whole) (all_closed r own) e.op
      (mixed_long u strict.whole) (mixed_low u strict.whole)
      (sym (mixed_long u strict.whole) ∙ sym (length-all_closed r own)) (mixed_high u strict.whole) h k
      (mixed_suffices u strict.whole strict)
