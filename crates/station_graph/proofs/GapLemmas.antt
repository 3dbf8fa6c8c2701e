-- Where breakers alone differ, nothing that counts them as closed differs; and the position of the moved
-- switch is not looked at.
use Rattle.std.proofs.Common.{◌≡◌, ◌≢◌, ◌↔◌, ℕ, zero, suc, Bool, true, false, List, [], ◌∷◌, length, slice_get}
use Rattle.std.proofs.Common.{slice_set, Option, Some, None, refl, sym, subst, ap, ◌∙◌, inl, inr, length-set, arith}
use Rattle.std.proofs.lemmas.Bool.Decides.{eqb_tells}
use Rattle.ilk_base.specs.declared.words.Kind.{Kind}
use Rattle.ilk_base.specs.declared.words.Kind.TheVariants.{Breaker, Disconnector, Earthing, Infeed}
use Rattle.ilk_base.specs.declared.words.Rule.{Rule}
use Rattle.ilk_base.specs.declared.words.Rule.TheVariants.{R1, R2, R3}
use Rattle.ilk_base.specs.declared.words.Op.{Op}
use Rattle.station_graph.specs.declared.items.Switch.{Switch}
use Rattle.station_graph.specs.Diagram.{Diagram}
use Rattle.station_graph.specs.Connection.{Joined, close_breakers, unless_breaker, Coupled, SameButBreakers}
use Rattle.station_graph.specs.Supply.{ClosedAt, Energisable, Earthable, Apart}
use Rattle.station_graph.specs.CentralRules.{before, after, Applies, GapCarriesLoad, Breaks, GapBreaks, LoadBreaks}
use Rattle.station_graph.proofs.PositionLemmas.{slice_get-set_other, slice_get-set_both}

-- of these switches the positions are the same but for breakers
abbrev Same : List Switch → List Bool → List Bool → Type 0
Same xs v w = (i : ℕ) → ((x : Switch) → slice_get xs i ≡ Some x → x.kind ≢ Breaker) → slice_get v i ≡ slice_get w i

-- lists of the same entries are one
pub same_list : (v w : List Bool) → ((i : ℕ) → slice_get v i ≡ slice_get w i) → v ≡ w
same_list [] [] same = refl
same_list [] (c ∷ w) same = let e : slice_get [] zero ≡ slice_get (c ∷ w) zero = same zero in cc e
same_list (b ∷ v) [] same = let e : slice_get (b ∷ v) zero ≡ slice_get [] zero = same zero in cc e
same_list (b ∷ v) (c ∷ w) same =
    let e : Some b ≡ Some c = same zero in
    let head : b ≡ c = cc e in
    let tail : v ≡ w = same_list v w (λ i. same (suc i)) in
    rw (head, tail) refl

one_closed : (k : Kind) (b c : Bool) → (k ≢ Breaker → b ≡ c) → unless_breaker k b ≡ unless_breaker k c
one_closed Breaker b c same = refl
one_closed Disconnector b c same = same (λ e. cc e)
one_closed Earthing b c same = same (λ e. cc e)
one_closed Infeed b c same = same (λ e. cc e)

same_closed : (xs : List Switch) (v w : List Bool) → length v ≡ length w → Same xs v w →
    close_breakers xs v ≡ close_breakers xs w
same_closed [] v w len same = same_list v w (λ i. same i (λ x is. absurd (cc is)))
same_closed (x ∷ xs) [] [] len same = refl
same_closed (x ∷ xs) [] (c ∷ w) len same = absurd (cc len)
same_closed (x ∷ xs) (b ∷ v) [] len same = absurd (cc len)
same_closed (x ∷ xs) (b ∷ v) (c ∷ w) len same =
    let head : unless_breaker x.kind b ≡ unless_breaker x.kind c =
    one_closed x.kind b c (λ other. let e : Some b ≡ Some c = same zero (λ y is. let at : x ≡ y = cc is in
    subst (λ (z : Switch). z.kind ≢ Breaker) at other) in cc e) in
    let tail : close_breakers xs v ≡ close_breakers xs w = same_closed xs v w (omega (arith, len))
    (λ i. same (suc i)) in
    rw (head, tail) refl

same_set : (d : Diagram) (v w : List Bool) (i : ℕ) (b : Bool) → SameButBreakers d v w →
    SameButBreakers d (slice_set v i b) (slice_set w i b)
same_set d v w i b same j other = elim (eqb_tells j i) [
  | inl p ↦ subst (λ (x : ℕ). slice_get (slice_set v i b) x ≡ slice_get (slice_set w i b) x) (sym p.1)
      (slice_get-set_both v w i b (same i (subst (λ (y : ℕ). (x : Switch) → slice_get d.switches y ≡ Some x →
      x.kind ≢ Breaker) p.1 other)))
  | inr p ↦ slice_get-set_other v i j b p.1 ∙ (same j other ∙ sym (slice_get-set_other w i j b p.1))
]

same_back : (d : Diagram) (v w : List Bool) → SameButBreakers d v w → SameButBreakers d w v
same_back d v w same i other = sym (same i other)

length_both : (v w : List Bool) (i : ℕ) (b : Bool) → length v ≡ length w →
    length (slice_set v i b) ≡ length (slice_set w i b)
length_both v w i b len = length-set v i b ∙ (len ∙ sym (length-set w i b))

module _ (d : Diagram) (v w : List Bool) (len : length v ≡ length w) (same : SameButBreakers d v w) where
  closed_at : (kind : Kind) (n : ℕ) → kind ≢ Breaker → ClosedAt d v kind n → ClosedAt d w kind n
  closed_at kind n other h = record {
    number = h.number;
    switch = h.switch;
    listed = h.listed;
    is_kind = h.is_kind;
    closed = sym (same h.number (λ x is. let at : h.switch ≡ x = cc (h.listed, is) in
        subst (λ (y : Switch). y.kind ≢ Breaker) at (λ e. other (sym h.is_kind ∙ e)))) ∙ h.closed;
    stands = h.stands;
  }

  coupled : (a b : ℕ) → Coupled d v a b → Coupled d w a b
  coupled a b = subst (λ (u : List Bool). Joined d u a b) (same_closed d.switches v w len same)

  energisable : (n : ℕ) → Energisable d v n → Energisable d w n
  energisable n (m, l, at) = (m, coupled n m l, closed_at Infeed m (λ e. cc e) at)

  earthable : (n : ℕ) → Earthable d v n → Earthable d w n
  earthable n (m, l, at) = (m, coupled n m l, closed_at Earthing m (λ e. cc e) at)

module _ (d : Diagram) (v w : List Bool) (op : Op) (len : length v ≡ length w) (same : SameButBreakers d v w) where
  first_rule : Applies R1 d v op → Applies R1 d w op
  first_rule h = record {
    switch = h.switch;
    moves = h.moves;
    closes = h.closes;
    is_earthing = h.is_earthing;
    energisable = energisable d (before v op) (before w op) (length_both v w op.switch.0 false len)
        (same_set d v w op.switch.0 false same) h.switch.first.0 h.energisable;
  }

  second_rule : Applies R2 d v op → Applies R2 d w op
  second_rule (inl h) = inl (record {
    switch = h.switch;
    moves = h.moves;
    closes = h.closes;
    is_two_ended = h.is_two_ended;
    energisable = energisable d (after v op) (after w op) (length_both v w op.switch.0 true len)
        (same_set d v w op.switch.0 true same) h.switch.first.0 h.energisable;
    earthable = earthable d (after v op) (after w op) (length_both v w op.switch.0 true len)
        (same_set d v w op.switch.0 true same) h.switch.first.0 h.earthable;
  })
  second_rule (inr h) = inr (record {
    switch = h.switch;
    moves = h.moves;
    closes = h.closes;
    is_infeed = h.is_infeed;
    earthable = earthable d (before v op) (before w op) (length_both v w op.switch.0 false len)
        (same_set d v w op.switch.0 false same) h.switch.first.0 h.earthable;
  })

gap_answer : (d : Diagram) (v w : List Bool) (op : Op) (answer : Option Rule) →
    (Applies R1 d v op → Applies R1 d w op) → (Applies R1 d w op → Applies R1 d v op) →
    (Applies R2 d v op → Applies R2 d w op) → (Applies R2 d w op → Applies R2 d v op) → GapBreaks d v op answer →
    GapBreaks d w op answer
gap_answer d v w op None one one' two two' gap = (λ h. gap.0 (one' h), λ h. gap.1 (two' h))
gap_answer d v w op (Some R1) one one' two two' gap = one gap
gap_answer d v w op (Some R2) one one' two two' gap = (λ h. gap.0 (one' h), two gap.1)
gap_answer d v w op (Some R3) one one' two two' gap = gap

pub gap_same : (d : Diagram) (v w : List Bool) (op : Op) (answer : Option Rule) → length v ≡ length w →
    SameButBreakers d v w → GapBreaks d v op answer → GapBreaks d w op answer
gap_same d v w op answer len same gap =
    let back = same_back d v w same in
    gap_answer d v w op answer (first_rule d v w op len same) (first_rule d w v op (sym len) back)
    (second_rule d v w op len same) (second_rule d w v op (sym len) back) gap

pub apart_same : (d : Diagram) (v w : List Bool) → length v ≡ length w → SameButBreakers d v w → Apart d v → Apart d w
apart_same d v w len same sound n live earthed =
    let back = same_back d v w same in
    sound n (energisable d w v (sym len) back n live) (earthable d w v (sym len) back n earthed)

pub none_parts : (d : Diagram) (v : List Bool) (op : Op) → Breaks d v op None ↔ (GapBreaks d v op None
    × ¬ LoadBreaks d v op)
none_parts d v op = (λ h. ((h.0, h.1), h.2), λ h. (h.0.0, h.0.1, h.1))

pub gap_parts : (d : Diagram) (v : List Bool) (op : Op) (rule : Rule) → GapBreaks d v op (Some rule)
    ↔ (Breaks d v op (Some rule) × (rule ≢ R3))
gap_parts d v op R1 = (λ h. (h, λ e. cc e), λ h. h.0)
gap_parts d v op R2 = (λ h. (h, λ e. cc e), λ h. h.0)
gap_parts d v op R3 = (λ h. absurd h, λ h. h.1 refl)

pub load_parts : (d : Diagram) (v : List Bool) (op : Op) → Breaks d v op (Some R3) ↔ (GapBreaks d v op None
    × LoadBreaks d v op)
load_parts d v op = (λ h. ((h.0, h.1), h.2), λ h. (h.0.0, h.0.1, h.1))

-- ---- the position of the moved switch is not looked at

same_written : (v w : List Bool) (i : ℕ) (b : Bool) → length v ≡ length w →
    ((j : ℕ) → j ≢ i → slice_get v j ≡ slice_get w j) → slice_set v i b ≡ slice_set w i b
same_written [] [] i b len same = refl
same_written [] (y ∷ w) i b len same = absurd (cc len)
same_written (x ∷ v) [] i b len same = absurd (cc len)
same_written (x ∷ v) (y ∷ w) zero b len same =
    let tail : v ≡ w = same_list v w (λ j. same (suc j) (λ e. cc e)) in
    ap (λ (u : List Bool). b ∷ u) tail
same_written (x ∷ v) (y ∷ w) (suc i) b len same =
    let e : Some x ≡ Some y = same zero (λ z. cc z) in
    let head : x ≡ y = cc e in
    let tail : slice_set v i b ≡ slice_set w i b = same_written v w i b (omega (arith, len))
    (λ j other. same (suc j) (λ z. other (let t : j ≡ i = omega (arith, z) in t))) in
    rw (head, tail) refl

module _ (d : Diagram) (v w : List Bool) (op : Op) (open_same : slice_set v op.switch.0 false ≡ slice_set w op.switch.0
    false) (closed_same : slice_set v op.switch.0 true ≡ slice_set w op.switch.0 true) where
  moved_rule : (r : Rule) → Applies r d v op → Applies r d w op
  moved_rule R1 h = record {
    switch = h.switch;
    moves = h.moves;
    closes = h.closes;
    is_earthing = h.is_earthing;
    energisable = subst (λ (u : List Bool). Energisable d u h.switch.first.0) open_same h.energisable;
  }
  moved_rule R2 (inl h) = inl (record {
    switch = h.switch;
    moves = h.moves;
    closes = h.closes;
    is_two_ended =
        h.is_two_ended;
    energisable = subst (λ (u : List Bool). Energisable d u h.switch.first.0) closed_same h.energisable;
    earthable = subst (λ (u : List Bool). Earthable d u h.switch.first.0) closed_same h.earthable;
  })
  moved_rule R2 (inr h) = inr (record {
    switch = h.switch;
    moves = h.moves;
    closes = h.closes;
    is_infeed = h.is_infeed;
    earthable = subst (λ (u : List Bool). Earthable d u h.switch.first.0) open_same h.earthable;
  })
  moved_rule R3 h = record {
    switch = h.switch;
    second = h.second;
    moves = h.moves;
    is_disconnector = h.is_disconnector;
    has_second = h.has_second;
    load = subst (λ (u : List Bool). GapCarriesLoad d u h.switch.first.0 h.second.0)
        open_same h.load;
  }

same_breaks : (d : Diagram) (v w : List Bool) (op : Op) (answer : Option Rule) → ((r : Rule) → Applies r d v op →
    Applies r d w op) → ((r : Rule) → Applies r d w op → Applies r d v op) → Breaks d v op answer → Breaks d w op answer
same_breaks d v w op None forth back_ h = (λ x. h.0 (back_ R1 x), λ x. h.1 (back_ R2 x), λ x. h.2 (back_ R3 x))
same_breaks d v w op (Some R1) forth back_ h = forth R1 h
same_breaks d v w op (Some R2) forth back_ h = (λ x. h.0 (back_ R1 x), forth R2 h.1)
same_breaks d v w op (Some R3) forth back_ h = (λ x. h.0 (back_ R1 x), λ x. h.1 (back_ R2 x), forth R3 h.2)

pub moved_same : (d : Diagram) (v w : List Bool) (op : Op) (answer : Option Rule) → length v ≡ length w →
    ((j : ℕ) → j ≢ op.switch.0 → slice_get v j ≡ slice_get w j) → Breaks d v op answer → Breaks d w op answer
moved_same d v w op answer len same =
    let o : slice_set v op.switch.0 false ≡ slice_set w op.switch.0 false =
    same_written v w op.switch.0 false len same in
    let c : slice_set v op.switch.0 true ≡ slice_set w op.switch.0 true = same_written v w op.switch.0 true len same in
    same_breaks d v w op answer (moved_rule d v w op o c) (moved_rule d w v op (sym o) (sym c))

pub moved_passed : (d : Diagram) (v : List Bool) (op : Op) (closed : Bool) (answer : Option Rule) → Breaks d v op answer
    ↔ Breaks d (slice_set v op.switch.0 closed) op answer
moved_passed d v op closed answer =
    let w : List Bool = slice_set v op.switch.0 closed in
    let len : length v ≡ length w = sym (length-set v op.switch.0 closed) in
    let same : (j : ℕ) → j ≢ op.switch.0 → slice_get v j ≡ slice_get w j =
    λ j other. sym (slice_get-set_other v op.switch.0 j closed other) in (
      moved_same d v w op answer len same,
      moved_same d w v op answer (sym len) (λ j other. sym (same j other)),
    )
