-- What belongs to a part: where its switches stand, and what it shares.
use Rattle.std.proofs.Common.{◌≡◌, ◌↔◌, ℕ, ◌+◌, ◌-◌, ◌<◌, ◌≤◌, zero, suc, Bool, true, false, eqb, ltb, List}
use Rattle.std.proofs.Common.{[], ◌∷◌, length, slice_get, get_or, Some, refl, sym, ◌∙◌, subst, inl, inr, arith}
use Rattle.std.specs.Prelude.{count_by}
use Rattle.std.specs.List.Sorted.{IsPartitionPoint, IsPartitionedBy}
use Rattle.std.proofs.lemmas.Bool.{cases_lt, cases_eq, cases_Bool, ltb-true, lt-ltb, eq-eqb, ne_eqb}
use Rattle.std.proofs.lemmas.Option.{slice_get_within, slice_get_cases, get_or_from_slice_get, slice_get-get_or}
use Rattle.station_graph.specs.declared.items.Switch.{Switch}
use Rattle.station_graph.specs.Diagram.{Diagram, IsOrdered, AreSwitchesOf}
use Rattle.station_graph.specs.Connection.{Item, a_switch, a_link, a_tap}
use Rattle.station_graph.specs.Sharing.{OfPart, Touches, TouchedBy, IsShared, AtSwitch, AtLink, AtTap}
use Rattle.station_graph.specs.Marking.{PartIs, TouchedFrom}
use Rattle.station_graph.proofs.CountLemmas.{counted_no, counted_yes, count_by-cons, count_by-none}
use Rattle.station_graph.proofs.MarkLemmas.{SomeBelow-from}

-- in the order of their parts the switches of earlier parts stand first
pub IsPartitionedBy-ordered : (xs : List Switch) (part : ℕ) → IsOrdered xs → IsPartitionedBy (λ x. ltb x.bay.0 part) xs
IsPartitionedBy-ordered xs part ordered i j d ij j_in passes =
    let less = ltb-true (get_or xs j d).bay.0 part passes in
    let before_it = ordered i j (get_or xs i d) (get_or xs j d) ij (slice_get-get_or xs i d (omega arith))
    (slice_get-get_or xs j d j_in) in
    lt-ltb (get_or xs i d).bay.0 part (omega arith)

pub before_point : (xs : List Switch) (part r : ℕ) → IsPartitionPoint (λ x. ltb x.bay.0 part ≡ true)
    (λ x. ltb x.bay.0 part ≡ false) xs r → (i : ℕ) (x : Switch) → slice_get xs i ≡ Some x → (i < r) ↔ (x.bay.0 < part)
before_point xs part r point i x at =
    let is : get_or xs i x ≡ x = get_or_from_slice_get xs i x x at in (
      λ less. ltb-true x.bay.0 part (subst (λ (y : Switch). ltb y.bay.0 part ≡ true) is
          (point.0 i x (omega arith) less)),
      λ less. elim (cases_lt i r) [
        | inl below ↦ below
        | inr above ↦
            let no = subst (λ (y : Switch). ltb y.bay.0 part ≡ false) is
            (point.1 i x above (slice_get_within xs i x at)) in
            let yes = lt-ltb x.bay.0 part less in
            cc
      ],
    )

-- a test that passes exactly from a up to b passes as often as there are places between
count_by-between : {X : Type 0} (p : X → Bool) (xs : List X) (a b : ℕ) → a ≤ b → b ≤ length xs →
    ((i : ℕ) (x : X) → slice_get xs i ≡ Some x → (p x ≡ true) ↔ ((a ≤ i) × (i < b))) → count_by p xs ≡ b - a
count_by-between p xs a zero ab b_in h =
    count_by-none p xs (λ i x at. elim (cases_Bool (p x)) [
      | inl passes ↦ absurd (omega (arith, ((h i x at).0 passes).1))
      | inr fails ↦ fails
    ]) ∙ omega arith
count_by-between p [] a (suc b) ab b_in h = absurd (omega arith)
count_by-between p (x ∷ xs) zero (suc b) ab b_in h =
    let first = count_by-cons p x xs in
    let here = counted_yes (p x) ((h 0 x refl).1 (omega arith, omega arith)) in
    let rest = count_by-between p xs 0 b (omega arith) (omega arith) (λ i y at. (
      λ e. (omega arith, omega (arith, ((h (suc i) y at).0 e).1)),
      λ w. (h (suc i) y at).1 (omega arith, omega (arith, w.1)),
    )) in
    omega arith
count_by-between p (x ∷ xs) (suc a) (suc b) ab b_in h =
    let first = count_by-cons p x xs in
    let here = counted_no (p x)
    (elim (cases_Bool (p x)) [ inl passes ↦ absurd (omega (arith, ((h 0 x refl).0 passes).0)) | inr fails ↦ fails ])
    in
    let rest = count_by-between p xs a b (omega arith) (omega arith) (λ i y at. (
      λ e. let w = (h (suc i) y at).0 e in (omega (arith, w.0), omega (arith, w.1)),
      λ w. (h (suc i) y at).1 (omega (arith, w.0), omega (arith, w.1)),
    )) in
    omega arith

-- The switches of a part stand from the first of it up to the first of the next part.
module _ (d : Diagram) (part first next : ℕ) (next_in : next ≤ length d.switches) (first_in : first ≤ length d.switches)
    (at_first : (i : ℕ) (x : Switch) → slice_get d.switches i ≡ Some x → (i < first) ↔ (x.bay.0 < part))
    (at_next : (i : ℕ) (x : Switch) → slice_get d.switches i ≡ Some x → (i < next) ↔ (x.bay.0 < part + 1)) where
  pub first_before_next : first ≤ next
  first_before_next = elim (cases_lt next first) [
    | inl less ↦ elim (slice_get_cases d.switches next).1 [
      | inl w ↦
          let low = (at_first next w.0 w.2).0 less in
          let past = (at_next next w.0 w.2).1 (omega arith) in
          absurd (omega arith)
      | inr w ↦ absurd (omega (arith, w.0))
    ]
    | inr more ↦ more
  ]

  pub AreSwitchesOf-between : first ≤ next → AreSwitchesOf d part first (next - first)
  AreSwitchesOf-between up =
      record {
        counted = sym (count_by-between (λ (x : Switch). eqb x.bay.0 part) d.switches first next up next_in (λ i x at. (
          λ e. let w = (those_at i x at).0 (eqb_true x.bay.0 part e) in (w.0, omega (arith, w.1)),
          λ w. eq-eqb x.bay.0 part ((those_at i x at).1 (w.0, omega (arith, w.1))),
        )));
        within = omega arith;
        those = those_at;
      } where
        eqb_true : (a b : ℕ) → eqb a b ≡ true → a ≡ b
        eqb_true a b e = elim (cases_eq a b) [ inl same ↦ same | inr ne ↦ let no = ne_eqb a b ne in absurd (cc) ]

        those_at : (i : ℕ) (x : Switch) → slice_get d.switches i ≡ Some x → (x.bay.0 ≡ part)
            ↔ ((first ≤ i) × (i < first + (next - first)))
        those_at i x at = (
          λ e.
              let below : i < next = (at_next i x at).1 (omega arith) in
              let from : first ≤ i = elim (cases_lt i first)
              [ inl less ↦ absurd (omega (arith, (at_first i x at).0 less)) | inr more ↦ more ] in
              (from, omega arith),
          λ w.
              let below = (at_next i x at).0 (omega (arith, w.1)) in
              elim (cases_lt x.bay.0 part) [
                | inl less ↦ absurd (omega (arith, (at_first i x at).1 less, w.0))
                | inr more ↦ omega arith
              ],
        )

-- An item of the part, or of another part, touches the node.
module _ (d : Diagram) (part n : ℕ) where
  with_owner : (inside : Bool) (owner other : ℕ) → PartIs inside part owner → other ≡ owner → PartIs inside part other
  with_owner inside owner other h e = subst (λ k. PartIs inside part k) (sym e) h

  from_item : (inside : Bool) (owner : ℕ) (item : Item) → PartIs inside part owner → OfPart d owner item →
      Touches d item n → TouchedFrom inside part d n
  from_item inside owner (a_switch i) side (x, at, own) (y, at_y, touch) =
      let same : y ≡ x = cc in
      inl (inl (SomeBelow-from d.switches (λ z. PartIs inside part z.bay.0 × AtSwitch z n) i x at
      (with_owner inside owner x.bay.0 side own, subst (λ z. AtSwitch z n) same touch)))
  from_item inside owner (a_link i) side (x, at, own) (y, at_y, touch) =
      let same : y ≡ x = cc in
      inl (inr (SomeBelow-from d.links (λ z. PartIs inside part z.part.0 × AtLink z n) i x at
      (with_owner inside owner x.part.0 side own, subst (λ z. AtLink z n) same touch)))
  from_item inside owner (a_tap i) side (x, at, own) (y, at_y, touch) =
      let same : y ≡ x = cc in
      inr (SomeBelow-from d.taps (λ z. PartIs inside part z.part.0 × AtTap z n) i x at
      (with_owner inside owner x.part.0 side own, subst (λ z. AtTap z n) same touch))

  to_item : (inside : Bool) → TouchedFrom inside part d n → (owner : ℕ) × PartIs inside part owner
      × TouchedBy (OfPart d owner) d n
  to_item inside (inl (inl s)) = (
    s.item.bay.0,
    s.holds.0,
    record {
      item = a_switch s.place;
      among = (s.item, s.listed, refl);
      touches = (s.item, s.listed, s.holds.1);
    },
  )
  to_item inside (inl (inr s)) = (
    s.item.part.0,
    s.holds.0,
    record {
      item = a_link s.place;
      among = (s.item, s.listed, refl);
      touches = (s.item, s.listed, s.holds.1);
    },
  )
  to_item inside (inr s) = (
    s.item.part.0,
    s.holds.0,
    record {
      item = a_tap s.place;
      among = (s.item, s.listed, refl);
      touches = (s.item, s.listed, s.holds.1);
    },
  )

  pub IsShared-from_marks : TouchedFrom true part d n × TouchedFrom false part d n → IsShared d part n
  IsShared-from_marks (h, g) =
      let here = to_item true h in
      let there = to_item false g in
      record {
        here = subst (λ k. TouchedBy (OfPart d k) d n) here.1 here.2;
        other = there.0;
        apart = there.1;
        there = there.2;
      }

  pub marks_from_IsShared : IsShared d part n → TouchedFrom true part d n × TouchedFrom false part d n
  marks_from_IsShared h = (
    from_item true part h.here.item refl h.here.among h.here.touches,
    from_item false h.other h.there.item h.apart h.there.among h.there.touches,
  )
