-- What labels of joined nodes tell of an infeed, and of a node.
use Rattle.std.proofs.Common.{◌≡◌, ◌≢◌, ℕ, ◌≤◌, ◌<◌, List, [], ◌∷◌, Option, Some, None, Bool, true, false}
use Rattle.std.proofs.Common.{◌||◌, ◌&&◌, ◌==◌, not, zero, suc, refl, arith, ap, ◌∙◌, sym, subst, inl, inr}
use Rattle.std.specs.Prelude.{slice_index, nat_lt, MatchOption, ◌⊎◌}
use Rattle.std.specs.List.{slice_get, list_any}
use Rattle.std.specs.Option.{option_map_or}
use Rattle.std.proofs.lemmas.Bool.{cases_Bool, lt-ltb, ltb-true, eqb-false}
use borrow.Author.Tests.{eqb-true}
use Rattle.ilk_base.specs.declared.words.NodeId.{NodeId}
use Rattle.station_graph.specs.declared.items.Switch.{Switch}
use Rattle.station_graph.specs.Diagram.{Diagram, IsStation, IsTwoEnded, SwitchFits, node_count}
use Rattle.station_graph.specs.Connection.{Touching}
use Rattle.station_graph.specs.Classes.{LabelsLeast}
use Rattle.station_graph.specs.Sharing.{AtSwitch}
use Rattle.station_graph.proofs.ClassesLemmas.{same_from_linked, linked_from_same}
use Rattle.station_graph.proofs.PartialEdges.{touching_back}
use Rattle.drawing_remarks.specs.Station.{all_in, IsLone, ItemsJoin, LinksJoin}
use Rattle.drawing_remarks.specs.Labels.{gap_labelled, lone_by, apart_by}

pub both_true : (a b : Bool) → (a && b) ≡ true → (a ≡ true) × (b ≡ true)
both_true true b h = (refl, h)
both_true false b h = absurd (cc)

pub and_true : (a b : Bool) → a ≡ true → b ≡ true → (a && b) ≡ true
and_true true b h g = g
and_true false b h g = absurd (cc)

either_true : (a b : Bool) → (a || b) ≡ true → (a ≡ true) ⊎ (b ≡ true)
either_true true b h = inl refl
either_true false b h = inr h

left_true : (a b : Bool) → a ≡ true → (a || b) ≡ true
left_true true b h = refl
left_true false b h = absurd (cc)

right_true : (a b : Bool) → b ≡ true → (a || b) ≡ true
right_true true b h = refl
right_true false b h = h

same_test : (a b : ℕ) → a ≡ b → (a == b) ≡ true
same_test a b e = elim (cases_Bool (a == b)) [
  | inl holds ↦ holds
  | inr fails ↦ absurd (eqb-false a b fails e)
]

is_some_first : {X : Type 0} (p : X → Bool) (xs : List X) → list_any p xs ≡ true →
    (i : ℕ) × (x : X) × (slice_get xs i ≡ Some x) × (p x ≡ true)
is_some_first p [] h = absurd (cc)
is_some_first p (x ∷ xs) h = elim (cases_Bool (p x)) [
  | inl holds ↦ (0, x, refl, holds)
  | inr fails ↦
      let rest : list_any p xs ≡ true = sym (ap (λ b. b || list_any p xs) fails) ∙ h in
      let found = is_some_first p xs rest in
      (suc found.0, found.1, found.2, found.3)
]

some_is_any : {X : Type 0} (p : X → Bool) (xs : List X) (i : ℕ) (x : X) → slice_get xs i ≡ Some x → p x ≡ true →
    list_any p xs ≡ true
some_is_any p [] i x e h = absurd (cc)
some_is_any p (y ∷ ys) zero x e h =
    let same : y ≡ x = cc in
    left_true (p y) (list_any p ys) (ap p same ∙ h)
some_is_any p (y ∷ ys) (suc i) x e h = right_true (p y) (list_any p ys) (some_is_any p ys i x e h)

not_true : (b : Bool) → not b ≡ true → b ≡ true → ⊥
not_true true h g = cc
not_true false h g = cc

module _ (d : Diagram) (station : IsStation d) (labels : List ℕ)
    (least : LabelsLeast (Touching false d (all_in false d)) (node_count d) labels) where
  -- a switch with a label is one with an end in the class, and the other way round
  labelled_ends : (n : ℕ) (x : Switch) (second : Option NodeId) → x.second ≡ second → n < node_count d →
      x.first.0 < node_count d → MatchOption second (¬ IsTwoEnded x.kind) (λ m. IsTwoEnded x.kind × (m.0 < node_count d)
      × (m.0 ≢ x.first.0)) →
      option_map_or (λ (m : NodeId). (slice_index labels x.first.0 == slice_index labels n)
      || (slice_index labels m.0 == slice_index labels n)) second false ≡ true →
      (m : ℕ) × IsTwoEnded x.kind × AtSwitch x m × LinksJoin d n m
  labelled_ends n x None e n_in first fits h = absurd (cc)
  labelled_ends n x (Some s) e n_in first fits h =
      elim (either_true (slice_index labels x.first.0 == slice_index labels n)
      (slice_index labels s.0 == slice_index labels n) h) [
        | inl one ↦
            let same = sym (eqb-true (slice_index labels x.first.0) (slice_index labels n) one) in (
              x.first.0,
              fits.0,
              inl refl,
              linked_from_same (Touching false d (all_in false d)) (node_count d) labels n x.first.0
                  (touching_back false d (all_in false d)) least n_in first same,
            )
        | inr two ↦
            let same = sym (eqb-true (slice_index labels s.0) (slice_index labels n) two) in (
              s.0,
              fits.0,
              inr (s, e, refl),
              linked_from_same (Touching false d (all_in false d)) (node_count d) labels n s.0
                  (touching_back false d (all_in false d)) least n_in fits.1 same,
            )
      ]

  ends_labelled : (n m : ℕ) (x : Switch) (second : Option NodeId) → x.second ≡ second → n < node_count d →
      x.first.0 < node_count d → MatchOption second (¬ IsTwoEnded x.kind) (λ m. IsTwoEnded x.kind × (m.0 < node_count d)
      × (m.0 ≢ x.first.0)) → IsTwoEnded x.kind → AtSwitch x m → LinksJoin d n m →
      option_map_or (λ (m : NodeId). (slice_index labels x.first.0 == slice_index labels n)
      || (slice_index labels m.0 == slice_index labels n)) second false ≡ true
  ends_labelled n m x None e n_in first fits two at join = absurd (fits two)
  ends_labelled n m x (Some s) e n_in first fits two (inl is) join =
      let joined : LinksJoin d n x.first.0 = subst (LinksJoin d n) (sym is) join in
      let same = same_from_linked (Touching false d (all_in false d)) (node_count d) labels n x.first.0
      (touching_back false d (all_in false d)) least n_in first joined in
      left_true (slice_index labels x.first.0 == slice_index labels n) (slice_index labels s.0 == slice_index labels n)
      (same_test (slice_index labels x.first.0) (slice_index labels n) (sym same))
  ends_labelled n m x (Some s) e n_in first fits two (inr (k, has, is)) join =
      let equal : Some s ≡ Some k = sym e ∙ has in
      let node : s ≡ k = cc in
      let end : s.0 ≡ m = ap (λ (j : NodeId). j.0) node ∙ is in
      let joined : LinksJoin d n s.0 = subst (LinksJoin d n) (sym end) join in
      let same = same_from_linked (Touching false d (all_in false d)) (node_count d) labels n s.0
      (touching_back false d (all_in false d)) least n_in fits.1 joined in
      right_true (slice_index labels x.first.0 == slice_index labels n) (slice_index labels s.0 == slice_index labels n)
      (same_test (slice_index labels s.0) (slice_index labels n) (sym same))

  pub lone_said : (n : ℕ) → n < node_count d → lone_by labels d n ≡ true → IsLone d n
  lone_said n n_in h m join (i, x, listed, two, at) =
      let fits : SwitchFits d x = station.items.switches_fit i x listed in
      let passes : gap_labelled labels (slice_index labels n) x ≡ true =
      ends_labelled n m x x.second refl n_in fits.first_in fits.second two at join in
      not_true (list_any (gap_labelled labels (slice_index labels n)) d.switches) h
      (some_is_any (gap_labelled labels (slice_index labels n)) d.switches i x listed passes)

  pub lone_is_said : (n : ℕ) → n < node_count d → IsLone d n → lone_by labels d n ≡ true
  lone_is_said n n_in lone =
      elim (cases_Bool (list_any (gap_labelled labels (slice_index labels n)) d.switches)) [
        | inr fails ↦ ap not fails
        | inl holds ↦
            let found = is_some_first (gap_labelled labels (slice_index labels n)) d.switches holds in
            let fits : SwitchFits d found.1 = station.items.switches_fit found.0 found.1 found.2 in
            let end = labelled_ends n found.1 found.1.second refl n_in fits.first_in fits.second found.3 in
            absurd (lone end.0 end.3 (found.0, found.1, found.2, end.1, end.2))
      ]

module _ (d : Diagram) (labels : List ℕ)
    (least : LabelsLeast (Touching false d (all_in true d)) (node_count d) labels) where
  pub apart_said : (n : ℕ) → n < node_count d → apart_by labels n ≡ true →
      (0 < n) × ((m : ℕ) → m < n → ¬ ItemsJoin d n m)
  apart_said n n_in h =
      let both = both_true (nat_lt 0 n) (slice_index labels n == n) h in
      let own : slice_index labels n ≡ n = eqb-true (slice_index labels n) n both.1 in (
        ltb-true 0 n both.0,
        λ m less join. let low = least.least n m n_in join in absurd (omega arith),
      )

  pub apart_is_said : (n : ℕ) → n < node_count d → 0 < n → ((m : ℕ) → m < n → ¬ ItemsJoin d n m) →
      apart_by labels n ≡ true
  apart_is_said n n_in later apart =
      let here : ItemsJoin d n n = record { after = []; leads = refl } in
      let low : slice_index labels n ≤ n = least.least n n n_in here in
      let own : (slice_index labels n == n) ≡ true = elim (cases_Bool (slice_index labels n == n)) [
        | inl holds ↦ holds
        | inr fails ↦
            let differ : slice_index labels n ≡ n → ⊥ = eqb-false (slice_index labels n) n fails in
            let less : slice_index labels n < n = omega arith in
            absurd (apart (slice_index labels n) less (least.linked n n_in))
      ] in
      and_true (nat_lt 0 n) (slice_index labels n == n) (lt-ltb 0 n later) own
