-- All lines together are in order.
use Rattle.std.proofs.Common.{◌<◌, ◌≡◌, ◌≢◌, ◌⊎◌, ◌++◌, ℕ, List, length, slice_get, Some, refl, subst, inl, inr, arith, append_assoc}
use Rattle.ilk_base.specs.declared.words.Direction.{Direction}
use Rattle.ilk_base.specs.declared.words.Direction.TheVariants.{ToOff, ToOn}
use Rattle.ilk_base.specs.declared.words.SwitchId.{SwitchId}
use Rattle.station_graph.specs.Diagram.{Diagram}
use Rattle.interlock_terms.specs.declared.term.Term.{Term}
use Rattle.short_equations.specs.declared.pair.TermPair.{TermPair}
use Rattle.structured_text.specs.declared.name.Name.{Name}
use Rattle.structured_text.specs.declared.name.Name.TheVariants.{Off, On, May, Sure, Opens, Closes}
use Rattle.structured_text.specs.declared.line.Line.{Line}
use Rattle.structured_text.specs.Order.{IsInput, IsSetIn, IsSetBefore, AreInOrder}
use Rattle.structured_text.proofs.OrderLemmas.{reads_both, set_left, set_right, set_cases, two_in_order}
use Rattle.program_text.specs.declared.reading.Reading.{Reading}
use Rattle.program_text.specs.declared.reading.Reading.TheVariants.{May as AsClosed, Sure as AsOpen}
use Rattle.program_text.specs.Names.{name_in}
use Rattle.program_text.specs.Places.{IsSet}
use Rattle.program_text.specs.TermLines.{ServesReleases}
use Rattle.program_text.specs.Releases.{IsFormula, IsReleaseBelow, MeansReleases}
use Rattle.program_text.specs.Interlocking.{towards}

pub towards_below : (k : ℕ) (i : SwitchId) (direction : Direction) → i.0 < k → IsReleaseBelow k (towards i direction)
towards_below k i ToOff low = low
towards_below k i ToOn low = low

release_no_input : (k : ℕ) (m : Name) → IsReleaseBelow k m → ¬ IsInput m
release_no_input k (Off i) h n = h
release_no_input k (On i) h n = h
release_no_input k (May j) h n = h
release_no_input k (Sure j) h n = h
release_no_input k (Opens i) h n = n
release_no_input k (Closes i) h n = n

release_no_formula : (k : ℕ) (m : Name) → IsReleaseBelow k m → (r : Reading) (j : ℕ) → m ≢ name_in r j
release_no_formula k m h AsClosed j e = subst (IsReleaseBelow k) e h
release_no_formula k m h AsOpen j e = subst (IsReleaseBelow k) e h

module _ (d : Diagram) (count k : ℕ) (may sure : List Term) (may_count sure_count : ℕ) (gap load bond : List TermPair)
    (first second third : List Line) (first_serves : ServesReleases AsClosed count may third first)
    (second_serves : ServesReleases AsOpen count sure third second)
    (may_is : may_count ≡ length may) (sure_is : sure_count ≡ length sure)
    (third_means : MeansReleases d may_count sure_count gap load bond k third) where
  abbrev P : Name → Type 0
  P = IsSet AsClosed first_serves.places

  abbrev Q : Name → Type 0
  Q = IsSet AsOpen second_serves.places

  abbrev F : Name → Type 0
  F = IsFormula may_count sure_count

  abbrev H : Name → Type 0
  H m = (F m × P m) × Q m

  apart_two : (n : ℕ) (y : Line) → slice_get second n ≡ Some y → ¬ IsSetIn first y.name
  apart_two n y at h =
      let a = (first_serves.means.sets y.name).0 h in
      let b = (second_serves.means.sets y.name).0 (n, y, at, refl) in
      let e = a.3 in
      let f = b.3 in
      let differ : May a.0 ≡ Sure b.0 = cc (e, f) in
      cc differ

  abbrev front : List Line
  front = first ++ second

  front_order : AreInOrder IsInput front
  front_order =
      two_in_order IsInput IsInput first second first_serves.means.order second_serves.means.order (λ m h. inl h)
      second_serves.means.order.own apart_two

  -- the releases read formulas that are set
  third_order : AreInOrder H third
  third_order = record {
    reads = λ n x at.
        reads_both (λ m. (F m × P m) ⊎ IsSetBefore third n m) Q (λ m. H m ⊎ IsSetBefore third n m)
        (λ m h q. elim h [ inl f ↦ inl (f, q) | inr b ↦ inr b ]) x.formula
        (reads_both (λ m. F m ⊎ IsSetBefore third n m) P (λ m. (F m × P m) ⊎ IsSetBefore third n m)
        (λ m h p. elim h [ inl f ↦ inl (f, p) | inr b ↦ inr b ]) x.formula (third_means.order.reads n x at)
        (first_serves.set n x at)) (second_serves.set n x at);
    once = third_means.order.once;
    own = λ n x at h. third_means.order.own n x at h.0.0;
  }

  covers : (m : Name) → H m → IsInput m ⊎ IsSetIn front m
  covers (Off i) h = inl tt
  covers (On i) h = inl tt
  covers (May n) h =
      let low = h.0.0 in
      let len = first_serves.placed.len in
      inr (set_left first second (May n) ((first_serves.means.sets (May n)).1
      (n, omega (arith, low, may_is), h.0.1 n refl (omega (arith, low, may_is, len)), refl)))
  covers (Sure n) h =
      let low = h.0.0 in
      let len = second_serves.placed.len in
      inr (set_right first second (Sure n) ((second_serves.means.sets (Sure n)).1
      (n, omega (arith, low, sure_is), h.1 n refl (omega (arith, low, sure_is, len)), refl)))
  covers (Opens i) h = absurd h.0.0
  covers (Closes i) h = absurd h.0.0

  is_release : (n : ℕ) (y : Line) → slice_get third n ≡ Some y → IsReleaseBelow k y.name
  is_release n y at = (third_means.sets y.name).0 (n, y, at, refl)

  apart_three : (n : ℕ) (y : Line) → slice_get third n ≡ Some y → ¬ IsSetIn front y.name
  apart_three n y at h = elim (set_cases first second y.name h) [
    | inl a ↦
        let b = (first_serves.means.sets y.name).0 a in release_no_formula k y.name (is_release n y at) AsClosed b.0 b.3
    | inr a ↦
        let b = (second_serves.means.sets y.name).0 a in release_no_formula k y.name (is_release n y at) AsOpen b.0 b.3
  ]

  pub all_in_order : AreInOrder IsInput (first ++ (second ++ third))
  all_in_order =
      subst (AreInOrder IsInput) (append_assoc first second third)
      (two_in_order IsInput H front third front_order third_order covers
      (λ n y at. release_no_input k y.name (is_release n y at)) apart_three)

  -- each release of the first switches is set
  pub release_set : (m : Name) → IsReleaseBelow k m → IsSetIn (first ++ (second ++ third)) m
  release_set m h =
      set_right first (second ++ third) m (set_right second third m ((third_means.sets m).1 h))
