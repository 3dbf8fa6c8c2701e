-- A release is TRUE exactly where the signals of the switch release the operation.
use Rattle.std.proofs.Common.{◌≡◌, ◌↔◌, ◌∙◌, ◌<◌, ◌&&◌, ℕ, Bool, true, false, List, get_or, slice_get, Some, None, refl}
use Rattle.std.proofs.Common.{sym, ap, subst, arith, zero, suc, [], ◌∷◌}
use Rattle.std.specs.Prelude.{Option, nat_lt, if◌then◌else◌}
use Rattle.std.proofs.lemmas.Bool.{false≢true}
use Rattle.std.proofs.lemmas.Bool.Decides.{nat_tests}
use Rattle.std.proofs.lemmas.Option.{get_or_from_slice_get}
use Rattle.ilk_base.specs.declared.words.Kind.{Kind}
use Rattle.ilk_base.specs.declared.words.Kind.TheVariants.{Breaker, Disconnector, Earthing, Infeed}
use Rattle.ilk_base.specs.declared.words.Direction.TheVariants.{ToOff, ToOn}
use Rattle.interlock_terms.specs.Terms.{Values, IsTrueAt}
use Rattle.short_equations.specs.declared.pair.TermPair.{TermPair}
use Rattle.short_equations.specs.Edges.{IsTermTrue}
use Rattle.short_equations.specs.Signals.{Signals, Meets, Loads, IsReleased}
use Rattle.structured_text.specs.declared.name.Name.TheVariants.{May, Sure}
use Rattle.structured_text.specs.declared.line.GapDenial.{GapDenial}
use Rattle.structured_text.specs.declared.line.LoadDenial.{LoadDenial}
use Rattle.structured_text.specs.Meaning.{Store, value, gap_denied, load_denied, b_not}
use Rattle.program_text.specs.Releases.{known_in, pair_in, two_of, one_of, gap_denial_in, loaded_of, load_denial_in, release_in}

lt_from : (a b : ℕ) → nat_lt a b ≡ true → a < b
lt_from a b e = grind (arith, nat_tests)

lt_not : (a b : ℕ) → nat_lt a b ≡ false → a < b → ⊥
lt_not a b e low = grind (arith, nat_tests)

chosen : {X : Type 0} (q : Bool) (x y : X) → q ≡ true → (if q then x else y) ≡ x
chosen {X} q x y is = ap (λ p. if p then x else y) is

passed : {X : Type 0} (q : Bool) (x y : X) → q ≡ false → (if q then x else y) ≡ y
passed {X} q x y is = ap (λ p. if p then x else y) is

pub true_read : (xs : List Bool) (n : ℕ) → get_or xs n false ≡ true → slice_get xs n ≡ Some true
true_read [] n e = absurd (false≢true e)
true_read (x ∷ xs) zero e = ap Some e
true_read (x ∷ xs) (suc n) e = true_read xs n e

both_true : (a b : Bool) → (a && b) ≡ true → (a ≡ true) × (b ≡ true)
both_true true b e = (refl, e)
both_true false b e = absurd (false≢true e)

true_both : (a b : Bool) → a ≡ true → b ≡ true → (a && b) ≡ true
true_both true b e f = f
true_both false b e f = absurd (false≢true e)

not_true : (a : Bool) → b_not a ≡ true → a ≡ true → ⊥
not_true true e f = false≢true e
not_true false e f = false≢true f

true_not : (a : Bool) → (a ≡ true → ⊥) → b_not a ≡ true
true_not true h = absurd (h refl)
true_not false h = refl

pub not_false : (a : Bool) → (a ≡ true → ⊥) → a ≡ false
not_false true h = absurd (h refl)
not_false false h = refl

-- whether a formula is true, as a bit
abbrev pub bit_of : Values → Option ℕ → Bool
bit_of v None = false
bit_of v (Some n) = get_or v.terms n false

pub bit_is : (v : Values) (o : Option ℕ) → (bit_of v o ≡ true) ↔ IsTermTrue v o
bit_is v None = (λ e. false≢true e, λ h. absurd h)
bit_is v (Some n) = (true_read v.terms n, get_or_from_slice_get v.terms n true false)

-- the signals of a switch
abbrev pub signals_of : Values → Values → TermPair → TermPair → TermPair → Signals
signals_of v w g l b = record {
  on = bit_of v g.first;
  earth = bit_of v g.second;
  live = bit_of v l.first;
  loaded = bit_of v l.second;
  bond = bit_of w b.first;
}

-- a formula's variable is TRUE, if there is one
abbrev IsTrue : (ℕ → Bool) → Option ℕ → Type 0
IsTrue t None = ⊥
IsTrue t (Some n) = t n ≡ true

known_true : (v : Values) (count : ℕ) (t : ℕ → Bool) → ((n : ℕ) → n < count → (t n ≡ true) ↔ IsTrueAt v n) →
    ((n : ℕ) → IsTrueAt v n → n < count) → (o : Option ℕ) → IsTrue t (known_in count o) ↔ (bit_of v o ≡ true)
known_true v count t means within None = (λ h. absurd h, λ e. false≢true e)
known_true v count t means within (Some n) = by (nat_lt n count) refl
  where
    by : (b : Bool) → nat_lt n count ≡ b → IsTrue t (known_in count (Some n)) ↔ (bit_of v (Some n) ≡ true)
    by true e =
        let m = means n (lt_from n count e) in
        let r = bit_is v (Some n) in
        subst (λ o. IsTrue t o ↔ (bit_of v (Some n) ≡ true)) (sym (chosen (nat_lt n count) (Some n) None e))
        (λ h. r.1 (m.0 h), λ h. m.1 (r.0 h))
    by false e =
        subst (λ o. IsTrue t o ↔ (bit_of v (Some n) ≡ true)) (sym (passed (nat_lt n count) (Some n) None e))
        (λ h. absurd h, λ h. lt_not n count e (within n ((bit_is v (Some n)).0 h)))

module _ (t : Store) where
  abbrev m : ℕ → Bool
  m n = t (May n)

  abbrev c : ℕ → Bool
  c n = t (Sure n)

  abbrev GapHolds : Option GapDenial → Type 0
  GapHolds None = ⊥
  GapHolds (Some g) = gap_denied t g ≡ true

  abbrev LoadHolds : Option LoadDenial → Type 0
  LoadHolds None = ⊥
  LoadHolds (Some l) = load_denied t l ≡ true

  two_holds : (p q : Option ℕ) → GapHolds (two_of p q) ↔ (IsTrue m p × IsTrue m q)
  two_holds (Some a) (Some b) = (both_true (m a) (m b), λ h. true_both (m a) (m b) h.0 h.1)
  two_holds (Some a) None = (λ h. absurd h, λ h. h.1)
  two_holds None q = (λ h. absurd h, λ h. h.0)

  one_holds : (p : Option ℕ) → GapHolds (one_of p) ↔ IsTrue m p
  one_holds (Some a) = (λ h. h, λ h. h)
  one_holds None = (λ h. h, λ h. h)

  loaded_holds : (p q r : Option ℕ) → LoadHolds (loaded_of p q r) ↔ (IsTrue m p × IsTrue m q × (IsTrue c r → ⊥))
  loaded_holds (Some a) (Some b) (Some n) = (
    λ h.
        let x = both_true (m a) (m b && b_not (c n)) h in
        let y = both_true (m b) (b_not (c n)) x.1 in
        (x.0, y.0, not_true (c n) y.1),
    λ h. true_both (m a) (m b && b_not (c n)) h.0 (true_both (m b) (b_not (c n)) h.1 (true_not (c n) h.2)),
  )
  loaded_holds (Some a) (Some b) None = (
    λ h. let x = both_true (m a) (m b) h in (x.0, x.1, λ k. k),
    λ h. true_both (m a) (m b) h.0 h.1,
  )
  loaded_holds (Some a) None r = (λ h. absurd h, λ h. h.1)
  loaded_holds None q r = (λ h. absurd h, λ h. h.0)

  release_holds : (g : Option GapDenial) (l : Option LoadDenial) →
      (value t (release_in g l) ≡ true) ↔ ((GapHolds g → ⊥) × (LoadHolds l → ⊥))
  release_holds (Some g) (Some l) = (
    λ h.
        let x = both_true (b_not (gap_denied t g)) (b_not (load_denied t l)) h in
        (not_true (gap_denied t g) x.0, not_true (load_denied t l) x.1),
    λ h. true_both (b_not (gap_denied t g)) (b_not (load_denied t l)) (true_not (gap_denied t g) h.0)
        (true_not (load_denied t l) h.1),
  )
  release_holds (Some g) None = (λ h. (not_true (gap_denied t g) h, λ k. k), λ h. true_not (gap_denied t g) h.0)
  release_holds None (Some l) = (λ h. (λ k. k, not_true (load_denied t l) h), λ h. true_not (load_denied t l) h.1)
  release_holds None None = (λ h. (λ k. k, λ k. k), λ h. refl)

  module _ (v w : Values) (may sure : ℕ) (may_means : (n : ℕ) → n < may → (m n ≡ true) ↔ IsTrueAt v n)
      (may_within : (n : ℕ) → IsTrueAt v n → n < may)
      (sure_means : (n : ℕ) → n < sure → (c n ≡ true) ↔ IsTrueAt w n)
      (sure_within : (n : ℕ) → IsTrueAt w n → n < sure) (g l b : TermPair) where
    abbrev s : Signals
    s = signals_of v w g l b

    km : (o : Option ℕ) → IsTrue m (known_in may o) ↔ (bit_of v o ≡ true)
    km = known_true v may m may_means may_within

    kc : (o : Option ℕ) → IsTrue c (known_in sure o) ↔ (bit_of w o ≡ true)
    kc = known_true w sure c sure_means sure_within

    two_meet : GapHolds (two_of (known_in may g.first) (known_in may g.second)) ↔ ((s.on ≡ true) × (s.earth ≡ true))
    two_meet =
        let h = two_holds (known_in may g.first) (known_in may g.second) in
        let x = km g.first in
        let y = km g.second in
        (λ k. let z = h.0 k in (x.0 z.0, y.0 z.1), λ k. h.1 (x.1 k.0, y.1 k.1))

    gap_holds : (k : Kind) → GapHolds (gap_denial_in k (pair_in may g)) ↔ Meets k s
    gap_holds Breaker = two_meet
    gap_holds Disconnector = two_meet
    gap_holds Earthing =
        let h = one_holds (known_in may g.first) in
        let x = km g.first in (λ k. x.0 (h.0 k), λ k. h.1 (x.1 k))
    gap_holds Infeed =
        let h = one_holds (known_in may g.second) in
        let x = km g.second in (λ k. x.0 (h.0 k), λ k. h.1 (x.1 k))

    load_holds : (k : Kind) → LoadHolds (load_denial_in k (pair_in may l) (pair_in sure b)) ↔ Loads k s
    load_holds Breaker = (λ h. h, λ h. h)
    load_holds Disconnector =
        let h = loaded_holds (known_in may l.first) (known_in may l.second) (known_in sure b.first) in
        let x = km l.first in
        let y = km l.second in
        let z = kc b.first in (
          λ k. let n = h.0 k in (x.0 n.0, y.0 n.1, not_false s.bond (λ e. n.2 (z.1 e))),
          λ k. h.1 (x.1 k.0, y.1 k.1, λ e. false≢true (sym k.2 ∙ z.0 e)),
        )
    load_holds Earthing = (λ h. h, λ h. h)
    load_holds Infeed = (λ h. h, λ h. h)

    -- opening
    pub opening_released : (k : Kind) →
        (value t (release_in None (load_denial_in k (pair_in may l) (pair_in sure b))) ≡ true) ↔ IsReleased k ToOff s
    opening_released k =
        let h = release_holds None (load_denial_in k (pair_in may l) (pair_in sure b)) in
        let x = load_holds k in (
          λ e. record { apart = λ to. cc; unloaded = λ n. (h.0 e).1 (x.1 n) },
          λ r. h.1 (λ n. n, λ n. r.unloaded (x.0 n)),
        )

    -- closing
    pub closing_released : (k : Kind) →
        (value t (release_in (gap_denial_in k (pair_in may g)) (load_denial_in k (pair_in may l) (pair_in sure b))) ≡ true)
        ↔ IsReleased k ToOn s
    closing_released k =
        let h = release_holds (gap_denial_in k (pair_in may g)) (load_denial_in k (pair_in may l) (pair_in sure b)) in
        let y = gap_holds k in
        let x = load_holds k in (
          λ e. record { apart = λ to n. (h.0 e).0 (y.1 n); unloaded = λ n. (h.0 e).1 (x.1 n) },
          λ r. h.1 (λ n. r.apart refl (y.0 n), λ n. r.unloaded (x.0 n)),
        )
