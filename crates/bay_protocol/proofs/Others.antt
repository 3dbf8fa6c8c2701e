-- All other bays: each is one, and there are few.
use Rattle.std.proofs.Common.{◌≡◌, ◌≢◌, ◌+◌, ◌<◌, ◌≤◌, ◌==◌, ◌&&◌, ℕ, zero, suc, Bool, true, false, not, cond, List, []}
use Rattle.std.proofs.Common.{◌∷◌, ◌++◌, length, map, refl, sym, subst, ap, ◌∙◌, arith, inl, inr}
use Rattle.std.specs.Prelude.{nat_lt}
use Rattle.std.specs.List.{All, filter, count_by, range_with_len}
use Rattle.std.proofs.lemmas.Bool.{lt-ltb, ltb-true}
use Rattle.std.proofs.lemmas.Bool.Decides.{eqb_tells}
use Rattle.std.proofs.lemmas.List.Elements.{All-nil, All-cons, All-map}
use Rattle.std.proofs.lemmas.List.{map-id}
use Rattle.std.proofs.lemmas.List.FromFn.{filter_of_map_range_with_len_more}
use Rattle.std.proofs.lemmas.List.Sums.{length-filter}
use Rattle.station_graph.specs.Diagram.{Diagram, part_count, switches_in, bay_count}
use Rattle.station_graph.proofs.CountLemmas.{count_range-one}
use Rattle.central_rules.specs.Meaning.{IsBay}
use Rattle.bay_protocol.specs.State.{IsOther, is_another, others}

kept_by : (P : ℕ → Type 0) (t : Bool) (a : ℕ) (rest : List ℕ) → (t ≡ true → P a) → All P rest →
    All P (cond t (a ∷ rest) rest)
kept_by P true a rest is each = All-cons P a rest (is refl) each
kept_by P false a rest is each = each

-- what holds of each number of a range that passes the test holds of each that is left
filtered : (P : ℕ → Type 0) (p : ℕ → Bool) (a n : ℕ) → ((c : ℕ) → c < a + n → p c ≡ true → P c) →
    All P (filter p (range_with_len a n))
filtered P p a zero h = All-nil P
filtered P p a (suc n) h =
    kept_by P (p a) a (filter p (range_with_len (a + 1) n)) (h a (omega arith))
    (filtered P p (a + 1) n (λ c low. h c (omega (arith, low))))

-- one number more
pub filtered_more : (p : ℕ → Bool) (n : ℕ) →
    filter p (range_with_len 0 (n + 1)) ≡ filter p (range_with_len 0 n) ++ cond (p n) (n ∷ []) []
filtered_more p n =
    ap (filter p) (sym (map-id (range_with_len 0 (n + 1))))
    ∙ filter_of_map_range_with_len_more p (λ x. x) 0 n n (omega arith)
    ∙ ap (λ xs. filter p xs ++ cond (p n) (n ∷ []) []) (map-id (range_with_len 0 n))

both_false : (x : Bool) → x && false ≡ false
both_false true = refl
both_false false = refl

both_true : (x : Bool) → x && true ≡ x
both_true true = refl
both_true false = refl

module _ (d : Diagram) (b : ℕ) where
  -- the test of the list says just this
  test_is : (c : ℕ) (x y : Bool) → nat_lt 0 (switches_in d c) ≡ x → (c == b) ≡ y → x && not y ≡ true →
      (0 < switches_in d c) × (c ≢ b)
  test_is c false y is same passes = absurd (cc passes)
  test_is c true true is same passes = absurd (cc passes)
  test_is c true false is same passes =
      (ltb-true 0 (switches_in d c) is, elim (eqb_tells c b) [ inl p ↦ absurd (cc (p.0, same)) | inr p ↦ p.1 ])

  another_is : (c : ℕ) → is_another d b c ≡ true → (0 < switches_in d c) × (c ≢ b)
  another_is c passes = test_is c (nat_lt 0 (switches_in d c)) (c == b) refl refl passes

  another_for : (c : ℕ) → c ≢ b → is_another d b c ≡ nat_lt 0 (switches_in d c)
  another_for c other = elim (eqb_tells c b) [
    | inl p ↦ absurd (other p.1)
    | inr p ↦ rw p.0 (both_true (nat_lt 0 (switches_in d c)))
  ]

  -- another bay passes the test, and a part that is none does not
  pub another_yes : (c : ℕ) → IsOther d b c → is_another d b c ≡ true
  another_yes c other = another_for c other.1 ∙ lt-ltb 0 (switches_in d c) other.0.1

  pub another_no : (c : ℕ) → c < part_count d → ¬ IsOther d b c → is_another d b c ≡ false
  another_no c low none = by_test (is_another d b c) refl
    where
      by_test : (t : Bool) → is_another d b c ≡ t → is_another d b c ≡ false
      by_test true is = absurd (none ((low, (another_is c is).0), (another_is c is).1))
      by_test false is = is

  -- each of the others is another bay
  pub others_each : All (IsOther d b) (others d b)
  others_each = filtered (IsOther d b) (is_another d b) 0 (part_count d)
      (λ c low passes. let t = another_is c passes in ((omega (arith, low), t.0), t.1))

  -- there is one bay more than there are others
  pub others_count : IsBay d b → bay_count d ≡ length (others d b) + 1
  others_count bay =
      count_range-one (is_another d b) (λ c. nat_lt 0 (switches_in d c)) b 0 (part_count d) (omega arith)
      (omega (arith, bay.0)) out (lt-ltb 0 (switches_in d b) bay.1) another_for
      ∙ ap (λ n. n + 1) (sym (length-filter (is_another d b) (range_with_len 0 (part_count d))))
    where
      out : is_another d b b ≡ false
      out = elim (eqb_tells b b) [
        | inl p ↦ rw p.0 (both_false (nat_lt 0 (switches_in d b)))
        | inr p ↦ absurd (p.1 refl)
      ]
