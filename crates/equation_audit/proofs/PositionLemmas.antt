-- Each position of switches has a number, and what a block releases depends on its own switches alone.
use Rattle.std.proofs.Common.{◌≡◌, ◌∙◌, sym, ap, subst, refl, ℕ, ◌+◌, ◌*◌, ◌<◌, ◌/◌, ◌%◌, ◌^◌, ◌==◌, Bool, true, false}
use Rattle.std.proofs.Common.{◌||◌, ◌&&◌, List, [], ◌∷◌, length, arith, get_or, set, eq-eqb}
use Rattle.std.specs.Prelude.{slice_get, unwrap_or}
use Rattle.std.specs.Bool.{beq}
use Rattle.std.proofs.Math.Nat.{pow-succ'}
use Rattle.std.proofs.lemmas.Bool.{eqb-true}
use Rattle.std.proofs.lemmas.List.{length-set}
use Rattle.std.proofs.lemmas.Option.{slice_get-get_or, unwrap_or-slice_get}
use Rattle.std.specs.List.{list_all}
use Rattle.ilk_base.specs.declared.words.SwitchId.{SwitchId}
use Rattle.equation_audit.specs.declared.condition.Condition.{Condition}
use Rattle.equation_audit.specs.Equations.{holds, is_released, is_named, is_own, is_among, AllDiffer}
use Rattle.equation_audit.specs.Positions.{placed, AllAmong}
use Rattle.equation_audit.proofs.PlaceLemmas.{set_same, set_other, not_equal}

true_or : (a b : Bool) → a ≡ true → (a || b) ≡ true
true_or true b is = refl
true_or false b is = absurd (cc)

or_true : (a b : Bool) → b ≡ true → (a || b) ≡ true
or_true true b is = refl
or_true false b is = is

pub neither : (a b : Bool) → (a || b) ≡ false → (a ≡ false) × (b ≡ false)
neither true b none = absurd (cc)
neither false b none = (refl, none)

-- a position leaves the other switches as they were
pub placed-other : (v : List Bool) (own : List SwitchId) (k i : ℕ) → is_among own i ≡ false →
    slice_get (placed v own k) i ≡ slice_get v i
placed-other v [] k i none = refl
placed-other v (id ∷ own) k i none =
    let both = neither (id.0 == i) (is_among own i) none in
    placed-other (set v id.0 (k % 2 == 1)) own (k / 2) i both.1
    ∙ set_other v id.0 i (k % 2 == 1) (not_equal id.0 i both.0)

pub length-placed : (v : List Bool) (own : List SwitchId) (k : ℕ) → length (placed v own k) ≡ length v
length-placed v [] k = refl
length-placed v (id ∷ own) k = length-placed (set v id.0 (k % 2 == 1)) own (k / 2) ∙ length-set v id.0 (k % 2 == 1)

-- a number with this position of the switches
pub record Number (v : List Bool) (own : List SwitchId) (w : List Bool) : Type 0 where
  pub number : ℕ
  pub below : number < 2 ^ length own
  pub same : (i : ℕ) → is_among own i ≡ true → slice_get w i ≡ slice_get (placed v own number) i

-- the number with one binary digit more, for the first switch
with_digit : Bool → ℕ → ℕ
with_digit true k = 2 * k + 1
with_digit false k = 2 * k

digit : (b : Bool) (k : ℕ) → (with_digit b k % 2 == 1) ≡ b
unfolding with_digit
digit true k = let odd : (2 * k + 1) % 2 ≡ 1 = omega arith in ap (λ m. m == 1) odd
digit false k = let even : (2 * k) % 2 ≡ 0 = omega arith in ap (λ m. m == 1) even

half : (b : Bool) (k : ℕ) → with_digit b k / 2 ≡ k
unfolding with_digit
half true k = omega arith
half false k = omega arith

digit_below : (b : Bool) (k n : ℕ) → k < n → with_digit b k < 2 * n
unfolding with_digit
digit_below true k n lt = omega arith
digit_below false k n lt = omega arith

the_first : (a b : Bool) → (a || b) ≡ true → b ≡ false → a ≡ true
the_first true b some none = refl
the_first false b some none = absurd (cc)

one_more : (v : List Bool) (id : SwitchId) (own : List SwitchId) (w : List Bool) → id.0 < length v →
    length w ≡ length v → is_among own id.0 ≡ false
    → Number (set v id.0 (get_or w id.0 false)) own w → Number v (id ∷ own) w
one_more v id own w within whole once rest =
    let b = get_or w id.0 false in
    let number : ℕ = with_digit b rest.number in
    let is : placed v (id ∷ own) number ≡ placed (set v id.0 b) own rest.number =
    (λ j. placed (set v id.0 (digit b rest.number j)) own (half b rest.number j)) in
    record {
      number = number;
      below = subst (λ n. number < n) (sym (pow-succ' 2 (length own))) (digit_below b rest.number (2 ^ length own)
          rest.below);
      same = λ i among. by_rest i among (is_among own i) refl ∙ ap (λ (u : List Bool). slice_get u i) (sym is);
    }
  where
    by_rest : (i : ℕ) → ((id.0 == i) || is_among own i) ≡ true → (t : Bool) → is_among own i ≡ t →
        slice_get w i ≡ slice_get (placed (set v id.0 (get_or w id.0 false)) own rest.number) i
    by_rest i among true in_rest = rest.same i in_rest
    by_rest i among false not_there =
        let first : (id.0 == i) ≡ true = the_first (id.0 == i) (is_among own i) among not_there in
        let e : id.0 ≡ i = eqb-true id.0 i first in
        subst (λ k. slice_get w k ≡ slice_get (placed (set v id.0 (get_or w id.0 false)) own rest.number) k) e (
        slice_get-get_or w id.0 false (omega (arith, within, whole))
        ∙ sym (set_same v id.0 (get_or w id.0 false) within)
        ∙ sym (placed-other (set v id.0 (get_or w id.0 false)) own rest.number id.0 once)
        )

-- each position has a number
pub number_of : (v : List Bool) (own : List SwitchId) (w : List Bool) → AllDiffer own → AllAmong (length v) own →
    length w ≡ length v → Number v own w
number_of v [] w differ below whole = record { number = 0; below = omega arith; same = λ i among. absurd (cc) }
number_of v (id ∷ own) w differ below whole =
    let within : id.0 < length v = below id.0 (true_or (id.0 == id.0) (is_among own id.0) (eq-eqb id.0 id.0 refl)) in
    let kept : length (set v id.0 (get_or w id.0 false)) ≡ length v = length-set v id.0 (get_or w id.0 false) in
    one_more v id own w within whole differ.0 (number_of (set v id.0 (get_or w id.0 false)) own w differ.1
    (λ i among. subst (λ n. i < n) (sym kept) (below i (or_true (id.0 == i) (is_among own i) among))) (whole
    ∙ sym kept))

get_or_same : (v u : List Bool) (i : ℕ) → slice_get v i ≡ slice_get u i → get_or v i false ≡ get_or u i false
get_or_same v u i same = sym (unwrap_or-slice_get v i false) ∙ ap (λ o. unwrap_or o false) same
    ∙ unwrap_or-slice_get u i false

all_hold_same : (cs : List Condition) (v u : List Bool) → ((i : ℕ) → is_named cs i ≡ true →
    slice_get v i ≡ slice_get u i) → list_all (holds v) cs ≡ list_all (holds u) cs
all_hold_same [] v u same = refl
all_hold_same (c ∷ cs) v u same = λ j.
    beq (get_or_same v u c.switch.0 (same c.switch.0 (true_or (c.switch.0 == c.switch.0) (is_named cs c.switch.0)
    (eq-eqb c.switch.0 c.switch.0 refl))) j) c.closed
    && all_hold_same cs v u (λ i named. same i (or_true (c.switch.0 == i) (is_named cs i) named)) j

-- what is released depends on the own switches alone
pub released_same : (alts : List (List Condition)) (v u : List Bool) → ((i : ℕ) → is_own alts i ≡ true →
    slice_get v i ≡ slice_get u i) → is_released alts v ≡ is_released alts u
released_same [] v u same = refl
released_same (cs ∷ alts) v u same = λ j.
    all_hold_same cs v u (λ i named. same i (true_or (is_named cs i) (is_own alts i) named)) j
    || released_same alts v u (λ i own. same i (or_true (is_named cs i) (is_own alts i) own)) j
