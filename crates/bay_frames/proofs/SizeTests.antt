-- Lists of tests of which none fails, and the sizes that pass.
use Rattle.std.proofs.Common.{◌≡◌, ℕ, ◌+◌, ◌≤◌, Bool, true, false, ltb, not, List, [], ◌∷◌, ◌++◌, length, get_or}
use Rattle.std.proofs.Common.{Option, Some, None, refl, ap, arith}
use Rattle.std.proofs.lemmas.Bool.{ltb-false, le-ltb, not-false}
use Rattle.bay_frames.specs.declared.frame.FrameRefusal.{FrameRefusal}
use Rattle.bay_frames.specs.declared.frame.FrameRefusal.TheVariants.{Short, Kind, Length, Long}
use Rattle.bay_frames.specs.Tests.{said_length, is_kind, is_length, refused_if, short_test, long_test, kind_test}
use Rattle.bay_frames.specs.Tests.{length_test, size_tests, first_refusal}

-- ---- lists of tests

-- a list of which no test fails begins with one that does not, and so on
pub passes_first : (b : Bool) (r : FrameRefusal) (tests : List (Option FrameRefusal)) →
    first_refusal (refused_if b r ∷ tests) ≡ None → (b ≡ false) × (first_refusal tests ≡ None)
passes_first true r tests e = absurd cc
passes_first false r tests e = (refl, e)

pub passes : (b : Bool) (r : FrameRefusal) (tests : List (Option FrameRefusal)) → b ≡ false →
    first_refusal tests ≡ None → first_refusal (refused_if b r ∷ tests) ≡ None
passes b r tests e h = rw e h

pub parts_pass : (xs ys : List (Option FrameRefusal)) → first_refusal (xs ++ ys) ≡ None → (first_refusal xs ≡ None)
    × (first_refusal ys ≡ None)
parts_pass [] ys e = (refl, e)
parts_pass (None ∷ xs) ys e = parts_pass xs ys e
parts_pass (Some r ∷ xs) ys e = absurd cc

-- ---- sizes

pub record FitsSize (bytes : List ℕ) : Type 0 where
  pub head : 9 ≤ length bytes
  pub kind : is_kind (get_or bytes 0 0) ≡ true
  pub fits : is_length (get_or bytes 0 0) (said_length bytes) ≡ true
  pub whole : length bytes ≡ 9 + said_length bytes

-- the tests that follow each
abbrev from_long : List ℕ → List (Option FrameRefusal)
from_long bytes = long_test bytes (9 + said_length bytes) ∷ []

abbrev from_short : List ℕ → List (Option FrameRefusal)
from_short bytes = short_test bytes (9 + said_length bytes) ∷ from_long bytes

abbrev from_length : List ℕ → List (Option FrameRefusal)
from_length bytes = length_test bytes ∷ from_short bytes

abbrev from_kind : List ℕ → List (Option FrameRefusal)
from_kind bytes = kind_test bytes ∷ from_length bytes

pub size_fits : (bytes : List ℕ) → first_refusal (size_tests bytes) ≡ None → FitsSize bytes
size_fits bytes e =
    let n = length bytes in
    let kind = get_or bytes 0 0 in
    let said = said_length bytes in
    let a = passes_first (ltb n 9) (Short n 9) (from_kind bytes) e in
    let b = passes_first (not (is_kind kind)) (Kind kind) (from_length bytes) a.1 in
    let c = passes_first (not (is_length kind said)) (Length said) (from_short bytes) b.1 in
    let d = passes_first (ltb n (9 + said)) (Short n (9 + said)) (from_long bytes) c.1 in
    let f = passes_first (ltb (9 + said) n) (Long n (9 + said)) [] d.1 in
    let low : 9 + said ≤ n = ltb-false _ _ d.0 in
    let high : n ≤ 9 + said = ltb-false _ _ f.0 in
    record {
      head = ltb-false _ _ a.0;
      kind = not-false _ b.0;
      fits = not-false _ c.0;
      whole = omega (arith, low, high);
    }

pub size_passes : (bytes : List ℕ) → FitsSize bytes → first_refusal (size_tests bytes) ≡ None
size_passes bytes h =
    let n = length bytes in
    let kind = get_or bytes 0 0 in
    let said = said_length bytes in
    let low : 9 + said ≤ n = omega (arith, h.whole) in
    let high : n ≤ 9 + said = omega (arith, h.whole) in
    passes (ltb n 9) (Short n 9) (from_kind bytes) (le-ltb _ _ h.head)
    (passes (not (is_kind kind)) (Kind kind) (from_length bytes) (ap not h.kind)
    (passes (not (is_length kind said)) (Length said) (from_short bytes) (ap not h.fits)
    (passes (ltb n (9 + said)) (Short n (9 + said)) (from_long bytes) (le-ltb _ _ low)
    (passes (ltb (9 + said) n) (Long n (9 + said)) [] (le-ltb _ _ high) refl))))
