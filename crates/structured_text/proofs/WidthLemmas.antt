-- A text that is written piece by piece has short lines where each piece goes on from the column at which the one before it
-- ends.
use Rattle.std.proofs.Common.{◌≡◌, ◌≢◌, ◌++◌, ◌∙◌, ◌≤◌, ◌+◌, ◌&&◌, ℕ, zero, suc, List, [], ◌∷◌, Bool, true, false, refl}
use Rattle.std.proofs.Common.{length, ap, subst, arith}
use Rattle.std.specs.Prelude.{◌==◌, if◌then◌else◌, nat_le, Contains}
use Rattle.std.proofs.lemmas.Bool.{false≢true}
use Rattle.std.proofs.lemmas.Bool.Decides.{nat_tests}
use Rattle.station_graph.proofs.CountLemmas.{counted, count_by-cons}
use Rattle.structured_text.specs.Meaning.{b_not}
use Rattle.structured_text.specs.Width.{continues, characters, AreLinesShort}

-- the column behind a byte
abbrev pub wider : ℕ → ℕ → ℕ
wider c b = if continues b then c else c + 1

abbrev pub column : ℕ → ℕ → ℕ
column c b = if b == 10 then 0 else wider c b

-- from column c the text never passes column 200, and ends at column e at most
abbrev pub Fits : ℕ → List ℕ → ℕ → Type 0
Fits c [] e = c ≤ e
Fits c (b ∷ bs) e = (column c b ≤ 200) × Fits (column c b) bs e

pub chosen : {X : Type 0} (q : Bool) (x y : X) → q ≡ true → (if q then x else y) ≡ x
chosen {X} q x y is = ap (λ p. if p then x else y) is

pub passed : {X : Type 0} (q : Bool) (x y : X) → q ≡ false → (if q then x else y) ≡ y
passed {X} q x y is = ap (λ p. if p then x else y) is

-- a test of a text that is known
abbrev pub fits_test : ℕ → List ℕ → ℕ → Bool
fits_test c [] e = nat_le c e
fits_test c (b ∷ bs) e = nat_le (column c b) 200 && fits_test (column c b) bs e

le_from : (a b : ℕ) → nat_le a b ≡ true → a ≤ b
le_from a b e = grind (arith, nat_tests)

pub both_true : (a b : Bool) → (a && b) ≡ true → (a ≡ true) × (b ≡ true)
both_true true b e = (refl, e)
both_true false b e = absurd (false≢true e)

pub tested : (c : ℕ) (text : List ℕ) (e : ℕ) → fits_test c text e ≡ true → Fits c text e
tested c [] e h = le_from c e h
tested c (b ∷ bs) e h =
    let z = both_true (nat_le (column c b) 200) (fits_test (column c b) bs e) h in
    (le_from (column c b) 200 z.0, tested (column c b) bs e z.1)

column_le : (c d b : ℕ) → c ≤ d → column c b ≤ column d b
column_le c d b low = by (b == 10) refl
  where
    wide : (q : Bool) → continues b ≡ q → wider c b ≤ wider d b
    wide true is =
        let x = chosen (continues b) c (c + 1) is in
        let y = chosen (continues b) d (d + 1) is in
        omega (arith, x, y, low)
    wide false is =
        let x = passed (continues b) c (c + 1) is in
        let y = passed (continues b) d (d + 1) is in
        omega (arith, x, y, low)

    by : (q : Bool) → (b == 10) ≡ q → column c b ≤ column d b
    by true is =
        let x = chosen (b == 10) 0 (wider c b) is in
        let y = chosen (b == 10) 0 (wider d b) is in
        omega (arith, x, y)
    by false is =
        let x = passed (b == 10) 0 (wider c b) is in
        let y = passed (b == 10) 0 (wider d b) is in
        let z = wide (continues b) refl in
        omega (arith, x, y, z)

-- it fits from an earlier column, and to a later one
pub earlier : (c d : ℕ) (text : List ℕ) (e : ℕ) → c ≤ d → Fits d text e → Fits c text e
earlier c d [] e low h = omega (arith, low, h)
earlier c d (b ∷ bs) e low h =
    let less = column_le c d b low in
    let first = h.0 in
    (omega (arith, less, first), earlier (column c b) (column d b) bs e less h.1)

pub later : (c : ℕ) (text : List ℕ) (d e : ℕ) → d ≤ e → Fits c text d → Fits c text e
later c [] d e low h = omega (arith, low, h)
later c (b ∷ bs) d e low h = (h.0, later (column c b) bs d e low h.1)

-- one piece after another
pub goes_on : (c : ℕ) (xs : List ℕ) (d : ℕ) (ys : List ℕ) (e : ℕ) → Fits c xs d → Fits d ys e → Fits c (xs ++ ys) e
goes_on c [] d ys e f g = earlier c d ys e f g
goes_on c (b ∷ bs) d ys e f g = (f.0, goes_on (column c b) bs d ys e f.1 g)

-- a byte takes one column at most
pub column_more : (c b : ℕ) → column c b ≤ c + 1
column_more c b = by (b == 10) refl
  where
    wide : (q : Bool) → continues b ≡ q → wider c b ≤ c + 1
    wide true is = let x = chosen (continues b) c (c + 1) is in omega (arith, x)
    wide false is = let x = passed (continues b) c (c + 1) is in omega (arith, x)

    by : (q : Bool) → (b == 10) ≡ q → column c b ≤ c + 1
    by true is = let x = chosen (b == 10) 0 (wider c b) is in omega (arith, x)
    by false is =
        let x = passed (b == 10) 0 (wider c b) is in let y = wide (continues b) refl in omega (arith, x, y)

-- a piece of so many bytes
pub piece : (c : ℕ) (text : List ℕ) (n : ℕ) → length text ≤ n → c + n ≤ 200 → Fits c text (c + n)
piece c [] n len room = omega arith
piece c (b ∷ bs) zero len room = absurd (omega (arith, len))
piece c (b ∷ bs) (suc n) len room =
    let more = column_more c b in
    let next : (c + 1) + n ≡ c + suc n = omega arith in (
      omega (arith, more, room),
      earlier (column c b) (c + 1) bs (c + suc n) more
          (subst (λ e. Fits (c + 1) bs e) next (piece (c + 1) bs n (omega (arith, len)) (omega (arith, room)))),
    )

-- ---- what a text that fits says of its lines
behind : (c : ℕ) (xs ys : List ℕ) (e : ℕ) → c ≤ 200 → Fits c (xs ++ ys) e → (d : ℕ) × (d ≤ 200) × Fits d ys e
behind c [] ys e low h = (c, low, h)
behind c (b ∷ bs) ys e low h = behind (column c b) bs ys e h.0 h.1

eq_false : (a b : ℕ) → a ≢ b → (a == b) ≡ false
eq_false a b differ = grind (arith, nat_tests)

count_one : (b : ℕ) (bs : List ℕ) (q : Bool) → continues b ≡ q →
    characters (b ∷ bs) ≡ counted (b_not q) + characters bs
count_one b bs q is =
    count_by-cons (λ x. b_not (continues x)) b bs ∙ ap (λ p. counted (b_not p) + characters bs) is

row_fits : (c : ℕ) (row behind : List ℕ) (e : ℕ) → c ≤ 200 → ¬ Contains row 10 → Fits c (row ++ behind) e →
    c + characters row ≤ 200
row_fits c [] behind e low lacks h = omega (arith, low)
row_fits c (b ∷ bs) behind e low lacks h =
    let other : b ≢ 10 = λ is. lacks (0, omega arith, is) in
    let rest : ¬ Contains bs 10 = λ (k, within, is). lacks (suc k, omega (arith, within), is) in
    let rec = row_fits (column c b) bs behind e h.0 rest h.1 in
    let x = passed (b == 10) 0 (wider c b) (eq_false b 10 other) in
    by (continues b) refl rec x
  where
    by : (q : Bool) → continues b ≡ q → column c b + characters bs ≤ 200 → column c b ≡ wider c b →
        c + characters (b ∷ bs) ≤ 200
    by true is rec x =
        let y = chosen (continues b) c (c + 1) is in
        let z = count_one b bs true is in
        omega (arith, rec, x, y, z)
    by false is rec x =
        let y = passed (continues b) c (c + 1) is in
        let z = count_one b bs false is in
        omega (arith, rec, x, y, z)

pub short_lines : (text : List ℕ) (e : ℕ) → Fits 0 text e → AreLinesShort text
short_lines text e h before row rest is lacks =
    let low : 0 ≤ 200 = omega arith in
    let whole : Fits 0 (before ++ (row ++ rest)) e = subst (λ t. Fits 0 t e) is h in
    let (d, small, fits) = behind 0 before (row ++ rest) e low whole in
    let z = row_fits d row rest e small lacks fits in
    omega (arith, z)
