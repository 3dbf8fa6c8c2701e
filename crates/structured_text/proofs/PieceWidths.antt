-- How wide the pieces of a text are.
use Rattle.std.proofs.Common.{◌≡◌, ◌++◌, ◌<◌, ◌≤◌, ◌+◌, ◌^◌, ℕ, List, [], ◌∷◌, Bool, true}
use Rattle.std.proofs.Common.{false, length, refl, ap, arith, length-append}
use Rattle.std.specs.Prelude.{nat_lt, codes, decimal, slice_index_or}
use Rattle.std.proofs.lemmas.Bool.Decides.{nat_tests}
use Rattle.std.proofs.lemmas.Fmt.{length-decimal-le}
use Rattle.structured_text.specs.declared.name.Name.{Name}
use Rattle.structured_text.specs.declared.name.Name.TheVariants.{Off, On, May, Sure, Opens, Closes}
use Rattle.structured_text.specs.declared.line.GapDenial.{GapDenial}
use Rattle.structured_text.specs.declared.line.GapDenial.TheVariants.{One, Two}
use Rattle.structured_text.specs.declared.line.LoadDenial.{LoadDenial}
use Rattle.structured_text.specs.declared.line.LoadDenial.TheVariants.{Loaded, Unbonded}
use Rattle.structured_text.specs.declared.line.Operand.{Operand}
use Rattle.structured_text.specs.declared.line.Operand.TheVariants.{Variable, Product, Sum}
use Rattle.structured_text.specs.declared.line.Formula.{Formula}
use Rattle.structured_text.specs.declared.line.Formula.TheVariants.{Always, Never, MayBeClosed, IsClosed, Both, Either, Apart, Unloaded, Released}
use Rattle.structured_text.specs.Meaning.{b_not}
use Rattle.structured_text.specs.Spelling.{is_word, word_byte, readable, is_short, has_slash, last_name, switch_text, name_text}
use Rattle.structured_text.specs.Spelling.{pair_text, gap_text, load_text, operand_text, formula_text}
use Rattle.structured_text.specs.Within.{NameWithin, IsOfFormula, GapWithin, LoadWithin, OperandWithin, FormulaWithin}
use Rattle.structured_text.proofs.WidthLemmas.{chosen, passed, both_true}

lt_from : (a b : ℕ) → nat_lt a b ≡ true → a < b
lt_from a b e = grind (arith, nat_tests)

-- ---- names
readable_lengths : (path : List ℕ) → (length (readable true path) ≤ length path + 1) × (length (readable false path) ≤ length path)
readable_lengths [] = (omega arith, omega arith)
readable_lengths (b ∷ bs) = by (is_word b) refl (readable_lengths bs)
  where
    by : (q : Bool) → is_word b ≡ q →
        (length (readable true bs) ≤ length bs + 1) × (length (readable false bs) ≤ length bs) →
        (length (readable true (b ∷ bs)) ≤ length (b ∷ bs) + 1) × (length (readable false (b ∷ bs)) ≤ length (b ∷ bs))
    by true is rec =
        let x = ap length (chosen (is_word b) (word_byte true b (readable false bs)) (readable true bs) is) in
        let y = ap length (chosen (is_word b) (word_byte false b (readable false bs)) (readable true bs) is) in
        let z = rec.1 in
        (omega (arith, x, z), omega (arith, y, z))
    by false is rec =
        let x = ap length (passed (is_word b) (word_byte true b (readable false bs)) (readable true bs) is) in
        let y = ap length (passed (is_word b) (word_byte false b (readable false bs)) (readable true bs) is) in
        let z = rec.0 in
        (omega (arith, x, z), omega (arith, y, z))

last_length : (path : List ℕ) → length (last_name path) < 14
last_length [] = omega arith
last_length (b ∷ bs) = by (is_short (b ∷ bs)) refl (last_length bs)
  where
    by : (q : Bool) → is_short (b ∷ bs) ≡ q → length (last_name bs) < 14 → length (last_name (b ∷ bs)) < 14
    by true is rec =
        let x = ap length (chosen (is_short (b ∷ bs)) (b ∷ bs) (last_name bs) is) in
        let y = lt_from (length (b ∷ bs)) 14 (both_true (nat_lt (length (b ∷ bs)) 14) (b_not (has_slash (b ∷ bs))) is).0 in
        omega (arith, x, y)
    by false is rec =
        let x = ap length (passed (is_short (b ∷ bs)) (b ∷ bs) (last_name bs) is) in omega (arith, x, rec)

number_length : (n : ℕ) → n < 2 ^ 64 → length (decimal n) ≤ 20
number_length n small = length-decimal-le 20 n (omega arith) (omega (arith, small)) small

switch_length : (paths : List (List ℕ)) (i : ℕ) (which : List ℕ) → i < 2 ^ 64 → length which ≤ 7 →
    length (switch_text paths i which) ≤ 43
switch_length paths i which small low =
    let path = last_name (slice_index_or paths i []) in
    let a = length-append (codes "sw") (decimal i ++ (readable true path ++ which)) in
    let b = length-append (decimal i) (readable true path ++ which) in
    let c = length-append (readable true path) which in
    let n = number_length i small in
    let r = (readable_lengths path).0 in
    let l = last_length (slice_index_or paths i []) in
    omega (arith, a, b, c, n, r, l, low)

formula_length : (paths : List (List ℕ)) (m : Name) → IsOfFormula m → length (name_text paths m) ≤ 21
formula_length paths (Off i) h = absurd h
formula_length paths (On i) h = absurd h
formula_length paths (May k) h =
    let a = length-append (codes "m") (decimal k) in let n = number_length k h in omega (arith, a, n)
formula_length paths (Sure k) h =
    let a = length-append (codes "c") (decimal k) in let n = number_length k h in omega (arith, a, n)
formula_length paths (Opens i) h = absurd h
formula_length paths (Closes i) h = absurd h

module _ (paths : List (List ℕ)) (count : ℕ) (few : count ≤ 2 ^ 64) where
  off_length : (i : ℕ) → i < count → length (switch_text paths i (codes "_off")) ≤ 43
  off_length i low = switch_length paths i (codes "_off") (omega (arith, low, few)) (omega arith)

  on_length : (i : ℕ) → i < count → length (switch_text paths i (codes "_on")) ≤ 43
  on_length i low = switch_length paths i (codes "_on") (omega (arith, low, few)) (omega arith)

  pub name_length : (m : Name) → NameWithin count m → length (name_text paths m) ≤ 43
  name_length (Off i) h = off_length i.0 h
  name_length (On i) h = on_length i.0 h
  name_length (May k) h = let n = formula_length paths (May k) h in omega (arith, n)
  name_length (Sure k) h = let n = formula_length paths (Sure k) h in omega (arith, n)
  name_length (Opens i) h = switch_length paths i.0 (codes "_EnaOpn") (omega (arith, h, few)) (omega arith)
  name_length (Closes i) h = switch_length paths i.0 (codes "_EnaCls") (omega (arith, h, few)) (omega arith)

  -- ---- formulas
  pub pair_length : (a : Name) (word : List ℕ) (b : Name) (m n : ℕ) → length (name_text paths a) ≤ m →
      length (name_text paths b) ≤ n → length (pair_text paths a word b) ≤ m + (length word + n)
  pair_length a word b m n h k =
      let x = length-append (name_text paths a) (word ++ name_text paths b) in
      let y = length-append word (name_text paths b) in
      omega (arith, x, y, h, k)

  bracket_length : (before text behind : List ℕ) (n : ℕ) → length text ≤ n →
      length (before ++ (text ++ behind)) ≤ length before + (n + length behind)
  bracket_length before text behind n h =
      let x = length-append before (text ++ behind) in
      let y = length-append text behind in
      omega (arith, x, y, h)

  two_length : (a : Name) (word : List ℕ) (b : Name) → IsOfFormula a → IsOfFormula b → length word ≤ 5 →
      length (pair_text paths a word b) ≤ 47
  two_length a word b h k low =
      let x = pair_length a word b 21 21 (formula_length paths a h) (formula_length paths b k) in
      omega (arith, x, low)

  gap_length : (g : GapDenial) → GapWithin g → length (gap_text paths g) ≤ 53
  gap_length (One a) h =
      let x = length-append (codes "NOT ") (name_text paths a) in
      let y = formula_length paths a h in
      omega (arith, x, y)
  gap_length (Two a b) h =
      let y = two_length a (codes " AND ") b h.0 h.1 (omega arith) in
      let x = bracket_length (codes "NOT (") (pair_text paths a (codes " AND ") b) (codes ")") 47 y in
      omega (arith, x)

  load_length : (l : LoadDenial) → LoadWithin l → length (load_text paths l) ≤ 83
  load_length (Loaded a b) h =
      let y = two_length a (codes " AND ") b h.0 h.1 (omega arith) in
      let x = bracket_length (codes "NOT (") (pair_text paths a (codes " AND ") b) (codes ")") 47 y in
      omega (arith, x)
  load_length (Unbonded a b c) h =
      let y = two_length a (codes " AND ") b h.0 h.1 (omega arith) in
      let z = formula_length paths c h.2 in
      let w = bracket_length (codes " AND NOT ") (name_text paths c) (codes ")") 21 z in
      let u = length-append (pair_text paths a (codes " AND ") b) (codes " AND NOT " ++ (name_text paths c ++ codes ")")) in
      let x = length-append (codes "NOT (")
      (pair_text paths a (codes " AND ") b ++ (codes " AND NOT " ++ (name_text paths c ++ codes ")"))) in
      omega (arith, y, w, u, x)

  operand_length : (o : Operand) → OperandWithin o → length (operand_text paths o) ≤ 49
  operand_length (Variable a) h = let x = formula_length paths a h in omega (arith, x)
  operand_length (Product a b) h =
      let y = two_length a (codes " AND ") b h.0 h.1 (omega arith) in
      let x = bracket_length (codes "(") (pair_text paths a (codes " AND ") b) (codes ")") 47 y in
      omega (arith, x)
  operand_length (Sum a b) h =
      let y = two_length a (codes " OR ") b h.0 h.1 (omega arith) in
      let x = bracket_length (codes "(") (pair_text paths a (codes " OR ") b) (codes ")") 47 y in
      omega (arith, x)

  sides_length : (a b : Operand) (word : List ℕ) → OperandWithin a → OperandWithin b → length word ≤ 5 →
      length (operand_text paths a ++ (word ++ operand_text paths b)) ≤ 103
  sides_length a b word h k low =
      let x = length-append (operand_text paths a) (word ++ operand_text paths b) in
      let y = length-append word (operand_text paths b) in
      let u = operand_length a h in
      let v = operand_length b k in
      omega (arith, x, y, u, v, low)

  pub formula_text_length : (f : Formula) → FormulaWithin count f → length (formula_text paths f) ≤ 141
  formula_text_length Always h = omega arith
  formula_text_length Never h = omega arith
  formula_text_length (MayBeClosed i) h =
      let x = pair_length (On i) (codes " OR NOT ") (Off i) 43 43 (on_length i.0 h) (off_length i.0 h) in omega (arith, x)
  formula_text_length (IsClosed i) h =
      let x = pair_length (On i) (codes " AND NOT ") (Off i) 43 43 (on_length i.0 h) (off_length i.0 h) in omega (arith, x)
  formula_text_length (Both a b) h = let x = sides_length a b (codes " AND ") h.0 h.1 (omega arith) in omega (arith, x)
  formula_text_length (Either a b) h = let x = sides_length a b (codes " OR ") h.0 h.1 (omega arith) in omega (arith, x)
  formula_text_length (Apart g) h = let x = gap_length g h in omega (arith, x)
  formula_text_length (Unloaded l) h = let x = load_length l h in omega (arith, x)
  formula_text_length (Released g l) h =
      let x = gap_length g h.0 in
      let y = load_length l h.1 in
      let u = length-append (gap_text paths g) (codes " AND " ++ load_text paths l) in
      let v = length-append (codes " AND ") (load_text paths l) in
      omega (arith, x, y, u, v)
