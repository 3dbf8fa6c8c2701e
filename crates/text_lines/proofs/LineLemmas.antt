-- The first line of a text, and how many lines there are at most.
use Rattle.std.proofs.Common.{◌≡◌, refl, ap, ◌∙◌, ℕ, ◌+◌, ◌<◌, ◌≤◌, List, [], ◌∷◌, length, take, drop, arith, Bool}
use Rattle.std.proofs.Common.{true, false, cond, ◌==◌, sym, nat_lt, position, Some, None}
use Rattle.std.specs.List.{All, slice_split, onto_first, before_first, after_first, position_or_len}
use Rattle.std.specs.Str.Lines.{lines, lines_of_parts, strip_carriage_return}
use Rattle.std.proofs.lemmas.List.Splits.{slice_split_none, slice_split_first, length-slice_split}
use Rattle.std.proofs.lemmas.List.Sums.{fails_before_first}
use Rattle.std.proofs.lemmas.Option.{cond_some, none-some}
use borrow.Author.Tests.{ltb-true, ltb-false, ne_eqb}
use native.Mathlib.Numerals.{unary_clauses}

lines_of_parts-cons : (x : List ℕ) (parts : List (List ℕ)) → 0 < length parts →
    lines_of_parts (x ∷ parts) ≡ strip_carriage_return x ∷ lines_of_parts parts
lines_of_parts-cons x [] some = absurd (omega arith)
lines_of_parts-cons x (y ∷ more) some = refl

-- a text with a newline: the first line is what stands before it
pub lines-first : (bs : List ℕ) → position_or_len (λ b. b == 10) bs < length bs →
    lines bs ≡ strip_carriage_return (before_first (λ b. b == 10) bs) ∷ lines (after_first (λ b. b == 10) bs)
lines-first bs within =
    ap lines_of_parts (slice_split_first (λ b. b == 10) bs 0 within)
    ∙ lines_of_parts-cons _ (slice_split (λ b. b == 10) (after_first (λ b. b == 10) bs))
    (omega (arith, length-slice_split (λ b. b == 10) (after_first (λ b. b == 10) bs)))

-- the same, at the place of the newline
pub lines-at_feed : (bs : List ℕ) (end : ℕ) → position (λ b. b == 10) bs ≡ Some end →
    (lines bs ≡ strip_carriage_return (take end bs) ∷ lines (drop (end + 1) bs)) × (end < length bs)
lines-at_feed bs end at =
    let p = λ (b : ℕ). b == 10 in
    let here = cond_some (nat_lt (position_or_len p bs) (length bs)) (position_or_len p bs) end at in
    let within : position_or_len p bs < length bs = ltb-true _ _ here.0 in (
      lines-first bs within ∙ ap (λ n. strip_carriage_return (take n bs) ∷ lines (drop (n + 1) bs)) here.1,
      omega (arith, here.1),
    )

last_part : (bs : List ℕ) → 0 < length bs → lines_of_parts (bs ∷ []) ≡ bs ∷ []
last_part bs some = ap (λ t. cond t [] (bs ∷ [])) (ne_eqb (length bs) 0 (λ none. omega arith))

-- a text without a newline is one line
lines-last : (bs : List ℕ) → 0 < length bs → All (λ b. (b == 10) ≡ false) bs → lines bs ≡ bs ∷ []
lines-last bs some none = ap lines_of_parts (slice_split_none (λ b. b == 10) bs none) ∙ last_part bs some

-- the same, where no place of a newline is found
pub lines-no_feed : (bs : List ℕ) → position (λ b. b == 10) bs ≡ None → 0 < length bs → lines bs ≡ bs ∷ []
lines-no_feed bs none some =
    let p = λ (b : ℕ). b == 10 in
    lines-last bs some (λ k d within. fails_before_first p bs k d (elim (nat_lt (position_or_len p bs) (length bs))
    as (λ t. nat_lt (position_or_len p bs) (length bs) ≡ t → k < position_or_len p bs) [
      | true ↦ λ e. absurd (none-some (position_or_len p bs) (sym none
          ∙ ap (λ t. cond t (Some (position_or_len p bs)) None) e))
      | false ↦ λ e. omega (arith, ltb-false _ _ e)
    ] refl))

one_more_byte : (b : ℕ) (parts : List (List ℕ)) → 0 < length parts →
    length (lines_of_parts (onto_first b parts)) ≤ length (lines_of_parts parts) + 1
one_more_byte b [] some = absurd (omega arith)
one_more_byte b (x ∷ []) some = omega (arith, ap length (last_part (b ∷ x) (omega arith)))
one_more_byte b (x ∷ y ∷ more) some = omega arith

more_byte : (b : ℕ) (parts : List (List ℕ)) (n : ℕ) (newline : Bool) → 0 < length parts →
    length (lines_of_parts parts) ≤ n → length (lines_of_parts (cond newline ([] ∷ parts) (onto_first b parts))) ≤ n + 1
more_byte b parts n true some few = omega (arith, ap length (lines_of_parts-cons [] parts some))
more_byte b parts n false some few = omega (arith, one_more_byte b parts some)

-- a text has no more lines than bytes
pub length-lines : (bs : List ℕ) → length (lines bs) ≤ length bs
length-lines [] = omega arith
length-lines (b ∷ bs) = simp unary_clauses at more_byte b (slice_split (λ x. x == 10) bs) (length bs) (b == 10)
    (omega (arith, length-slice_split (λ x. x == 10) bs)) (length-lines bs)

pub lines-none : (bs : List ℕ) → length bs ≡ 0 → lines bs ≡ []
lines-none [] none = refl
lines-none (b ∷ bs) none = absurd (omega arith)
