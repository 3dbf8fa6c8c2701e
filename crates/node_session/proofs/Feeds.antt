-- Where the line feeds of some bytes stand, and which lines the bytes have.
use Rattle.std.proofs.Common.{◌≡◌, ◌∙◌, refl, sym, ap, subst, arith, ℕ, suc, ◌+◌, ◌-◌, ◌<◌, ◌≤◌, ◌==◌, Bool, true}
use Rattle.std.proofs.Common.{false, not, nat_lt, cond, List, [], ◌∷◌, ◌++◌, length, take, drop, get_or, position, Some}
use Rattle.std.proofs.Common.{None}
use Rattle.std.specs.Prelude.{count_by}
use Rattle.std.specs.List.{position_or_len, before_first, after_first}
use Rattle.std.specs.Str.Lines.{lines, strip_carriage_return}
use Rattle.std.proofs.lemmas.List.{append-nil, length-append, length-take, take_all}
use Rattle.std.proofs.lemmas.List.Sums.{sum_by-cons, sum_by-append, split_at_first, passes_at_first}
use Rattle.std.proofs.lemmas.Option.{cond_some, none-some}
use Rattle.std.proofs.Math.Seq.{take-append_seam, take-append-add, drop-append-add}
use borrow.Author.Tests.{ltb-true, ltb-false}
use Rattle.text_lines.proofs.LineLemmas.{lines-first, lines-at_feed, lines-no_feed}
use Rattle.node_session.specs.declared.request.TheConstants.{MOST_LINE}
use Rattle.node_session.specs.Reading.{is_feed, is_long, HasNoFeed}

pub feeds-append : (a b : List ℕ) → count_by is_feed (a ++ b) ≡ count_by is_feed a + count_by is_feed b
feeds-append a b = sum_by-append (λ x. cond (is_feed x) 1 0) a b

feeds-cons : (x : ℕ) (xs : List ℕ) → count_by is_feed (x ∷ xs) ≡ cond (is_feed x) 1 0 + count_by is_feed xs
feeds-cons x xs = sum_by-cons (λ y. cond (is_feed y) 1 0) x xs

not_one : (t : Bool) (n : ℕ) → cond t 1 0 + n ≡ 0 → (t ≡ false) × (n ≡ 0)
not_one true n h = absurd (omega (arith, h))
not_one false n h = (refl, omega (arith, h))

no_feed-cons : (x : ℕ) (xs : List ℕ) → HasNoFeed (x ∷ xs) → (is_feed x ≡ false) × HasNoFeed xs
no_feed-cons x xs none = not_one (is_feed x) (count_by is_feed xs) (sym (feeds-cons x xs) ∙ none)

-- where the first part has no feed, the first place is looked for in the second
pub first-behind : (a b : List ℕ) → HasNoFeed a →
    position_or_len is_feed (a ++ b) ≡ length a + position_or_len is_feed b
first-behind [] b none = omega arith
first-behind (x ∷ xs) b none =
    let parts = no_feed-cons x xs none in
    ap (λ t. cond (not t) (1 + position_or_len is_feed (xs ++ b)) 0) parts.0 ∙ omega (arith, first-behind xs b parts.1)

first-none : (a : List ℕ) → HasNoFeed a → position_or_len is_feed a ≡ length a
first-none a none =
    subst (λ (l : List ℕ). position_or_len is_feed l ≡ length a) (append-nil a) (first-behind a [] none ∙ omega arith)

one_more : (n : ℕ) → 1 + n ≡ suc n
one_more n = omega arith

-- what stands before the first feed has none
pub no_feed-before : (a : List ℕ) → HasNoFeed (take (position_or_len is_feed a) a)
no_feed-before [] = refl
no_feed-before (x ∷ xs) =
    elim (is_feed x) as (λ t. is_feed x ≡ t →
    HasNoFeed (take (cond (not t) (1 + position_or_len is_feed xs) 0) (x ∷ xs))) [
      | true ↦ λ e. refl
      | false ↦
          λ e. rw (one_more (position_or_len is_feed xs)) (feeds-cons x (take (position_or_len is_feed xs) xs)
          ∙ ap (λ t. cond t 1 0 + count_by is_feed (take (position_or_len is_feed xs) xs)) e
          ∙ omega (arith, no_feed-before xs))
    ] refl

feed_is : (x : ℕ) → is_feed x ≡ true → x ≡ 10
feed_is x e = grind arith

-- the bytes up to their first feed, the feed, and what follows
pub split-at_feed : (a : List ℕ) (n : ℕ) → position is_feed a ≡ Some n →
    (n < length a) × (position_or_len is_feed a ≡ n) × (a ≡ take n a ++ 10 ∷ drop (n + 1) a)
split-at_feed a n at =
    let here = cond_some (nat_lt (position_or_len is_feed a) (length a)) (position_or_len is_feed a) n at in
    let within : position_or_len is_feed a < length a = ltb-true _ _ here.0 in
    let ten = feed_is _ (passes_at_first is_feed a 0 within) in (
      omega (arith, within, here.1),
      here.1,
      split_at_first is_feed a 0 within ∙ ap (λ k. before_first is_feed a ++ k ∷ after_first is_feed a) ten
          ∙ ap (λ k. take k a ++ 10 ∷ drop (k + 1) a) here.1,
    )

itself : (n : ℕ) → nat_lt n n ≡ false
itself n = grind arith

cond_none : (t : Bool) (n : ℕ) → cond t (Some n) None ≡ None → t ≡ false
cond_none true n e = absurd (none-some n (sym e))
cond_none false n e = refl

-- where no feed is found there is none
pub no_feed-none : (a : List ℕ) → position is_feed a ≡ None → HasNoFeed a
no_feed-none a none =
    let past : length a ≤ position_or_len is_feed a = ltb-false _ _ (cond_none _ _ none) in
    subst (λ (l : List ℕ). HasNoFeed l) (take_all (position_or_len is_feed a) a past) (no_feed-before a)

-- and where there is none, none is found
none-no_feed : (a : List ℕ) → HasNoFeed a → position is_feed a ≡ None
none-no_feed a none =
    ap (λ n. cond (nat_lt n (length a)) (Some n) None) (first-none a none)
    ∙ ap (λ t. cond t (Some (length a)) None) (itself (length a))

-- the first line ends at the first feed
pub lines-line : (line rest : List ℕ) → HasNoFeed line →
    lines (line ++ 10 ∷ rest) ≡ strip_carriage_return line ∷ lines rest
lines-line line rest none =
    let at : position_or_len is_feed (line ++ 10 ∷ rest) ≡ length line =
    first-behind line (10 ∷ rest) none ∙ omega arith in
    let within : position_or_len is_feed (line ++ 10 ∷ rest) < length (line ++ 10 ∷ rest) =
    rw at (omega (arith, length-append line (10 ∷ rest))) in
    lines-first (line ++ 10 ∷ rest) within
    ∙ ap (λ n. strip_carriage_return (take n (line ++ 10 ∷ rest)) ∷ lines (drop (n + 1) (line ++ 10 ∷ rest))) at
    ∙ ap (λ l. strip_carriage_return l ∷ lines (drop (length line + 1) (line ++ 10 ∷ rest)))
    (take-append_seam line (10 ∷ rest))
    ∙ ap (λ l. strip_carriage_return line ∷ lines l) (drop-append-add line (10 ∷ rest) 1)

-- bytes without a feed are one line
pub lines-no_end : (line : List ℕ) → HasNoFeed line → 0 < length line → lines line ≡ line ∷ []
lines-no_end line none some = lines-no_feed line (none-no_feed line none) some

either_length : (t : Bool) (l : List ℕ) →
    (length (cond t (take (length l - 1) l) l) ≤ length l) × (length l ≤ length (cond t (take (length l - 1) l) l) + 1)
either_length true l = (omega (arith, length-take (length l - 1) l), omega (arith, length-take (length l - 1) l))
either_length false l = (omega arith, omega arith)

strip_most : (l : List ℕ) → length (strip_carriage_return l) ≤ length l
strip_most l = (either_length (get_or l (length l - 1) 0 == 13) l).0

strip_least : (l : List ℕ) → length l ≤ length (strip_carriage_return l) + 1
strip_least l = (either_length (get_or l (length l - 1) 0 == 13) l).1

-- what is not too long has few bytes
pub few_unless_long : (held : List ℕ) → is_long held ≡ false → length held ≤ MOST_LINE + 1
few_unless_long held short =
    let most : length (strip_carriage_return held) ≤ MOST_LINE = ltb-false _ _ short in
    omega (arith, most, strip_least held)

-- a line grows with its end
strip_longer : (held more : List ℕ) →
    length (strip_carriage_return held) ≤ length (strip_carriage_return (held ++ more))
strip_longer held [] = omega (arith, ap (λ l. length (strip_carriage_return l)) (append-nil held))
strip_longer held (x ∷ xs) = omega (arith, strip_most held, strip_least (held ++ x ∷ xs), length-append held (x ∷ xs))

-- the first line that begins with what is too long already
pub long_line : (held rest : List ℕ) → HasNoFeed held → is_long held ≡ true →
    (line : List ℕ) × (more : List (List ℕ)) × (lines (held ++ rest) ≡ line ∷ more) × (MOST_LINE < length line)
long_line held rest none long =
    let least : MOST_LINE < length (strip_carriage_return held) = ltb-true _ _ long in
    elim (position is_feed (held ++ rest)) as (λ o. position is_feed (held ++ rest) ≡ o →
    (line : List ℕ) × (more : List (List ℕ)) × (lines (held ++ rest) ≡ line ∷ more) × (MOST_LINE < length line)) [
      | None ↦ λ e. (
        held ++ rest,
        [],
        lines-no_feed (held ++ rest) e (omega (arith, least, strip_most held, length-append held rest)),
        omega (arith, least, strip_most held, length-append held rest),
      )
      | Some n ↦ λ e.
          let found = split-at_feed (held ++ rest) n e in
          let place : length held + position_or_len is_feed rest ≡ n = sym (first-behind held rest none) ∙ found.1 in
          let line : strip_carriage_return (take n (held ++ rest))
          ≡ strip_carriage_return (held ++ take (position_or_len is_feed rest) rest) =
          ap (λ k. strip_carriage_return (take k (held ++ rest))) (sym place)
          ∙ ap strip_carriage_return (take-append-add held rest (position_or_len is_feed rest)) in (
            strip_carriage_return (take n (held ++ rest)),
            lines (drop (n + 1) (held ++ rest)),
            (lines-at_feed (held ++ rest) n e).0,
            omega (arith, least, strip_longer held (take (position_or_len is_feed rest) rest), ap length line),
          )
    ] refl

-- bytes have a line
pub some_line : (bytes : List ℕ) → 0 < length bytes → 0 < length (lines bytes)
some_line bytes some =
    elim (position is_feed bytes) as (λ o. position is_feed bytes ≡ o → 0 < length (lines bytes)) [
      | None ↦ λ e. omega (arith, ap length (lines-no_feed bytes e some))
      | Some n ↦ λ e. omega (arith, ap length (lines-at_feed bytes n e).0)
    ] refl
