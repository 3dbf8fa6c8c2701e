-- Reading one piece from the front of a text: the piece and the rest. Contracts of private calls name these functions;
-- laws both ways join them to the grammar, and no public contract rests on them.
use Rattle.std.specs.Prelude.{ℕ, zero, suc, Bool, true, false, ◌==◌, ◌&&◌, ◌||◌, not, nat_eq, List, [], ◌∷◌, length}
use Rattle.std.specs.Prelude.{drop, Option, Some, None, option_and_then, if◌then◌else◌, codes}
use Rattle.std.specs.Option.{option_map, option_map_or}
use Rattle.std.specs.List.{list_all, starts_with, take_while, prefix_len}
use Rattle.std.specs.Str.{bytes_eq}
use Rattle.ssd_text.specs.Nesting.{pairs}
use Rattle.ssd_text.specs.Grammar.{is_white, starts_name, in_name, stays, all_references, Attribute, firsts, Piece}
use Rattle.ssd_text.specs.Grammar.{comment, instruction, cdata, start, end, run}

infixl 10 ◌>>=◌
-- The second, of what the first gives.
abbrev pub ◌>>=◌ : {A B : Type 0} → Option A → (A → Option B) → Option B
o >>= f = option_and_then f o

-- The text behind the bytes of which this holds.
abbrev pub past : (ℕ → Bool) → List ℕ → List ℕ
past p text = drop (prefix_len p text) text

-- What follows a mark that stands in front.
unfoldable pub after : List ℕ → List ℕ → Option (List ℕ)
after mark text = if starts_with nat_eq text mark then Some (drop (length mark) text) else None

-- What stands before the first mark, and what follows it.
unfoldable pub up_to : List ℕ → List ℕ → Option (List ℕ × List ℕ)
up_to mark [] = None
up_to mark (b ∷ bs) = if starts_with nat_eq (b ∷ bs) mark then Some ([], drop (length mark) (b ∷ bs)) else option_map
    (λ x. (b ∷ x.0, x.1)) (up_to mark bs)

-- The name with which the text begins, and the rest.
unfoldable pub name_at : List ℕ → Option (List ℕ × List ℕ)
name_at [] = None
name_at (b ∷ bs) = if starts_name b then Some (take_while in_name (b ∷ bs), past in_name (b ∷ bs)) else None

-- The white space with which the text begins, and the rest.
unfoldable pub gap_at : List ℕ → Option (List ℕ × List ℕ)
gap_at [] = None
gap_at (b ∷ bs) = if is_white b then Some (take_while is_white (b ∷ bs), past is_white (b ∷ bs)) else None

-- The quote with which the text begins, and the rest.
unfoldable pub quote_at : List ℕ → Option (ℕ × List ℕ)
quote_at [] = None
quote_at (b ∷ bs) = if b == 34 || b == 39 then Some (b, bs) else None

-- What stands up to the quote, and what follows that.
unfoldable pub value_at : ℕ → List ℕ → Option (List ℕ × List ℕ)
value_at quote text = do
  rest ← after (quote ∷ []) (past (stays quote) text)
  if all_references (take_while (stays quote) text) then Some (take_while (stays quote) text, rest) else None

-- The attribute with which the text begins, and the rest.
unfoldable pub attribute_at : List ℕ → Option (Attribute × List ℕ)
attribute_at text = do
  gap ← gap_at text
  name ← name_at gap.1
  equals ← after (61 ∷ []) (past is_white name.1)
  quote ← quote_at (past is_white equals)
  raw ← value_at quote.0 quote.1
  Some (
    record {
      gap = gap.0;
      name = name.0;
      left = take_while is_white name.1;
      right = take_while is_white equals;
      quote = quote.0;
      raw = raw.0;
    },
    raw.1,
  )

-- What the tree keeps of an attribute, and the rest.
abbrev pub kept : Attribute × List ℕ → List ℕ × List ℕ × List ℕ
kept x = (x.0.name, x.0.raw, x.1)

-- Attributes as long as there are any, at most n.
unfoldable pub attributes_at : ℕ → List ℕ → List Attribute × List ℕ
attributes_at zero text = ([], text)
attributes_at (suc n) text = option_map_or (λ x. let more = attributes_at n x.1 in (x.0 ∷ more.0, more.1))
    (attribute_at text) ([], text)

-- How the start tag ends, and the rest.
unfoldable pub close_at : List ℕ → Option (Bool × List ℕ)
close_at text = option_map_or (λ rest. Some (true, rest)) (after (codes "/>") text) (option_map (λ rest. (false, rest))
    (after (codes ">") text))

-- No name is that of a later one.
unfoldable pub all_differ : List (List ℕ) → Bool
all_differ [] = true
all_differ (n ∷ ns) = list_all (λ m. not (bytes_eq n m)) ns && all_differ ns

-- Behind a `<`.
unfoldable pub start_at : List ℕ → Option (Piece × List ℕ)
start_at text = do
  name ← name_at text
  let given = attributes_at (length name.1) name.1
  close ← close_at (past is_white given.1)
  if all_differ (firsts (pairs given.0)) then Some (
    start name.0 given.0 (take_while is_white given.1) close.0,
    close.1,
  ) else None

-- Behind a `</`.
unfoldable pub end_at : List ℕ → Option (Piece × List ℕ)
end_at text = do
  name ← name_at text
  rest ← after (codes ">") (past is_white name.1)
  Some (end name.0 (take_while is_white name.1), rest)

-- The run of character data with which the text begins, and the rest.
unfoldable pub run_at : List ℕ → Option (Piece × List ℕ)
run_at [] = None
run_at (b ∷ bs) = if b == 60 then None else Some (
  run (take_while (λ c. not (c == 60)) (b ∷ bs)),
  past (λ c. not (c == 60)) (b ∷ bs),
)

-- The piece that goes up to the mark, and the rest.
abbrev pub inner : (List ℕ → Piece) → List ℕ → List ℕ → Option (Piece × List ℕ)
inner make mark rest = option_map (λ x. (make x.0, x.1)) (up_to mark rest)

-- The piece with which the text begins, and the rest.
unfoldable pub piece_at : List ℕ → Option (Piece × List ℕ)
piece_at text =
    option_map_or (inner comment (codes "-->")) (after (codes "<!--") text)
    (option_map_or (inner instruction (codes "?>")) (after (codes "<?") text)
    (option_map_or (inner cdata (codes "]]>")) (after (codes "<![CDATA[") text)
    (option_map_or end_at (after (codes "</") text)
    (option_map_or start_at (after (codes "<") text)
    (run_at text)))))
