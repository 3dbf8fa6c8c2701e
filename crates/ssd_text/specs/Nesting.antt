-- How pieces nest, and the tree and the faults of a whole text.
use Rattle.std.specs.Prelude.{◌≡◌, ℕ, ◌+◌, ◌≤◌, Bool, ◌==◌, ◌&&◌, not, nat_le, nat_eq, List, [], ◌∷◌, ◌++◌, length}
use Rattle.std.specs.Prelude.{◌<◌, drop, map, Option, Some, None, Result, Ok, Err, if◌then◌else◌, codes, ◌⊎◌, IsUtf8}
use Rattle.std.specs.Prelude.{IsSomeAnd, slice_index_or}
use Rattle.std.specs.List.{list_all, starts_with}
use Rattle.std.specs.Option.{option_map_or}
use Rattle.std.specs.Str.{bytes_eq}
use Rattle.std.specs.Str.Lossy.{utf8_valid_len}
use Rattle.ssd_text.specs.declared.refusal.TextRefusal.{TextRefusal}
use Rattle.ssd_text.specs.declared.refusal.TextRefusal.TheVariants.{Encoding, Syntax, Doctype, Deep, Mismatch}
use Rattle.ssd_text.specs.declared.refusal.TextRefusal.TheVariants.{Unclosed, Many}
use Rattle.ssd_text.specs.Grammar.{is_white, Attribute, Piece, comment, instruction, cdata, start, end, run, spelling}
use Rattle.ssd_text.specs.Grammar.{Begins}
use Rattle.ssd_text.specs.declared.limits.TheConstants.{DEPTH, ELEMENTS}

-- What counts of a piece for the nesting: comments and instructions are passed over, and CDATA is literal.
pub data Shape : Type 0 where
  passed : Shape
  literal : Shape
  -- character data, and whether it is white space
  characters : Bool → Shape
  opens : List ℕ → List (List ℕ × List ℕ) → Bool → Shape
  closes : List ℕ → Shape

-- The name and the raw text of each attribute.
abbrev pub pairs : List Attribute → List (List ℕ × List ℕ)
pairs attributes = map (λ a. (a.name, a.raw)) attributes

-- What a piece does to the nesting.
abbrev pub shape : Piece → Shape
shape (comment x) = passed
shape (instruction x) = passed
shape (cdata x) = literal
shape (run x) = characters (list_all is_white x)
shape (start name attributes gap closed) = opens name (pairs attributes) closed
shape (end name gap) = closes name

-- An element of the tree.
pub record Entry : Type 0 where
  pub at : ℕ
  pub parent : Option ℕ
  pub name : List ℕ
  pub attributes : List (List ℕ × List ℕ)

-- The element that is none.
abbrev pub no_entry : Entry
no_entry = record { at = 0; parent = None; name = []; attributes = [] }

-- The element of this number, in document order from 0.
abbrev pub entry_at : List Entry → ℕ → Entry
entry_at tree i = slice_index_or tree i no_entry

-- The order of the elements: a parent comes before its child, and each element between the two has a parent too, which
-- is that parent or comes behind it.
abbrev pub IsInOrder : List Entry → Type 0
IsInOrder tree = (j p : ℕ) → (entry_at tree j).parent ≡ Some p → (p < j) × ((k : ℕ) → p < k → k < j →
    IsSomeAnd (entry_at tree k).parent (λ q. p ≤ q))

-- An element whose end tag has not come.
pub record Open : Type 0 where
  pub at : ℕ
  pub number : ℕ
  pub name : List ℕ

-- The elements so far, and the open ones, the innermost first.
pub record Nest : Type 0 where
  pub entries : List Entry
  pub within : List Open

-- The innermost open element.
abbrev pub innermost : List Open → Option ℕ
innermost [] = None
innermost (o ∷ os) = Some o.number

-- The nest with one more element, which is left open or closed at once.
abbrev pub opened : ℕ → Nest → List ℕ → List (List ℕ × List ℕ) → Bool → Nest
opened at n name attributes closed = record {
  entries = n.entries ++ (record { at = at; parent = innermost n.within; name = name; attributes = attributes } ∷ []);
  within = if closed then n.within else (record { at = at; number = length n.entries; name = name } ∷ n.within);
}

-- The nest after an end tag, which must be that of the innermost open element.
unfoldable pub ended : ℕ → List Entry → List Open → List ℕ → Result Nest TextRefusal
ended at entries [] name = Err (Mismatch at)
ended at entries (o ∷ os) name = if bytes_eq o.name name then Ok (record { entries = entries; within = os }) else Err
    (Mismatch at)

-- The fault of a start tag among so many open elements and after so many elements.
unfoldable pub start_fault : ℕ → ℕ → ℕ → Option TextRefusal
start_fault at depth count =
    if depth == 0 && not (count == 0) then Some (Syntax at)
    else if nat_le DEPTH depth then Some (Deep at)
    else if nat_le ELEMENTS count then Some (Many at)
    else None

-- What stands after a piece at a place, or its fault.
unfoldable pub step : ℕ → Nest → Shape → Result Nest TextRefusal
step at n passed = Ok n
step at n literal = if length n.within == 0 then Err (Syntax at) else Ok n
step at n (characters blank) = if length n.within == 0 && not blank then Err (Syntax at) else Ok n
step at n (opens name attributes closed) = option_map_or Err (start_fault at (length n.within) (length n.entries))
    (Ok (opened at n name attributes closed))
step at n (closes name) = ended at n.entries n.within name

-- At the end of the text.
unfoldable pub at_end : ℕ → List Entry → List Open → Result (List Entry) TextRefusal
at_end at [] [] = Err (Syntax at)
at_end at (e ∷ es) [] = Ok (e ∷ es)
at_end at entries (o ∷ os) = Err (Unclosed o.at)

-- Where no whole piece begins.
unfoldable pub no_piece : ℕ → List ℕ → TextRefusal
no_piece at text = if starts_with nat_eq text (codes "<!DOCTYPE") then Doctype at else Syntax at

-- No whole piece begins.
abbrev pub BeginsNone : List ℕ → Type 0
BeginsNone text = (p : Piece) (rest : List ℕ) → Begins text p rest → ⊥

-- The first piece of a text that goes on: what stands after it, with the rest, or its fault.
abbrev pub Next : ℕ → Nest → List ℕ → Result (Nest × List ℕ) TextRefusal → Type 0
Next at n text (Ok x) = (p : Piece) × Begins text p x.1 × (step at n (shape p) ≡ Ok x.0)
Next at n text (Err f) = (BeginsNone text × (f ≡ no_piece at text)) ⊎ ((p : Piece) × (rest : List ℕ)
    × Begins text p rest × (step at n (shape p) ≡ Err f))

-- From a place on, where n stands, the text is these good pieces, and then it ends or has its first fault.
abbrev pub Goes : ℕ → Nest → List ℕ → List Piece → Result (List Entry) TextRefusal → Type 0
Goes at n text [] outcome =
    ((text ≡ []) × (outcome ≡ at_end at n.entries n.within)) ⊎ ((0 < length text) × (f : TextRefusal)
    × Next at n text (Err f) × (outcome ≡ Err f))
Goes at n text (p ∷ ps) outcome =
    (rest : List ℕ) × (m : Nest) × Begins text p rest × (step at n (shape p) ≡ Ok m)
    × Goes (at + length (spelling p)) m rest ps outcome

-- The nest before the first piece.
abbrev pub nothing : Nest
nothing = record { entries = []; within = [] }

-- The length of a byte order mark at the front.
unfoldable pub mark_len : List ℕ → ℕ
mark_len text = if starts_with nat_eq text (0xEF ∷ 0xBB ∷ 0xBF ∷ []) then 3 else 0

-- From a place on the text has this outcome.
abbrev pub HasOutcome : ℕ → Nest → List ℕ → Result (List Entry) TextRefusal → Type 0
HasOutcome at n text outcome = (ps : List Piece) × Goes at n text ps outcome

-- The tree that a text spells, or its first fault.
abbrev pub Spells : List ℕ → Result (List Entry) TextRefusal → Type 0
Spells text outcome =
    (IsUtf8 text × HasOutcome (mark_len text) nothing (drop (mark_len text) text) outcome)
    ⊎ ((IsUtf8 text → ⊥) × (outcome ≡ Err (Encoding (utf8_valid_len text))))
