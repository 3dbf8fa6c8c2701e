-- What the types of the code stand for.
use Rattle.std.specs.Prelude.{ℕ, List, ◌++◌, map}
use Rattle.std.specs.Prelude.{reverse, Result, Ok, Err}
use Rattle.ssd_text.specs.declared.tree.Attr.{Attr}
use Rattle.ssd_text.specs.declared.tree.TreeElement.{TreeElement}
use Rattle.ssd_text.specs.declared.nest.Open as code_open
use Rattle.ssd_text.specs.declared.nest.Nest as code_nest
use Rattle.ssd_text.specs.declared.refusal.TextRefusal.{TextRefusal}
use Rattle.ssd_text.specs.declared.refusal.TextRefusal.TheVariants.{Memory}
use Rattle.ssd_text.specs.Grammar.{Attribute, Piece}
use Rattle.std.specs.Borrow.{Bor}
use Rattle.std.specs.Prelude.{Bool}
use Rattle.std.specs.declared.cmp.Ordering.{Ordering}
use Rattle.std.specs.Ordering.{nat_cmp}
use Rattle.std.specs.Str.{bytes_eq}
use Rattle.std.specs.Cmp.Lexicographic.{slice_cmp}
use Rattle.ssd_text.specs.declared.pieces.Piece as code
use Rattle.ssd_text.specs.declared.pieces.Piece.TheVariants as pieces
use Rattle.ssd_text.specs.Nesting.{Entry, Open, Nest, pairs, Shape, shape, passed, literal, characters, opens, closes}

-- The name and the raw text of an attribute.
abbrev pub pair_of : Attr → List ℕ × List ℕ
pair_of a = (a.name.now, a.raw.now)

-- The same of each.
abbrev pub written : List Attr → List (List ℕ × List ℕ)
written attrs = map pair_of attrs

-- What was read before, and what is still read, as the tree keeps it.
abbrev pub shown : List (List ℕ × List ℕ) → List Attribute × List ℕ → List (List ℕ × List ℕ) × List ℕ
shown front x = (front ++ pairs x.0, x.1)

-- What the code keeps of a piece.
abbrev pub shape_of : code.Piece → Shape
shape_of pieces.Skipped = passed
shape_of pieces.Literal = literal
shape_of (pieces.Text blank) = characters blank
shape_of (pieces.Start name attrs closed) = opens name.now (written attrs.items) closed
shape_of (pieces.End name) = closes name.now

-- What a piece of the program does to the nesting, and the rest of the text.
abbrev pub seen : code.Piece × Bor (List ℕ) → Shape × List ℕ
seen x = (shape_of x.0, x.1.now)

-- What a piece does to the nesting, and the rest of the text.
abbrev pub counted : Piece × List ℕ → Shape × List ℕ
counted x = (shape x.0, x.1)

-- Names as they lie in memory.
abbrev pub name_of : Attr → Bor (List ℕ)
name_of a = a.name

-- The order of texts by their bytes.
abbrev pub text_cmp : Bor (List ℕ) → Bor (List ℕ) → Ordering
text_cmp x y = slice_cmp nat_cmp x.now y.now

-- The two texts have the same bytes.
abbrev pub same_text : Bor (List ℕ) → Bor (List ℕ) → Bool
same_text x y = bytes_eq x.now y.now

-- ---- nesting

-- The element that the program holds.
abbrev pub entry_of : TreeElement → Entry
entry_of n = record { at = n.at; parent = n.parent; name = n.name.now; attributes = written n.attrs.items }

-- The elements that the program holds.
abbrev pub entries_of : List TreeElement → List Entry
entries_of ns = map entry_of ns

-- The open element that the program holds.
abbrev pub open_of : code_open.Open → Open
open_of o = record { at = o.at; number = o.number; name = o.name.now }

-- The code keeps the innermost last.
abbrev pub within_of : List code_open.Open → List Open
within_of os = reverse (map open_of os)

-- The nest that the program holds.
abbrev pub nest_of : code_nest.Nest → Nest
nest_of n = record { entries = entries_of n.nodes.items; within = within_of n.within.items }

-- What a call answers, seen by view, has the property, unless memory ran out.
abbrev pub TellsOutcome : {X Y : Type 0} → (X → Y) → Result X TextRefusal → (Result Y TextRefusal → Type 0) → Type 0
TellsOutcome view (Ok x) P = P (Ok (view x))
TellsOutcome view (Err Memory) P = Unit {0}
TellsOutcome view (Err e) P = P (Err e)
