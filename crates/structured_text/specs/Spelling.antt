-- How a text is spelled. `paths` has the path of each switch.
use Rattle.std.specs.Prelude.{◌++◌, ◌+◌, ◌%◌, ◌==◌, ◌&&◌, ◌||◌, ℕ, suc, Bool, true, false, List, [], ◌∷◌, length}
use Rattle.std.specs.Prelude.{codes, decimal, slice_index_or, nat_lt, Option, Some, None}
use Rattle.std.specs.Prelude.{if◌then◌else◌}
use Rattle.ilk_base.specs.declared.words.SwitchId.{SwitchId}
use Rattle.station_graph.specs.Diagram.{Diagram}
use Rattle.structured_text.specs.Meaning.{b_not}
use Rattle.structured_text.specs.Width.{continues}
use Rattle.structured_text.specs.declared.name.Name.{Name}
use Rattle.structured_text.specs.declared.name.Name.TheVariants.{Off, On, May, Sure, Opens, Closes}
use Rattle.structured_text.specs.declared.line.GapDenial.{GapDenial}
use Rattle.structured_text.specs.declared.line.GapDenial.TheVariants.{One, Two}
use Rattle.structured_text.specs.declared.line.LoadDenial.{LoadDenial}
use Rattle.structured_text.specs.declared.line.LoadDenial.TheVariants.{Loaded, Unbonded}
use Rattle.structured_text.specs.declared.line.Operand.{Operand}
use Rattle.structured_text.specs.declared.line.Operand.TheVariants.{Variable, Product, Sum}
use Rattle.structured_text.specs.declared.line.Heading.{Heading}
use Rattle.structured_text.specs.declared.line.Heading.TheVariants.{Signals, Together, Releases}
use Rattle.structured_text.specs.declared.line.Formula.{Formula}
use Rattle.structured_text.specs.declared.line.Formula.TheVariants.{Always, Never, MayBeClosed, IsClosed, Both, Either, Apart, Unloaded, Released}
use Rattle.structured_text.specs.declared.line.Line.{Line}

-- Whether a byte is an ASCII letter or digit.
abbrev pub is_word : ℕ → Bool
is_word b =
    if nat_lt b 48 then false
    else if nat_lt b 58 then true
    else if nat_lt b 65 then false
    else if nat_lt b 91 then true
    else if nat_lt b 97 then false
    else nat_lt b 123

-- A path as the middle of an identifier: its runs of ASCII letters and digits, each behind one `_`.
abbrev pub word_byte : Bool → ℕ → List ℕ → List ℕ
word_byte gap b rest = if gap then 95 ∷ b ∷ rest else b ∷ rest

abbrev pub readable : Bool → List ℕ → List ℕ
readable gap [] = []
readable gap (b ∷ bs) = if is_word b then word_byte gap b (readable false bs) else readable true bs

-- Whether there is a `/`.
abbrev pub has_slash : List ℕ → Bool
has_slash [] = false
has_slash (b ∷ bs) = (b == 47) || has_slash bs

-- The longest end of a path without a `/`, of at most 13 bytes.
abbrev pub is_short : List ℕ → Bool
is_short path = nat_lt (length path) 14 && b_not (has_slash path)

abbrev pub last_name : List ℕ → List ℕ
last_name [] = []
last_name (b ∷ bs) = if is_short (b ∷ bs) then b ∷ bs else last_name bs

-- A path in a comment: `_` stands for what would end it.
abbrev pub shown_byte : ℕ → ℕ
shown_byte b = if nat_lt b 32 then 95 else if b == 42 then 95 else b

-- It stands in rows of at most 80 characters. What stands before a byte behind so many characters of a row, and how many
-- characters the row has then.
abbrev pub row_break : ℕ → ℕ → List ℕ
row_break k b = if continues b then [] else if nat_lt k 80 then [] else codes "\n     "

abbrev pub row_length : ℕ → ℕ → ℕ
row_length k b = if continues b then k else if nat_lt k 80 then k + 1 else 1

abbrev pub shown_from : ℕ → List ℕ → List ℕ
shown_from k [] = []
shown_from k (b ∷ bs) = row_break k b ++ (shown_byte b ∷ shown_from (row_length k b) bs)

abbrev pub shown : List ℕ → List ℕ
shown path = shown_from 0 path

-- The identifier of a variable of a switch: `sw`, its number, its last name, and which variable it is.
abbrev pub switch_text : List (List ℕ) → ℕ → List ℕ → List ℕ
switch_text paths i which =
    codes "sw" ++ (decimal i ++ (readable true (last_name (slice_index_or paths i [])) ++ which))

-- The identifier of a variable.
abbrev pub name_text : List (List ℕ) → Name → List ℕ
name_text paths (Off i) = switch_text paths i.0 (codes "_off")
name_text paths (On i) = switch_text paths i.0 (codes "_on")
name_text paths (May k) = codes "m" ++ decimal k
name_text paths (Sure k) = codes "c" ++ decimal k
name_text paths (Opens i) = switch_text paths i.0 (codes "_EnaOpn")
name_text paths (Closes i) = switch_text paths i.0 (codes "_EnaCls")

-- `A WORD B`.
abbrev pub pair_text : List (List ℕ) → Name → List ℕ → Name → List ℕ
pair_text paths a word b = name_text paths a ++ (word ++ name_text paths b)

-- `NOT A`, or `NOT (A AND B)`.
abbrev pub gap_text : List (List ℕ) → GapDenial → List ℕ
gap_text paths (One a) = codes "NOT " ++ name_text paths a
gap_text paths (Two a b) = codes "NOT (" ++ (pair_text paths a (codes " AND ") b ++ codes ")")

-- `NOT (A AND B)`, or `NOT (A AND B AND NOT C)`.
abbrev pub load_text : List (List ℕ) → LoadDenial → List ℕ
load_text paths (Loaded a b) = codes "NOT (" ++ (pair_text paths a (codes " AND ") b ++ codes ")")
load_text paths (Unbonded a b c) =
    codes "NOT (" ++ (pair_text paths a (codes " AND ") b ++ (codes " AND NOT " ++ (name_text paths c ++ codes ")")))

-- One side of AND or OR: in brackets where it is no variable.
abbrev pub operand_text : List (List ℕ) → Operand → List ℕ
operand_text paths (Variable a) = name_text paths a
operand_text paths (Product a b) = codes "(" ++ (pair_text paths a (codes " AND ") b ++ codes ")")
operand_text paths (Sum a b) = codes "(" ++ (pair_text paths a (codes " OR ") b ++ codes ")")

-- The right side of an assignment.
abbrev pub formula_text : List (List ℕ) → Formula → List ℕ
formula_text paths Always = codes "TRUE"
formula_text paths Never = codes "FALSE"
formula_text paths (MayBeClosed i) = pair_text paths (On i) (codes " OR NOT ") (Off i)
formula_text paths (IsClosed i) = pair_text paths (On i) (codes " AND NOT ") (Off i)
formula_text paths (Both a b) = operand_text paths a ++ (codes " AND " ++ operand_text paths b)
formula_text paths (Either a b) = operand_text paths a ++ (codes " OR " ++ operand_text paths b)
formula_text paths (Apart gap) = gap_text paths gap
formula_text paths (Unloaded load) = load_text paths load
formula_text paths (Released gap load) = gap_text paths gap ++ (codes " AND " ++ load_text paths load)

-- A blank line and a comment: what stands below.
abbrev pub comment_text : List ℕ → List ℕ → List ℕ
comment_text path what = codes "\n  (* " ++ (shown path ++ (what ++ codes " *)\n"))

abbrev pub heading_text : Diagram → Option Heading → List ℕ
heading_text d None = []
heading_text d (Some (Signals p)) = comment_text (slice_index_or d.part_paths p.0 []) (codes ": what it is to the other bays")
heading_text d (Some Together) = comment_text [] (codes "what bays are together")
heading_text d (Some (Releases p)) = comment_text (slice_index_or d.part_paths p.0 []) (codes ": the releases")

-- `  NAME := FORMULA;` and the end of the line, below its comment.
abbrev pub line_text : Diagram → Line → List ℕ
line_text d line =
    heading_text d line.heading
    ++ (codes "  "
    ++ (name_text d.switch_paths line.name
    ++ (codes " := " ++ (formula_text d.switch_paths line.formula ++ codes ";\n"))))

-- `  A, B : BOOL;`
abbrev pub declared_text : List (List ℕ) → Name → Name → List ℕ
declared_text paths a b = codes "  " ++ (pair_text paths a (codes ", ") b ++ codes " : BOOL;")

-- A path in a comment at the end of a line.
abbrev pub remark_text : List ℕ → List ℕ
remark_text path = codes " (* " ++ (shown path ++ codes " *)\n")

-- The contacts of a switch, and which switch it is.
abbrev pub input_text : List (List ℕ) → SwitchId → List ℕ
input_text paths i = declared_text paths (Off i) (On i) ++ remark_text (slice_index_or paths i.0 [])

-- The releases of a switch.
abbrev pub output_text : List (List ℕ) → SwitchId → List ℕ
output_text paths i = declared_text paths (Opens i) (Closes i) ++ codes "\n"

-- What stands between names: four are on a line.
abbrev pub between_names : ℕ → List ℕ
between_names k = if k % 4 == 0 then codes ",\n  " else codes ", "

-- More variables of a declaration, from number k on, and its end.
abbrev pub more_names : List (List ℕ) → List ℕ → ℕ → List Name → List ℕ
more_names paths end k [] = end
more_names paths end k (x ∷ xs) = between_names k ++ (name_text paths x ++ more_names paths end (suc k) xs)

-- The declaration of variables, if there are any.
abbrev pub declared_names : List (List ℕ) → List ℕ → List Name → List ℕ
declared_names paths end [] = []
declared_names paths end (x ∷ xs) = codes "  " ++ (name_text paths x ++ more_names paths end 1 xs)

abbrev pub names_text : List (List ℕ) → List Name → List ℕ
names_text paths names = declared_names paths (codes " : BOOL;\n") names

-- That of variables which are TRUE as long as nothing sets them.
abbrev pub true_names_text : List (List ℕ) → List Name → List ℕ
true_names_text paths names = declared_names paths (codes " : BOOL := TRUE;\n") names

-- A letter as a small one, and a text with its letters so.
abbrev pub lower : ℕ → ℕ
lower b = if nat_lt b 65 then b else if nat_lt b 91 then b + 32 else b

abbrev pub folded : List ℕ → List ℕ
folded [] = []
folded (b ∷ bs) = lower b ∷ folded bs
