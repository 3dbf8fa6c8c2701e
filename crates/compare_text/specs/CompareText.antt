-- The text of `compare`.
use Rattle.std.specs.Prelude.{◌≡◌, ◌==◌, ◌++◌, ◌↔◌, if◌then◌else◌, ℕ, Bool, false, List, [], length, codes}
use Rattle.std.specs.Prelude.{slice_get, slice_index_or, Option, Some, None, IsTrue}
use Rattle.ilk_base.specs.declared.words.Direction.{Direction}
use Rattle.ilk_base.specs.declared.words.Op.{Op}
use Rattle.ilk_base.specs.declared.words.Rule.{Rule}
use Rattle.ilk_base.specs.declared.words.Rule.TheVariants.{R1, R2, R3}
use Rattle.station_graph.specs.Diagram.{Diagram, switch_path, part_count}
use Rattle.central_rules.specs.Names.{rule_name, direction_name, texts_below}
use Rattle.station_changes.specs.declared.change.Change.{Change}
use Rattle.station_changes.specs.declared.change.Change.TheVariants.{Stricter, Looser}
use Rattle.station_changes.specs.Compare.{part_path, Extends}
use Rattle.change_search.specs.declared.part.Shown.{Shown}
use Rattle.station_compare.specs.declared.bays.BayWord.{BayWord}
use Rattle.station_compare.specs.declared.bays.BayWord.TheVariants.{NoBay, New, Common}
use Rattle.station_compare.specs.declared.bays.BayWords.{BayWords}
use Rattle.station_compare.specs.declared.found.RuleChanges.{RuleChanges}
use Rattle.station_compare.specs.declared.found.OperationChanges.{OperationChanges}
use Rattle.station_compare.specs.declared.found.Found.{Found}
use Rattle.station_compare.specs.declared.found.Found.TheVariants.{OnlyNew, InBoth}
use Rattle.station_compare.specs.declared.found.Comparison.{Comparison}
use Rattle.station_compare.specs.declared.word.Word.{Word}
use Rattle.station_compare.specs.declared.word.Word.TheVariants.{Same, Kept, Changed}
use Rattle.station_compare.specs.Words.{word_of}
use Rattle.release_dependence.specs.Operations.{opening, closing}
use Rattle.station_compare.specs.Comparing.{IsComparison}
use Rattle.station_compare.specs.Bays.{AreBays}
use Rattle.station_compare.specs.Orders.{AreNarrow}
use Rattle.compare_text.specs.declared.text.CompareReport.{CompareReport}

-- ---- names

-- What the text calls a change.
abbrev pub change_name : Change → List ℕ
change_name Stricter = codes "stricter"
change_name Looser = codes "looser"

-- What it calls an operation that is judged so.
abbrev pub judged_name : Word → List ℕ
judged_name Same = codes "same"
judged_name Kept = codes "kept"
judged_name Changed = codes "changed"

-- Which stations have a switch of the new one.
abbrev pub side_name : Found → List ℕ
side_name OnlyNew = codes "new"
side_name (InBoth changes) = codes "both"

-- ---- the switches that are closed in a position

-- The line `with SIDE PATH`.
abbrev pub with_line : List ℕ → List ℕ → List ℕ
with_line side path = codes "with " ++ side ++ codes " " ++ path ++ codes "\n"

-- That of switch k of the new station, where it is closed and is not the moved one.
abbrev pub new_with : Diagram → ℕ → Found → Bool → ℕ → List ℕ
new_with n moved f closed k =
    if k == moved then [] else (if closed then with_line (side_name f) (switch_path n k) else [])

-- The same, of what is found of switch k.
abbrev pub new_with_of : Diagram → ℕ → Option Found → Bool → ℕ → List ℕ
new_with_of n moved (Some f) closed k = new_with n moved f closed k
new_with_of n moved None closed k = []

abbrev pub new_with_at : Diagram → ℕ → List Found → List Bool → ℕ → List ℕ
new_with_at n moved here closed k = new_with_of n moved (slice_get here k) (slice_index_or closed k false) k

-- That of switch i of the old station, where it is closed and the new one has it not.
abbrev pub old_with : Diagram → Bool → Bool → ℕ → List ℕ
old_with o gone closed i = if gone then (if closed then with_line (codes "old") (switch_path o i) else []) else []

abbrev pub old_with_at : Diagram → List Bool → List Bool → ℕ → List ℕ
old_with_at o gone closed i = old_with o (slice_index_or gone i false) (slice_index_or closed i false) i

-- The lines of a position: first the new station's switches in document order, then those that only the old one has.
abbrev pub vector_lines : Diagram → Diagram → Comparison → ℕ → Shown → List ℕ
vector_lines o n c moved s =
    texts_below (new_with_at n moved c.here.items s.new_closed.items) (length n.switches)
    ++ texts_below (old_with_at o c.gone.items s.old_closed.items) (length o.switches)

-- ---- operations

-- The line of an operation behind a word, by the path of its switch.
abbrev pub moved_line : List ℕ → Direction → List ℕ → List ℕ
moved_line word direction path =
    word ++ codes " " ++ direction_name direction ++ codes " " ++ path ++ codes "\n"

-- The same, of an operation of a station.
abbrev pub operation_line : List ℕ → Diagram → Op → List ℕ
operation_line word d op = moved_line word op.direction (switch_path d op.switch.0)

-- The line of a change by a rule, and those of the position that shows it; none where no position does.
abbrev pub part_lines : Diagram → Diagram → Comparison → ℕ → Change → Rule → Option Shown → List ℕ
part_lines o n c moved change rule None = []
part_lines o n c moved change rule (Some s) =
    change_name change ++ codes " " ++ rule_name rule ++ codes "\n" ++ vector_lines o n c moved s

-- Those of the three rules.
abbrev pub rule_lines : Diagram → Diagram → Comparison → ℕ → Change → RuleChanges → List ℕ
rule_lines o n c moved change x =
    part_lines o n c moved change R1 x.by_r1 ++ part_lines o n c moved change R2 x.by_r2
    ++ part_lines o n c moved change R3 x.by_r3

-- The lines of an operation that both stations have: its word, then what is stricter, and then what is looser.
abbrev pub judged_lines : Diagram → Diagram → Comparison → Op → OperationChanges → List ℕ
judged_lines o n c op x =
    operation_line (judged_name (word_of x)) n op ++ rule_lines o n c op.switch.0 Stricter x.stricter
    ++ rule_lines o n c op.switch.0 Looser x.looser

-- The lines of opening and closing a switch behind a word.
abbrev pub two_lines : List ℕ → Diagram → ℕ → List ℕ
two_lines word d i = operation_line word d (opening i) ++ operation_line word d (closing i)

-- The lines of switch k of the new station.
abbrev pub found_lines : Diagram → Diagram → Comparison → Found → ℕ → List ℕ
found_lines o n c OnlyNew k = two_lines (codes "new") n k
found_lines o n c (InBoth x) k = judged_lines o n c (opening k) x.opening ++ judged_lines o n c (closing k) x.closing

-- The same, of what is found of it.
abbrev pub found_lines_of : Diagram → Diagram → Comparison → Option Found → ℕ → List ℕ
found_lines_of o n c (Some f) k = found_lines o n c f k
found_lines_of o n c None k = []

abbrev pub found_at : Diagram → Diagram → Comparison → ℕ → List ℕ
found_at o n c k = found_lines_of o n c (slice_get c.here.items k) k

-- The lines of switch i of the old station, where the new one has it not.
abbrev pub gone_lines : Diagram → Bool → ℕ → List ℕ
gone_lines o gone i = if gone then two_lines (codes "gone") o i else []

abbrev pub gone_at : Diagram → List Bool → ℕ → List ℕ
gone_at o gone i = gone_lines o (slice_index_or gone i false) i

-- ---- bays

-- The line `bay WORD PATH`.
abbrev pub bay_line : List ℕ → List ℕ → List ℕ
bay_line word path = codes "bay " ++ word ++ codes " " ++ path ++ codes "\n"

-- That of a part of the new station, where it is a bay.
abbrev pub named_bay : BayWord → List ℕ → List ℕ
named_bay NoBay path = []
named_bay New path = bay_line (codes "new") path
named_bay (Common word) path = bay_line (judged_name word) path

-- The same, of what is found of part p.
abbrev pub named_bay_of : Option BayWord → List ℕ → List ℕ
named_bay_of (Some word) path = named_bay word path
named_bay_of None path = []

abbrev pub new_bay_at : Diagram → List BayWord → ℕ → List ℕ
new_bay_at n words p = named_bay_of (slice_get words p) (part_path n p)

-- That of a part of the old station, where its bay is gone.
abbrev pub gone_bay : Bool → List ℕ → List ℕ
gone_bay gone path = if gone then bay_line (codes "gone") path else []

abbrev pub gone_bay_at : Diagram → List Bool → ℕ → List ℕ
gone_bay_at o gone q = gone_bay (slice_index_or gone q false) (part_path o q)

-- Those of the new station's bays, and then of those that only the old one has.
abbrev pub bay_lines : Diagram → Diagram → BayWords → List ℕ
bay_lines o n b =
    texts_below (new_bay_at n b.here.items) (part_count n) ++ texts_below (gone_bay_at o b.gone.items) (part_count o)

-- ---- the whole

-- All lines: the new station's switches, those that are gone, and the bays.
abbrev pub comparison_lines : Diagram → Diagram → Comparison → BayWords → List ℕ
comparison_lines o n c b =
    texts_below (found_at o n c) (length n.switches) ++ texts_below (gone_at o c.gone.items) (length o.switches)
    ++ bay_lines o n b

-- The text is that of the comparison, with the words of the bays.
pub record IsComparisonText (o n : Diagram) (c : Comparison) (text : List ℕ) : Type 0 where
  pub bays : BayWords
  pub are : AreBays o n bays
  pub lines : text ≡ comparison_lines o n c bays

-- The report of two stations: the text of a comparison of them, each switch of which is narrow along some orders, and whether
-- the new one extends the old one.
pub record IsCompareReport (o n : Diagram) (r : CompareReport) : Type 0 where
  pub found : Comparison
  pub is : IsComparison o n found
  pub narrow : AreNarrow o n
  pub text : IsComparisonText o n found r.lines.text
  pub extends : IsTrue r.extends ↔ Extends o n
