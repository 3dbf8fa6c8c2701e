-- The text of `station`: the station as it was read, then the remarks, then counts.
use Rattle.std.specs.Prelude.{◌≡◌, ◌<◌, ◌↔◌, ℕ, Bool, not, Ok, List, [], ◌∷◌, ◌++◌, length, map, filter, count_by, codes}
use Rattle.std.specs.Prelude.{IsTrue, decimal}
use Rattle.std.specs.List.{flat_map}
use Rattle.ilk_base.specs.declared.words.Kind.{Kind}
use Rattle.ilk_base.specs.declared.words.Kind.TheVariants.{Breaker, Disconnector, Earthing, Infeed}
use Rattle.station_graph.specs.declared.items.Link.{Link}
use Rattle.station_graph.specs.Diagram.{Diagram, node_count, part_count}
use Rattle.ssd_read.specs.Elements.{Element}
use Rattle.ssd_read.specs.Laws.{numbers_of}
use Rattle.ssd_read.specs.StandsFor.{station_of}
use Rattle.station_lines.specs.Rows.{Row, text_of}
use Rattle.station_lines.specs.Lines.{rows_of}
use Rattle.drawing_remarks.specs.declared.kinds.RemarkKind.{RemarkKind}
use Rattle.drawing_remarks.specs.declared.kinds.TheConstants.{KINDS}
use Rattle.drawing_remarks.specs.Kinds.{kind_word}
use Rattle.drawing_remarks.specs.Places.{remark_path}
use Rattle.drawing_remarks.specs.Station.{is_of_kind}
use Rattle.drawing_remarks.specs.Remarks.{IsRemark}
use Rattle.drawing_remarks.specs.declared.text.StationReport.{StationReport}

-- The line of a remark of a kind, at this path.
abbrev pub remark_row : List ℕ → RemarkKind → Row
remark_row path kind = codes "remark" ∷ kind_word kind ∷ path ∷ []

-- The lines of the remarks on the element at a place: of those kinds that are said of it, in their order.
abbrev pub remark_rows_at : List Element → (RemarkKind → ℕ → Bool) → ℕ → List Row
remark_rows_at all says i = map (remark_row (remark_path all i)) (filter (λ kind. says kind i) KINDS)

-- The lines of all remarks, in document order.
abbrev pub remark_rows : List Element → (RemarkKind → ℕ → Bool) → List Row
remark_rows all says = flat_map (remark_rows_at all says) (numbers_of all)

-- These are said of exactly the elements that get them.
abbrev pub SaysRemarks : List Element → Diagram → (RemarkKind → ℕ → Bool) → Type 0
SaysRemarks all d says = (kind : RemarkKind) (i : ℕ) → i < length all → IsTrue (says kind i) ↔ IsRemark all d kind i

-- How many switches are of a kind.
abbrev pub of_kind : Kind → Diagram → ℕ
of_kind kind d = count_by (is_of_kind kind) d.switches

-- How many links are bonds.
abbrev pub bonds_in : Diagram → ℕ
bonds_in d = count_by (λ (x : Link). x.bond) d.links

-- How many links are none.
abbrev pub links_in : Diagram → ℕ
links_in d = count_by (λ (x : Link). not x.bond) d.links

-- The line of a count.
abbrev pub count_row : List ℕ → ℕ → Row
count_row word n = codes "count" ∷ word ∷ decimal n ∷ []

-- The lines of the counts of parts, nodes and switches.
abbrev pub switch_counts : Diagram → List Row
switch_counts d =
    count_row (codes "parts") (part_count d) ∷ count_row (codes "nodes") (node_count d)
    ∷ count_row (codes "breakers") (of_kind Breaker d) ∷ count_row (codes "disconnectors") (of_kind Disconnector d)
    ∷ count_row (codes "earthings") (of_kind Earthing d) ∷ count_row (codes "infeeds") (of_kind Infeed d) ∷ []

-- The lines of the other counts.
abbrev pub other_counts : Diagram → ℕ → List Row
other_counts d remarks =
    count_row (codes "links") (links_in d) ∷ count_row (codes "bonds") (bonds_in d)
    ∷ count_row (codes "taps") (length d.taps) ∷ count_row (codes "remarks") remarks ∷ []

-- The lines of all counts.
abbrev pub count_rows : Diagram → ℕ → List Row
count_rows d remarks = switch_counts d ++ other_counts d remarks

-- All lines, with these remarks.
abbrev pub station_rows : List Element → Diagram → (RemarkKind → ℕ → Bool) → List Row
station_rows all d says =
    rows_of all ++ (remark_rows all says ++ count_rows d (length (remark_rows all says)))

-- What is written of a drawing, and how many remarks it has.
pub record IsStationReport (all : List Element) (report : StationReport) : Type 0 where
  pub diagram : Diagram
  pub stands : station_of all ≡ Ok diagram
  pub says : RemarkKind → ℕ → Bool
  pub exact : SaysRemarks all diagram says
  pub text : report.text ≡ text_of (station_rows all diagram says)
  pub remarks : report.remarks ≡ length (remark_rows all says)
