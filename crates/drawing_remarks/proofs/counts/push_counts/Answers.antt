use Rattle.std.proofs.Common.{◌≡◌, ℕ, List, [], ◌∷◌, ◌++◌, ◌∙◌, length, refl}
use Rattle.std.specs.Prelude.{codes}
use Rattle.std.proofs.lemmas.Result.{on_ok_weaker}
use Rattle.station_graph.specs.Diagram.{Diagram}
use Rattle.station_lines.specs.Rows.{Row, text_of}
use Rattle.drawing_remarks.specs.StationText.{count_row, switch_counts, links_in, bonds_in}
use Rattle.drawing_remarks.proofs.RemarkRows.{count_line}
use Rattle.drawing_remarks.proofs.counts.push_counts.Goals as goal

pub returns : goal.returns
returns c =
    let d : Diagram = c.args.station.now in
    let old : List ℕ = c.args.text.now in
    let rows0 : List Row = switch_counts d in
    let s0 : c.push_count.new.text ≡ old ++ text_of (rows0 ++ count_row (codes "links") (links_in d) ∷ []) =
    count_line old c.push_switch_counts.new.text c.push_count.new.text rows0 (codes "links") c.links_in.result (links_in d) (c.links_in.ensures) (c.in_ok-push_switch_counts.ensures) c.in_ok-push_count.ensures in
    let rows1 : List Row = rows0 ++ count_row (codes "links") (links_in d) ∷ [] in
    let s1 : c.push_count-2.new.text ≡ old ++ text_of (rows1 ++ count_row (codes "bonds") (bonds_in d) ∷ []) =
    count_line old c.push_count.new.text c.push_count-2.new.text rows1 (codes "bonds") c.bonds_in.result (bonds_in d) (c.bonds_in.ensures) (s0) c.in_ok-push_count-2.ensures in
    let rows2 : List Row = rows1 ++ count_row (codes "bonds") (bonds_in d) ∷ [] in
    let s2 : c.push_count-3.new.text ≡ old ++ text_of (rows2 ++ count_row (codes "taps") (length d.taps) ∷ []) =
    count_line old c.push_count-2.new.text c.push_count-3.new.text rows2 (codes "taps") c.from.result (length d.taps) (c.from.ensures ∙ c.tap_count.ensures.count) (s1) c.in_ok-push_count-3.ensures in
    let rows3 : List Row = rows2 ++ count_row (codes "taps") (length d.taps) ∷ [] in
    on_ok_weaker c.push_count-4.result
    (count_line old c.push_count-3.new.text c.push_count-4.new.text rows3 (codes "remarks") c.args.remarks (c.args.remarks) (refl) s2) c.push_count-4.ensures
