use Rattle.std.proofs.Common.{◌≡◌, ℕ, List, [], ◌∷◌, ◌++◌, ◌∙◌}
use Rattle.std.specs.Prelude.{codes}
use Rattle.std.proofs.lemmas.Result.{on_ok_weaker}
use Rattle.ilk_base.specs.declared.words.Kind.TheVariants.{Breaker, Disconnector, Earthing, Infeed}
use Rattle.station_graph.specs.Diagram.{Diagram, node_count, part_count}
use Rattle.station_lines.specs.Rows.{Row, text_of}
use Rattle.drawing_remarks.specs.StationText.{count_row, of_kind}
use Rattle.drawing_remarks.proofs.RemarkRows.{count_line, no_rows}
use Rattle.drawing_remarks.proofs.counts.push_switch_counts.Goals as goal

pub returns : goal.returns
returns c =
    let d : Diagram = c.args.station.now in
    let old : List ℕ = c.args.text.now in
    let rows0 : List Row = [] in
    let s0 : c.push_count.new.text ≡ old ++ text_of (rows0 ++ count_row (codes "parts") (part_count d) ∷ []) =
    count_line old old c.push_count.new.text rows0 (codes "parts") c.from.result (part_count d) (c.from.ensures ∙ c.part_count.ensures.count) (no_rows old) c.in_ok-push_count.ensures in
    let rows1 : List Row = rows0 ++ count_row (codes "parts") (part_count d) ∷ [] in
    let s1 : c.push_count-2.new.text ≡ old ++ text_of (rows1 ++ count_row (codes "nodes") (node_count d) ∷ []) =
    count_line old c.push_count.new.text c.push_count-2.new.text rows1 (codes "nodes") c.from-2.result (node_count d) (c.from-2.ensures ∙ c.node_count.ensures.count) (s0) c.in_ok-push_count-2.ensures in
    let rows2 : List Row = rows1 ++ count_row (codes "nodes") (node_count d) ∷ [] in
    let s2 : c.push_count-3.new.text ≡ old ++ text_of (rows2 ++ count_row (codes "breakers") (of_kind Breaker d) ∷ []) =
    count_line old c.push_count-2.new.text c.push_count-3.new.text rows2 (codes "breakers") c.of_kind.result (of_kind Breaker d) (c.of_kind.ensures) (s1) c.in_ok-push_count-3.ensures in
    let rows3 : List Row = rows2 ++ count_row (codes "breakers") (of_kind Breaker d) ∷ [] in
    let s3 : c.push_count-4.new.text ≡ old ++ text_of (rows3 ++ count_row (codes "disconnectors") (of_kind Disconnector d) ∷ []) =
    count_line old c.push_count-3.new.text c.push_count-4.new.text rows3 (codes "disconnectors") c.of_kind-2.result (of_kind Disconnector d) (c.of_kind-2.ensures) (s2) c.in_ok-push_count-4.ensures in
    let rows4 : List Row = rows3 ++ count_row (codes "disconnectors") (of_kind Disconnector d) ∷ [] in
    let s4 : c.push_count-5.new.text ≡ old ++ text_of (rows4 ++ count_row (codes "earthings") (of_kind Earthing d) ∷ []) =
    count_line old c.push_count-4.new.text c.push_count-5.new.text rows4 (codes "earthings") c.of_kind-3.result (of_kind Earthing d) (c.of_kind-3.ensures) (s3) c.in_ok-push_count-5.ensures in
    let rows5 : List Row = rows4 ++ count_row (codes "earthings") (of_kind Earthing d) ∷ [] in
    on_ok_weaker c.push_count-6.result
    (count_line old c.push_count-5.new.text c.push_count-6.new.text rows5 (codes "infeeds") c.of_kind-4.result (of_kind Infeed d) (c.of_kind-4.ensures) s4) c.push_count-6.ensures
