use Rattle.std.proofs.Common.{◌≡◌, ◌+◌, ℕ, List, length, get_or, subst, sym, arith}
use Rattle.std.specs.List.{concat}
use Rattle.std.proofs.lemmas.Grind.{same_number_lists}
use Rattle.std.proofs.lemmas.List.{take_all}
use Rattle.decision_graphs.specs.LaidOut.{lists_in, AreCutAs}
use Rattle.decision_graphs.specs.declared.shape.Shape.{Shape}
use Rattle.decision_graphs.proofs.CutLemmas.{EachEdge, each_more, cut_more, cut_base, cut_ends}
use Rattle.decision_graphs.proofs.layout.layers_again.Goals as goal

pub loop-layer-preserved : goal.loop-layer-preserved
loop-layer-preserved c =
    let g = lists_in c.args.graph.now in
    let j = c.loop-layer.layer in
    let old = c.loop-layer.invariant in
    let lt = c.loop-layer-test.true in
    let again = c.in_ok-edges.ensures in
    let base = cut_base g c.loop-layer.layers.items j old.cut c.requires.laid lt in
    let same : ℕ → ℕ → Type 0 = λ p to. to ≡ get_or g.edges p 0 in
    record {
      cut = cut_more g.shapes c.loop-layer.layers.items c.put_behind.new.lists.items j (length c.in_ok-edges.edges)
          old.cut lt again.len c.in_ok-put_behind.ensures.apart;
      each = subst (EachEdge same) (sym c.in_ok-put_behind.ensures.joined)
          (each_more same (concat c.loop-layer.layers.items) c.in_ok-edges.edges old.each
          (λ q within. subst (λ n. same (n + q) (get_or c.in_ok-edges.edges q 0)) (sym base)
          (again.each q (omega (arith, within, again.len)))));
    }

pub returns-clause-cut : goal.returns-clause-cut
returns-clause-cut c =
    let g = lists_in c.args.graph.now in
    subst (λ (ss : List Shape). AreCutAs ss c.loop-layer.layers.items)
    (take_all c.loop-layer.layer g.shapes (omega (arith, c.loop-layer-test.false))) c.loop-layer.invariant.cut

pub returns-clause-same : goal.returns-clause-same
returns-clause-same c =
    let g = lists_in c.args.graph.now in
    let cut = subst (λ (ss : List Shape). AreCutAs ss c.loop-layer.layers.items)
    (take_all c.loop-layer.layer g.shapes (omega (arith, c.loop-layer-test.false))) c.loop-layer.invariant.cut in
    same_number_lists (concat c.loop-layer.layers.items) g.edges
    (cut_ends g c.loop-layer.layers.items cut c.requires.laid) c.loop-layer.invariant.each
