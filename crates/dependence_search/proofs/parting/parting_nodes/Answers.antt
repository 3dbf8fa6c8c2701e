use Rattle.std.proofs.Common.{◌≡◌, ◌↔◌, ℕ, Bool, List, drop, length, sym, subst, arith, ◌∙◌, ◌+◌}
use Rattle.std.specs.Prelude.{IsTrue}
use Rattle.dependence_search.specs.Parting.{PartsFrom}
use Rattle.dependence_search.proofs.MarkLemmas.{MarkedUpto, marked_more}
use Rattle.dependence_search.proofs.PartingLemmas.{parting_of, parts_here}
use Rattle.dependence_search.proofs.parting.parting_nodes.Goals as goal

pub loop-k-preserved : goal.loop-k-preserved
loop-k-preserved c =
    let P = PartsFrom (drop c.args.layer c.args.graph.now.layers) 0 in
    let here = parts_here c.args.graph.now.layers c.args.layer c.loop-k.k c.requires.layer in
    subst (λ (l : List Bool). MarkedUpto P (c.loop-k.k + 1) l) (sym c.in_ok-push.ensures.items)
    (marked_more P c.loop-k.k c.loop-k.marks.items c.parts_at.result c.loop-k.invariant
    (λ e. here.1 (c.parts_at.ensures.0 e), λ p. c.parts_at.ensures.1 (here.0 p)))

pub returns : goal.returns
returns c =
    parting_of c.args.graph.now.layers c.args.layer 0 c.loop-k.k c.loop-k.marks.items
    (omega (arith, c.loop-k-test.false, c.loop-k.auto.k-end, c.nodes-count.ensures.count)) c.loop-k.invariant
