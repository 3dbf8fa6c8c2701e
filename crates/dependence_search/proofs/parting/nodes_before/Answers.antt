use Rattle.std.proofs.Common.{◌≡◌, ℕ, suc, Bool, List, drop, length, sym, subst, arith, ◌+◌}
use Rattle.dependence_search.specs.Parting.{PartsFrom}
use Rattle.dependence_search.proofs.MarkLemmas.{MarkedUpto, marked_more}
use Rattle.dependence_search.proofs.PartingLemmas.{parting_of}
use Rattle.dependence_search.proofs.parting.nodes_before.Goals as goal

pub loop-k-preserved : goal.loop-k-preserved
loop-k-preserved c count are =
    let P = PartsFrom (drop c.args.layer c.args.graph.now.layers) (suc count) in
    subst (λ (l : List Bool). MarkedUpto P (c.loop-k.k + 1) l) (sym c.in_ok-push.ensures.items)
    (marked_more P c.loop-k.k c.loop-k.marks.items c.leads_on.result (c.loop-k.invariant count are)
    (c.leads_on.ensures count are))

pub returns : goal.returns
returns c count are =
    parting_of c.args.graph.now.layers c.args.layer (suc count) c.loop-k.k c.loop-k.marks.items
    (omega (arith, c.loop-k-test.false, c.loop-k.auto.k-end, c.nodes-count.ensures.count)) (c.loop-k.invariant count are)
