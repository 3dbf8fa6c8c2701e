use Rattle.std.proofs.Common.{◌+◌, List, Bool, sym, subst, arith}
use Rattle.decision_graphs.specs.declared.arrival.Arrival.{Arrival}
use Rattle.decision_graphs.specs.Arriving.{LayerNotes}
use Rattle.decision_graphs.specs.LaidOut.{lists_in}
use Rattle.decision_graphs.specs.Shapes.{shape_at}
use Rattle.decision_graphs.proofs.ReachLemmas.{Spread, Spread-not, Spread-row}
use Rattle.decision_graphs.proofs.NoteLemmas.{LayerNotes-not, LayerNotes-row}
use Rattle.decision_graphs.proofs.reach.mark_rows.Goals as goal
use Rattle.decision_graphs.proofs.reach.mark_rows.Goals.{then-seen-first, else-seen-first}

pub loop-node-preserved : goal.loop-node-preserved
loop-node-preserved c =
    let n = c.loop-node.node in
    let g = lists_in c.args.graph.now in
    let s = shape_at g c.args.layer in
    let es = g.edges in
    let allowed = c.args.allowed.now in
    let old = c.args.seen.now in
    let before = c.args.arrivals.now in
    elim c.if-seen-first.branch [
      | then-seen-first w ↦ record {
        marks = subst (λ (ss : List Bool). Spread (n + 1) s es allowed old ss) (sym w.seen-is)
            (Spread-row n s es allowed old c.loop-node.seen _ _ (omega arith) w.row_in-row.ensures.len
            w.row_in-row.ensures.each c.loop-node.invariant.marks w.if-seen-first.true w.mark_row.ensures.marks);
        notes = subst (λ (ss : List Bool). LayerNotes (n + 1) s es allowed old ss before c.if-seen-first.arrivals)
            (sym w.seen-is) (subst (λ (xs : List Arrival). LayerNotes (n + 1) s es allowed old w.mark_row.new.seen before xs)
            (sym w.arrivals-is) (LayerNotes-row n s es allowed old c.loop-node.seen _ before c.loop-node.arrivals _ _
            (omega arith) w.row_in-row.ensures.len w.row_in-row.ensures.each c.loop-node.invariant.marks
            w.if-seen-first.true c.loop-node.invariant.notes w.mark_row.ensures.notes));
      }
      | else-seen-first w ↦ record {
        marks = subst (λ (ss : List Bool). Spread (n + 1) s es allowed old ss) (sym w.seen-is)
            (Spread-not n s es allowed old c.loop-node.seen c.loop-node.invariant.marks w.if-seen-first.false);
        notes = subst (λ (ss : List Bool). LayerNotes (n + 1) s es allowed old ss before c.if-seen-first.arrivals)
            (sym w.seen-is) (subst (λ (xs : List Arrival). LayerNotes (n + 1) s es allowed old c.loop-node.seen before
            xs) (sym w.arrivals-is) (LayerNotes-not n s es allowed old c.loop-node.seen before c.loop-node.arrivals
            c.loop-node.invariant.notes));
      }
    ]
