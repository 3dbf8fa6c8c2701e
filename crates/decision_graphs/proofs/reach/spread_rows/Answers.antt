use Rattle.std.proofs.Common.{ℕ, ◌+◌, ◌⊎◌, ◌↔◌, List, Bool, true, length, replicate, sym, subst, arith}
use Rattle.decision_graphs.specs.LaidOut.{lists_in}
use Rattle.decision_graphs.specs.Reaching.{IsSet, RowLeads}
use Rattle.decision_graphs.specs.Shapes.{shape_at}
use Rattle.decision_graphs.proofs.ReachLemmas.{Spread, Spread-not, Spread-row}
use Rattle.decision_graphs.proofs.reach.spread_rows.Goals as goal
use Rattle.decision_graphs.proofs.reach.spread_rows.Goals.{then-seen-first, else-seen-first}

pub loop-node-preserved : goal.loop-node-preserved
loop-node-preserved c =
    let n = c.loop-node.node in
    let g = lists_in c.args.graph.now in
    let s = shape_at g c.args.layer in
    let es = g.edges in
    let allowed : List Bool = replicate s.choices true in
    let old = c.args.seen.now in
    elim c.if-seen-first.branch [
      | then-seen-first w ↦
          (let row = w.row_in-row.result.now in
          let step = subst (λ k. (i : ℕ) → IsSet w.spread_row.new.seen i ↔ (IsSet c.loop-node.seen i
          ⊎ RowLeads (length row) row (replicate k true) (s.first + s.nodes) i)) w.row_in-row.ensures.len
          w.spread_row.ensures in
          subst (λ (ss : List Bool). Spread (n + 1) s es allowed old ss) (sym w.seen-is)
          (Spread-row n s es allowed old c.loop-node.seen _ _ (omega arith) w.row_in-row.ensures.len
          w.row_in-row.ensures.each c.loop-node.invariant w.if-seen-first.true step))
      | else-seen-first w ↦ subst (λ (ss : List Bool). Spread (n + 1) s es allowed old ss) (sym w.seen-is)
          (Spread-not n s es allowed old c.loop-node.seen c.loop-node.invariant w.if-seen-first.false)
    ]
