use Rattle.std.proofs.Common.{◌≡◌, arith, rules}
use Rattle.denial_explain.proofs.EndLemmas.{gathers_closed, passes_other, closed_exact}
use Rattle.denial_explain.proofs.chains.closed_nodes.Goals as goal
use Rattle.denial_explain.proofs.chains.closed_nodes.Goals.{then-eq+then-closed+in_ok-push, else-eq}
use Rattle.denial_explain.proofs.chains.closed_nodes.Goals.{else-eq-via-then-eq+else-closed, else-eq-via-else-eq}

pub loop-i-preserved : goal.loop-i-preserved
loop-i-preserved c =
    let d = c.args.station.now in
    let v = c.args.vector.now in
    let kind = c.args.kind in
    let i = c.loop-i.i in
    let nodes = c.loop-i.nodes in
    let x = c.switch-switch.result in
    let listed = c.switch-switch.ensures.value in
    elim c.if-eq.branch [
      | then-eq+then-closed+in_ok-push w ↦
          let is_kind : x.kind ≡ kind = search rules in
          rw (w.nodes-is, w.in_ok-push.ensures.ok)
          (gathers_closed d v kind i nodes x listed c.loop-i.invariant is_kind w.if-closed.ensures)
      | else-eq w ↦
          rw w.nodes-is
          (passes_other d v kind i nodes x listed c.loop-i.invariant (λ is_kind closed. elim w.else-eq.branch [
            | else-eq-via-then-eq+else-closed u ↦ cc (closed, u.if-closed.ensures)
            | else-eq-via-else-eq u ↦ search rules
          ]))
    ]

pub returns-clause-exact : goal.returns-clause-exact
returns-clause-exact c =
    closed_exact c.args.station.now c.args.vector.now c.args.kind c.loop-i.i c.loop-i.nodes (omega arith)
    c.loop-i.invariant
