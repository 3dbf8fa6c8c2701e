use Rattle.std.proofs.Common.{◌≡◌, ℕ, ◌+◌, ◌<◌, List, length, sym, ◌∙◌, subst, arith}
use Rattle.std.proofs.lemmas.Option.{slice_get_within}
use Rattle.step_graphs.specs.Needing.{SpannedAt}
use Rattle.judge_intake.proofs.NodesLemmas.{NodesBelow, nodes_none, nodes_skip, nodes_push, nodes_exact}
use Rattle.step_graphs.proofs.StepLemmas.{spanned_at, at_spanned}
use Rattle.step_graphs.proofs.spans.nodes_over.Goals as goal
use Rattle.step_graphs.proofs.spans.nodes_over.Goals.{then-reaches_over+in_ok-push, else-reaches_over}

pub loop-k-init : goal.loop-k-init
loop-k-init c = rw c.new-nodes.ensures (nodes_none (SpannedAt c.args.spans.now c.args.j))

pub returns : goal.returns
returns c n =
    let spans = c.args.spans.now in
    let Kind : ℕ → Type 0 = SpannedAt c.args.spans.now c.args.j in
    let e : c.loop-k.k ≡ length spans = omega (arith, c.loop-k.auto.k-end, c.loop-k-test.false) in
    nodes_exact Kind (length spans) c.loop-k.nodes
    (subst (λ m. NodesBelow Kind m c.loop-k.nodes) e c.loop-k.invariant)
    (λ n h. slice_get_within spans n h.0 h.1) n

pub loop-k-preserved : goal.loop-k-preserved
loop-k-preserved c =
    let spans = c.args.spans.now in
    let j = c.args.j in
    let k = c.loop-k.k in
    let Kind : ℕ → Type 0 = SpannedAt c.args.spans.now c.args.j in
    elim c.if-reaches_over.branch [
      | then-reaches_over+in_ok-push w ↦
          nodes_push Kind k c.loop-k.nodes c.if-reaches_over.nodes c.loop-k.invariant
          (spanned_at spans k j _ c.loop-k-test.true (c.reaches_over.ensures.0 w.if-reaches_over.true))
          (cc (w.nodes-is, w.in_ok-push.ensures.ok))
      | else-reaches_over w ↦
          subst (λ (l : List ℕ). NodesBelow Kind (k + 1) l) (sym w.nodes-is)
          (nodes_skip Kind k c.loop-k.nodes c.loop-k.invariant
          (λ h. (let t = c.reaches_over.ensures.1 (at_spanned spans k j _ h) in cc (t, w.if-reaches_over.false))))
    ]
