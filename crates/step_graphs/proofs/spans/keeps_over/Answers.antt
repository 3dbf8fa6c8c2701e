use Rattle.std.proofs.Common.{◌≡◌, ◌+◌, ℕ, List, suc, sym, subst, arith}
use Rattle.station_graph.specs.Diagram.{IsStation}
use Rattle.judge_pool.proofs.LayeringLemmas.{grew_same, grew_more, grows}
use Rattle.judge_intake.specs.Inputs.{AreKeeps, HasNodes}
use Rattle.judge_intake.proofs.InputsLemmas.{keeps_none, keeps_more}
use Rattle.step_graphs.specs.Needing.{IsNeeded}
use Rattle.step_graphs.proofs.StepLemmas.{spanned_needed}
use Rattle.step_graphs.proofs.spans.keeps_over.Goals as goal

pub loop-j-init : goal.loop-j-init
loop-j-init c =
    let N : ℕ → ℕ → Type 0 = IsNeeded c.args.station.now c.args.steps.now c.args.moved in
    record {
      grew = grew_same c.args.pool.now c.requires.pool;
      keeps =
          subst (λ (ks : List ℕ). AreKeeps N c.args.pool.now ks 0) (sym c.new-keeps.ensures.items)
          (keeps_none N c.args.pool.now);
    }

pub loop-j-preserved : goal.loop-j-preserved
loop-j-preserved c =
    let d = c.args.station.now in
    let N : ℕ → ℕ → Type 0 = IsNeeded d c.args.steps.now c.args.moved in
    let p = c.loop-j.pool in
    let q = c.keep.new.self in
    let g = c.in_ok-id.ensures.grew in
    let j = c.loop-j.j in
    let new : HasNodes (N j) q c.in_ok-id.id = record {
      nodes = c.in_ok-nodes.nodes;
      listed = c.in_ok-id.ensures.kept;
      exact = λ n.
          let same = spanned_needed d c.node_count-nodes.ensures.station c.args.steps.now c.args.moved c.args.others
          c.requires.count c.args.spans.now c.requires.spans j (omega (arith, c.loop-j-test.true)) n in
          let has = c.in_ok-nodes.ensures n in
          (λ k. same.0 (has.0 k), λ k. has.1 (same.1 k));
    } in
    record {
      grew = grew_more c.args.pool.now p q c.loop-j.invariant.grew g;
      keeps =
          subst (λ (ks : List ℕ). AreKeeps N q ks (j + 1)) (sym c.in_ok-push.ensures.items)
          (keeps_more N p q c.loop-j.keeps.items j c.in_ok-id.id (grows p q g) c.loop-j.invariant.keeps new);
    }

pub returns-clause-keeps : goal.returns-clause-keeps
returns-clause-keeps c =
    let N : ℕ → ℕ → Type 0 = IsNeeded c.args.station.now c.args.steps.now c.args.moved in
    let done : c.loop-j.j ≡ suc c.args.others = omega (arith, c.loop-j.auto.j-end, c.loop-j-test.false) in
    subst (λ n. AreKeeps N c.loop-j.pool c.loop-j.keeps.items n) done c.loop-j.invariant.keeps
