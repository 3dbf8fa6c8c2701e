use Rattle.std.proofs.Common.{◌≡◌, ◌+◌, ℕ, List, suc, sym, subst, arith}
use Rattle.judge_pool.specs.Needing.{IsNeededOuter}
use Rattle.judge_intake.specs.Inputs.{AreKeeps}
use Rattle.judge_pool.proofs.LayeringLemmas.{grew_same, grew_more, grows}
use Rattle.judge_intake.proofs.InputsLemmas.{keeps_none, keeps_more}
use Rattle.judge_intake.proofs.inputs.outer_keeps.Goals as goal

pub loop-place-init : goal.loop-place-init
loop-place-init c = record {
  grew = grew_same c.args.pool.now c.requires.pool;
  keeps =
      subst (λ (ks : List ℕ). AreKeeps (IsNeededOuter c.args.station.now c.args.bay.0) c.args.pool.now ks 0)
      (sym c.new-keeps.ensures.items) (keeps_none (IsNeededOuter c.args.station.now c.args.bay.0) c.args.pool.now);
}

pub loop-place-preserved : goal.loop-place-preserved
loop-place-preserved c =
    let p = c.loop-place.pool in
    let q = c.keep.new.self in
    let g = c.in_ok-id.ensures.grew in
    record {
      grew = grew_more c.args.pool.now p q c.loop-place.invariant.grew g;
      keeps =
          subst (λ (ks : List ℕ). AreKeeps (IsNeededOuter c.args.station.now c.args.bay.0) q ks
          (c.loop-place.place + 1)) (sym c.in_ok-push.ensures.items)
          (keeps_more (IsNeededOuter c.args.station.now c.args.bay.0) p q c.loop-place.keeps.items c.loop-place.place
          c.in_ok-id.id (grows p q g) c.loop-place.invariant.keeps
          (record { nodes = c.in_ok-nodes.nodes; listed = c.in_ok-id.ensures.kept; exact = c.in_ok-nodes.ensures }));
    }

pub returns-clause-keeps : goal.returns-clause-keeps
returns-clause-keeps c =
    let done : c.loop-place.place ≡ suc c.args.others =
    omega (arith, c.loop-place.auto.place-end, c.loop-place-test.false) in
    subst (λ n. AreKeeps (IsNeededOuter c.args.station.now c.args.bay.0) c.loop-place.pool c.loop-place.keeps.items n)
    done c.loop-place.invariant.keeps
