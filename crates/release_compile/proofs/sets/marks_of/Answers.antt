use Rattle.std.proofs.Common.{◌<◌, ◌+◌, List, Bool, Some, length, sym, ap, ◌∙◌, subst, arith}
use Rattle.std.specs.Prelude.{◌↔◌}
use Rattle.std.proofs.lemmas.List.{length_push}
use Rattle.std.proofs.lemmas.Option.{slice_get_within}
use Rattle.decision_graphs.specs.Reaching.{IsSet}
use Rattle.part_alphabets.specs.Alphabets.{InSet}
use Rattle.release_compile.proofs.SetsLemmas.{mark_pushed, no_marks}
use Rattle.release_compile.proofs.sets.marks_of.Goals as goal

pub loop-index-init : goal.loop-index-init
loop-index-init c = record {
  len = ap length c.new-marks.ensures.items;
  each =
      λ k. subst (λ (ms : List Bool). IsSet ms k ↔ ((k < 0) × InSet c.args.set.now k)) (sym c.new-marks.ensures.items)
      (no_marks (InSet c.args.set.now) k);
}

pub loop-index-preserved : goal.loop-index-preserved
loop-index-preserved c =
    let marks : List Bool = c.loop-index.marks.items in
    record {
      len =
          ap length c.in_ok-push.ensures.items
          ∙ omega (arith, length_push marks c.holds-yes.result, c.loop-index.invariant.len);
      each =
          λ k. subst (λ (ms : List Bool). IsSet ms k ↔ ((k < c.loop-index.index + 1) × InSet c.args.set.now k))
          (sym c.in_ok-push.ensures.items) (mark_pushed (InSet c.args.set.now) marks c.loop-index.index
          c.holds-yes.result c.loop-index.invariant.len c.loop-index.invariant.each c.holds-yes.ensures k);
    }

pub returns-clause-len : goal.returns-clause-len
returns-clause-len c = omega (arith, c.loop-index.invariant.len, c.loop-index.auto.index-end, c.loop-index-test.false)

pub returns-clause-each : goal.returns-clause-each
returns-clause-each c k =
    let h = c.loop-index.invariant.each k in (
      λ w. (h.0 w).1,
      λ held. h.1 (
        omega (
          arith,
          slice_get_within c.args.set.now k (Some held.0) held.1,
          c.requires,
          c.loop-index.auto.index-end,
          c.loop-index-test.false,
        ),
        held,
      ),
    )
