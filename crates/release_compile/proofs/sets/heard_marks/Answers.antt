use Rattle.std.proofs.Common.{◌≡◌, ◌<◌, ◌+◌, inl, inr, List, Bool, Some, length, sym, ap, ◌∙◌, subst, arith}
use Rattle.std.specs.Prelude.{◌↔◌, IsTrue, slice_get}
use Rattle.std.proofs.lemmas.List.{length_push}
use Rattle.decision_graphs.specs.Reaching.{IsSet}
use Rattle.release_compile.specs.Summaries.{HeardAllows}
use Rattle.release_compile.proofs.SetsLemmas.{mark_pushed, no_marks}
use Rattle.release_compile.proofs.sets.heard_marks.Goals as goal

pub loop-index-init : goal.loop-index-init
loop-index-init c = record {
  len = ap length c.new-marks.ensures.items;
  each =
      λ k. subst (λ (ms : List Bool). IsSet ms k ↔ ((k < 0) × HeardAllows (slice_get c.args.heard.now c.args.part.0) k))
      (sym c.new-marks.ensures.items) (no_marks (HeardAllows (slice_get c.args.heard.now c.args.part.0)) k);
}

pub heard_allows-yes-requires : goal.heard_allows-yes-requires
heard_allows-yes-requires c s is = elim (c.requires.fits s (c.get.ensures ∙ ap Some is)) [
  | inl enough ↦ inl (omega (arith, enough, c.loop-index-test.true))
  | inr empty ↦ inr empty
]

pub loop-index-preserved : goal.loop-index-preserved
loop-index-preserved c =
    let marks : List Bool = c.loop-index.marks.items in
    record {
      len =
          ap length c.in_ok-push.ensures.items
          ∙ omega (arith, length_push marks c.heard_allows-yes.result, c.loop-index.invariant.len);
      each =
          λ k. subst (λ (ms : List Bool). IsSet ms k ↔
          ((k < c.loop-index.index + 1) × HeardAllows (slice_get c.args.heard.now c.args.part.0) k))
          (sym c.in_ok-push.ensures.items) (mark_pushed (HeardAllows (slice_get c.args.heard.now c.args.part.0)) marks
          c.loop-index.index c.heard_allows-yes.result c.loop-index.invariant.len c.loop-index.invariant.each (subst
          (λ w. IsTrue c.heard_allows-yes.result ↔ HeardAllows w c.loop-index.index) (sym c.get.ensures)
          c.heard_allows-yes.ensures) k);
    }

pub returns-clause-len : goal.returns-clause-len
returns-clause-len c = omega (arith, c.loop-index.invariant.len, c.loop-index.auto.index-end, c.loop-index-test.false)

pub returns-clause-each : goal.returns-clause-each
returns-clause-each c k =
    let done : c.loop-index.index ≡ c.args.size = omega (arith, c.loop-index.auto.index-end, c.loop-index-test.false) in
    subst (λ n. IsSet c.loop-index.marks.items k ↔ ((k < n) × HeardAllows (slice_get c.args.heard.now c.args.part.0) k))
    done (c.loop-index.invariant.each k)
