use Rattle.std.proofs.Common.{refl, ◌∙◌, inl, inr, arith}
use Rattle.decision_graphs.specs.Reaching.{IsSet, set_at}
use Rattle.release_compile.proofs.VerdictLemmas.{set_in}
use Rattle.release_compile.proofs.SetsLemmas.{marked_more}
use Rattle.release_compile.proofs.sets.allow_labels.Goals as goal

pub loop-label-init : goal.loop-label-init
loop-label-init c = record {
  count = refl;
  lens = λ j. refl;
  sets = λ ls are. are;
  here = λ k. (λ h. inl h, λ h. elim h [ inl old ↦ old | inr w ↦ absurd (omega (arith, w.0)) ]);
  others = λ j ne. refl;
}

pub allow_if-requires-clause-layer : goal.allow_if-requires-clause-layer
allow_if-requires-clause-layer c = omega (arith, c.requires.some, c.loop-label.invariant.count)

pub allow_if-requires-clause-choice : goal.allow_if-requires-clause-choice
allow_if-requires-clause-choice c = omega (
  arith,
  c.requires.first,
  c.loop-label.invariant.lens 0,
  c.loop-label-test.true,
  c.labels-count.ensures.count,
)

pub loop-label-preserved : goal.loop-label-preserved
loop-label-preserved c =
    let q = c.loop-label.inner in
    let new = c.allow_if.new.sets in
    let e = c.allow_if.ensures in
    record {
      count = e.count ∙ c.loop-label.invariant.count;
      lens = λ j. e.lens j ∙ c.loop-label.invariant.lens j;
      sets = λ ls are. e.sets ls (c.loop-label.invariant.sets ls are);
      here =
          marked_more (IsSet (set_at c.args.inner.now 0)) (IsSet (set_at new 0)) (IsSet (set_at q 0))
          c.args.marks.now.labels c.loop-label.label c.marked-yes.result c.marked-yes.ensures
          c.loop-label.invariant.here e.here;
      others = λ j ne. e.others j ne ∙ c.loop-label.invariant.others j ne;
    }

pub returns-clause-here : goal.returns-clause-here
returns-clause-here c k =
    let h = c.loop-label.invariant.here k in (
      λ w. elim (h.0 w) [ inl old ↦ inl old | inr m ↦ inr m.1 ],
      λ w. elim w [
        | inl old ↦ h.1 (inl old)
        | inr m ↦
            h.1 (inr (
              omega (
                arith,
                set_in c.args.marks.now.labels k m,
                c.requires.marks,
                c.labels-count.ensures.count,
                c.loop-label.auto.label-end,
                c.loop-label-test.false,
              ),
              m,
            ))
      ],
    )
