use Rattle.std.proofs.Common.{false, get_or, refl, ◌∙◌, inl, inr, arith}
use Rattle.decision_graphs.specs.Reaching.{IsSet, set_at}
use Rattle.release_compile.proofs.VerdictLemmas.{set_in}
use Rattle.release_compile.proofs.SetsLemmas.{marked_more}
use Rattle.release_compile.proofs.sets.allow_marked.Goals as goal

pub loop-choice-init : goal.loop-choice-init
loop-choice-init c = record {
  count = refl;
  lens = λ j. refl;
  sets = λ ls are. are;
  here = λ k. (λ h. inl h, λ h. elim h [ inl old ↦ old | inr w ↦ absurd (omega (arith, w.0)) ]);
  others = λ j ne. refl;
}

pub allow_if-requires-clause-layer : goal.allow_if-requires-clause-layer
allow_if-requires-clause-layer c = omega (arith, c.requires.layer, c.loop-choice.invariant.count)

pub allow_if-requires-clause-choice : goal.allow_if-requires-clause-choice
allow_if-requires-clause-choice c =
    omega (arith, c.requires.marks, c.loop-choice.invariant.lens c.args.layer, c.loop-choice-test.true)

pub loop-choice-preserved : goal.loop-choice-preserved
loop-choice-preserved c =
    let q = c.loop-choice.sets in
    let new = c.allow_if.new.sets in
    let k = c.loop-choice.choice in
    let e = c.allow_if.ensures in
    let marks = c.args.marks.now in
    record {
      count = e.count ∙ c.loop-choice.invariant.count;
      lens = λ j. e.lens j ∙ c.loop-choice.invariant.lens j;
      sets = λ ls are. e.sets ls (c.loop-choice.invariant.sets ls are);
      here =
          marked_more (IsSet (set_at c.args.sets.now c.args.layer)) (IsSet (set_at new c.args.layer))
          (IsSet (set_at q c.args.layer)) marks k (get_or marks k false) refl c.loop-choice.invariant.here e.here;
      others = λ j ne. e.others j ne ∙ c.loop-choice.invariant.others j ne;
    }

pub returns-clause-here : goal.returns-clause-here
returns-clause-here c k =
    let h = c.loop-choice.invariant.here k in (
      λ w. elim (h.0 w) [ inl old ↦ inl old | inr m ↦ inr m.1 ],
      λ w. elim w [
        | inl old ↦ h.1 (inl old)
        | inr m ↦
            h.1 (inr (
              omega (arith, set_in c.args.marks.now k m, c.loop-choice.auto.choice-end, c.loop-choice-test.false),
              m,
            ))
      ],
    )
