use Rattle.std.proofs.Common.{◌≡◌, ◌≢◌, ◌+◌, suc, Some, slice_get, length, eqb, refl, sym, ap, ◌∙◌, subst, inl, inr}
use Rattle.std.proofs.Common.{arith, add-one}
use Rattle.std.specs.Prelude.{◌↔◌}
use Rattle.std.proofs.lemmas.Bool.{cases_lt}
use Rattle.ilk_base.specs.declared.words.Dbpos.{Dbpos}
use Rattle.double_points.specs.Words.{Agrees}
use Rattle.decision_graphs.specs.Reaching.{IsSet, set_at}
use Rattle.judge_pool.specs.Graphs.{other_of}
use Rattle.judge_intake.proofs.OtherLemmas.{other_in}
use Rattle.release_compile.proofs.SetsLemmas.{own_done}
use Rattle.release_compile.proofs.sets.allow_own.Goals as goal

pub loop-i-init : goal.loop-i-init
loop-i-init c = record {
  count = refl;
  lens = λ j. refl;
  sets = λ ls are. are;
  done = λ k x lt small. absurd (omega (arith, lt));
  rest = λ k le. refl;
  first = refl;
}

pub word-word-requires : goal.word-word-requires
word-word-requires c = omega (
  arith,
  c.other_number.ensures,
  (other_in c.args.first c.args.moved c.args.others c.loop-i.i c.loop-i-test.true).1,
  c.requires.words,
)

pub allow_positions-requires-clause-layer : goal.allow_positions-requires-clause-layer
allow_positions-requires-clause-layer c = omega (arith, c.requires.count, c.loop-i.invariant.count, c.loop-i-test.true)

pub allow_positions-requires-clause-two : goal.allow_positions-requires-clause-two
allow_positions-requires-clause-two c =
    let two = c.requires.two c.loop-i.i c.loop-i-test.true in
    c.loop-i.invariant.lens (c.loop-i.i + 1) ∙ (ap (λ n. length (set_at c.args.inner.now n)) (add-one c.loop-i.i) ∙ two)

pub loop-i-preserved : goal.loop-i-preserved
loop-i-preserved c =
    let q = c.loop-i.inner in
    let new = c.allow_positions.new.inner in
    let e = c.allow_positions.ensures in
    let i = c.loop-i.i in
    let first = c.args.first in
    let moved = c.args.moved in
    let word : Dbpos = c.word-word.result in
    let at : slice_get c.args.own.now (other_of first moved i) ≡ Some word =
    ap (slice_get c.args.own.now) (sym c.other_number.ensures) ∙ c.word-word.ensures in
    let next : i + 1 ≡ suc i = add-one i in
    record {
      count = e.count ∙ c.loop-i.invariant.count;
      lens = λ j. e.lens j ∙ c.loop-i.invariant.lens j;
      sets = λ ls are. e.sets ls (c.loop-i.invariant.sets ls are);
      done = λ k x lt small. elim (cases_lt k i) [
        | inl less ↦
            let ne : suc k ≢ i + 1 = λ h. omega (arith, less, h) in
            subst (λ s. IsSet s x ↔
            ((w : Dbpos) → slice_get c.args.own.now (other_of first moved k) ≡ Some w → Agrees w (eqb x 1)))
            (sym (e.others (suc k) ne)) (c.loop-i.invariant.done k x less small)
        | inr more ↦
            let is : i ≡ k = omega (arith, lt, more) in
            let here = e.here x small in
            let bare : IsSet (set_at q (i + 1)) x → ⊥ =
            λ h. c.requires.bare i x
            (subst (λ s. IsSet s x) (ap (set_at q) next ∙ c.loop-i.invariant.rest i (omega arith)) h) in
            subst (λ n. IsSet (set_at new (suc n)) x ↔
            ((w : Dbpos) → slice_get c.args.own.now (other_of first moved n) ≡ Some w → Agrees w (eqb x 1))) is
            (subst (λ n. IsSet (set_at new n) x ↔
            ((w : Dbpos) → slice_get c.args.own.now (other_of first moved i) ≡ Some w → Agrees w (eqb x 1))) next
            (own_done (IsSet (set_at q (i + 1)) x) (IsSet (set_at new (i + 1)) x) c.args.own.now
            (other_of first moved i) word (eqb x 1) at bare here))
      ];
      rest = λ k le. e.others (suc k) (λ h. omega (arith, le, h)) ∙ c.loop-i.invariant.rest k (omega (arith, le));
      first = e.others 0 (λ h. omega (arith, h)) ∙ c.loop-i.invariant.first;
    }

pub returns-clause-own : goal.returns-clause-own
returns-clause-own c k x lt small =
    c.loop-i.invariant.done k x (omega (arith, lt, c.loop-i.auto.i-end, c.loop-i-test.false)) small
