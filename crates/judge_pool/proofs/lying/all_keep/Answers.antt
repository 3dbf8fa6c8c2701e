use Rattle.std.proofs.Common.{◌≡◌, get_or, slice_get, sym, ap, ◌∙◌, inl, inr, arith}
use Rattle.std.proofs.lemmas.Bool.{cases_lt}
use Rattle.std.proofs.lemmas.Option.{slice_get_within, get_or_from_slice_get}
use Rattle.contraction.specs.Answers.{Answers}
use Rattle.judge_pool.proofs.lying.all_keep.Goals as goal

pub loop-k-preserved : goal.loop-k-preserved
loop-k-preserved c k i x k_in at_i at_x = elim (cases_lt k c.loop-k.k) [
  | inl before ↦ c.loop-k.invariant k i x before at_i at_x
  | inr more ↦
      let y : Answers = c.index-values-ids.result in
      let here : k ≡ c.loop-k.k = omega (arith, k_in, more) in
      let i_is : get_or c.args.ids.now c.loop-k.k 0 ≡ i =
      get_or_from_slice_get c.args.ids.now c.loop-k.k i 0 (ap (slice_get c.args.ids.now) (sym here) ∙ at_i) in
      let x_is : y ≡ x = c.index-values-ids.is ∙ (ap (λ j. get_or c.args.values.now j y) i_is
      ∙ get_or_from_slice_get c.args.values.now i x y at_x) in
      ap (λ (a : Answers). a.kept) (sym x_is) ∙ c.keeps_just.ensures.0 c.if-not-keeps_just.false
]

pub returns : goal.returns
returns c told k i x at_i at_x =
    c.loop-k.invariant k i x (omega (arith, slice_get_within c.args.ids.now k i at_i, c.loop-k-test.false)) at_i at_x
