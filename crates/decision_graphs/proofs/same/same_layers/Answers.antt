use Rattle.std.proofs.Common.{◌≡◌, [], get_or, sym, ◌∙◌, ap, inl, inr, arith}
use Rattle.std.proofs.lemmas.Bool.{cases_lt}
use Rattle.std.proofs.lemmas.List.{ext_get_or}
use Rattle.decision_graphs.proofs.same.same_layers.Goals as goal

pub loop-layer-preserved : goal.loop-layer-preserved
loop-layer-preserved c k lt = elim (cases_lt k c.loop-layer.layer) [
  | inl less ↦ c.loop-layer.invariant k less
  | inr more ↦
      (let e : c.loop-layer.layer ≡ k = omega (arith, lt, more) in
      let one = c.as_slice.ensures ∙ (c.list_at.ensures ∙ ap (λ i. get_or c.args.one.now i []) e) in
      let other = c.as_slice-in-loop-layer.ensures
      ∙ (c.list_at-in-loop-layer.ensures ∙ ap (λ i. get_or c.args.other.now i []) e) in
      sym one ∙ (c.same_edges.ensures c.if-not-same_edges.false ∙ other))
]

pub returns : goal.returns
returns c done =
    ext_get_or [] c.args.one.now c.args.other.now c.if-one-other.false
    (λ k lt. c.loop-layer.invariant k (omega (arith, lt, c.loop-layer-test.false)))
