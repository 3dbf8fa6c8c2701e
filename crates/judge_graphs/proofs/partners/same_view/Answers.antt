use Rattle.std.proofs.Common.{◌∙◌, sym}
use Rattle.judge_graphs.proofs.partners.same_view.Goals as goal

pub returns : goal.returns
returns c h = record {
  outer_is = sym c.as_ref.ensures ∙ (c.same.ensures c.if-not-same.false ∙ c.as_ref-2.ensures);
  inner_is = sym c.deref.ensures.value ∙ (c.same_inners.ensures h ∙ c.deref-2.ensures.value);
}
