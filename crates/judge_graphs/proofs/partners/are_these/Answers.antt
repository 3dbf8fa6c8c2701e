use Rattle.judge_graphs.proofs.partners.are_these.Goals as goal

pub returns : goal.returns
returns c h = record { gap_is = c.same_view.ensures c.if-not-same_view.false; load_is = c.same_view-2.ensures h }
