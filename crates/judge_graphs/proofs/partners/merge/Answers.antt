use Rattle.judge_graphs.proofs.partners.merge.Goals as goal

pub merged-requires-clause-inners : goal.merged-requires-clause-inners
merged-requires-clause-inners c = rw c.deref.ensures.value c.requires.inners
