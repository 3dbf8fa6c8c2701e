use Rattle.std.proofs.Common.{Some}
use Rattle.judge_graphs.proofs.TellingLemmas.{inners_again}
use Rattle.judge_graphs.proofs.partners.merge_both.Goals as goal

pub merged_as-requires-clause-merged : goal.merged_as-requires-clause-merged
merged_as-requires-clause-merged c =
    let found = c.in-Some.ensures in
    c.requires.bays found.0 (Some c.in-Some.graphs.now) found.1

pub told_layers-requires-clause-gap_inners : goal.told_layers-requires-clause-gap_inners
told_layers-requires-clause-gap_inners c =
    inners_again c.in_ok-gap-in-None.gap c.args.gap c.in_ok-gap-in-None.ensures.graphs c.requires.gap_inners

pub told_layers-requires-clause-load_inners : goal.told_layers-requires-clause-load_inners
told_layers-requires-clause-load_inners c =
    inners_again c.in_ok-load-in-None.load c.args.load c.in_ok-load-in-None.ensures.graphs c.requires.load_inners
