use Rattle.contraction.proofs.BothLemmas.{rows_of_both}
use Rattle.contraction.proofs.value.Contraction.composed_rows.Goals as goal

pub returns : goal.returns
returns c =
    rows_of_both c.args.selection.now.nodes c.args.self.now c.args.other.now c.in_ok-gap.gap c.in_ok-load.load
    c.in_ok-gap.ensures c.in_ok-load.ensures
