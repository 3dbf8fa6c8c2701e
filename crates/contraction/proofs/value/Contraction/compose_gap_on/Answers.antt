use Rattle.contraction.specs.Composing.{IsGapOfBoth}
use Rattle.contraction.proofs.MarkLemmas.{if_ok}
use Rattle.contraction.proofs.OneViewLemmas.{gap_lists}
use Rattle.contraction.proofs.value.Contraction.compose_gap_on.Goals as goal

pub of_gap_row-requires : goal.of_gap_row-requires
of_gap_row-requires c =
    let r = c.in_ok-row.ensures in
    record { row = record { value = r.value; contraction = r.contraction; row = r.row } }

pub returns-clause-both : goal.returns-clause-both
returns-clause-both c =
    if_ok c.of_gap_row.result _ (IsGapOfBoth c.args.selection.now.nodes c.args.self.now c.args.other.now)
    (λ z h. h c.args.selection.now.nodes c.args.self.now c.args.other.now c.in_ok-row.ensures)
    c.of_gap_row.ensures.both

pub returns-clause-gap : goal.returns-clause-gap
returns-clause-gap c =
    if_ok c.of_gap_row.result _ _
    (λ z h. gap_lists c.args.self.now c.args.other.now z
    (h c.args.selection.now.nodes c.args.self.now c.args.other.now c.in_ok-row.ensures).composes)
    c.of_gap_row.ensures.both
