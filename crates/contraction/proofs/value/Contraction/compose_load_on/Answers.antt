use Rattle.contraction.specs.Composing.{IsLoadOfBoth}
use Rattle.contraction.proofs.MarkLemmas.{if_ok}
use Rattle.contraction.proofs.OneViewLemmas.{load_lists}
use Rattle.contraction.proofs.value.Contraction.compose_load_on.Goals as goal

pub of_load_row-requires : goal.of_load_row-requires
of_load_row-requires c =
    let r = c.in_ok-row.ensures in
    record { row = record { value = r.value; contraction = r.contraction; row = r.row } }

pub returns-clause-both : goal.returns-clause-both
returns-clause-both c =
    if_ok c.of_load_row.result _ (IsLoadOfBoth c.args.selection.now.nodes c.args.self.now c.args.other.now)
    (λ z h. h c.args.selection.now.nodes c.args.self.now c.args.other.now c.in_ok-row.ensures)
    c.of_load_row.ensures.both

pub returns-clause-load : goal.returns-clause-load
returns-clause-load c =
    if_ok c.of_load_row.result _ _
    (λ z h. load_lists c.args.self.now c.args.other.now z
    (h c.args.selection.now.nodes c.args.self.now c.args.other.now c.in_ok-row.ensures).composes)
    c.of_load_row.ensures.both
