use Rattle.contraction.proofs.EndsBreakLemmas.{gap_tells}
use Rattle.contraction.proofs.value.Contraction.ends_break_gap.Goals as goal

pub ends_gap-requires : goal.ends_gap-requires
ends_gap-requires c = c.requires.ends c.switch.result c.switch.ensures.value

pub returns : goal.returns
returns c =
    let x = c.switch.result in
    let moves = c.switch.ensures.value in
    λ v fits stands. gap_tells c.args.station.now c.switch.ensures.station v fits c.args.op x moves c.args.self.now
    (c.requires.ends x moves) stands c.ends_gap.result c.ends_gap.ensures
