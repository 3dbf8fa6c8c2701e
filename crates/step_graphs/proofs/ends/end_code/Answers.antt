use Rattle.std.proofs.Common.{sym, subst}
use Rattle.judge_intake.specs.Coding.{CodeSays}
use Rattle.step_graphs.proofs.ends.end_code.Goals as goal

pub returns-in-Gap-clause-says : goal.returns-in-Gap-clause-says
returns-in-Gap-clause-says c =
    subst (λ w. CodeSays w c.args.station.now c.args.id.0 c.args.value.now c.gap_code.result) (sym c.in-Gap.is)
    c.gap_code.ensures.says

pub returns-in-Load-clause-says : goal.returns-in-Load-clause-says
returns-in-Load-clause-says c =
    subst (λ w. CodeSays w c.args.station.now c.args.id.0 c.args.value.now c.load_code.result) (sym c.in-Load.is)
    c.load_code.ensures.says
