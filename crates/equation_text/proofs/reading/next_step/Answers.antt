use Rattle.std.proofs.Common.{arith}
use Rattle.station_equations.specs.EquationText.{step_line}
use Rattle.equation_text.proofs.WordLemmas.{not_cut, cut_said}
use Rattle.equation_text.proofs.StepFits.{may_lacks}
use Rattle.equation_text.proofs.reading.next_step.Goals as goal

pub returns-in_default-clause-none : goal.returns-in_default-clause-none
returns-in_default-clause-none c = λ s rest may is. not_cut 10 c.args.left.now.text.now
    (step_line c.args.part.0 c.args.m s) rest c.in_default.ensures.none is

pub returns-in_default-read_step-clause-none : goal.returns-in_default-read_step-clause-none
returns-in_default-read_step-clause-none c = λ s rest may is.
    let line = cut_said 10 c.args.left.now.text.now c.in-Some.line.now
    (step_line c.args.part.0 c.args.m s) c.in-Some.rest.now rest c.in-Some.ensures.some
    (may_lacks c.args.station.now c.args.part.0 c.args.m s (omega
    (arith, c.ranges.m.fits)) c.switch_count-switches.ensures.station may) is in
    c.in_default-read_step.ensures.none s may line.0
