use Rattle.std.proofs.Common.{arith}
use Rattle.station_equations.specs.EquationText.{op_line}
use Rattle.equation_text.proofs.WordLemmas.{not_cut, cut_said}
use Rattle.equation_text.proofs.OnceLemmas.{op_lacks}
use Rattle.equation_text.proofs.reading.next_op.Goals as goal

pub returns-in_default-clause-none : goal.returns-in_default-clause-none
returns-in_default-clause-none c = λ x rest fits is. not_cut 10 c.args.left.now.text.now
    (op_line c.args.direction c.args.switch x) rest c.in_default.ensures.none is

pub returns-in_default-read_op-clause-none : goal.returns-in_default-read_op-clause-none
returns-in_default-read_op-clause-none c = λ x rest fits is.
    let line = cut_said 10 c.args.left.now.text.now c.in-Some.line.now
    (op_line c.args.direction c.args.switch x) c.in-Some.rest.now rest c.in-Some.ensures.some
    (op_lacks c.args.direction c.args.switch x (omega (arith, c.ranges.switch.fits)) fits) is in
    c.in_default-read_op.ensures.none x fits line.0
