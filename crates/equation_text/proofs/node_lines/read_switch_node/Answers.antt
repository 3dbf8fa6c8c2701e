use Rattle.std.proofs.Common.{◌∙◌, ◌++◌, sym, arith}
use Rattle.std.specs.Prelude.{codes, decimal}
use Rattle.std.proofs.lemmas.Fmt.{decimal_injective}
use Rattle.station_equations.specs.EquationText.{goal_text}
use Rattle.equation_text.proofs.WordLemmas.{not_cut, cut_said, lacks_decimal, lacks_goal}
use Rattle.equation_text.proofs.OnceLemmas.{any_goal}
use Rattle.equation_text.proofs.node_lines.read_switch_node.Goals as goal

pub returns-in_default-clause-none : goal.returns-in_default-clause-none
returns-in_default-clause-none c = λ x h. not_cut 32 c.args.words.now (decimal h.switch) (goal_text h.off ++
    (codes " " ++ goal_text h.on)) c.in_default.ensures.none h.are

pub returns-in_default-decimal_number-clause-none : goal.returns-in_default-decimal_number-clause-none
returns-in_default-decimal_number-clause-none c = λ x h.
    let first = cut_said 32 c.args.words.now c.in-Some.word.now (decimal h.switch) c.in-Some.rest.now
    (goal_text h.off ++ (codes " " ++ goal_text h.on)) c.in-Some.ensures.some (lacks_decimal 32 h.switch
    (omega arith) (omega (arith, h.within, c.ranges.switches.fits))) h.are in
    c.in_default-decimal_number.ensures.none h.switch
    (record { small = omega (arith, h.within, c.ranges.switches.fits); written = first.0 })

pub returns-in_default-cut_word-clause-none : goal.returns-in_default-cut_word-clause-none
returns-in_default-cut_word-clause-none c = λ x h.
    let first = cut_said 32 c.args.words.now c.in-Some.word.now (decimal h.switch) c.in-Some.rest.now
    (goal_text h.off ++ (codes " " ++ goal_text h.on)) c.in-Some.ensures.some (lacks_decimal 32 h.switch
    (omega arith) (omega (arith, h.within, c.ranges.switches.fits))) h.are in
    not_cut 32 c.in-Some.rest.now (goal_text h.off) (goal_text h.on) c.in_default-cut_word.ensures.none first.1

pub returns-in_default-later_goal-clause-none : goal.returns-in_default-later_goal-clause-none
returns-in_default-later_goal-clause-none c = λ x h.
    let first = cut_said 32 c.args.words.now c.in-Some.word.now (decimal h.switch) c.in-Some.rest.now
    (goal_text h.off ++ (codes " " ++ goal_text h.on)) c.in-Some.ensures.some (lacks_decimal 32 h.switch
    (omega arith) (omega (arith, h.within, c.ranges.switches.fits))) h.are in
    let second = cut_said 32 c.in-Some.rest.now c.in-Some-cut_word.word.now
    (goal_text h.off) c.in-Some-cut_word.rest.now (goal_text h.on) c.in-Some-cut_word.ensures.some
    (lacks_goal 32 h.off (omega arith) (any_goal c.args.n h.off h.later_off)) first.1 in
    c.in_default-later_goal.ensures.none h.off h.later_off second.0

pub returns-in_default-later_goal-2-clause-none : goal.returns-in_default-later_goal-2-clause-none
returns-in_default-later_goal-2-clause-none c = λ x h.
    let first = cut_said 32 c.args.words.now c.in-Some.word.now (decimal h.switch) c.in-Some.rest.now
    (goal_text h.off ++ (codes " " ++ goal_text h.on)) c.in-Some.ensures.some (lacks_decimal 32 h.switch
    (omega arith) (omega (arith, h.within, c.ranges.switches.fits))) h.are in
    let second = cut_said 32 c.in-Some.rest.now c.in-Some-cut_word.word.now
    (goal_text h.off) c.in-Some-cut_word.rest.now (goal_text h.on) c.in-Some-cut_word.ensures.some
    (lacks_goal 32 h.off (omega arith) (any_goal c.args.n h.off h.later_off)) first.1 in
    c.in_default-later_goal-2.ensures.none h.on h.later_on second.1

pub returns-then-switch-from-clause-none : goal.returns-then-switch-from-clause-none
returns-then-switch-from-clause-none c = λ x h.
    let first = cut_said 32 c.args.words.now c.in-Some.word.now (decimal h.switch) c.in-Some.rest.now
    (goal_text h.off ++ (codes " " ++ goal_text h.on)) c.in-Some.ensures.some (lacks_decimal 32 h.switch
    (omega arith) (omega (arith, h.within, c.ranges.switches.fits))) h.are in
    let same = decimal_injective c.in-Some-decimal_number.switch h.switch
    (omega (arith, c.in-Some-decimal_number.ensures.some.small))
    (omega (arith, h.within, c.ranges.switches.fits)) (sym c.in-Some-decimal_number.ensures.some.written ∙ first.0) in
    omega (arith, same, h.within, c.if-switch-from.true, c.from.ensures)
