use Rattle.std.proofs.Common.{length, arith}
use Rattle.judge_pool.specs.declared.view.View.TheVariants.{Load}
use Rattle.station_equations.proofs.GrowingLemmas.{goal_stays}
use Rattle.station_equations.proofs.ApartLemmas.{longer, none_from}
use Rattle.station_equations.proofs.AnswerLemmas.{switch_exact, view_stays}
use Rattle.station_equations.proofs.compile.switch_goals.Goals as goal

pub returns-clause-exact : goal.returns-clause-exact
returns-clause-exact c = λ parts v exact whole.
    let d = c.args.judge.now.diagram in
    let now = c.gap_goal.new.nodes.items in
    switch_exact d parts now v c.args.id.0 c.in_ok-opening.opening c.in_ok-closing.closing
    (view_stays Load d parts c.load_goal.new.nodes.items now v c.args.id.0 c.in_ok-opening.opening _
    c.in_ok-closing.ensures.extends (c.in_ok-opening.ensures.leads parts v exact whole))
    (c.in_ok-closing.ensures.leads parts v exact whole)

pub returns-clause-apart : goal.returns-clause-apart
returns-clause-apart c =
    let old = c.args.nodes.now.items in
    let opened = c.in_ok-opening.ensures.apart (length old) (omega arith) (none_from old) in
    let closed = c.in_ok-closing.ensures.apart (length old)
    (longer old c.load_goal.new.nodes.items c.in_ok-opening.ensures.extends) opened.1 opened.0 in
    (closed.0, record { opening = opened.1; closing = closed.1 })

pub returns-clause-grew : goal.returns-clause-grew
returns-clause-grew c = λ parts exact grew.
    let opened = c.in_ok-opening.ensures.grew parts exact grew in
    let closed = c.in_ok-closing.ensures.grew parts exact opened.1 opened.0 in (
      closed.0,
      record {
        opening =
            goal_stays c.load_goal.new.nodes.items c.gap_goal.new.nodes.items c.in_ok-opening.opening
            c.in_ok-closing.ensures.extends opened.1;
        closing = closed.1;
      },
    )
