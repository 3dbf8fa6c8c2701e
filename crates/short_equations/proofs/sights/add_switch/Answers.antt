use Rattle.short_equations.proofs.ItemEdgeLemmas.{always_added, closed_added, first_added, second_added}
use Rattle.short_equations.proofs.sights.add_switch.Goals as goal

pub returns-in_ok-add_ends-in-Ends-clause-adds : goal.returns-in_ok-add_ends-in-Ends-clause-adds
returns-in_ok-add_ends-in-Ends-clause-adds c =
    always_added c.args.view _ _ _ c.args.id.0 c.args.switch c.always.new.self c.in_ok-term-in-Ends.term
    c.in_ok-add_ends-in-Ends.ensures.grew c.in-Ends.ensures c.in_ok-term-in-Ends.ensures.means
    c.in_ok-add_ends-in-Ends.ensures.adds

pub returns-in_ok-add_ends-in-ClosedEnds-clause-adds : goal.returns-in_ok-add_ends-in-ClosedEnds-clause-adds
returns-in_ok-add_ends-in-ClosedEnds-clause-adds c =
    closed_added c.args.view _ _ _ c.args.id.0 c.args.switch c.closed.new.self c.in_ok-term-in-ClosedEnds.term
    c.in_ok-add_ends-in-ClosedEnds.ensures.grew c.in_ok-term-in-ClosedEnds.ensures.means c.in-ClosedEnds.ensures
    c.in_ok-add_ends-in-ClosedEnds.ensures.adds

pub returns-in_ok-add_mark-in-FirstMark-clause-adds : goal.returns-in_ok-add_mark-in-FirstMark-clause-adds
returns-in_ok-add_mark-in-FirstMark-clause-adds c =
    first_added c.args.view _ _ _ c.args.id.0 c.args.switch c.closed-in-FirstMark.new.self
    c.in_ok-term-in-FirstMark.term c.in_ok-add_mark-in-FirstMark.ensures.grew c.in_ok-term-in-FirstMark.ensures.means
    c.in-FirstMark.ensures c.in_ok-add_mark-in-FirstMark.ensures.adds

pub returns-in_ok-add_mark-in-SecondMark-clause-adds : goal.returns-in_ok-add_mark-in-SecondMark-clause-adds
returns-in_ok-add_mark-in-SecondMark-clause-adds c =
    second_added c.args.view _ _ _ c.args.id.0 c.args.switch c.closed-in-SecondMark.new.self
    c.in_ok-term-in-SecondMark.term c.in_ok-add_mark-in-SecondMark.ensures.grew
    c.in_ok-term-in-SecondMark.ensures.means c.in-SecondMark.ensures c.in_ok-add_mark-in-SecondMark.ensures.adds
