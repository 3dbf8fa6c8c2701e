use Rattle.short_equations.proofs.ItemEdgeLemmas.{tap_added}
use Rattle.short_equations.proofs.sights.add_tap.Goals as goal

pub returns-in_ok-add_mark-clause-adds : goal.returns-in_ok-add_mark-clause-adds
returns-in_ok-add_mark-clause-adds c =
    tap_added c.args.view c.always.new.self c.add_mark.new.terms c.args.edges.now.items c.add_mark.new.edges.items
    c.in_ok-term.term c.in_ok-add_mark.ensures.grew c.in_ok-term.ensures.means c.args.tap
    (c.tap_counts.ensures.0 c.if-tap_counts.true) c.in_ok-add_mark.ensures.adds
