use Rattle.std.proofs.Common.{sym, subst}
use Rattle.station_graph.specs.Diagram.{Diagram}
use Rattle.central_rules.specs.WordRows.{by_rows}
use Rattle.reservation_core.specs.World.{IsNewWorld, WorldFacts}
use Rattle.test_world.proofs.events.plays_story.Goals as goal

pub senses_all-sensed-requires-clause-facts : goal.senses_all-sensed-requires-clause-facts
senses_all-sensed-requires-clause-facts c =
    let facts =
    c.facts_hold_at_the_start.ensures.world c.args.start.now c.in_ok-world.world (subst
    (λ (d : Diagram). IsNewWorld d c.args.start.now c.in_ok-world.world) (sym c.requires.same) c.in_ok-world.ensures) in
    subst (λ (d : Diagram). WorldFacts (by_rows d) c.in_ok-world.world) c.requires.same facts
