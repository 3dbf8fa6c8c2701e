use Rattle.std.proofs.Common.{◌<◌, length}
use Rattle.central_rules.specs.WordRows.{by_rows}
use Rattle.reservation_core.specs.World.{WorldFacts}
use Rattle.test_world.proofs.events.plays_parts.Given as goal

abbrev pub invariant-loop-part : goal.invariant-loop-part
invariant-loop-part l = record {
  facts : WorldFacts (by_rows l.station) l.world;
  few : length l.world.scene.sent < 2000;
}
