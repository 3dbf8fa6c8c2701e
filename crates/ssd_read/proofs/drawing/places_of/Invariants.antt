use Rattle.std.proofs.Common.{◌≡◌, ◌+◌, drop, length}
use Rattle.ssd_read.specs.Elements.{elements_of, elements_after}
use Rattle.ssd_read.specs.Seen.{placed_all}
use Rattle.ssd_read.specs.Decoded.{AreDecoded}
use Rattle.station_graph.specs.declared.limits.TheConstants.{PATH_BYTES}
use Rattle.ssd_read.specs.PathBytes.{path_bytes}
use Rattle.ssd_read.proofs.drawing.places_of.Given as goal

abbrev pub invariant-loop-i : goal.invariant-loop-i
invariant-loop-i l = record {
  len : length l.places.items ≡ l.i;
  elements : elements_after l.front (placed_all l.tree l.places.items) (drop l.i l.tree) ≡ elements_of l.tree;
  decoded : AreDecoded l.tree l.places.items;
  room : l.room + path_bytes (placed_all l.tree l.places.items) ≡ PATH_BYTES;
}
