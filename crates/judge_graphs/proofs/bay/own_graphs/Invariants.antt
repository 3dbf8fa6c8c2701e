use Rattle.std.proofs.Common.{◌≤◌, map}
use Rattle.contraction.specs.Renaming.{mapped}
use Rattle.part_alphabets.specs.PartAlphabets.{Alphabets}
use Rattle.judge_pool.specs.Lettered.{lettered}
use Rattle.judge_pool.specs.Pooling.{GrewTo}
use Rattle.judge_graphs.specs.Labelling.{AreInnerNotes}
use Rattle.judge_pool.specs.Layering.{values_at}
use Rattle.judge_pool.specs.Places.{node_listed}
use Rattle.judge_graphs.specs.Built.{AreInner}
use Rattle.judge_pool.specs.Counted.{SwitchesHave, Spends}
use Rattle.judge_graphs.proofs.bay.own_graphs.Given as goal

abbrev pub invariant-loop-i : goal.invariant-loop-i
invariant-loop-i l = record {
  grew : GrewTo l.fn.pool l.pool;
  notes : AreInnerNotes l.pool l.notes;
  left : l.rest ≤ l.left;
  spends : Spends (SwitchesHave l.fn.pool.view l.station l.own.bay.0 l.own.first l.own.count l.i) l.station l.left l.rest;
  inner : (a : Alphabets) →
      AreInner l.fn.pool.view (lettered l.station a) l.own.bay.0 l.own.first l.own.count
      (values_at (map (mapped (node_listed l.own.nodes)) l.fn.pool.values.items) l.common.names.items) l.graphs.items l.i;
}
