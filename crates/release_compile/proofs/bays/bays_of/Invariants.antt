use Rattle.std.proofs.Common.{◌≤◌, map}
use Rattle.judge_pool.specs.Lettered.{lettered}
use Rattle.judge_graphs.specs.Built.{AreBays}
use Rattle.release_compile.specs.Judging.{KeepEdges}
use Rattle.judge_graphs.specs.BuiltView.{seen_part}
use Rattle.judge_graphs.specs.Stocking.{IsStock}
use Rattle.judge_graphs.specs.Telling.{HaveMerged}
use Rattle.judge_pool.specs.declared.view.View.TheVariants.{Gap, Load}
use Rattle.release_compile.proofs.bays.bays_of.Given as goal
use Rattle.judge_pool.specs.declared.limits.TheConstants.{ALL_EDGES}

abbrev pub invariant-loop-part : goal.invariant-loop-part
invariant-loop-part l = record {
  told : HaveMerged l.bays.items;
  gap : IsStock (lettered l.station l.parts) Gap l.gap;
  load : IsStock (lettered l.station l.parts) Load l.load;
  spent : l.spent ≤ ALL_EDGES;
  edges : KeepEdges l.station l.part l.spent;
  bays : AreBays (lettered l.station l.parts) (map seen_part l.bays.items) l.part;
}
