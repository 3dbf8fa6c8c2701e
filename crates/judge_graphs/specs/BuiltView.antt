-- How the graphs of a bay are seen.
use Rattle.std.specs.Prelude.{Option, option_map}
use Rattle.judge_graphs.specs.declared.graphs.ViewGraphs.{ViewGraphs}
use Rattle.judge_graphs.specs.declared.graphs.BayGraphs.{BayGraphs}
use Rattle.judge_graphs.specs.Built.{ViewOf, BayOf}

-- The graphs of one view, as a contract sees them.
abbrev pub view_of : ViewGraphs → ViewOf
view_of g = record { outer = g.outer.value; inner = g.inner.items; merged = g.merged.value }

-- The graphs of a bay, as a contract sees them.
abbrev pub seen_bay : BayGraphs → BayOf
seen_bay g = record {
  first = g.first;
  count = g.count;
  gap = view_of g.gap;
  load = view_of g.load;
  told = g.told.items;
}

-- Those of a part, if it is a bay.
abbrev pub seen_part : Option BayGraphs → Option BayOf
seen_part part = option_map seen_bay part
