use Rattle.std.proofs.Common.{map, sym, ap, subst}
use Rattle.station_graph.specs.Diagram.{part_count}
use Rattle.judge_graphs.specs.Built.{BayOf, AreBayGraphs}
use Rattle.judge_graphs.specs.BuiltView.{seen_part}
use Rattle.release_compile.specs.Judging.{ground, or_no_bay}
use Rattle.release_compile.specs.JudgingInside.{judging_of}
use Rattle.judge_graphs.proofs.BayLemmas.{bay_listed, raw_bay}
use Rattle.release_compile.proofs.build.GraphJudge.bay.Goals as goal

pub graphs_at-requires : goal.graphs_at-requires
graphs_at-requires c =
    let i = c.self.inside in
    let bay = rw (← c.self.view_is) at c.requires in
    let listed = bay_listed (ground (judging_of i)) (map seen_part i.bays.items) (part_count i.station.now) c.args.bay.0
    c.self.invariant.bays bay.0 bay in
    rw (c.deref.ensures.value, c.from.ensures) (raw_bay i.bays.items c.args.bay.0 listed.0 listed.1)

pub returns-clause-graphs : goal.returns-clause-graphs
returns-clause-graphs c =
    let i = c.self.inside in
    let bay = rw (← c.self.view_is) at c.requires in
    let listed = bay_listed (ground (judging_of i)) (map seen_part i.bays.items) (part_count i.station.now) c.args.bay.0
    c.self.invariant.bays bay.0 bay in
    rw (← c.self.view_is) (subst (λ (x : BayOf). AreBayGraphs (ground (judging_of i)) c.args.bay.0 x)
    (sym (ap or_no_bay listed.1)) listed.2)
