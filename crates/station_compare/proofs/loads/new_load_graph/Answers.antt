use Rattle.std.proofs.Common.{refl, arith}
use Rattle.std.proofs.lemmas.Option.{slice_get_within}
use Rattle.station_compare.proofs.IdleLemmas.{idle}
use Rattle.station_compare.proofs.loads.new_load_graph.Goals as goal

pub has_load-requires : goal.has_load-requires
has_load-requires c =
    slice_get_within c.args.moved.now.new.now.switches c.args.moved.now.new_id.0 c.requires.moved.walk.same.new
    c.requires.moved.walk.same.new_at

pub idle_graph-requires : goal.idle_graph-requires
idle_graph-requires c = omega (arith, c.requires.gap.count, c.requires.moved.walk.others, c.requires.moved.steps.steps.len)

pub returns-then-not-has_load-clause-graph : goal.returns-then-not-has_load-clause-graph
returns-then-not-has_load-clause-graph c =
    idle c.args.moved.now.new.now c.args.moved.now.steps.now.new_steps.items c.args.moved.now.place
    c.args.moved.now.new_id.0 c.args.gap.now c.requires.gap (c.if-not-has_load.ensures.none refl) c.in_ok-idle.idle
    c.in_ok-idle.ensures
