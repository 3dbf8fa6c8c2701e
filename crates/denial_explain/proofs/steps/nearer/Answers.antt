use Rattle.std.proofs.Common.{arith}
use Rattle.std.proofs.lemmas.Option.{slice_get_within}
use Rattle.denial_explain.proofs.Places.{place_of}
use Rattle.denial_explain.proofs.steps.nearer.Goals as goal

pub unreachable-requires : goal.unreachable-requires
unreachable-requires c =
    let there = c.requires.there in
    let w = place_of c.args.nodes.now there.0 there.1 in
    c.loop-node.invariant w.0 there.0 (omega (arith, slice_get_within c.args.nodes.now w.0 there.0 w.1)) w.1 there.2
