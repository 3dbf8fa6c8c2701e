use Rattle.std.proofs.Common.{subst, arith}
use Rattle.judge_pool.specs.declared.view.View.TheVariants.{Gap, Load}
use Rattle.judge_graphs.specs.Built.{AreViewGraphs}
use Rattle.judge_graphs.specs.BuiltView.{view_of}
use Rattle.release_compile.proofs.HeardLemmas.{own_number, own_is}
use Rattle.release_compile.proofs.sides.place_of.Goals as goal

pub returns-clause-own : goal.returns-clause-own
returns-clause-own c =
    let range = own_number c.args.station.now c.args.bay.0 c.args.graphs.now.first c.args.graphs.now.count
    c.args.switch.0 c.requires.switches c.requires.part in
    own_is c.args.station.now c.args.bay.0 c.args.graphs.now.first c.args.graphs.now.count _ c.args.switch.0
    c.requires.switches c.requires.part (omega (arith, range.0, range.1))

pub returns-clause-gap : goal.returns-clause-gap
returns-clause-gap c a h =
    let range = own_number c.args.station.now c.args.bay.0 c.args.graphs.now.first c.args.graphs.now.count
    c.args.switch.0 c.requires.switches c.requires.part in
    subst (λ n. AreViewGraphs Gap a c.args.bay.0 c.args.graphs.now.first n (view_of c.args.graphs.now.gap))
    (omega (arith, range.0, range.1)) h.gap

pub returns-clause-load : goal.returns-clause-load
returns-clause-load c a h =
    let range = own_number c.args.station.now c.args.bay.0 c.args.graphs.now.first c.args.graphs.now.count
    c.args.switch.0 c.requires.switches c.requires.part in
    subst (λ n. AreViewGraphs Load a c.args.bay.0 c.args.graphs.now.first n (view_of c.args.graphs.now.load))
    (omega (arith, range.0, range.1)) h.load
