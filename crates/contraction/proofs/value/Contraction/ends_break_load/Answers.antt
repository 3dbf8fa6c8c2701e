use Rattle.std.proofs.Common.{subst}
use Rattle.station_graph.specs.Nodes.{Rises}
use Rattle.contraction.specs.Answers.{Answers}
use Rattle.contraction.proofs.EndsBreakLemmas.{load_tells}
use Rattle.contraction.proofs.value.Contraction.ends_break_load.Goals as goal

pub ends_load-requires : goal.ends_load-requires
ends_load-requires c = c.requires.ends c.switch.result c.switch.ensures.value

pub returns : goal.returns
returns c =
    let x = c.switch.result in
    let moves = c.switch.ensures.value in
    let rises : Rises c.args.self.now.kept =
    subst (λ (s : Answers). Rises s.kept) c.self.view_is c.self.invariant.nodes.rises in
    λ v fits stands.
    let told = load_tells c.args.station.now c.switch.ensures.station v fits c.args.op x moves c.args.self.now
    (c.requires.ends x moves) rises stands in
    (λ e. told.0 (c.ends_load.ensures.0 e), λ h. c.ends_load.ensures.1 (told.1 h))
