use Rattle.std.proofs.Common.{subst, sym}
use Rattle.station_graph.specs.Diagram.{Diagram, InfeedsTapped}
use Rattle.station_graph.specs.DraftInside.{draft_of}
use Rattle.station_graph.proofs.DraftLemmas.{IsStation-from_draft}
use Rattle.station_graph.proofs.builder.Builder.finish.Goals as goal

pub invariant_of-result : goal.invariant_of-result
invariant_of-result c = (
  IsStation-from_draft (draft_of c.self.inside) c.self.invariant.0
      (subst (λ (d : Diagram). InfeedsTapped d) (sym c.self.view_is) c.requires),
  c.self.invariant.0.ordered,
)
