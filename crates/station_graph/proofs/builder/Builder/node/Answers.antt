use Rattle.std.proofs.Common.{◌<◌, ℕ, List, Contains, arith, subst}
use Rattle.std.specs.String.{string_bytes}
use Rattle.station_graph.specs.declared.limits.TheConstants.{NODES}
use Rattle.station_graph.specs.Diagram.{Diagram, node_count}
use Rattle.station_graph.specs.DraftInside.{draft_of}
use Rattle.station_graph.proofs.DraftLemmas.{IsDraft-node, CountsBays-node}
use Rattle.station_graph.proofs.builder.Builder.node.Goals as goal

pub push-requires : goal.push-requires
push-requires c = record {
  new = λ there.
      c.requires.new (subst (λ (d : Diagram). Contains d.node_paths c.args.path.now) c.self.view_is
      (subst (λ (p : List ℕ). Contains c.self.inside.node_paths p) c.in_ok-path.ensures.ok there));
}

pub invariant_of-self-2 : goal.invariant_of-self-2
invariant_of-self-2 c =
    let d = draft_of c.self.inside in
    let p = string_bytes c.in_ok-path.path in
    let room : node_count d < NODES = omega (arith, c.self.invariant.0.items.nodes_few) in
    let new : ¬ Contains d.node_paths p = λ there.
    c.requires.new (subst (λ (e : Diagram). Contains e.node_paths c.args.path.now) c.self.view_is
    (subst (λ (q : List ℕ). Contains d.node_paths q) c.in_ok-path.ensures.ok there)) in (
      IsDraft-node d c.push.new.self p c.in_ok-push.ensures.ok room new c.self.invariant.0,
      CountsBays-node d c.push.new.self p c.in_ok-push.ensures.ok room c.self.inside.bays c.self.inside.in_last
          c.self.invariant.1,
    )
