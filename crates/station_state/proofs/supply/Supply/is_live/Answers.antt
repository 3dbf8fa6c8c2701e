use Rattle.std.proofs.Common.{◌≡◌, Bool, true, false, List, length, slice_get, slice_index, Some, sym, ap, subst, arith}
use Rattle.ilk_base.specs.declared.words.Kind.TheVariants.{Infeed}
use Rattle.station_graph.specs.Diagram.{node_count}
use Rattle.station_graph.specs.Connection.{Touching}
use Rattle.central_rules.proofs.InClassLemmas.{joined_from_closed, closed_from_joined}
use Rattle.station_state.proofs.MarkedLemmas.{label_in}
use Rattle.station_state.proofs.supply.Supply.is_live.Goals as goal

pub is_marked-requires-clause-label : goal.is_marked-requires-clause-label
is_marked-requires-clause-label c =
    let s = c.args.self.now in
    let lt = label_in (Touching false s.station.now s.vector) (node_count s.station.now) s.labels
    c.requires.supply.labels c.args.node.0 c.requires.node in
    omega (arith, lt, ap length c.deref.ensures.value, c.requires.supply.fed.count)

pub returns : goal.returns
returns c =
    let s = c.args.self.now in
    let d = s.station.now in
    let n = c.args.node.0 in
    let station = c.node_count-nodes.ensures.station in
    let exactly = c.requires.supply.fed.exact n c.requires.node in (
      λ e. joined_from_closed d station s.vector s.vector s.labels c.requires.supply.labels Infeed n c.requires.node
          (exactly.0 (subst (λ (m : List Bool). slice_get m (slice_index s.labels n) ≡ Some true) c.deref.ensures.value
          (c.is_marked.ensures.0 e))),
      λ e. c.is_marked.ensures.1 (subst (λ (m : List Bool). slice_get m (slice_index s.labels n) ≡ Some true)
          (sym c.deref.ensures.value)
          (exactly.1 (closed_from_joined d station s.vector s.vector s.labels c.requires.supply.labels Infeed n
          c.requires.node e))),
    )
