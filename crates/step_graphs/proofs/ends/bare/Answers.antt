use Rattle.std.proofs.Common.{◌≡◌, ℕ, List, sym, ◌∙◌, subst}
use Rattle.std.specs.Prelude.{◌↔◌}
use Rattle.station_graph.specs.Connection.{a_switch}
use Rattle.station_graph.specs.Sharing.{Touches}
use Rattle.contraction.specs.Answers.{Answers, Keeps, AreNodes}
use Rattle.step_graphs.proofs.ends.bare.Goals as goal

pub empty-requires : goal.empty-requires
empty-requires c =
    subst (λ (l : List ℕ). AreNodes l) (sym (c.in_ok-nodes.ensures ∙ c.nodes.ensures.nodes))
    c.nodes.ensures.answers.nodes

pub returns : goal.returns
returns c =
    let unset : Answers = c.in_ok-open.open in
    let same : unset.kept ≡ c.in_ok-value.value.kept =
    sym (c.in_ok-value.ensures.kept ∙ (c.in_ok-nodes.ensures ∙ c.nodes.ensures.nodes)) in
    record {
      kept = λ n.
          subst (λ (ks : List ℕ). Keeps ks n ↔ Touches c.args.station.now (a_switch c.args.id.0) n) same
          (c.in_ok-open.ensures.kept n);
      stands = c.in_ok-value.ensures.stands;
    }
