use Rattle.std.proofs.Common.{◌∙◌, Bool, false, List, subst}
use Rattle.std.proofs.lemmas.Result.{IfOk-weaker}
use Rattle.station_graph.specs.Diagram.{node_count}
use Rattle.station_state.specs.State.{AreStates, AreBetween, extreme}
use Rattle.station_state.proofs.StateLemmas.{states_are}
use Rattle.station_state.proofs.states.node_states.Goals as goal

pub returns : goal.returns
returns c =
    let d = c.args.station.now in
    let words = c.args.readings.now in
    let low = c.in_ok-least.least.vector in
    let high = c.in_ok-greatest.greatest.vector in
    let low_is = c.in_ok-least.ensures.of.1 ∙ c.in_ok-extreme.ensures in
    let high_is = c.in_ok-greatest.ensures.of.1 ∙ c.in_ok-extreme-2.ensures in
    IfOk-weaker c.states_between.result (AreBetween (node_count d) d low high) (AreStates d words)
    (λ states h. states_are d words states
    (subst (λ (v : List Bool). AreBetween (node_count d) d (extreme false words) v states) high_is
    (subst (λ (v : List Bool). AreBetween (node_count d) d v high states) low_is h)))
    c.states_between.ensures
