use Rattle.std.proofs.Common.{◌++◌, List, ℕ, sym, ◌∙◌, ap}
use Rattle.station_state.specs.StateText.{state_line}
use Rattle.station_state.proofs.TextLemmas.{lines_more}
use Rattle.station_state.proofs.text.lines_of.Goals as goal

pub loop-i-preserved : goal.loop-i-preserved
loop-i-preserved c =
    let states = c.args.states.now in
    let paths = c.args.station.now.node_paths in
    c.in_ok-push_state.ensures ∙ ap (λ (t : List ℕ). t ++ state_line c.state.result c.node_path.result.now)
    c.loop-i.invariant
    ∙ sym (lines_more states paths c.loop-i.i c.state.result c.node_path.result.now c.state.ensures
    c.node_path.ensures.value)
