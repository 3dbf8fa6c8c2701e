use Rattle.std.proofs.Common.{ℕ, take}
use Rattle.ssd_read.specs.Steps.{tap_steps}
use Rattle.station_lines.specs.Lines.{AddsSteps}
use Rattle.station_lines.proofs.links.push_taps.Given as goal

abbrev pub invariant-loop-node : goal.invariant-loop-node
invariant-loop-node l = (part : ℕ) → AddsSteps l.station.node_paths l.word l.path
    (tap_steps part (take l.node-index l.nodes)) l.initial.text l.text
