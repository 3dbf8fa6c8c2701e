use Rattle.std.proofs.Common.{◌≡◌, ◌++◌, take}
use Rattle.denial_explain.specs.ExplanationText.{node_lines}
use Rattle.why_text.proofs.ways.push_nodes.Given as goal

abbrev pub invariant-loop-number : goal.invariant-loop-number
invariant-loop-number l = l.text ≡ l.initial.text ++ node_lines l.station (take l.number-index l.nodes)
