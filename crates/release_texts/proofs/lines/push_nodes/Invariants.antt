use Rattle.std.proofs.Common.{◌≡◌, ◌++◌, take}
use Rattle.denial_explain.specs.ExplanationText.{node_lines}
use Rattle.path_names.specs.Tables.{paths_of_items}
use Rattle.release_texts.proofs.lines.push_nodes.Given as goal

abbrev pub invariant-loop-number : goal.invariant-loop-number
invariant-loop-number l = record {
  text : l.text.text ≡ l.initial.text.text ++ node_lines l.station (take l.number-index l.nodes);
  names : l.text.names ≡ paths_of_items l.station;
  same : l.text.names ≡ l.initial.text.names;
}
