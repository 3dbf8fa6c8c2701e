use Rattle.std.proofs.Common.{refl}
use Rattle.equation_text.specs.Entries.{has_entry}
use Rattle.equation_text.proofs.KeptLemmas.{no_entry, adds_none, adds_step, adds_node}
use Rattle.equation_text.proofs.entries.keep.Goals as goal

pub returns-in-Some : goal.returns-in-Some
returns-in-Some c = adds_step c.args.line.now c.args.entries.now (record {
  steps = c.insert.new.self;
  nodes = c.args.entries.now.nodes;
}) c.in-Some.step c.in-Some.ensures.some c.in_ok-insert.ensures.updates refl

pub returns-in_default-node_begun : goal.returns-in_default-node_begun
returns-in_default-node_begun c = adds_none c.args.line.now (has_entry c.args.entries.now) (no_entry c.args.line.now
    c.in_default.ensures.none c.in_default-node_begun.ensures.none)

pub returns : goal.returns
returns c = adds_node c.args.line.now c.args.entries.now (record {
  steps = c.args.entries.now.steps;
  nodes = c.insert-2.new.self;
}) c.in-Some-node_begun.node c.in-Some-node_begun.ensures.some c.in_ok-insert-2.ensures.updates refl
