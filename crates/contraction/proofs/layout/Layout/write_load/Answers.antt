use Rattle.std.proofs.Common.{rules}
use Rattle.contraction.proofs.layout.Layout.write_load.Goals as goal

pub returns : goal.returns
returns c = record {
  labels = c.write_labels.new.row;
  bonds = c.write_bonds.new.row;
  marks = c.write_both_marks.new.row;
  written = c.write_labels.ensures;
  bonded = c.write_bonds.ensures;
  marked = c.write_both_marks.ensures;
  bytes = search rules;
}
