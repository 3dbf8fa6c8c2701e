use Rattle.std.proofs.Common.{rules}
use Rattle.contraction.proofs.layout.Layout.write_gap.Goals as goal

pub returns : goal.returns
returns c = record {
  labels = c.write_labels.new.row;
  marks = c.write_both_marks.new.row;
  written = c.write_labels.ensures;
  marked = c.write_both_marks.ensures;
  bytes = search rules;
}
