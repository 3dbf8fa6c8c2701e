use Rattle.std.proofs.Common.{List, ℕ, length, rules}
use Rattle.contraction.specs.Merging.{LabelsOfBoth}
use Rattle.contraction.proofs.layout.Layout.write_bonds.Goals as goal

pub returns : goal.returns
returns c =
    let s = c.args.self.now in
    let wide : List ℕ = c.label_both.new.labels in
    let composes : LabelsOfBoth s.union.first.items c.args.x.now s.union.second.items c.args.y.now
    (length s.union.kept.items) wide = search rules in
    record { wide = wide; composes = composes; written = c.write_labels.ensures }
