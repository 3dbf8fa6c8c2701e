use Rattle.std.proofs.Common.{◌≡◌, ◌∙◌, ◌*◌, List, ℕ, length, ap, arith, replicate, rules}
use Rattle.std.proofs.lemmas.List.{take-replicate}
use Rattle.contraction.specs.Merging.{LabelsOfBoth}
use Rattle.contraction.proofs.TextLemmas.{load_text_of}
use Rattle.contraction.proofs.layout.Layout.small_load_text.Goals as goal

pub write_load-requires-clause-room : goal.write_load-requires-clause-room
write_load-requires-clause-room c =
    let len : c.len-2.result ≡ length c.args.self.now.places.items = omega (arith, c.len-2.ensures) in
    take-replicate (6 * c.len-2.result) 192 0 (omega (arith, len, c.requires.small.some))
    ∙ ap (λ n. replicate (6 * n) 0) len

pub returns : goal.returns
returns c =
    let s = c.args.self.now in
    let x = c.args.x.now in
    let y = c.args.y.now in
    let wide : List ℕ = c.label_both.new.labels in
    let composes : LabelsOfBoth s.union.first.items x.labels s.union.second.items y.labels
    (length s.union.kept.items) wide = search rules in
    load_text_of s x y wide composes c.args.x_bonds.now c.args.y_bonds.now c.in_ok-text.text c.write_load.new.row
    c.push.new.self c.in_ok-text.ensures c.write_load.ensures c.in_ok-push.ensures.ok
