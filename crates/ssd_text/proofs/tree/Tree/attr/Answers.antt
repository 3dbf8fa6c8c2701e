use Rattle.std.proofs.Common.{ap, ◌∙◌}
use Rattle.std.specs.Prelude.{find}
use Rattle.std.specs.Str.{bytes_eq}
use Rattle.ssd_text.specs.Seen.{written}
use Rattle.ssd_text.proofs.Elements.{entry_is}
use Rattle.ssd_text.proofs.tree.Tree.attr.Goals as goal

pub returns : goal.returns
returns c =
    let e = entry_is c.self.inside.nodes.items c.args.i c.index.result.now c.args.self.now c.self.view_is c.requires
    c.index.ensures in
    rw e (c.named.ensures ∙ ap (λ attrs. find (λ p. bytes_eq p.0 c.args.name.now) (written attrs))
    c.deref.ensures.value)
