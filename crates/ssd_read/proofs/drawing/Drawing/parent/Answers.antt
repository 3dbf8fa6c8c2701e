use Rattle.std.proofs.Common.{ap, ◌∙◌}
use Rattle.ssd_read.proofs.Placed.{in_tree, entry_is}
use Rattle.ssd_read.proofs.drawing.Drawing.parent.Goals as goal

pub entry-requires : goal.entry-requires
entry-requires c = in_tree c.self.inside.tree c.self.inside.places.items c.args.self.now c.args.i c.self.view_is
    c.self.invariant.len c.requires

pub returns : goal.returns
returns c = c.entry.ensures.parent ∙ ap (λ e. e.parent) (entry_is c.self.inside.tree c.self.inside.places.items
    c.args.self.now c.args.i c.self.view_is c.self.invariant.len c.requires)
