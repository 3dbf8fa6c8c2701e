use Rattle.ssd_read.proofs.Placed.{in_tree, entry_is}
use Rattle.ssd_read.proofs.drawing.Drawing.attribute.Goals as goal

pub attribute-requires : goal.attribute-requires
attribute-requires c = in_tree c.self.inside.tree c.self.inside.places.items c.args.self.now c.args.i c.self.view_is
    c.self.invariant.len c.requires

pub returns : goal.returns
returns c =
    let e = entry_is c.self.inside.tree c.self.inside.places.items c.args.self.now c.args.i c.self.view_is
    c.self.invariant.len c.requires in
    rw (← e) c.attribute.ensures
