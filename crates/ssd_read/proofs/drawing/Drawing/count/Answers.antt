use Rattle.std.proofs.Common.{sym, ◌∙◌}
use Rattle.std.proofs.Common.{◌∙◌}
use Rattle.ssd_read.proofs.Placed.{all_len}
use Rattle.ssd_read.proofs.drawing.Drawing.count.Goals as goal

pub returns-clause-count : goal.returns-clause-count
returns-clause-count c = c.count.ensures.count ∙ all_len c.self.inside.tree c.self.inside.places.items c.args.self.now
    c.self.view_is c.self.invariant.len

pub returns-clause-drawn : goal.returns-clause-drawn
returns-clause-drawn c = (c.self.inside.tree, c.count.ensures.order, sym c.self.view_is ∙ c.self.invariant.elements)
