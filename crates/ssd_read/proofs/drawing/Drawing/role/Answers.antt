use Rattle.std.proofs.Common.{arith, ap, sym}
use Rattle.ssd_read.proofs.Placed.{in_places, place_is}
use Rattle.ssd_read.proofs.drawing.Drawing.role.Goals as goal

pub index-requires : goal.index-requires
index-requires c = omega (
  arith,
  in_places c.self.inside.tree c.self.inside.places.items c.args.self.now c.args.i
      c.self.view_is c.self.invariant.len c.requires,
)

pub returns : goal.returns
returns c = ap (λ x. x.role) (sym (place_is c.self.inside.tree c.self.inside.places.items c.args.self.now c.args.i
    c.index.result.now c.self.view_is c.self.invariant.len c.requires c.index.ensures))
