use Rattle.std.proofs.Common.{arith, ◌∙◌}
use Rattle.ssd_read.proofs.Placed.{in_places}
use Rattle.ssd_read.proofs.Decoding.{decoded_is, role_is}
use Rattle.ssd_read.proofs.drawing.Drawing.kind.Goals as goal

pub index-requires : goal.index-requires
index-requires c = omega (
  arith,
  in_places c.self.inside.tree c.self.inside.places.items c.args.self.now c.args.i
      c.self.view_is c.self.invariant.len c.requires.within,
)

pub returns : goal.returns
returns c =
    let role = role_is c.self.inside.tree c.self.inside.places.items c.args.self.now c.args.i c.index.result.now
    c.self.view_is c.self.invariant.len c.requires.within c.index.ensures in
    (decoded_is c.self.inside.tree c.self.inside.places.items c.args.self.now c.args.i c.index.result.now
    c.self.view_is c.self.invariant c.requires.within c.index.ensures).kind (role ∙ c.requires.role)
