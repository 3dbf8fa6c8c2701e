use Rattle.node_store.specs.Slots.{number}
use Rattle.node_store.specs.Store.{MayClose}
use Rattle.node_store.proofs.Runs.{begins}
use Rattle.node_store.proofs.Writes.{untouched, not_true}
use Rattle.node_store.proofs.writing.make_room.Goals as goal

pub close-requires : goal.close-requires
close-requires g c image told = let had = c.requires image told in (had.0, had.1.0 c.if-is_open.true)

pub returns-clause-crash : goal.returns-clause-crash
returns-clause-crash g c image told =
    let had = c.requires image told in
    begins g.D.Device.moment g.D.Device.left_between g.D.Device.left_since g.met.D.Device.time c.args.device.now image
    (MayClose (number c.args.slot) image) had.0 (untouched (number c.args.slot) image)

pub returns-clause-closed : goal.returns-clause-closed
returns-clause-closed g c = record {
  told = λ image told.
      let had = c.requires image told in
      (image, told, (had.0, untouched (number c.args.slot) image, not_true c.if-is_open.false had.1));
  untold = λ after told. (after, told);
}
