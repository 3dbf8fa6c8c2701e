use Rattle.std.proofs.Common.{◌∷◌, [], ℕ, subst}
use Rattle.std.proofs.lemmas.Result.{on_ok_weaker}
use Rattle.node_store.specs.Device.{IsChangedWithin, IsWritten}
use Rattle.node_store.specs.Slots.{number}
use Rattle.node_store.specs.Store.{MayClose}
use Rattle.node_store.proofs.Runs.{weaker}
use Rattle.node_store.proofs.Writes.{closes, closed}
use Rattle.node_store.proofs.Records.{number_small}
use Rattle.node_store.proofs.writing.close.Goals as goal

pub write_through-requires-clause-settled : goal.write_through-requires-clause-settled
write_through-requires-clause-settled g c image told = (c.requires image told).0

pub returns-clause-crash : goal.returns-clause-crash
returns-clause-crash g c image told =
    let n = number c.args.slot in
    weaker g.D.Device.moment g.D.Device.left_between g.D.Device.left_since g.met.D.Device.time c.args.device.now
    c.write_through.new.device (IsChangedWithin c.place.result 1 image) (MayClose n image)
    (c.write_through.ensures.crash image told)
    (λ d changed. closes n image d (number_small c.args.slot) (c.requires image told).1
    (subst (λ (at : ℕ). IsChangedWithin at 1 image d) c.place.ensures changed))

pub returns-clause-closed : goal.returns-clause-closed
returns-clause-closed g c = on_ok_weaker c.write_through.result (λ written. record {
  told = λ image told.
      let n = number c.args.slot in
      let wrote = written.told image told in
      let is_written = subst (λ (at : ℕ). IsWritten at (0 ∷ []) image wrote.0) c.place.ensures wrote.2.1 in (
        wrote.0,
        wrote.1,
        (
          wrote.2.0,
          closes n image wrote.0 (number_small c.args.slot) (c.requires image told).1 is_written.changed,
          closed n image wrote.0 is_written,
        ),
      );
  untold = written.untold;
}) c.write_through.ensures.written
