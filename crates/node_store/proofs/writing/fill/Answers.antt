use Rattle.std.proofs.Common.{◌+◌, ◌∙◌, ℕ, List, length, refl, sym, subst}
use Rattle.std.proofs.lemmas.Result.{on_ok_weaker}
use Rattle.bay_protocol.specs.KeptRow.{kept_row}
use Rattle.node_store.specs.Device.{IsChangedWithin, IsSettled}
use Rattle.node_store.specs.Slots.{number}
use Rattle.node_store.specs.Store.{HoldsIfOpen}
use Rattle.node_store.proofs.Runs.{one_content, weaker, then_more}
use Rattle.node_store.proofs.Writes.{stays_closed, filled, opened}
use Rattle.node_store.proofs.Records.{number_small}
use Rattle.node_store.proofs.writing.fill.Goals as goal

pub write_through-requires-clause-settled : goal.write_through-requires-clause-settled
write_through-requires-clause-settled g c image told = (c.requires image told).0

pub write_through-requires-2-clause-settled : goal.write_through-requires-2-clause-settled
write_through-requires-2-clause-settled g c mid told =
    let was = c.in_ok-write_through.ensures.written.untold mid told in
    let wrote = c.in_ok-write_through.ensures.written.told was.0 was.1 in
    subst (λ (image : List ℕ). IsSettled g.D.Device.moment g.D.Device.left_since c.write_through.new.device image)
    (one_content (sym wrote.1 ∙ told)) wrote.2.0

pub returns-in_err-write_through-clause-crash : goal.returns-in_err-write_through-clause-crash
returns-in_err-write_through-clause-crash g c image told =
    let n = number c.args.slot in
    let P = HoldsIfOpen n c.args.sequence c.args.kept.now image in
    weaker g.D.Device.moment g.D.Device.left_between g.D.Device.left_since g.met.D.Device.time c.args.device.now
    c.write_through.new.device (IsChangedWithin (c.place-gate.result + 1) (length c.piece_of-piece.result) image) P
    (c.write_through.ensures.crash image told)
    (λ d changed. stays_closed n c.args.sequence c.place-gate.result c.piece_of-piece.result (kept_row c.args.kept.now)
    c.args.kept.now image d (number_small c.args.slot) c.place-gate.ensures c.piece_of-piece.ensures.bytes
    c.piece_of-piece.ensures.len (c.requires image told).1 changed)

pub returns-clause-crash : goal.returns-clause-crash
returns-clause-crash g c image told =
    let n = number c.args.slot in
    let P = HoldsIfOpen n c.args.sequence c.args.kept.now image in
    let first =
    weaker g.D.Device.moment g.D.Device.left_between g.D.Device.left_since g.met.D.Device.time c.args.device.now
    c.write_through.new.device (IsChangedWithin (c.place-gate.result + 1) (length c.piece_of-piece.result) image) P
    (c.write_through.ensures.crash image told)
    (λ d changed. stays_closed n c.args.sequence c.place-gate.result c.piece_of-piece.result (kept_row c.args.kept.now)
    c.args.kept.now image d (number_small c.args.slot) c.place-gate.ensures c.piece_of-piece.ensures.bytes
    c.piece_of-piece.ensures.len (c.requires image told).1 changed) in
    let wrote = c.in_ok-write_through.ensures.written.told image told in
    let mid = wrote.0 in
    let second =
    weaker g.D.Device.moment g.D.Device.left_between g.D.Device.left_since g.met.D.Device.time
    c.write_through.new.device c.write_through-2.new.device (IsChangedWithin c.place-gate.result 1 mid) P
    (c.write_through-2.ensures.crash mid wrote.1)
    (λ d changed. filled n c.args.sequence c.place-gate.result c.piece_of-piece.result (kept_row c.args.kept.now)
    c.args.kept.now image mid d (number_small c.args.slot) c.ranges.sequence.fits c.place-gate.ensures
    c.piece_of-piece.ensures.bytes c.piece_of-piece.ensures.len
    record { in_row = c.piece_of-piece.ensures.fits; row = refl } wrote.2.1 changed) in
    then_more g.D.Device.moment g.D.Device.left_between g.D.Device.left_since g.met.D.Device.time c.args.device.now
    c.write_through.new.device c.write_through-2.new.device P first second

pub returns-clause-filled : goal.returns-clause-filled
returns-clause-filled g c = on_ok_weaker c.write_through-2.result (λ opens. record {
  told = λ image told.
      let n = number c.args.slot in
      let wrote = c.in_ok-write_through.ensures.written.told image told in
      let last = opens.told wrote.0 wrote.1 in (
        last.0,
        last.1,
        (
          last.2.0,
          filled n c.args.sequence c.place-gate.result c.piece_of-piece.result (kept_row c.args.kept.now)
              c.args.kept.now image wrote.0 last.0 (number_small c.args.slot) c.ranges.sequence.fits
              c.place-gate.ensures c.piece_of-piece.ensures.bytes c.piece_of-piece.ensures.len
              record { in_row = c.piece_of-piece.ensures.fits; row = refl } wrote.2.1 last.2.1.changed,
          opened n c.place-gate.result wrote.0 last.0 c.place-gate.ensures last.2.1,
        ),
      );
  untold = λ after told.
      let mid = opens.untold after told in
      c.in_ok-write_through.ensures.written.untold mid.0 mid.1;
}) c.write_through-2.ensures.written
