use Rattle.std.proofs.Common.{◌∙◌, length, sym}
use Rattle.node_store.specs.Device.{IsChangedWithin}
use Rattle.node_store.proofs.Runs.{one_call, then_quiet}
use Rattle.node_store.proofs.writing.write_through.Goals as goal

pub returns-in_err-write-clause-crash : goal.returns-in_err-write-clause-crash
returns-in_err-write-clause-crash g c image told =
    one_call g.D.Device.moment g.D.Device.left_between g.D.Device.left_since g.met.D.Device.time c.args.device.now
    c.write.new.self image (IsChangedWithin c.args.at (length c.args.piece.now))
    (IsChangedWithin c.args.at (length c.args.piece.now) image)
    (c.requires.settled image told) c.write.ensures.crash c.write.ensures.past (λ d changed. changed)

pub returns-in_err-sync-clause-crash : goal.returns-in_err-sync-clause-crash
returns-in_err-sync-clause-crash g c image told =
    let wrote =
    one_call g.D.Device.moment g.D.Device.left_between g.D.Device.left_since g.met.D.Device.time c.args.device.now
    c.write.new.self image (IsChangedWithin c.args.at (length c.args.piece.now))
    (IsChangedWithin c.args.at (length c.args.piece.now) image)
    (c.requires.settled image told) c.write.ensures.crash c.write.ensures.past (λ d changed. changed) in
    then_quiet g.D.Device.moment g.D.Device.left_between g.D.Device.left_since g.met.D.Device.time c.args.device.now
    c.write.new.self c.sync.new.self (IsChangedWithin c.args.at (length c.args.piece.now) image) wrote
    c.sync.ensures.crash c.sync.ensures.past

pub returns-clause-crash : goal.returns-clause-crash
returns-clause-crash g c image told =
    let wrote =
    one_call g.D.Device.moment g.D.Device.left_between g.D.Device.left_since g.met.D.Device.time c.args.device.now
    c.write.new.self image (IsChangedWithin c.args.at (length c.args.piece.now))
    (IsChangedWithin c.args.at (length c.args.piece.now) image)
    (c.requires.settled image told) c.write.ensures.crash c.write.ensures.past (λ d changed. changed) in
    then_quiet g.D.Device.moment g.D.Device.left_between g.D.Device.left_since g.met.D.Device.time c.args.device.now
    c.write.new.self c.sync.new.self (IsChangedWithin c.args.at (length c.args.piece.now) image) wrote
    c.sync.ensures.crash c.sync.ensures.past

pub returns-clause-written : goal.returns-clause-written
returns-clause-written g c = record {
  told = λ image told.
      let wrote = c.in_ok-write.ensures.written.told image told in
      let same = c.sync.ensures.same ∙ wrote.1 in
      (wrote.0, same, (c.in_ok-sync.ensures.settled wrote.0 same, wrote.2));
  untold = λ after told. c.write.ensures.changed.untold after (sym c.sync.ensures.same ∙ told);
}
