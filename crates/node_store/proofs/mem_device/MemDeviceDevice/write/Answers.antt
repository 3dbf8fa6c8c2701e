use Rattle.std.proofs.Common.{ℕ, subst, length}
use Rattle.node_store.specs.declared.mem_device.Snapshot.{Snapshot}
use Rattle.node_store.specs.Device.{IsWritten}
use Rattle.node_store.specs.Memory.{IsMarked}
use Rattle.node_store.proofs.Remembered.{write_left}
use Rattle.node_store.proofs.mem_device.MemDeviceDevice.write.Goals as goal

pub returns-clause-crash : goal.returns-clause-crash
returns-clause-crash c crash left =
    let now : Snapshot = record { bytes = c.overwrite.new.bytes; marks = c.mark.new.marks } in
    let written =
    subst (λ (p : ℕ). IsWritten p c.args.piece.now c.args.self.now.state.bytes c.overwrite.new.bytes)
    c.from-place.ensures
    (subst (λ (s : Snapshot). IsWritten c.from-place.result c.args.piece.now s.bytes c.overwrite.new.bytes)
    c.begin.ensures.state c.overwrite.ensures) in
    let marked =
    subst (λ (p : ℕ). IsMarked p (length c.args.piece.now) c.args.self.now.state.marks c.mark.new.marks)
    c.from-place.ensures
    (subst (λ (s : Snapshot). IsMarked c.from-place.result (length c.args.piece.now) s.marks c.mark.new.marks)
    c.begin.ensures.state c.mark.ensures) in
    write_left c.args.self.now.past.items c.begin.new.self.past.items c.args.self.now.state now c.args.at
    c.args.piece.now crash (c.begin.ensures.kept c.if-not-begin.false) written marked left
