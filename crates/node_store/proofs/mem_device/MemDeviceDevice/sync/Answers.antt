use Rattle.std.proofs.Common.{◌∙◌, refl, ap, false}
use Rattle.std.proofs.Math.ListN.{replicate}
use Rattle.node_store.proofs.Runs.{one_content}
use Rattle.node_store.specs.declared.sizes.TheConstants.{DEVICE_BYTES}
use Rattle.node_store.specs.declared.mem_device.Snapshot.{Snapshot}
use Rattle.node_store.specs.Memory.{MayLeave}
use Rattle.node_store.proofs.Remembered.{sync_left, unmarked, since_past}
use Rattle.node_store.proofs.mem_device.MemDeviceDevice.sync.Goals as goal

pub returns-clause-settled : goal.returns-clause-settled
returns-clause-settled c image is crash left =
    let now : Snapshot = record { bytes = c.begin.new.self.state.bytes; marks = replicate DEVICE_BYTES false } in
    let after : MayLeave now crash = since_past c.begin.new.self.past.items now crash left in
    unmarked now DEVICE_BYTES crash refl after ∙ one_content is

pub returns-clause-crash : goal.returns-clause-crash
returns-clause-crash c crash left =
    let now : Snapshot = record { bytes = c.begin.new.self.state.bytes; marks = replicate DEVICE_BYTES false } in
    sync_left c.args.self.now.past.items c.begin.new.self.past.items c.args.self.now.state now DEVICE_BYTES crash
    (c.begin.ensures.kept c.if-not-begin.false) (ap (λ (s : Snapshot). s.bytes) c.begin.ensures.state) refl left
