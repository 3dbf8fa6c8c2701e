use Rattle.std.proofs.Common.{◌∙◌, sym}
use Rattle.node_store.specs.Store.{HasSlots}
use Rattle.node_store.proofs.Runs.{quiet_twice, goes_on, stays_settled}
use Rattle.node_store.proofs.store.Store.open.Goals as goal

pub returns-in_default-read-clause-crash : goal.returns-in_default-read-clause-crash
returns-in_default-read-clause-crash g c crash left =
    quiet_twice g.D.Device.moment g.D.Device.left_between g.D.Device.left_since g.met.D.Device.time c.args.device.now
    c.sync.new.self c.read.new.self c.sync.ensures.crash c.sync.ensures.past c.read.ensures.crash
    c.read.ensures.past crash left

pub returns-in_default-read-2-clause-crash : goal.returns-in_default-read-2-clause-crash
returns-in_default-read-2-clause-crash g c crash left =
    let first =
    quiet_twice g.D.Device.moment g.D.Device.left_between g.D.Device.left_since g.met.D.Device.time c.args.device.now
    c.sync.new.self c.read.new.self c.sync.ensures.crash c.sync.ensures.past c.read.ensures.crash c.read.ensures.past in
    let past =
    goes_on g.D.Device.moment g.D.Device.left_between g.D.Device.left_since g.met.D.Device.time c.args.device.now
    c.sync.new.self c.read.new.self c.sync.ensures.past c.read.ensures.past in
    quiet_twice g.D.Device.moment g.D.Device.left_between g.D.Device.left_since g.met.D.Device.time c.args.device.now
    c.read.new.self c.read-2.new.self first past c.read-2.ensures.crash c.read-2.ensures.past crash left

pub returns-in-Ok-decide-clause-crash : goal.returns-in-Ok-decide-clause-crash
returns-in-Ok-decide-clause-crash g c crash left =
    let first =
    quiet_twice g.D.Device.moment g.D.Device.left_between g.D.Device.left_since g.met.D.Device.time c.args.device.now
    c.sync.new.self c.read.new.self c.sync.ensures.crash c.sync.ensures.past c.read.ensures.crash c.read.ensures.past in
    let past =
    goes_on g.D.Device.moment g.D.Device.left_between g.D.Device.left_since g.met.D.Device.time c.args.device.now
    c.sync.new.self c.read.new.self c.sync.ensures.past c.read.ensures.past in
    quiet_twice g.D.Device.moment g.D.Device.left_between g.D.Device.left_since g.met.D.Device.time c.args.device.now
    c.read.new.self c.read-2.new.self first past c.read-2.ensures.crash c.read-2.ensures.past crash left

pub returns-in-Err-clause-crash : goal.returns-in-Err-clause-crash
returns-in-Err-clause-crash g c crash left =
    let first =
    quiet_twice g.D.Device.moment g.D.Device.left_between g.D.Device.left_since g.met.D.Device.time c.args.device.now
    c.sync.new.self c.read.new.self c.sync.ensures.crash c.sync.ensures.past c.read.ensures.crash c.read.ensures.past in
    let past =
    goes_on g.D.Device.moment g.D.Device.left_between g.D.Device.left_since g.met.D.Device.time c.args.device.now
    c.sync.new.self c.read.new.self c.sync.ensures.past c.read.ensures.past in
    quiet_twice g.D.Device.moment g.D.Device.left_between g.D.Device.left_since g.met.D.Device.time c.args.device.now
    c.read.new.self c.read-2.new.self first past c.read-2.ensures.crash c.read-2.ensures.past crash left

pub returns-in-Ok-decide-clause-stands : goal.returns-in-Ok-decide-clause-stands
returns-in-Ok-decide-clause-stands g c image told =
    let has : HasSlots image c.read.new.into c.read-2.new.into = (
      sym (c.in-Ok-read.ensures.bytes image (c.sync.ensures.same ∙ told)),
      sym (c.in-Ok-read-2.ensures.bytes image (c.read.ensures.same ∙ c.sync.ensures.same ∙ told)),
    ) in
    c.in-Ok-decide.ensures.stands image has

pub returns-in-Ok-decide-clause-knows : goal.returns-in-Ok-decide-clause-knows
returns-in-Ok-decide-clause-knows g c image told_new =
    let told_read = sym c.read-2.ensures.same ∙ told_new in
    let told_sync = sym c.read.ensures.same ∙ told_read in
    let told = sym c.sync.ensures.same ∙ told_sync in
    let has : HasSlots image c.read.new.into c.read-2.new.into = (
      sym (c.in-Ok-read.ensures.bytes image (c.sync.ensures.same ∙ told)),
      sym (c.in-Ok-read-2.ensures.bytes image (c.read.ensures.same ∙ c.sync.ensures.same ∙ told)),
    ) in
    let synced = c.in-Ok.ensures.settled image told_sync in
    let first =
    stays_settled g.D.Device.moment g.D.Device.left_between g.D.Device.left_since g.met.D.Device.time c.sync.new.self
    c.read.new.self image synced c.read.ensures.crash c.read.ensures.past in (
      c.in-Ok-decide.ensures.knows image has,
      stays_settled g.D.Device.moment g.D.Device.left_between g.D.Device.left_since g.met.D.Device.time c.read.new.self
          c.read-2.new.self image first c.read-2.ensures.crash c.read-2.ensures.past,
    )

pub returns-in-Err-clause-refused : goal.returns-in-Err-clause-refused
returns-in-Err-clause-refused g c image told =
    let has : HasSlots image c.read.new.into c.read-2.new.into = (
      sym (c.in-Ok-read.ensures.bytes image (c.sync.ensures.same ∙ told)),
      sym (c.in-Ok-read-2.ensures.bytes image (c.read.ensures.same ∙ c.sync.ensures.same ∙ told)),
    ) in
    c.in-Err.ensures.refused image has
