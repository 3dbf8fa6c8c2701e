use Rattle.std.proofs.Common.{refl}
use Rattle.node_store.proofs.file_device.FileDeviceDevice.write.Goals as goal

pub returns-clause-crash : goal.returns-clause-crash
returns-clause-crash g c crash left = (crash, tt, record { size = refl; outside = λ k h. refl })

pub returns-2-clause-crash : goal.returns-2-clause-crash
returns-2-clause-crash g c crash left = (crash, tt, record { size = refl; outside = λ k h. refl })
