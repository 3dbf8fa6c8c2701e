use Rattle.std.proofs.Common.{ap, replicate, Option, None}
use Rattle.ilk_base.specs.declared.words.Dbpos.TheVariants.{Lost}
use Rattle.bay_protocol.specs.State.{State}
use Rattle.bay_protocol.proofs.laws.restart_is_resume.Goals as goal

pub returns : goal.returns
returns c =
    λ d s node. ap {B = State} (λ n. record {
      bay = s.bay;
      highest = s.highest;
      lock = s.lock;
      granted = s.granted;
      collecting = None;
      words = replicate n Lost;
    }) node.words
