use Rattle.ssd_read.proofs.Counted.{passes}
use Rattle.ssd_read.proofs.laws.limit_is_a_count.Goals as goal

pub returns : goal.returns
returns c = λ start steps what count h. passes start steps what count h
