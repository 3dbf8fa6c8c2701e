use Rattle.std.proofs.Common.{refl}
use Rattle.program_edge.proofs.Stored.{says_words}
use Rattle.program_edge.proofs.program.run_words.Goals as goal

pub returns : goal.returns
returns g c = says_words _ _ _ _ _ _ _ _ _ _ c.run_stored.ensures.others c.run_stored.ensures.stored (λ name. refl)
