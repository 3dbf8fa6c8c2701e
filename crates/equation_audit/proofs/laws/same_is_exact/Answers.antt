use Rattle.equation_audit.proofs.FindingLemmas.{same_releases, same_suffices}
use Rattle.equation_audit.proofs.laws.same_is_exact.Goals as goal

pub returns : goal.returns
returns c = λ d e same u whole. (same_releases d e same.not_loose u, same_suffices d e same.not_strict u whole)
