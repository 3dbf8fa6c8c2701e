use Rattle.std.proofs.Common.{sym, subst}
use Rattle.decision_graphs.specs.Alone.{AreKnown}
use Rattle.decision_graphs.proofs.known.fold_noted.Goals as goal

pub known_fold-requires : goal.known_fold-requires
known_fold-requires c = subst AreKnown (sym c.deref.ensures.value) c.requires.list
