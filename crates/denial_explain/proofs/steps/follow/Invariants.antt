use Rattle.denial_explain.specs.Listing.{Listed}
use Rattle.denial_explain.proofs.WayLemmas.{Follows}
use Rattle.denial_explain.proofs.steps.follow.Given as goal

abbrev pub invariant-steps : goal.invariant-steps
invariant-steps l = Follows (Listed l.neighbours) l.steps l.fn.from.0 l.last.0 l.left l.nodes

abbrev pub decreases-steps : goal.decreases-steps
decreases-steps l = l.left
