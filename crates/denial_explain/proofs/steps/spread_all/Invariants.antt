use Rattle.std.proofs.Common.{◌-◌, length, Contains}
use Rattle.denial_explain.specs.Listing.{Listed}
use Rattle.denial_explain.proofs.PassLemmas.{Passed}
use Rattle.denial_explain.proofs.steps.spread_all.Given as goal

abbrev pub invariant-queue : goal.invariant-queue
invariant-queue l =
    Passed (Listed l.neighbours) (Contains l.ends) (length l.neighbours) l.front l.steps l.queue

abbrev pub decreases-queue : goal.decreases-queue
decreases-queue l = length l.neighbours - l.front
