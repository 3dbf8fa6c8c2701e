use Rattle.std.proofs.Common.{◌≤◌, length}
use Rattle.program_text.specs.Places.{HaveRisen, ReadsAreRead}
use Rattle.program_text.proofs.places.read_all.Given as goal

abbrev pub invariant-loop-number : goal.invariant-loop-number
invariant-loop-number l =
    (l.number ≤ length l.terms)
    × HaveRisen l.fn.places.items l.places.items
    × ReadsAreRead l.terms l.number l.places.items

abbrev pub decreases-loop-number : goal.decreases-loop-number
decreases-loop-number l = l.number
