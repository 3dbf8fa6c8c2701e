use Rattle.program_text.specs.Places.{HaveRisen, ReadsAreRead}
use Rattle.program_text.proofs.SettleLemmas.{AreSettled}
use Rattle.program_text.proofs.places.settle.Given as goal

abbrev pub invariant-loop-number : goal.invariant-loop-number
invariant-loop-number l =
    HaveRisen l.fn.places.items l.places.items
    × ReadsAreRead l.terms 0 l.places.items
    × AreSettled l.terms l.number l.places.items
