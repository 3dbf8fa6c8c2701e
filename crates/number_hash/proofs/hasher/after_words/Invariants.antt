use Rattle.std.proofs.Common.{◌≡◌, ◌/◌, length}
use Rattle.number_hash.specs.Mixing.{mixed_words}
use Rattle.number_hash.proofs.hasher.after_words.Given as goal

abbrev pub invariant-loop-word : goal.invariant-loop-word
invariant-loop-word l = mixed_words (length l.rest / 8) l.now l.rest ≡ mixed_words (length l.bytes / 8) l.fn.state l.bytes

abbrev pub decreases-loop-word : goal.decreases-loop-word
decreases-loop-word l = length l.rest
