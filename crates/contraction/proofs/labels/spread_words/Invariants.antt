use Rattle.std.proofs.Common.{◌≡◌, ◌*◌, length, take, map, slice_index}
use Rattle.contraction.specs.Rows.{words}
use Rattle.contraction.proofs.labels.spread_words.Given as goal

abbrev pub invariant-loop-k : goal.invariant-loop-k
invariant-loop-k l =
    (length l.row ≡ length l.initial.row)
    × (take (2 * l.k) l.row ≡ words (map (λ p. slice_index l.firsts (slice_index l.labels p)) (take l.k l.places)))
