use Rattle.std.proofs.Common.{◌≡◌, ◌<◌, ◌≤◌, ℕ, List, [], ◌∷◌, length, get_or, Some, None, refl, arith}
use Rattle.std.specs.List.{slice_get}
use Rattle.drawing_remarks.proofs.remarks.first_of.Goals as goal

some : (ns : List ℕ) → 1 ≤ length ns → Some (get_or ns 0 0) ≡ slice_get ns 0
some [] h = absurd (omega arith)
some (n ∷ ns) h = refl

none : (ns : List ℕ) → length ns < 1 → None ≡ slice_get ns 0
none [] h = refl
none (n ∷ ns) h = absurd (omega arith)

pub returns-in-len1-up : goal.returns-in-len1-up
returns-in-len1-up c = some c.args.nodes.now c.in-len1-up.len_at_least

pub returns-in-empty : goal.returns-in-empty
returns-in-empty c = none c.args.nodes.now c.in-empty.len_below
