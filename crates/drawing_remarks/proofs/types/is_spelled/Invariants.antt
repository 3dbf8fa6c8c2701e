use Rattle.std.proofs.Common.{◌≡◌, take}
use Rattle.std.specs.List.{list_any}
use Rattle.drawing_remarks.specs.Types.{same_letters}
use Rattle.drawing_remarks.proofs.types.is_spelled.Given as goal

abbrev pub invariant-loop-other : goal.invariant-loop-other
invariant-loop-other l = l.found ≡ list_any (λ w. same_letters l.word w.now) (take l.other-index l.words)
