use Rattle.std.proofs.Common.{◌≡◌, fold, take}
use Rattle.number_hash.specs.Mixing.{mixed}
use Rattle.number_hash.proofs.hasher.after_each.Given as goal

abbrev pub invariant-loop-byte : goal.invariant-loop-byte
invariant-loop-byte l = l.now ≡ fold mixed l.fn.state (take l.byte-index l.bytes)
