use Rattle.std.proofs.Common.{◌≡◌, ◌+◌, ◌++◌, map, take}
use Rattle.std.specs.Vec.{vec_len, vec_capacity}
use Rattle.reservation_core.specs.World.{kept_beside}
use Rattle.reservation_core.proofs.beside.keep.Given as goal

abbrev pub invariant-loop-frame : goal.invariant-loop-frame
invariant-loop-frame l = record {
  kept : l.beside.items ≡ l.fn.beside.items ++ map (λ f. kept_beside l.fn.copy f.body) (take l.frame-index l.sent);
  len : vec_len l.beside ≡ vec_len l.fn.beside + l.frame-index;
  capacity : vec_capacity l.beside ≡ vec_capacity l.fn.beside;
  fresh : l.frame-index ≡ 0 → l.copy ≡ l.fn.copy;
}
