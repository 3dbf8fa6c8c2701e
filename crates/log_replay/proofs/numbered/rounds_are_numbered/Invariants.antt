use Rattle.std.proofs.Common.{ℕ, ◌<◌, ◌≡◌, Some, slice_get}
use Rattle.bay_frames.specs.declared.frame.Frame.{Frame}
use Rattle.log_replay.specs.Telling.{Is32Bits}
use Rattle.log_replay.proofs.numbered.rounds_are_numbered.Given as goal

abbrev pub invariant-loop-i : goal.invariant-loop-i
invariant-loop-i l = (k : ℕ) (f : Frame) → k < l.i → slice_get l.frames k ≡ Some f → Is32Bits f.round
