use Rattle.std.proofs.Common.{◌≡◌, ◌++◌, take}
use Rattle.std.specs.List.{flat_map}
use Rattle.node_session.specs.StepText.{send_line}
use Rattle.node_session.proofs.text.push_frames.Given as goal

abbrev pub invariant-loop-frame : goal.invariant-loop-frame
invariant-loop-frame l = l.text ≡ l.initial.text ++ flat_map send_line (take l.frame-index l.frames)
