-- What a node writes of a step.
use Rattle.std.specs.Prelude.{◌++◌, ℕ, List, [], Option, Some, None, codes}
use Rattle.std.specs.List.{flat_map}
use Rattle.hex.specs.Hex.{encode_lower}
use Rattle.station_graph.specs.Diagram.{Diagram}
use Rattle.bay_frames.specs.declared.frame.Frame.{Frame}
use Rattle.bay_frames.specs.Row.{frame_row}
use Rattle.bay_protocol.specs.declared.values.Kept.{Kept}
use Rattle.bay_protocol.specs.KeptRow.{kept_row}
use Rattle.bay_protocol.specs.OutcomeLines.{outcome_lines}
use Rattle.bay_protocol.specs.declared.values.NodeOutput.{NodeOutput}

-- A line of this head and these bytes in hexadecimal digits of lower case.
abbrev pub bytes_line : List ℕ → List ℕ → List ℕ
bytes_line head bytes = head ++ encode_lower bytes ++ codes "\n"

-- The line `keep HEX` of a record that is to be kept.
abbrev pub keep_line : Option Kept → List ℕ
keep_line None = []
keep_line (Some k) = bytes_line (codes "keep ") (kept_row k)

-- The line `send HEX` of a frame that is to be sent.
abbrev pub send_line : Frame → List ℕ
send_line f = bytes_line (codes "send ") (frame_row f)

-- What a step shows and sends: the lines of the outcome, then those of the frames.
abbrev pub shown_text : Diagram → NodeOutput → List ℕ
shown_text d output = outcome_lines [] d output.outcome ++ flat_map send_line output.frames

-- What a node writes of a step: its record where it changed, and what it shows and sends.
abbrev pub output_text : Diagram → NodeOutput → List ℕ
output_text d output = keep_line output.keep ++ shown_text d output
