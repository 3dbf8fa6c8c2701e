use Rattle.bay_frames.specs.Fields.{frame_at}
use Rattle.bay_frames.proofs.Passing.{is_row, is_frame, is_lawful, row_passes}
use Rattle.bay_frames.proofs.laws.passing_bytes_are_rows.Goals as goal

pub returns-clause-passes : goal.returns-clause-passes
returns-clause-passes c f fits lawful = row_passes f fits lawful

pub returns-clause-rows : goal.returns-clause-rows
returns-clause-rows c bytes small e = (frame_at bytes, is_frame bytes small e, is_lawful bytes e, is_row bytes small e)
