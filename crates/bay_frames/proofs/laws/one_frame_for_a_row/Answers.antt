use Rattle.bay_frames.proofs.Rows.{one_frame}
use Rattle.bay_frames.proofs.laws.one_frame_for_a_row.Goals as goal

pub returns : goal.returns
returns c f g hf hg e = one_frame f g hf hg e
