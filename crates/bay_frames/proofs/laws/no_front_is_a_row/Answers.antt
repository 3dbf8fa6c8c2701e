use Rattle.bay_frames.proofs.Rows.{no_front}
use Rattle.bay_frames.proofs.laws.no_front_is_a_row.Goals as goal

pub returns : goal.returns
returns c f g n hf hg lt = no_front f g n hf hg lt
