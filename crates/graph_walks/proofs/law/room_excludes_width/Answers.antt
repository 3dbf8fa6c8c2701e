use Rattle.graph_walks.proofs.RoomLemmas.{room_is_told}
use Rattle.graph_walks.proofs.law.room_excludes_width.Goals as goal

pub returns : goal.returns
returns c g h k l p q r s n budget one two three four room wide =
    room_is_told n budget g h k l p q r s one two three four room wide
