use Rattle.station_joints.proofs.ChoiceLemmas.{given_choices, one_place}
use Rattle.station_joints.proofs.positions.positions_give_choices.Goals as goal

pub returns-clause-choices : goal.returns-clause-choices
returns-clause-choices c o n ss ts b u v joint within vectors = given_choices o n u v vectors ss ts joint b within

pub returns-clause-shared : goal.returns-clause-shared
returns-clause-shared c = one_place
