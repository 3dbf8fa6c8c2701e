use Rattle.path_names.proofs.Places.{new_switch}
use Rattle.path_names.proofs.numbers.new_switch_name.Goals as goal

pub returns : goal.returns
returns c = new_switch c.args.old.now c.args.new.now c.is_station.ensures c.args.id.0 c.requires
