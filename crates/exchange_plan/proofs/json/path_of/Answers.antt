use Rattle.std.proofs.Common.{[], sym}
use Rattle.std.proofs.lemmas.Option.{get_or_from_slice_get}
use Rattle.exchange_plan.proofs.json.path_of.Goals as goal

pub returns : goal.returns
returns c =
    sym (get_or_from_slice_get c.args.station.now.part_paths c.args.bay.0 c.part_path.result.now []
    c.part_path.ensures.value)
