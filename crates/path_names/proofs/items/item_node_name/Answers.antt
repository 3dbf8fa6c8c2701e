use Rattle.std.proofs.Common.{◌+◌, ap}
use Rattle.path_names.proofs.Places.{item_node_place}
use Rattle.path_names.proofs.items.item_node_name.Goals as goal

pub returns : goal.returns
returns c =
    item_node_place c.args.station.now c.switch_count.ensures.station _ c.args.node.0
    (ap (λ k. k + c.args.node.0) c.switch_count.ensures.count)
