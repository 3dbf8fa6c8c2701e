use Rattle.std.proofs.Common.{length}
use Rattle.std.specs.List.{flat_map, range_with_len}
use Rattle.station_graph.specs.Diagram.{empty}
use Rattle.ssd_read.specs.Steps.{naming_step, item_steps_at}
use Rattle.ssd_read.proofs.Stepped.{first_refused}
use Rattle.ssd_read.proofs.build.add_all.Goals as goal

pub returns-in-Err : goal.returns-in-Err
returns-in-Err c = first_refused empty (flat_map naming_step c.args.drawing.now)
    (flat_map (item_steps_at c.args.drawing.now) (range_with_len 0 (length c.args.drawing.now))) c.in-Err.fault
    c.in-Err.ensures.named
