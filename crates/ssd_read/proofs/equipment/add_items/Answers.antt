use Rattle.std.proofs.Common.{◌<◌, ◌≤◌, length, take, arith, ◌∙◌}
use Rattle.std.specs.List.{flat_map, range_with_len}
use Rattle.station_graph.specs.Diagram.{empty}
use Rattle.ssd_read.specs.Steps.{naming_step, item_steps_at}
use Rattle.ssd_read.proofs.Stepped.{built_then}
use Rattle.ssd_read.proofs.Items.{before_first, item_next, item_refused, items_whole}
use Rattle.ssd_read.proofs.equipment.add_items.Goals as goal

pub loop-i-init : goal.loop-i-init
loop-i-init c = before_first c.args.drawing.now c.args.builder.now

pub add_item-requires-clause-before : goal.add_item-requires-clause-before
add_item-requires-clause-before c =
    built_then empty c.args.builder.now (flat_map naming_step c.args.drawing.now)
    (flat_map (item_steps_at c.args.drawing.now) (take c.loop-i.i (range_with_len 0 (length c.args.drawing.now))))
    c.requires.named ∙ c.loop-i.invariant

pub loop-i-preserved : goal.loop-i-preserved
loop-i-preserved c =
    let inside : c.loop-i.i < length c.args.drawing.now = omega arith in
    item_next c.args.drawing.now c.args.builder.now c.loop-i.builder c.add_item.new.builder c.loop-i.i inside
    c.loop-i.invariant c.in-Ok.ensures

pub returns-in-Err : goal.returns-in-Err
returns-in-Err c =
    let inside : c.loop-i.i < length c.args.drawing.now = omega arith in
    item_refused c.args.drawing.now c.args.builder.now c.loop-i.builder c.loop-i.i c.in-Err.fault inside
    c.requires.named c.loop-i.invariant c.in-Err.ensures

pub returns : goal.returns
returns c =
    let past : length c.args.drawing.now ≤ c.loop-i.i = omega arith in
    items_whole c.args.drawing.now c.args.builder.now c.loop-i.builder c.loop-i.i past c.requires.named
    c.loop-i.invariant
