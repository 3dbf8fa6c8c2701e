use Rattle.std.proofs.Common.{map, ap, ◌∙◌}
use Rattle.std.proofs.lemmas.List.{take_all}
use Rattle.station_joints.specs.Chosen.{closed_at}
use Rattle.station_joints.proofs.positions.positions.Goals as goal

pub returns : goal.returns
returns c =
    c.loop-i.invariant
    ∙ ap (map (closed_at c.args.moved c.args.choices.now)) (take_all c.loop-i.i c.args.places.now c.loop-i-test.false)
