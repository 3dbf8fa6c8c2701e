use Rattle.std.proofs.Common.{◌∙◌, ap, sym, ◌∷◌, ◌++◌, [], List, ◌+◌}
use Rattle.station_make.specs.declared.equipment.Bay.{Bay}
use Rattle.station_make.specs.declared.equipment.Bay.TheVariants.{Feeder}
use Rattle.station_make.proofs.Numbers.{bays-more}
use Rattle.station_make.proofs.equipment.bays.Goals as goal

pub loop-i-preserved : goal.loop-i-preserved
loop-i-preserved c =
    c.in_ok-push.ensures.items ∙ ap (λ (bs : List Bay). bs ++ Feeder (c.loop-i.i + 1) ∷ []) c.loop-i.invariant
    ∙ sym (bays-more c.loop-i.i)
