use Rattle.std.proofs.Common.{length, refl}
use Rattle.std.proofs.lemmas.Option.{slice_get_read}
use Rattle.station_equations.specs.EquationLines.{PartLines}
use Rattle.station_equations.specs.EquationText.{part_line}
use Rattle.station_equations.proofs.TextLemmas.{line_more}
use Rattle.station_equations.proofs.writing.push_parts.Goals as goal

pub loop-i-preserved : goal.loop-i-preserved
loop-i-preserved c =
    let parts = c.args.parts.now in
    let x = c.index-parts-i.result in
    line_more (λ p (y : PartLines). part_line p y) parts c.loop-i.i x _ _ _
    (slice_get_read parts (length parts) c.loop-i.i x refl c.loop-i-test.true c.index-parts-i.is) c.loop-i.invariant
    c.in_ok-push_part.ensures
