use Rattle.std.proofs.Common.{length, sym, ◌∙◌, arith}
use Rattle.ilk_base.specs.declared.words.Dbpos.TheVariants.{Lost}
use Rattle.bay_node.proofs.Places.{all_same, there}
use Rattle.bay_node.proofs.events.forget_all.Goals as goal

pub returns : goal.returns
returns c =
    all_same c.loop-part.words (length c.args.words.now) Lost (c.loop-part.invariant.count ∙ sym c.requires) (λ k low.
    let x = there c.args.station.now.switches k (omega (arith, low, c.requires)) in
    let fits = c.part_count-part-end.ensures.station.items.switches_fit k x.0 x.1 in
    c.loop-part.invariant.done k x.0 x.1
    (omega (arith, fits.part_in, c.part_count-part-end.ensures.count, c.loop-part-test.false)))
