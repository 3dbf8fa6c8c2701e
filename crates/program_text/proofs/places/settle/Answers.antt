use Rattle.std.proofs.Common.{◌∙◌, arith}
use Rattle.program_text.proofs.PlaceLemmas.{risen_on}
use Rattle.program_text.proofs.SettleLemmas.{reads_stay, settled_more, all_placed}
use Rattle.program_text.proofs.places.settle.Goals as goal

pub loop-number-preserved : goal.loop-number-preserved
loop-number-preserved c =
    let terms = c.args.terms.now in
    let old = c.loop-number.places.items in
    let new = c.settle_one.new.places.items in
    let risen = c.settle_one.ensures.risen in
    let same = c.settle_one.ensures.same in (
      risen_on c.args.places.now.items old new c.loop-number.invariant.0 risen,
      reads_stay terms old new risen same c.loop-number.invariant.1,
      settled_more terms old new risen same c.loop-number.number c.get-term.result c.get-term.ensures.value
          c.loop-number.invariant.2 c.settle_one.ensures.others c.settle_one.ensures.settled,
    )

pub returns-clause-placed : goal.returns-clause-placed
returns-clause-placed c =
    let test = c.loop-number-test.false in
    let count = c.len-number-end.ensures.count in
    all_placed c.args.terms.now c.loop-number.number c.loop-number.places.items (omega (arith, test, count))
    (c.loop-number.invariant.0.len ∙ c.requires.len) c.loop-number.invariant.1 c.loop-number.invariant.2
