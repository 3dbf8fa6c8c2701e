use Rattle.std.proofs.Common.{◌≡◌, ◌+◌, ◌-◌, subst, arith}
use Rattle.program_text.specs.Places.{ReadsAreRead}
use Rattle.program_text.proofs.PlaceLemmas.{risen_on}
use Rattle.program_text.proofs.SettleLemmas.{reads_more}
use Rattle.program_text.proofs.places.read_all.Goals as goal

pub loop-number-preserved : goal.loop-number-preserved
loop-number-preserved c =
    let terms = c.args.terms.now in
    let n = c.loop-number.number in
    let old = c.loop-number.places.items in
    let new = c.read_one.new.places.items in
    let test = c.loop-number-test.true in
    let within = c.loop-number.invariant.0 in
    let same : n ≡ (n - 1) + 1 = omega (arith, test) in
    let before : ReadsAreRead terms ((n - 1) + 1) old =
    subst (λ k. ReadsAreRead terms k old) same c.loop-number.invariant.2 in (
      omega (arith, within),
      risen_on c.args.places.now.items old new c.loop-number.invariant.1 c.read_one.ensures.risen,
      reads_more terms (n - 1) old new c.read_one.ensures.risen before c.read_one.ensures.reads c.read_one.ensures.others,
    )
