use Rattle.std.proofs.Common.{arith, get_or, refl}
use Rattle.std.specs.List.{Contains}
use Rattle.structured_text.specs.declared.name.Name.{Name}
use Rattle.structured_text.specs.declared.name.Name.TheVariants.{Off}
use Rattle.program_text.proofs.CountLemmas.{count_next, count_low}
use Rattle.program_text.proofs.bay_exchange.count_among.Goals as goal

pub loop-name-preserved : goal.loop-name-preserved
loop-name-preserved c =
    let names = c.args.names.now in
    let i = c.loop-name.name-index in
    let none = Off (record { 0 = 0 }) in
    let test = c.loop-name-test.true in
    let one = c.count_one-count.ensures in (
      count_next (λ (n : Name). Contains c.args.others.now n) names i c.loop-name.count c.count_one-count.result
          (get_or names i none) none (omega (arith, test)) refl one c.loop-name.invariant.0,
      count_low _ _ _ _ one c.loop-name.invariant.1,
    )
