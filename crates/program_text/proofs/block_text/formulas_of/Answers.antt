use Rattle.std.proofs.Common.{[], get_or, refl}
use Rattle.structured_text.specs.declared.name.Name.{Name}
use Rattle.structured_text.specs.declared.name.Name.TheVariants.{Off}
use Rattle.program_text.specs.ProgramText.{if_formula}
use Rattle.program_text.proofs.AddedLemmas.{lists_on, lists_done}
use Rattle.program_text.proofs.block_text.formulas_of.Goals as goal

abbrev none : Name
none = Off (record { 0 = 0 })

pub loop-name-preserved : goal.loop-name-preserved
loop-name-preserved c =
    let names = c.args.names.now in
    let i = c.loop-name.name-index in
    lists_on (λ (n : Name). if_formula n) names i (get_or names i none) none [] c.loop-name.found.items _
    c.loop-name-test.true refl c.loop-name.invariant c.in_ok-add_formula.ensures

pub returns : goal.returns
returns c =
    lists_done (λ (n : Name). if_formula n) c.args.names.now c.loop-name.name-index [] c.loop-name.found.items
    c.loop-name-test.false c.loop-name.invariant
