use Rattle.std.proofs.Common.{◌∙◌, ◌++◌, ap, get_or, refl}
use Rattle.structured_text.specs.declared.name.Name.{Name}
use Rattle.structured_text.specs.declared.name.Name.TheVariants.{Off}
use Rattle.program_blocks.specs.Renaming.{outer}
use Rattle.program_text.specs.Unblocked.{unless_release}
use Rattle.program_text.proofs.AddedLemmas.{lists_on, lists_done}
use Rattle.program_text.proofs.variables.add_outer.Goals as goal

abbrev none : Name
none = Off (record { 0 = 0 })

pub loop-name-preserved : goal.loop-name-preserved
loop-name-preserved c =
    let outputs = c.args.outputs.now in
    let i = c.loop-name.name-index in
    let old = c.loop-name.variables.items in
    lists_on (λ (n : Name). unless_release (outer c.args.call.now n)) outputs i (get_or outputs i none) none
    c.args.variables.now.items old _ c.loop-name-test.true refl c.loop-name.invariant
    (c.in_ok-add_variable.ensures ∙ ap (λ (n : Name). old ++ unless_release n) c.outer.ensures)

pub returns : goal.returns
returns c =
    lists_done (λ (n : Name). unless_release (outer c.args.call.now n)) c.args.outputs.now c.loop-name.name-index
    c.args.variables.now.items c.loop-name.variables.items c.loop-name-test.false c.loop-name.invariant
