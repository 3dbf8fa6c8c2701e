use Rattle.std.proofs.Common.{◌∙◌, ◌++◌, ◌∷◌, [], ap, get_or, refl}
use Rattle.structured_text.specs.declared.name.Name.{Name}
use Rattle.structured_text.specs.declared.name.Name.TheVariants.{Off}
use Rattle.program_blocks.specs.Renaming.{outer}
use Rattle.program_text.proofs.AddedLemmas.{one_on, one_done}
use Rattle.program_text.proofs.bay_exchange.add_inputs.Goals as goal

abbrev none : Name
none = Off (record { 0 = 0 })

pub loop-input-preserved : goal.loop-input-preserved
loop-input-preserved c =
    let inputs = c.args.inputs.now in
    let i = c.loop-input.input-index in
    let old = c.loop-input.names.items in
    one_on (λ (n : Name). outer c.args.call.now n) inputs i (get_or inputs i none) none c.args.names.now.items old _
    c.loop-input-test.true refl c.loop-input.invariant
    (c.in_ok-push.ensures.items ∙ ap (λ (n : Name). old ++ n ∷ []) c.outer.ensures)

pub returns : goal.returns
returns c =
    one_done (λ (n : Name). outer c.args.call.now n) c.args.inputs.now c.loop-input.input-index c.args.names.now.items
    c.loop-input.names.items c.loop-input-test.false c.loop-input.invariant
