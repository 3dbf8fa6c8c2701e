use Rattle.program_text.proofs.VariableLemmas.{none_set, some_set, when_done}
use Rattle.program_text.proofs.variables.add_call.Goals as goal

pub returns-in-None : goal.returns-in-None
returns-in-None c =
    let lookup = c.in-None.ensures.lookup in
    none_set c.args.blocks.now c.args.call.now c.args.variables.now.items lookup.0

pub returns-in-Some : goal.returns-in-Some
returns-in-Some c =
    let lookup = c.in-Some.ensures.lookup in
    when_done c.add_outer.result _ _
    (some_set c.args.blocks.now c.args.call.now c.in-Some.block.now c.deref.result.now c.args.variables.now.items
    c.add_outer.new.variables.items lookup.0 lookup.1 c.deref.ensures.value) c.add_outer.ensures
