use Rattle.program_text.proofs.VariableLemmas.{none_read, some_read, when_done}
use Rattle.program_text.proofs.bay_exchange.add_call_reads.Goals as goal

pub returns-in-None : goal.returns-in-None
returns-in-None c =
    let lookup = c.in-None.ensures.lookup in
    none_read c.args.blocks.now c.args.call.now c.args.names.now.items lookup.0

pub returns-in-Some : goal.returns-in-Some
returns-in-Some c =
    let lookup = c.in-Some.ensures.lookup in
    when_done c.add_inputs.result _ _
    (some_read c.args.blocks.now c.args.call.now c.in-Some.block.now c.deref.result.now c.args.names.now.items
    c.add_inputs.new.names.items lookup.0 lookup.1 c.deref.ensures.value) c.add_inputs.ensures
