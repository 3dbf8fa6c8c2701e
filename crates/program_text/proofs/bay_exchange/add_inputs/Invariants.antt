use Rattle.std.proofs.Common.{◌≡◌, ◌++◌, map, take}
use Rattle.structured_text.specs.declared.name.Name.{Name}
use Rattle.program_blocks.specs.Renaming.{outer}
use Rattle.program_text.proofs.bay_exchange.add_inputs.Given as goal

abbrev pub invariant-loop-input : goal.invariant-loop-input
invariant-loop-input l =
    l.names.items ≡ l.fn.names.items ++ map (λ (n : Name). outer l.call n) (take l.input-index l.inputs)
