use Rattle.std.proofs.Common.{◌≡◌, ◌++◌, map, take}
use Rattle.structured_text.specs.declared.name.Name.{Name}
use Rattle.program_blocks.specs.Renaming.{outer}
use Rattle.program_blocks.proofs.wiring.add_outputs.Given as goal

abbrev pub invariant-loop-name : goal.invariant-loop-name
invariant-loop-name l = l.known.items ≡ l.fn.known.items ++ map (λ (n : Name). outer l.call n) (take l.name-index l.outputs)
