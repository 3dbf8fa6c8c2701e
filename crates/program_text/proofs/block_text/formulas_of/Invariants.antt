use Rattle.std.proofs.Common.{◌≡◌, take}
use Rattle.std.specs.List.{flat_map}
use Rattle.structured_text.specs.declared.name.Name.{Name}
use Rattle.program_text.specs.ProgramText.{if_formula}
use Rattle.program_text.proofs.block_text.formulas_of.Given as goal

abbrev pub invariant-loop-name : goal.invariant-loop-name
invariant-loop-name l = l.found.items ≡ flat_map (λ (n : Name). if_formula n) (take l.name-index l.names)
