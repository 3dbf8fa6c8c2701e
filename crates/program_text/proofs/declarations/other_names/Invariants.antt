use Rattle.std.proofs.Common.{◌≡◌, take}
use Rattle.std.specs.List.{flat_map}
use Rattle.structured_text.specs.declared.name.Name.{Name}
use Rattle.program_text.specs.ProgramText.{unless_may}
use Rattle.program_text.proofs.declarations.other_names.Given as goal

abbrev pub invariant-loop-name : goal.invariant-loop-name
invariant-loop-name l = l.found.items ≡ flat_map (λ (n : Name). unless_may n) (take l.name-index l.names)
