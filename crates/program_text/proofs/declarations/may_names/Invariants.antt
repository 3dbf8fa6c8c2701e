use Rattle.std.proofs.Common.{◌≡◌, take}
use Rattle.std.specs.List.{flat_map}
use Rattle.structured_text.specs.declared.name.Name.{Name}
use Rattle.program_text.specs.ProgramText.{if_may}
use Rattle.program_text.proofs.declarations.may_names.Given as goal

abbrev pub invariant-loop-name : goal.invariant-loop-name
invariant-loop-name l = l.found.items ≡ flat_map (λ (n : Name). if_may n) (take l.name-index l.names)
