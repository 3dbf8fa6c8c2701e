use Rattle.std.proofs.Common.{◌≡◌, ◌++◌, take}
use Rattle.std.specs.List.{flat_map}
use Rattle.structured_text.specs.declared.name.Name.{Name}
use Rattle.program_blocks.specs.Renaming.{outer}
use Rattle.program_text.specs.Unblocked.{unless_release}
use Rattle.program_text.proofs.variables.add_outer.Given as goal

abbrev pub invariant-loop-name : goal.invariant-loop-name
invariant-loop-name l =
    l.variables.items
    ≡ l.fn.variables.items
    ++ flat_map (λ (n : Name). unless_release (outer l.call n)) (take l.name-index l.outputs)
