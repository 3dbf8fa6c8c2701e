use Rattle.std.proofs.Common.{◌≡◌, ◌++◌, take}
use Rattle.std.specs.List.{flat_map}
use Rattle.structured_text.specs.declared.name.Name.{Name}
use Rattle.program_text.specs.ProgramText.{drawn_text}
use Rattle.program_text.proofs.step_text.write_draws.Given as goal

abbrev pub invariant-loop-name : goal.invariant-loop-name
invariant-loop-name l =
    l.text
    ≡ l.fn.text
    ++ flat_map (λ (n : Name). drawn_text l.station.switch_paths l.instance l.call n) (take l.name-index l.names)
