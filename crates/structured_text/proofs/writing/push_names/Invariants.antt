use Rattle.std.proofs.Common.{◌≡◌, ◌++◌, drop}
use Rattle.structured_text.specs.Spelling.{more_names, declared_names}
use Rattle.structured_text.proofs.writing.push_names.Given as goal

abbrev pub invariant-loop-i : goal.invariant-loop-i
invariant-loop-i l =
    l.text ++ more_names l.station.switch_paths l.end l.i (drop l.i l.names)
    ≡ l.fn.text ++ declared_names l.station.switch_paths l.end l.names
