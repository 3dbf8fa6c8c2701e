use Rattle.std.proofs.Common.{◌≡◌, ◌<◌, ◌≤◌, ℕ, slice_get, Some}
use Rattle.structured_text.specs.declared.name.Name.{Name}
use Rattle.program_text.specs.declared.section_order.TheConstants.{LAST}
use Rattle.program_text.specs.Sections.{key_in}
use Rattle.program_text.proofs.section_keys.key_behind.Given as goal

abbrev pub invariant-loop-name : goal.invariant-loop-name
invariant-loop-name l =
    (l.key ≤ LAST)
    × ((k : ℕ) (m : Name) → k < l.name-index → slice_get l.names k ≡ Some m → key_in l.keys m ≤ l.key)
