use Rattle.std.proofs.Common.{◌≡◌, ◌<◌, ℕ, slice_get, Some}
use Rattle.structured_text.specs.declared.name.Name.{Name}
use Rattle.program_text.specs.Places.{HaveRisen, IsSet}
use Rattle.program_text.proofs.reads.set_names.Given as goal

abbrev pub invariant-loop-name : goal.invariant-loop-name
invariant-loop-name l =
    HaveRisen l.fn.places.items l.places.items
    × ((k : ℕ) (m : Name) → k < l.name-index → slice_get l.names k ≡ Some m → IsSet l.reading l.places.items m)
