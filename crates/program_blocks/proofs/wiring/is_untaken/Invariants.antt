use Rattle.std.proofs.Common.{◌≡◌, ◌≢◌, ◌<◌, ℕ, slice_get, Some}
use Rattle.structured_text.specs.declared.name.Name.{Name}
use Rattle.program_blocks.specs.Renaming.{outer}
use Rattle.program_blocks.proofs.wiring.is_untaken.Given as goal

abbrev pub invariant-loop-other : goal.invariant-loop-other
invariant-loop-other l = (k : ℕ) (n : Name) → k < l.other-index → slice_get l.inner k ≡ Some n → outer l.call n ≢ l.name
