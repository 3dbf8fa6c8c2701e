use Rattle.std.proofs.Common.{◌≡◌, ◌<◌, ◌≤◌, ◌⊎◌, ℕ, length, Some}
use Rattle.std.specs.Prelude.{slice_get}
use Rattle.ilk_base.specs.declared.words.Dbpos.TheVariants.{Lost}
use Rattle.double_points.proofs.readings.lose.Given as goal

abbrev pub invariant-loop-i : goal.invariant-loop-i
invariant-loop-i l = record {
  count : length l.words ≡ length l.initial.words;
  those : (j : ℕ) → l.first ≤ j → j < l.i → slice_get l.words j ≡ Some Lost;
  others : (j : ℕ) → j < l.first ⊎ l.i ≤ j → slice_get l.words j ≡ slice_get l.initial.words j;
}
