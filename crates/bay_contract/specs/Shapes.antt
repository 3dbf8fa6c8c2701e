-- What holds of every alphabet, whatever station it was made for.
use Rattle.std.specs.Prelude.{◌≡◌, ℕ, ◌+◌, ◌*◌, ◌^◌, ◌<◌, ◌≤◌, length, slice_get, slice_index, Some}
use Rattle.station_graph.specs.declared.limits.TheConstants.{BAY_SWITCHES}
use Rattle.part_alphabets.specs.declared.limits.TheConstants.{CONTRACTIONS, LETTERS}
use Rattle.part_alphabets.specs.Diagrams.{ForksFit, AreStaged}
use Rattle.part_alphabets.specs.PartAlphabets.{PartAlphabet, Alphabets}

-- The alphabet has 1 to `LETTERS` letters, each with an example, and its steps lead on, from the part's first
-- switch to its last.
pub record IsShaped (x : PartAlphabet) : Type 0 where
  pub some : 0 < length x.letters
  pub few : length x.letters ≤ LETTERS
  pub examples : length x.examples ≡ length x.letters
  pub small : (i : ℕ) → i < length x.letters → slice_index x.examples i < 2 ^ x.count
  pub few_switches : x.count ≤ BAY_SWITCHES
  pub within : x.first + x.count ≤ x.switches
  pub numbered : x.switches < 2 ^ 16
  pub few_steps : length x.forks ≤ CONTRACTIONS * BAY_SWITCHES
  pub fit : ForksFit x.switches (length x.letters) x.forks
  pub staged : AreStaged x.first x.count x.forks

-- All alphabets are of one station.
abbrev pub AreUniform : Alphabets → Type 0
AreUniform a = (part : ℕ) (x : PartAlphabet) → slice_get a.parts part ≡ Some x → x.switches ≡ a.switches
