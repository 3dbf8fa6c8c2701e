-- What the lines of an interlocking release.
use Rattle.std.specs.Prelude.{◌≡◌, ◌≢◌, ◌↔◌, ◌⊎◌, ◌<◌, ℕ, Bool, true, false, List, length, slice_get, Some, None}
use Rattle.ilk_base.specs.declared.words.Dbpos.{Dbpos}
use Rattle.ilk_base.specs.declared.words.Dbpos.TheVariants.{Intermediate, Off, On, Bad}
use Rattle.ilk_base.specs.declared.words.Direction.{Direction}
use Rattle.ilk_base.specs.declared.words.Direction.TheVariants.{ToOff, ToOn}
use Rattle.ilk_base.specs.declared.words.Kind.TheVariants.{Disconnector}
use Rattle.ilk_base.specs.declared.words.SwitchId.{SwitchId}
use Rattle.ilk_base.specs.declared.words.Op.{Op}
use Rattle.ilk_base.specs.declared.words.Rule.TheVariants.{R1, R2}
use Rattle.station_graph.specs.declared.items.Switch.{Switch}
use Rattle.station_graph.specs.Diagram.{Diagram}
use Rattle.station_graph.specs.Alike.{IsVector}
use Rattle.station_graph.specs.CentralRules.{Breaks, Applies, Moves}
use Rattle.double_points.specs.Words.{Agrees}
use Rattle.structured_text.specs.declared.name.Name.{Name}
use Rattle.structured_text.specs.declared.name.Name.TheVariants.{Off as OffOf, On as OnOf, Opens, Closes}
use Rattle.structured_text.specs.declared.line.Line.{Line}
use Rattle.structured_text.specs.Meaning.{Store}
use Rattle.structured_text.specs.Order.{IsSetIn}

-- The word that the contacts of the open and of the closed position show: both or neither made say nothing.
abbrev pub shown_by : Bool → Bool → Dbpos
shown_by true false = Off
shown_by false true = On
shown_by true true = Bad
shown_by false false = Intermediate

-- The word that the inputs of a switch show.
abbrev pub word_in : Store → ℕ → Dbpos
word_in s i = shown_by (s (OffOf (record { 0 = i }))) (s (OnOf (record { 0 = i })))

-- The vector is a reading of the inputs: each switch agrees with the word that its contacts show.
pub record IsReadingOf (d : Diagram) (s : Store) (v : List Bool) : Type 0 where
  pub vector : IsVector d v
  pub agrees : (i : ℕ) (closed : Bool) → slice_get v i ≡ Some closed → Agrees (word_in s i) closed

-- Each switch is known to be off or on.
abbrev pub AreKnown : Diagram → Store → Type 0
AreKnown d s = (i : ℕ) → i < length d.switches → (word_in s i ≡ Off) ⊎ (word_in s i ≡ On)

-- The variable that releases an operation.
abbrev pub towards : SwitchId → Direction → Name
towards i ToOff = Opens i
towards i ToOn = Closes i

abbrev pub release_name : Op → Name
release_name op = towards op.switch op.direction

-- The lines set each release.
abbrev pub SetsReleases : Diagram → List Line → Type 0
SetsReleases d lines = (op : Op) (x : Switch) → Moves d op x → IsSetIn lines (release_name op)

-- What sets variables from those that are given is an interlocking of the station. Safe: whatever the inputs show, what is
-- released breaks no rule in any reading. Exact: where each switch is known to be off or on, what breaks no rule is
-- released, and nothing else. Tight: whatever the inputs show, what is not released breaks, but for disconnectors, rule 1
-- or 2 in some reading.
pub record IsInterlocking (d : Diagram) (run : Store → Store) : Type 0 where
  pub safe : (s : Store) (op : Op) (x : Switch) (v : List Bool) → Moves d op x → IsReadingOf d s v →
      run s (release_name op) ≡ true → Breaks d v op None
  pub exact : (s : Store) (op : Op) (x : Switch) (v : List Bool) → Moves d op x → IsReadingOf d s v → AreKnown d s →
      (run s (release_name op) ≡ true) ↔ Breaks d v op None
  pub tight : (s : Store) (op : Op) (x : Switch) → Moves d op x → x.kind ≢ Disconnector →
      (run s (release_name op) ≡ false)
      ↔ ((v : List Bool) × IsReadingOf d s v × (Applies R1 d v op ⊎ Applies R2 d v op))
