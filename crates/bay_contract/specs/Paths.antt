-- Positions that agree with the words, and where they lead. A number is that of a step, or the number of
-- steps and an index.
use Rattle.std.specs.Prelude.{◌≡◌, ℕ, ◌+◌, ◌*◌, ◌^◌, ◌<◌, ◌≤◌, ◌⊎◌, Bool, true, List, Option, Some, length, slice_get}
use Rattle.ilk_base.specs.declared.words.Dbpos.{Dbpos}
use Rattle.station_graph.specs.Connection.{Linked}
use Rattle.double_points.specs.Words.{Agrees}
use Rattle.part_alphabets.specs.declared.fork.Fork.{Fork}
use Rattle.part_alphabets.specs.Layers.{digit, bits}
use Rattle.part_alphabets.specs.Diagrams.{branch, ForkGoes, ForksLeadTo}
use Rattle.part_alphabets.specs.PartAlphabets.{PartAlphabet}

-- At this number so many switches of the part are tested: at a step those before its own, at an index
-- all.
pub record AreTested (x : PartAlphabet) (number tested : ℕ) : Type 0 where
  pub step : (f : Fork) → slice_get x.forks number ≡ Some f → f.switch.0 ≡ x.first + tested
  pub index : length x.forks ≤ number → tested ≡ x.count

-- The vector stands at the position in the first so many switches of the part.
pub record BeginsSo (x : PartAlphabet) (tested position : ℕ) (v : List Bool) : Type 0 where
  pub whole : length v ≡ x.switches
  pub stands : bits x.first tested v ≡ position

-- The first so many switches of the part agree with their words.
abbrev pub TestedAgree : PartAlphabet → List Dbpos → ℕ → List Bool → Type 0
TestedAgree x words tested v =
    (k : ℕ) (word : Dbpos) (closed : Bool) → k < tested → slice_get words (x.first + k) ≡ Some word
    → slice_get v (x.first + k) ≡ Some closed → Agrees word closed

-- The position of the switches that are tested before this number leads to it, and agrees with the
-- words.
pub record LeadsHere (x : PartAlphabet) (words : List Dbpos) (number position : ℕ) : Type 0 where
  pub tested : ℕ
  pub before : AreTested x number tested
  pub small : position < 2 ^ tested
  pub leads : (v : List Bool) → BeginsSo x tested position v → Linked (ForkGoes x.forks v) 0 number
  pub agrees : (v : List Bool) → BeginsSo x tested position v → TestedAgree x words tested v

-- The step leads to b in a position that agrees with the word of its switch.
pub record MayGo (words : List Dbpos) (fork : Fork) (b : ℕ) (closed : Bool) : Type 0 where
  pub word : Dbpos
  pub told : slice_get words fork.switch.0 ≡ Some word
  pub agrees : Agrees word closed
  pub to : branch fork closed ≡ b

-- At this step a position that leads there is noted.
abbrev pub LeadsBack : List (Option ℕ) → ℕ → ℕ → Type 0
LeadsBack paths number position = slice_get paths number ≡ Some (Some position)

-- At this step some position is noted.
abbrev pub HasPath : List (Option ℕ) → ℕ → Type 0
HasPath paths number = (position : ℕ) × LeadsBack paths number position

-- A position was noted at this number where the answer is yes.
pub record NotesOne (answer : Bool) (at position : ℕ) (old new : List (Option ℕ)) : Type 0 where
  pub len : length new ≡ length old
  pub kept : (t : ℕ) → HasPath old t → HasPath new t
  pub added : answer ≡ true → HasPath new at
  pub none_else : (t p : ℕ) → LeadsBack new t p → LeadsBack old t p ⊎ ((answer ≡ true) × (at ≡ t) × (position ≡ p))

-- A position was noted where the step may lead, with one bit more where its switch is closed.
pub record NotesBoth (fork : Fork) (words : List Dbpos) (position bit : ℕ) (old new : List (Option ℕ)) : Type 0 where
  pub len : length new ≡ length old
  pub kept : (t : ℕ) → HasPath old t → HasPath new t
  pub added : (t : ℕ) (closed : Bool) → MayGo words fork t closed → HasPath new t
  pub none_else : (t p : ℕ) → LeadsBack new t p → LeadsBack old t p ⊎ ((closed : Bool) × MayGo words fork t closed
      × (p ≡ position + digit (Some closed) * bit))

-- What is known before a step: each position that is noted leads there and agrees, and from the steps
-- before it is noted wherever they may lead.
pub record PathsTo (x : PartAlphabet) (words : List Dbpos) (at : ℕ) (paths : List (Option ℕ)) : Type 0 where
  pub len : length paths ≡ length x.forks + length x.letters
  pub start : HasPath paths 0
  pub sound : (t p : ℕ) → LeadsBack paths t p → LeadsHere x words t p
  pub done : (a b : ℕ) (f : Fork) (closed : Bool) → a < at → HasPath paths a → slice_get x.forks a ≡ Some f
      → MayGo words f b closed → HasPath paths b

-- Some vector that agrees with the words is led to this index.
pub record MayLead (x : PartAlphabet) (words : List Dbpos) (index : ℕ) : Type 0 where
  pub vector : List Bool
  pub whole : length vector ≡ x.switches
  pub agrees : TestedAgree x words x.count vector
  pub leads : ForksLeadTo x.forks vector index

-- Each vector at the position agrees with the words, and is led to this index.
pub record IsWay (x : PartAlphabet) (words : List Dbpos) (index position : ℕ) : Type 0 where
  pub small : position < 2 ^ x.count
  pub agrees : (v : List Bool) → BeginsSo x x.count position v → TestedAgree x words x.count v
  pub leads : (v : List Bool) → BeginsSo x x.count position v → ForksLeadTo x.forks v index
