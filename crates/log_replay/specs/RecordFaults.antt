-- Why a record is no record of a log: the first test that it fails.
use Rattle.std.specs.Prelude.{◌≡◌, ◌==◌, ◌<◌, ◌≤◌, ⊤, ℕ, Bool, true, List, [], ◌∷◌, length, slice_get, slice_index_or}
use Rattle.std.specs.Prelude.{Some, All, Contains, codes, decimal, if◌then◌else◌}
use Rattle.std.specs.Str.{is_utf8}
use Rattle.ilk_base.specs.declared.words.Dbpos.{Dbpos}
use Rattle.ilk_base.specs.declared.words.Direction.{Direction}
use Rattle.station_graph.specs.Diagram.{Diagram, switches_in, switch_path}
use Rattle.central_rules.specs.Names.{direction_name, position_name, word_name}
use Rattle.reservation_core.specs.declared.values.LogEvent.{LogEvent}
use Rattle.log_replay.specs.Records.{has_step, tell_of}
use Rattle.log_replay.specs.declared.kinds.RecordKind.{RecordKind}
use Rattle.log_replay.specs.declared.kinds.RecordKind.TheVariants.{At, Command, Sense, Begin, End, Deliver, Tick}
use Rattle.log_replay.specs.declared.kinds.RecordKind.TheVariants.{Withdraw, Restart, Part, Cut}
use Rattle.log_replay.specs.declared.numbers.TheConstants.{LAST_MESSAGE, MOST_CUT_BYTES}
use Rattle.log_replay.specs.declared.limits.TheConstants.{MOST_RECORDS}

-- The first field of the records of a kind.
abbrev pub kind_name : RecordKind → List ℕ
kind_name At = codes "at"
kind_name Command = codes "command"
kind_name Sense = codes "sense"
kind_name Begin = codes "begin"
kind_name End = codes "end"
kind_name Deliver = codes "deliver"
kind_name Tick = codes "tick"
kind_name Withdraw = codes "withdraw"
kind_name Restart = codes "restart"
kind_name Part = codes "part"
kind_name Cut = codes "cut"

-- How many fields they have.
abbrev pub field_count : RecordKind → ℕ
field_count At = 3
field_count Command = 3
field_count Sense = 3
field_count Begin = 2
field_count End = 2
field_count Deliver = 2
field_count Tick = 2
field_count Withdraw = 2
field_count Restart = 2
field_count Part = 3
field_count Cut = 2

-- A record of the kind with these fields, of which the second is left out where it has but one.
abbrev pub record_row : RecordKind → List ℕ → List ℕ → List (List ℕ)
record_row k first second = kind_name k ∷ first ∷ (if field_count k == 3 then second ∷ [] else [])

-- The field of a record at a place; empty where there is none.
abbrev pub field : List (List ℕ) → ℕ → List ℕ
field row place = slice_index_or row place []

-- The record is of this kind.
abbrev pub IsOfKind : List (List ℕ) → RecordKind → Type 0
IsOfKind row k = field row 0 ≡ kind_name k

-- It has as many fields as its kind has, and each is UTF-8.
pub record HasForm (k : RecordKind) (row : List (List ℕ)) : Type 0 where
  pub count : length row ≡ field_count k
  pub texts : All (λ text. is_utf8 text ≡ true) row

-- It tells where a switch stands at first, after something has happened.
abbrev pub IsLate : List LogEvent → RecordKind → Type 0
IsLate before At = has_step before ≡ true
IsLate before k = ⊥

-- The path is that of a part with switches.
abbrev pub IsBayPath : Diagram → List ℕ → Type 0
IsBayPath d path = (b : ℕ) × (slice_get d.part_paths b ≡ Some path) × (0 < switches_in d b)

-- The path is that of what the kind speaks of: a switch or a bay, if it speaks of either.
abbrev pub IsKnown : Diagram → RecordKind → List ℕ → Type 0
IsKnown d Deliver path = ⊤
IsKnown d Part path = ⊤
IsKnown d Tick path = IsBayPath d path
IsKnown d Withdraw path = IsBayPath d path
IsKnown d Restart path = IsBayPath d path
IsKnown d k path = Contains d.switch_paths path

-- The last field is a word of the kind, if it ends in one.
abbrev pub IsWord : RecordKind → List ℕ → Type 0
IsWord At text = (closed : Bool) × (text ≡ position_name closed)
IsWord Command text = (direction : Direction) × (text ≡ direction_name direction)
IsWord Sense text = (word : Dbpos) × (text ≡ word_name word)
IsWord k text = ⊤

-- It tells where a switch stands of which that was told before.
abbrev pub IsAgain : Diagram → List LogEvent → RecordKind → List ℕ → Type 0
IsAgain d before At path = (i : ℕ) × (path ≡ switch_path d i) × (i < length d.switches) × (tell_of i before ≡ true)
IsAgain d before k path = ⊥

-- The text is this number, in decimal without sign or leading zeros, and the number is in range.
pub record IsNumber (least most : ℕ) (text : List ℕ) (n : ℕ) : Type 0 where
  pub written : text ≡ decimal n
  pub low : least ≤ n
  pub high : n ≤ most

-- The text is a number in this range.
abbrev pub IsOneOf : ℕ → ℕ → List ℕ → Type 0
IsOneOf least most text = (n : ℕ) × IsNumber least most text n

-- The fields that are to be numbers are.
abbrev pub AreNumbers : RecordKind → List ℕ → List ℕ → Type 0
AreNumbers Deliver first second = IsOneOf 1 LAST_MESSAGE first
AreNumbers Part first second = IsOneOf 1 LAST_MESSAGE first × IsOneOf 0 MOST_CUT_BYTES second
AreNumbers k first second = ⊤

-- The fields of a record of this kind are at fault: its path is unknown (2), its word is none (3), or its
-- numbers are none (8).
pub data FieldFault (d : Diagram) (k : RecordKind) (first second : List ℕ) (number : ℕ) : Type 0 where
  unknown : ¬ IsKnown d k first → number ≡ 2 → FieldFault d k first second number
  no_word : IsKnown d k first → ¬ IsWord k second → number ≡ 3 → FieldFault d k first second number
  no_number : IsKnown d k first → IsWord k second → ¬ AreNumbers k first second → number ≡ 8 →
      FieldFault d k first second number

-- A record of this kind is refused after these events: it has not the form (1), it is late (7), its path is
-- unknown (2), its word is none (3), its switch was told of before (4), or its numbers are none (8).
pub data KindFault (d : Diagram) (before : List LogEvent) (k : RecordKind) (row : List (List ℕ))
    (number : ℕ) : Type 0 where
  no_form : ¬ HasForm k row → number ≡ 1 → KindFault d before k row number
  late : HasForm k row → IsLate before k → number ≡ 7 → KindFault d before k row number
  unknown : HasForm k row → ¬ IsLate before k → ¬ IsKnown d k (field row 1) → number ≡ 2 →
      KindFault d before k row number
  no_word : HasForm k row → ¬ IsLate before k → IsKnown d k (field row 1) → ¬ IsWord k (field row 2) → number ≡ 3 →
      KindFault d before k row number
  again : HasForm k row → ¬ IsLate before k → IsKnown d k (field row 1) → IsWord k (field row 2) →
      IsAgain d before k (field row 1) → number ≡ 4 → KindFault d before k row number
  no_number : HasForm k row → ¬ IsLate before k → IsKnown d k (field row 1) → IsWord k (field row 2) →
      ¬ IsAgain d before k (field row 1) → ¬ AreNumbers k (field row 1) (field row 2) → number ≡ 8 →
      KindFault d before k row number

-- A record is refused after these events: there were too many (9), it is of no kind (6), or it has a fault of
-- its kind.
pub data RecordFault (d : Diagram) (before : List LogEvent) (row : List (List ℕ)) (number : ℕ) : Type 0 where
  too_many : MOST_RECORDS ≤ length before → number ≡ 9 → RecordFault d before row number
  no_kind : length before < MOST_RECORDS → ((k : RecordKind) → ¬ IsOfKind row k) → number ≡ 6 →
      RecordFault d before row number
  of_kind : (k : RecordKind) → length before < MOST_RECORDS → IsOfKind row k → KindFault d before k row number →
      RecordFault d before row number
