-- The commands: one constructor, one row of words and one form for each.
use Rattle.std.specs.Prelude.{◌≡◌, ℕ, List, [], ◌∷◌, Option, Some, None, option_and_then, option_map, codes}
use Rattle.std.specs.Prelude.{if◌then◌else◌}
use Rattle.std.specs.List.{list_all}
use Rattle.std.specs.Str.{bytes_eq}
use Rattle.ilk_base.specs.declared.words.Direction.{Direction}
use Rattle.ilk_base.specs.declared.words.Direction.TheVariants.{ToOff, ToOn}
use Rattle.command_words.specs.Rows.{is_plain}
use Rattle.station_make.specs.declared.words.MadeText.{MadeText}
use Rattle.station_make.specs.DrawingText.{station_text}
use Rattle.station_make.specs.EventsText.{events_text}
use Rattle.station_make.specs.PositionsText.{positions_text}
use Rattle.station_make.specs.Words.{feeders_of, made_text, text_named}
use Rattle.interlock_cli.specs.Formats.{Drawing, Elements}
use Rattle.interlock_cli.specs.Form.{Form, Write, Take, File, Word}
use Rattle.interlock_cli.specs.Rests.{IsDoneWith, check_rest, explain_rest, denials_rest, why_rest, state_rest, order_rest}
use Rattle.interlock_cli.specs.Rests.{replay_rest, audit_rest, node_rest, compile_rest, trips_rest, plan_rest}
use Rattle.interlock_cli.specs.Rests.{program_rest, bay_program_rest, work_rest, compare_rest, tests_rest, station_tests_rest}
use Rattle.interlock_cli.specs.StationWrites.{StationWrites}

-- What the words may name.
pub data Command : Type 0 where
  -- `check STATION POSITIONS`
  Check : List ℕ → List ℕ → Command
  -- `explain STATION POSITIONS open SWITCH`, or `close`
  Explain : List ℕ → List ℕ → Direction → List ℕ → Command
  -- `explain STATION POSITIONS`
  Denials : List ℕ → List ℕ → Command
  -- `state STATION POSITIONS`
  State : List ℕ → List ℕ → Command
  -- `order STATION POSITIONS ORDER`
  Order : List ℕ → List ℕ → List ℕ → Command
  -- `replay STATION LOG`
  Replay : List ℕ → List ℕ → Command
  -- `audit STATION EQUATIONS`
  Audit : List ℕ → List ℕ → Command
  -- `node STATION BAY`
  Node : List ℕ → List ℕ → Command
  -- `compile STATION`
  Compile : List ℕ → Command
  -- `trips STATION LOG`
  Trips : List ℕ → List ℕ → Command
  -- `plan STATION`
  Plan : List ℕ → Command
  -- `program STATION`
  Program : List ℕ → Command
  -- `program STATION BAY`
  BayProgram : List ℕ → List ℕ → Command
  -- `make NUMBER station`, or `positions`, or `log`
  Make : ℕ → MadeText → Command
  -- `work NUMBER`
  Work : ℕ → Command
  -- `station STATION`
  Station : List ℕ → Command
  -- `compare OLD NEW`
  Compare : List ℕ → List ℕ → Command
  -- `tests STATION BAY`
  Tests : List ℕ → List ℕ → Command
  -- `why STATION POSITIONS open SWITCH`, or `close`
  Why : List ℕ → List ℕ → Direction → List ℕ → Command
  -- `tests STATION`
  StationTests : List ℕ → Command

-- The direction that a word names.
abbrev pub direction_of : List ℕ → Option Direction
direction_of word =
    if bytes_eq word (codes "open") then Some ToOff else (if bytes_eq word (codes "close") then Some ToOn else None)

-- One word, and what it names; and two, three or four.
abbrev pub one_word : (List ℕ → Option Command) → List (List ℕ) → Option Command
one_word names (a ∷ []) = names a
one_word names _ = None

-- One word or two, and what they name.
abbrev pub one_or_two_words : (List ℕ → Option Command) → (List ℕ → List ℕ → Option Command) → List (List ℕ) →
    Option Command
one_or_two_words one two (a ∷ []) = one a
one_or_two_words one two (a ∷ b ∷ []) = two a b
one_or_two_words one two _ = None

-- Two words or four, and what they name.
abbrev pub two_or_four_words : (List ℕ → List ℕ → Option Command) →
    (List ℕ → List ℕ → List ℕ → List ℕ → Option Command) → List (List ℕ) → Option Command
two_or_four_words two four (a ∷ b ∷ []) = two a b
two_or_four_words two four (a ∷ b ∷ c ∷ d ∷ []) = four a b c d
two_or_four_words two four _ = None

-- Two words, and what they name.
abbrev pub two_words : (List ℕ → List ℕ → Option Command) → List (List ℕ) → Option Command
two_words names (a ∷ b ∷ []) = names a b
two_words names _ = None

-- Three words, and what they name.
abbrev pub three_words : (List ℕ → List ℕ → List ℕ → Option Command) → List (List ℕ) → Option Command
three_words names (a ∷ b ∷ c ∷ []) = names a b c
three_words names _ = None

-- Four words, and what they name.
abbrev pub four_words : (List ℕ → List ℕ → List ℕ → List ℕ → Option Command) → List (List ℕ) → Option Command
four_words names (a ∷ b ∷ c ∷ d ∷ []) = names a b c d
four_words names _ = None

-- The words behind the name of each command.
abbrev pub check_of : List (List ℕ) → Option Command
check_of = two_words (λ station positions. Some (Check station positions))

-- The words behind `explain`.
abbrev pub explain_of : List (List ℕ) → Option Command
explain_of =
    two_or_four_words (λ station positions. Some (Denials station positions))
    (λ station positions direction switch. option_map (λ d. Explain station positions d switch)
    (direction_of direction))

-- The words behind `state`.
abbrev pub state_of : List (List ℕ) → Option Command
state_of = two_words (λ station positions. Some (State station positions))

-- The words behind `order`.
abbrev pub order_of : List (List ℕ) → Option Command
order_of = three_words (λ station positions order. Some (Order station positions order))

-- The words behind `replay`.
abbrev pub replay_of : List (List ℕ) → Option Command
replay_of = two_words (λ station log. Some (Replay station log))

-- The words behind `audit`.
abbrev pub audit_of : List (List ℕ) → Option Command
audit_of = two_words (λ station equations. Some (Audit station equations))

-- The words behind `node`.
abbrev pub node_of : List (List ℕ) → Option Command
node_of = two_words (λ station bay. Some (Node station bay))

-- The words behind `compile`.
abbrev pub compile_of : List (List ℕ) → Option Command
compile_of = one_word (λ station. Some (Compile station))

-- The words behind `trips`.
abbrev pub trips_of : List (List ℕ) → Option Command
trips_of = two_words (λ station log. Some (Trips station log))

-- The words behind `plan`.
abbrev pub plan_of : List (List ℕ) → Option Command
plan_of = one_word (λ station. Some (Plan station))

-- The words behind `program`.
abbrev pub program_of : List (List ℕ) → Option Command
program_of = one_or_two_words (λ station. Some (Program station)) (λ station bay. Some (BayProgram station bay))

-- The words behind `make`.
abbrev pub make_of : List (List ℕ) → Option Command
make_of =
    two_words (λ number text. option_and_then (λ n. option_map (λ t. Make n t) (text_named text)) (feeders_of number))

-- The words behind `work`.
abbrev pub work_of : List (List ℕ) → Option Command
work_of = one_word (λ number. option_map (λ n. Work n) (feeders_of number))

-- The words behind `station`.
abbrev pub station_of : List (List ℕ) → Option Command
station_of = one_word (λ station. Some (Station station))

-- The words behind `compare`.
abbrev pub compare_of : List (List ℕ) → Option Command
compare_of = two_words (λ old new. Some (Compare old new))

-- The words behind `tests`.
abbrev pub tests_of : List (List ℕ) → Option Command
tests_of = one_or_two_words (λ station. Some (StationTests station)) (λ station bay. Some (Tests station bay))

-- The words behind `why`.
abbrev pub why_of : List (List ℕ) → Option Command
why_of =
    four_words (λ station positions direction switch. option_map (λ d. Why station positions d switch)
    (direction_of direction))

-- What the words name, the command's name first.
abbrev pub named_command : List (List ℕ) → Option Command
named_command [] = None
named_command (name ∷ rest) =
    if bytes_eq name (codes "check") then check_of rest
    else if bytes_eq name (codes "explain") then explain_of rest
    else if bytes_eq name (codes "state") then state_of rest
    else if bytes_eq name (codes "order") then order_of rest
    else if bytes_eq name (codes "replay") then replay_of rest
    else if bytes_eq name (codes "audit") then audit_of rest
    else if bytes_eq name (codes "node") then node_of rest
    else if bytes_eq name (codes "make") then make_of rest
    else if bytes_eq name (codes "compile") then compile_of rest
    else if bytes_eq name (codes "trips") then trips_of rest
    else if bytes_eq name (codes "plan") then plan_of rest
    else if bytes_eq name (codes "program") then program_of rest
    else if bytes_eq name (codes "work") then work_of rest
    else if bytes_eq name (codes "station") then station_of rest
    else if bytes_eq name (codes "compare") then compare_of rest
    else if bytes_eq name (codes "tests") then tests_of rest
    else if bytes_eq name (codes "why") then why_of rest
    else None

-- What the words name, where no word is empty or begins with `-`.
abbrev pub command_of : List (List ℕ) → Option Command
command_of words = if list_all is_plain words then named_command words else None

-- The files that the words name, in their order.
abbrev pub files_of : Command → List (List ℕ)
files_of (Check station positions) = station ∷ positions ∷ []
files_of (Explain station positions direction switch) = station ∷ positions ∷ []
files_of (Denials station positions) = station ∷ positions ∷ []
files_of (State station positions) = station ∷ positions ∷ []
files_of (Order station positions order) = station ∷ positions ∷ order ∷ []
files_of (Replay station log) = station ∷ log ∷ []
files_of (Audit station equations) = station ∷ equations ∷ []
files_of (Node station bay) = station ∷ []
files_of (Compile station) = station ∷ []
files_of (Trips station log) = station ∷ log ∷ []
files_of (Plan station) = station ∷ []
files_of (Program station) = station ∷ []
files_of (BayProgram station bay) = station ∷ []
files_of (Make number text) = []
files_of (Work number) = []
files_of (Station station) = station ∷ []
files_of (Compare old new) = old ∷ new ∷ []
files_of (Tests station bay) = station ∷ []
files_of (Why station positions direction switch) = station ∷ positions ∷ []
files_of (StationTests station) = station ∷ []

-- The files of the command that the words name, if they name one.
abbrev pub files_named : Option Command → List (List ℕ)
files_named None = []
files_named (Some command) = files_of command

-- What each command is given, in the order in which it is judged, and what it writes: for most the drawing of a file,
-- and then the rest.
abbrev pub form_of : Command → Form
form_of (Check station positions) = Take (File station) Drawing (check_rest positions)
form_of (Explain station positions direction switch) =
    Take (File station) Drawing (explain_rest positions direction switch)
form_of (Denials station positions) = Take (File station) Drawing (denials_rest positions)
form_of (State station positions) = Take (File station) Drawing (state_rest positions)
form_of (Order station positions order) = Take (File station) Drawing (order_rest positions order)
form_of (Replay station log) = Take (File station) Drawing (replay_rest log)
form_of (Audit station equations) = Take (File station) Drawing (audit_rest equations)
form_of (Node station bay) = Take (File station) Drawing (node_rest bay)
form_of (Compile station) = Take (File station) Drawing compile_rest
form_of (Trips station log) = Take (File station) Drawing (trips_rest log)
form_of (Plan station) = Take (File station) Drawing plan_rest
form_of (Program station) = Take (File station) Drawing program_rest
form_of (BayProgram station bay) = Take (File station) Drawing (bay_program_rest bay)
form_of (Make number text) = Write (IsDoneWith (λ written. written ≡ made_text text number))
form_of (Work number) =
    Take (Word (station_text number)) Drawing (work_rest (positions_text number) (events_text number))
form_of (Station station) = Take (File station) Elements (λ all. Write (StationWrites all))
form_of (Compare old new) = Take (File old) Drawing (compare_rest new)
form_of (Tests station bay) = Take (File station) Drawing (tests_rest bay)
form_of (Why station positions direction switch) =
    Take (File station) Drawing (why_rest positions direction switch)
form_of (StationTests station) = Take (File station) Drawing station_tests_rest
