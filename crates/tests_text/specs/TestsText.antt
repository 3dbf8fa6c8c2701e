-- The text of `tests STATION BAY`, and of `tests STATION`.
use Rattle.std.specs.Prelude.{◌≡◌, ◌++◌, ◌||◌, not, ℕ, Bool, false, if◌then◌else◌, List, [], Option, Some, None, slice_index_or}
use Rattle.std.specs.Prelude.{codes, decimal}
use Rattle.std.specs.List.{flat_map, zip, enumerate_from}
use Rattle.ilk_base.specs.declared.words.Op.{Op}
use Rattle.ilk_base.specs.declared.words.Rule.{Rule}
use Rattle.ilk_base.specs.declared.words.BayId.{BayId}
use Rattle.ilk_base.specs.declared.words.SwitchId.{SwitchId}
use Rattle.station_graph.specs.Diagram.{Diagram, switch_path}
use Rattle.central_rules.specs.Names.{rule_name}
use Rattle.denial_explain.specs.ExplanationText.{operation}
use Rattle.commissioning_tests.specs.declared.values.TestMove.{TestMove}
use Rattle.commissioning_tests.specs.declared.values.TestPosition.{TestPosition}
use Rattle.commissioning_tests.specs.declared.values.BayTests.{BayTests}
use Rattle.commissioning_tests.specs.declared.values.SharedTests.{SharedTests}
use Rattle.commissioning_tests.specs.Covering.{AreTestsOf}
use Rattle.commissioning_tests.specs.Refusing.{AreNarrowTests, IsNarrowBay}

-- A line of a word and a path.
abbrev pub path_line : List ℕ → List ℕ → List ℕ
path_line word path = word ++ path ++ codes "\n"

-- `always open PATH` (or `close`) of each of these operations.
abbrev pub always_lines : Diagram → List Op → List ℕ
always_lines d ops = flat_map (λ op. codes "always " ++ operation d op) ops

-- `needs PATH` of each of these switches.
abbrev pub needs_lines : Diagram → List SwitchId → List ℕ
needs_lines d switches = flat_map (λ s. path_line (codes "needs ") (switch_path d s.0)) switches

-- `with PATH` of switch i where it is closed.
abbrev pub with_line : Diagram → ℕ → Bool → List ℕ
with_line d i closed = if closed then path_line (codes "with ") (switch_path d i) else []

-- So of each switch.
abbrev pub with_lines : Diagram → List Bool → List ℕ
with_lines d v = flat_map (λ s. with_line d s.0 s.1) (enumerate_from 0 v)

-- `denied RULE open PATH` (or `close`) where the operation breaks a rule.
abbrev pub denied_line : Diagram → Op → Option Rule → List ℕ
denied_line d op None = []
denied_line d op (Some rule) = codes "denied " ++ rule_name rule ++ codes " " ++ operation d op

-- So of each operation and its answer.
abbrev pub denied_lines : Diagram → List Op → List (Option Rule) → List ℕ
denied_lines d ops answers = flat_map (λ p. denied_line d p.0 p.1) (zip ops answers)

-- What a move turns of an operation: `denied RULE open PATH` where it was released and is not, `released open PATH`
-- where it was not released and is.
abbrev pub turned_line : Diagram → Op → Option Rule → Option Rule → List ℕ
turned_line d op None after = denied_line d op after
turned_line d op (Some rule) None = codes "released " ++ operation d op
turned_line d op (Some rule) (Some other) = []

-- So of each operation, by its answers before and after the move.
abbrev pub turned_lines : Diagram → List Op → List (Option Rule) → List (Option Rule) → List ℕ
turned_lines d ops before after = flat_map (λ p. turned_line d p.0 p.1.0 p.1.1) (zip ops (zip before after))

-- `unsound` where some node is both energisable and earthable.
abbrev pub unsound_line : Bool → List ℕ
unsound_line sound = if sound then [] else codes "unsound\n"

-- `closed PATH` of a switch that is open in the position, `opened PATH` of one that is closed, `unsound` where the move
-- makes a sound position unsound, and what the move turns.
abbrev pub move_lines : Diagram → List Op → TestPosition → TestMove → List ℕ
move_lines d ops p m =
    path_line (if slice_index_or p.closed.items m.switch.0 false then codes "opened " else codes "closed ")
    (switch_path d m.switch.0) ++ unsound_line (m.sound || not p.sound)
    ++ turned_lines d ops p.answers.items m.answers.items

-- `position K`, `unsound` where it is, the closed switches, the operations that break a rule, and the moves.
abbrev pub position_lines : Diagram → List Op → ℕ → TestPosition → List ℕ
position_lines d ops k p =
    codes "position " ++ decimal k ++ codes "\n" ++ unsound_line p.sound ++ with_lines d p.closed.items
    ++ denied_lines d ops p.answers.items ++ flat_map (move_lines d ops p) p.moves.items

-- So of each position, numbered from 1.
abbrev pub positions_lines : Diagram → List Op → List TestPosition → List ℕ
positions_lines d ops positions = flat_map (λ p. position_lines d ops p.0 p.1) (enumerate_from 1 positions)

-- A line of a word and the path of a part.
abbrev pub part_line : Diagram → List ℕ → ℕ → List ℕ
part_line d word part = path_line word (slice_index_or d.part_paths part [])

-- What is always released, what the bay needs, and the positions.
abbrev pub bay_lines : Diagram → BayTests → List ℕ
bay_lines d t =
    always_lines d t.always.items ++ needs_lines d t.needs.items
    ++ positions_lines d t.operations.items t.positions.items

-- The text of one bay: `bay PATH`, and its lines.
abbrev pub tests_lines : Diagram → ℕ → BayTests → List ℕ
tests_lines d bay t = part_line d (codes "bay ") bay ++ bay_lines d t

-- `like PATH` of each of these bays.
abbrev pub like_lines : Diagram → List BayId → List ℕ
like_lines d bays = flat_map (λ b. part_line d (codes "like ") b.0) bays

-- `bay PATH`, the later bays that are like it, and its lines.
abbrev pub shared_lines : Diagram → SharedTests → List ℕ
shared_lines d s = part_line d (codes "bay ") s.bay.0 ++ like_lines d s.like.items ++ bay_lines d s.tests

-- The text of a station: so of each bay that has tests of its own.
abbrev pub station_lines : Diagram → List SharedTests → List ℕ
station_lines d all = flat_map (shared_lines d) all

-- The text is of tests of the bay, and in some order of taking in the walks of its switches are narrow.
pub record IsTestsText (d : Diagram) (bay : ℕ) (text : List ℕ) : Type 0 where
  pub tests : BayTests
  pub are : AreTestsOf d bay tests
  pub narrow : IsNarrowBay d bay
  pub lines : text ≡ tests_lines d bay tests

-- The text is of tests of the station, of which by some orders each bay that has tests of its own is narrow.
pub record IsStationTestsText (d : Diagram) (text : List ℕ) : Type 0 where
  pub tests : List SharedTests
  pub are : AreNarrowTests d tests
  pub lines : text ≡ station_lines d tests
