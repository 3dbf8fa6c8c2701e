-- The answers in a position, and with one switch moved.
use Rattle.std.specs.Prelude.{◌≡◌, ◌↔◌, IsTrue, ℕ, ◌<◌, Bool, List, Option, Some, length, slice_get}
use Rattle.ilk_base.specs.declared.words.Op.{Op}
use Rattle.ilk_base.specs.declared.words.Rule.{Rule}
use Rattle.station_graph.specs.Diagram.{Diagram}
use Rattle.station_graph.specs.Alike.{IsVector}
use Rattle.station_graph.specs.Supply.{Apart}
use Rattle.station_graph.specs.CentralRules.{Breaks}
use Rattle.dependence_search.specs.Turning.{moved}
use Rattle.dependence_search.specs.RuleWalks.{OneIsNone}
use Rattle.commissioning_tests.specs.declared.values.TestMove.{TestMove}
use Rattle.commissioning_tests.specs.declared.values.TestPosition.{TestPosition}

-- For each operation the rule that it breaks in the vector.
pub record AreAnswers (d : Diagram) (ops : List Op) (v : List Bool) (answers : List (Option Rule)) : Type 0 where
  pub len : length answers ≡ length ops
  pub each : (k : ℕ) (op : Op) (a : Option Rule) → slice_get ops k ≡ Some op → slice_get answers k ≡ Some a →
      Breaks d v op a

-- Of the answers of operation k one is none.
pub record TurnsAt (k : ℕ) (answers others : List (Option Rule)) : Type 0 where
  pub one : Option Rule
  pub other : Option Rule
  pub one_at : slice_get answers k ≡ Some one
  pub other_at : slice_get others k ≡ Some other
  pub turned : OneIsNone one other

-- The move from a vector with these answers is of a switch of the station, says what the operations break with it moved
-- and whether that is sound, and turns one of them.
pub record IsMove (d : Diagram) (ops : List Op) (v : List Bool) (answers : List (Option Rule)) (m : TestMove) : Type 0 where
  pub within : m.switch.0 < length d.switches
  pub answers_are : AreAnswers d ops (moved m.switch.0 v) m.answers.items
  pub sound : IsTrue m.sound ↔ Apart d (moved m.switch.0 v)
  pub number : ℕ
  pub turns : TurnsAt number answers m.answers.items

-- The switches of the moves rise.
abbrev pub AreRising : List TestMove → Type 0
AreRising moves = (i j : ℕ) (m n : TestMove) → slice_get moves i ≡ Some m → slice_get moves j ≡ Some n → i < j →
    m.switch.0 < n.switch.0

-- The position is one of all switches, says what the operations break in it and whether it is sound, and so do its moves,
-- whose switches rise.
pub record IsPosition (d : Diagram) (ops : List Op) (p : TestPosition) : Type 0 where
  pub vector : IsVector d p.closed.items
  pub answers : AreAnswers d ops p.closed.items p.answers.items
  pub sound : IsTrue p.sound ↔ Apart d p.closed.items
  pub moves : (j : ℕ) (m : TestMove) → slice_get p.moves.items j ≡ Some m →
      IsMove d ops p.closed.items p.answers.items m
  pub rising : AreRising p.moves.items

-- So are all of them.
abbrev pub ArePositions : Diagram → List Op → List TestPosition → Type 0
ArePositions d ops ps = (i : ℕ) (p : TestPosition) → slice_get ps i ≡ Some p → IsPosition d ops p
