-- What the tests of one bay are to another that is like it.
use Rattle.std.specs.Prelude.{◌≡◌, ◌↔◌, ℕ, Bool, List, Option, Some, slice_get}
use Rattle.ilk_base.specs.declared.words.Op.{Op}
use Rattle.ilk_base.specs.declared.words.Rule.{Rule}
use Rattle.station_graph.specs.Diagram.{Diagram, AreSwitchesOf}
use Rattle.station_graph.specs.Alike.{IsVector}
use Rattle.station_graph.specs.CentralRules.{Breaks}
use Rattle.release_dependence.specs.Depends.{DependsOn}
use Rattle.release_dependence.specs.Exchange.{IsExchanged, IsExchangedOp}
use Rattle.dependence_search.specs.Turning.{moved}
use Rattle.commissioning_tests.specs.declared.values.TestMove.{TestMove}
use Rattle.commissioning_tests.specs.declared.values.TestPosition.{TestPosition}
use Rattle.commissioning_tests.specs.declared.values.BayTests.{BayTests}
use Rattle.commissioning_tests.specs.Listed.{operations_from}
use Rattle.commissioning_tests.specs.Covering.{IsAlways, RuleIsShown, TurnIsShownFor}

-- In each vector that is this one with the switches exchanged, the operations have these answers.
abbrev pub AnswerLikewise : Diagram → (ℕ → ℕ) → List Op → List Bool → List (Option Rule) → Type 0
AnswerLikewise d to ops v answers =
    (k : ℕ) (op : Op) (a : Option Rule) (w : List Bool) → slice_get ops k ≡ Some op → slice_get answers k ≡ Some a →
    IsExchanged to v w → Breaks d w op a

-- The tests of the switches from the first on, with all switches exchanged, test the operations of so many switches from
-- the second on: operation k of those is operation k of the tests, of the exchanged switch. Each line is what the rules
-- say in the exchanged vector; for each switch on which an operation depends a move turns it, and for each rule that it
-- can break a position shows it; and what is always released is what is always released there.
pub record TestLikewise (d : Diagram) (to : ℕ → ℕ) (first second count : ℕ) (t : BayTests) : Type 0 where
  pub operations : (k : ℕ) (op other : Op) → slice_get t.operations.items k ≡ Some op →
      slice_get (operations_from second count) k ≡ Some other → IsExchangedOp to op other
  pub positions : (i : ℕ) (p : TestPosition) → slice_get t.positions.items i ≡ Some p →
      AnswerLikewise d to (operations_from second count) p.closed.items p.answers.items
  pub moves : (i j : ℕ) (p : TestPosition) (m : TestMove) → slice_get t.positions.items i ≡ Some p →
      slice_get p.moves.items j ≡ Some m →
      AnswerLikewise d to (operations_from second count) (moved m.switch.0 p.closed.items) m.answers.items
  pub turns : (k s : ℕ) (op : Op) → slice_get (operations_from second count) k ≡ Some op → DependsOn d op (to s) →
      TurnIsShownFor d first count t.positions.items k s
  pub rules : (k : ℕ) (op : Op) (rule : Rule) (v : List Bool) → slice_get (operations_from second count) k ≡ Some op →
      IsVector d v → Breaks d v op (Some rule) → RuleIsShown t.positions.items k rule
  pub always : (k : ℕ) (op other : Op) → slice_get t.operations.items k ≡ Some op →
      slice_get (operations_from second count) k ≡ Some other → IsAlways d op ↔ IsAlways d other

-- The tests of one bay, with its switches exchanged for those of another, are tests of that one.
pub record AreTestsOfLike (d : Diagram) (to : ℕ → ℕ) (other : ℕ) (t : BayTests) : Type 0 where
  pub first : ℕ
  pub second : ℕ
  pub count : ℕ
  pub switches : AreSwitchesOf d other second count
  pub tests : TestLikewise d to first second count t
