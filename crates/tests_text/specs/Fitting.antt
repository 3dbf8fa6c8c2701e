-- Tests that can be written of a station: each switch is one of it, and each operation has an answer.
use Rattle.std.specs.Prelude.{◌≡◌, ◌<◌, List, length, All}
use Rattle.ilk_base.specs.declared.words.Op.{Op}
use Rattle.ilk_base.specs.declared.words.BayId.{BayId}
use Rattle.ilk_base.specs.declared.words.SwitchId.{SwitchId}
use Rattle.station_graph.specs.Diagram.{Diagram, part_count}
use Rattle.station_graph.specs.CentralRules.{IsOperation}
use Rattle.station_graph.specs.Alike.{IsVector}
use Rattle.commissioning_tests.specs.declared.values.TestMove.{TestMove}
use Rattle.commissioning_tests.specs.declared.values.TestPosition.{TestPosition}
use Rattle.commissioning_tests.specs.declared.values.BayTests.{BayTests}
use Rattle.commissioning_tests.specs.declared.values.SharedTests.{SharedTests}

-- The move is of a switch of the station, and has an answer for each operation.
pub record MoveFits (d : Diagram) (ops : List Op) (m : TestMove) : Type 0 where
  pub switch : m.switch.0 < length d.switches
  pub answers : length m.answers.items ≡ length ops

-- The position is one of all switches, and has an answer for each operation; and so have its moves.
pub record PositionFits (d : Diagram) (ops : List Op) (p : TestPosition) : Type 0 where
  pub vector : IsVector d p.closed.items
  pub answers : length p.answers.items ≡ length ops
  pub moves : All (MoveFits d ops) p.moves.items

-- What the tests name is of the station, and each position fits.
pub record TestsFit (d : Diagram) (t : BayTests) : Type 0 where
  pub operations : All (IsOperation d) t.operations.items
  pub always : All (IsOperation d) t.always.items
  pub needs : All (λ (s : SwitchId). s.0 < length d.switches) t.needs.items
  pub positions : All (PositionFits d t.operations.items) t.positions.items

-- The bays are ones of the station, and the tests fit.
pub record SharedFit (d : Diagram) (s : SharedTests) : Type 0 where
  pub bay : s.bay.0 < part_count d
  pub like : All (λ (b : BayId). b.0 < part_count d) s.like.items
  pub tests : TestsFit d s.tests
