-- Bays whose programs stop inside a put of their record, and runs in which that happens.
use Rattle.std.specs.Prelude.{◌≡◌, ℕ, Bool, List, [], ◌∷◌}
use Rattle.ilk_base.specs.declared.words.BayId.{BayId}
use Rattle.station_graph.specs.Diagram.{Diagram}
use Rattle.central_rules.specs.Meaning.{Meaning, IsBay}
use Rattle.bay_protocol.specs.declared.values.Kept.{Kept}
use Rattle.bay_protocol.specs.State.{kept_of, resumed}
use Rattle.node_store.specs.Image.{IsImageOf}
use Rattle.reservation_core.specs.Scene.{Scene, node, at_node}
use Rattle.reservation_core.specs.Start.{IsStart}
use Rattle.reservation_core.specs.Lines.{Line}
use Rattle.reservation_core.specs.Runs.{Leads, nothing_shown}
use Rattle.reservation_core.specs.declared.values.WorldEvent.TheVariants.{Restart}

-- The device of bay b holds this image, which stands for the record that its node has in a scene; the node is made anew
-- of the record that is read from it, and nothing else changes.
pub record ComesBack (d : Diagram) (b : ℕ) (image : List ℕ) (old new : Scene) : Type 0 where
  pub bay : IsBay d b
  pub left : IsImageOf image (kept_of (node d old b))
  pub read : Kept
  pub stands : IsImageOf image read
  pub world : new ≡ at_node old b (resumed d b read)

-- The line of a restart.
abbrev pub restart_line : BayId → Line
restart_line b = record { event = Restart b; shown = nothing_shown }

-- These lines, newest first, stand for what happened from the start to the scene. At any of them a program may stop
-- inside the put of its record. The device then holds an image that stands for the record from before the line or for
-- the one after it, and for no other: so says the clause `crash` of a put. With the old record it is as if the line had
-- not been, and a restart stands in its place. With the new one a restart stands behind the line, and what the line
-- sends is lost: its messages have numbers, and none is ever delivered.
pub data StoppedRun (m : Meaning) (start : List Bool) : List Line → Scene → Type 0 where
  begins : (w : Scene) → IsStart m.diagram start w → StoppedRun m start [] w
  goes_on : (before : List Line) (l : Line) (old new : Scene) → StoppedRun m start before old → Leads m old l new →
      StoppedRun m start (l ∷ before) new
  with_old : (before : List Line) (b : BayId) (image : List ℕ) (old new : Scene) → StoppedRun m start before old →
      ComesBack m.diagram b.0 image old new → StoppedRun m start (restart_line b ∷ before) new
  with_new : (before : List Line) (l : Line) (b : BayId) (image : List ℕ) (old next new : Scene) →
      StoppedRun m start before old → Leads m old l next → ComesBack m.diagram b.0 image next new →
      StoppedRun m start (restart_line b ∷ l ∷ before) new
