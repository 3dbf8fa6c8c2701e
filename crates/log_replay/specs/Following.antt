-- What comes of one event of a log.
use Rattle.std.specs.Prelude.{◌≡◌, ⊤, Option, Some, None}
use Rattle.station_graph.specs.Diagram.{Diagram}
use Rattle.central_rules.specs.Meaning.{Meaning}
use Rattle.reservation_core.specs.Scene.{Scene}
use Rattle.reservation_core.specs.World.{OutputFits}
use Rattle.reservation_core.specs.Happens.{Happens}
use Rattle.reservation_core.specs.declared.values.LogEvent.{LogEvent}
use Rattle.reservation_core.specs.declared.values.LogEvent.TheVariants.{At, Step}
use Rattle.reservation_core.specs.declared.values.WorldOutcome.{WorldOutcome}
use Rattle.reservation_core.specs.declared.values.WorldOutcome.TheVariants.{Premise}
use Rattle.reservation_core.specs.declared.values.Which.{Which}

-- The event leads from the old scene to the new one, with this outcome; one that tells where a switch stands at
-- first changes nothing, and nothing comes of it.
abbrev pub LineHappens : Meaning → Scene → LogEvent → Scene → Option WorldOutcome → Type 0
LineHappens m old (At i closed) new None = new ≡ old
LineHappens m old (At i closed) new (Some outcome) = ⊥
LineHappens m old (Step e) new None = ⊥
LineHappens m old (Step e) new (Some outcome) = Happens m old e new outcome

-- What comes of it is of the station.
abbrev pub FitsAt : Diagram → Option WorldOutcome → Type 0
FitsAt d None = ⊤
FitsAt d (Some outcome) = OutputFits d outcome

-- This premise is broken.
abbrev pub IsBroken : Option WorldOutcome → Which → Type 0
IsBroken outcome which = outcome ≡ Some (Premise which)
