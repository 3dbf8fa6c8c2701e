-- Whatever happens sends few messages, and what is shown and sent fits.
use Rattle.std.proofs.Common.{◌≡◌, ◌+◌, ◌<◌, length, refl, arith, lit<}
use Rattle.std.proofs.lemmas.List.{length-append}
use Rattle.station_graph.specs.Diagram.{Diagram, IsStation}
use Rattle.station_graph.specs.declared.limits.TheConstants.{BAYS}
use Rattle.central_rules.specs.Meaning.{Meaning, IsBay}
use Rattle.bay_protocol.specs.Fits.{EventFits}
use Rattle.bay_protocol.proofs.Sending.{step_sends}
use Rattle.bay_protocol.proofs.Showing.{step_shown}
use Rattle.reservation_core.specs.Scene.{Scene, node, stops}
use Rattle.reservation_core.specs.RoundFacts.{RoundFacts}
use Rattle.reservation_core.specs.Concern.{Concern}
use Rattle.reservation_core.specs.Happens.{Happens, InRange, NodeSteps}
use Rattle.reservation_core.specs.World.{OutputFits}
use Rattle.reservation_core.specs.declared.values.WorldEvent.{WorldEvent}
use Rattle.reservation_core.specs.declared.values.WorldOutcome.{WorldOutcome}
use Rattle.reservation_core.proofs.Sends.{facts_stops}
use Rattle.reservation_core.proofs.Ways.{Way, way, told}

pub record Gives (d : Diagram) (old new : Scene) (outcome : WorldOutcome) : Type 0 where
  pub few : length new.sent < length old.sent + BAYS
  pub output : OutputFits d outcome

same_few : (old new : Scene) → new ≡ old → length new.sent < length old.sent + BAYS
same_few old new is = rw is (omega (arith, positive))
  where
    positive : 0 < BAYS
    positive = lit< tt

module _ (m : Meaning) (station : IsStation m.diagram) where
  turn_gives : (old new : Scene) (c : Concern) (outcome : WorldOutcome) → RoundFacts m old → IsBay m.diagram c.bay →
      EventFits m.diagram (node m.diagram old c.bay).bay c.event → NodeSteps m old c.bay c.event new outcome →
      Gives m.diagram old new outcome
  turn_gives old new c outcome rounds bay fits s =
      let sends =
      step_sends m.diagram station m (node m.diagram old c.bay) c.event s.turn (rounds.rounds c.bay bay) fits s.step in
      record {
        few = rw (s.world, length-append old.sent s.turn.frames) (omega (arith, sends.few));
        output = told m.diagram (length old.sent) c.bay (node m.diagram old c.bay) s.turn outcome s.says bay
            (step_shown m.diagram m refl (node m.diagram old c.bay) c.event s.turn (rounds.rounds c.bay bay) fits
            s.step) sends.lawful;
      }

  way_gives : (old new : Scene) (event : WorldEvent) (outcome : WorldOutcome) → RoundFacts m old →
      Way m old event new outcome → Gives m.diagram old new outcome
  way_gives old new event outcome rounds (Way.refused which same says) = record {
    few = same_few old new same;
    output = rw says tt;
  }
  way_gives old new event outcome rounds (Way.nothing same none fits) = record {
    few = same_few old new same;
    output = fits;
  }
  way_gives old new event outcome rounds (Way.turns c some fair s) =
      turn_gives old new c outcome rounds fair.bay fair.fits s
  way_gives old new event outcome rounds (Way.drives i g at running none lt has switch is says) = record {
    few = rw is (same_few old old refl);
    output = rw says tt;
  }
  way_gives old new event outcome rounds (Way.cuts i c some fair s) =
      let it = turn_gives (stops old i) new c outcome (facts_stops m old i rounds) fair.bay fair.fits s in
      record { few = it.few; output = it.output }

  pub gives : (old new : Scene) (event : WorldEvent) (outcome : WorldOutcome) → RoundFacts m old →
      InRange m.diagram event → Happens m old event new outcome → Gives m.diagram old new outcome
  gives old new event outcome rounds range happens =
      way_gives old new event outcome rounds (way m station old new outcome rounds event range happens)
