-- Granted operations obey the rules on the true positions of the lines, and a sound start stays sound.
use Rattle.std.proofs.Common.{◌≡◌, ◌<◌, ℕ, Bool, List, [], ◌∷◌, length, Some, sym, subst, ap, ◌∙◌, arith, None}
use Rattle.std.proofs.lemmas.Option.{slice_get_within}
use Rattle.station_graph.specs.Diagram.{IsStation}
use Rattle.station_graph.specs.Alike.{IsVector}
use Rattle.station_graph.specs.CentralRules.{Breaks}
use Rattle.central_rules.specs.Meaning.{Meaning, Laws}
use Rattle.bay_protocol.specs.declared.values.Grant.{Grant}
use Rattle.reservation_core.specs.Scene.{Scene, ReadsAs, Resolves}
use Rattle.reservation_core.specs.Facts.{IsSoundTruth}
use Rattle.reservation_core.specs.Happens.{DeliverHappens}
use Rattle.reservation_core.specs.declared.values.Position.{Position}
use Rattle.reservation_core.specs.declared.values.WorldOutcome.{WorldOutcome}
use Rattle.reservation_core.proofs.TrueWords.{obeys, obeys_first_two}
use Rattle.reservation_core.proofs.Soundness.{happens_sound}
use Rattle.reservation_core.specs.Lines.{Line}
use Rattle.reservation_core.specs.History.{open_of}
use Rattle.reservation_core.specs.Runs.{Run}
use Rattle.reservation_core.specs.Headline.{MayBeTrue, AtEach, IsSound}
use Rattle.log_replay.proofs.Links.{Linked}
use Rattle.log_replay.proofs.Leading.{RunIs, run_is}

-- a vector resolves the truth of the lines exactly where it resolves that of the scene
pub to_scene : (m : Meaning) (start : List Bool) (lines : List Line) (w : Scene) (v : List Bool) →
    Linked m start lines w → MayBeTrue m.diagram start lines v → Resolves w.truth v
to_scene m start lines w v links is i closed at =
    let lt : i < length v = slice_get_within v i closed at in
    subst (λ (p : Position). ReadsAs p closed) (sym (links.truth i (omega (arith, lt, is.whole)))) (is.each i closed at)

to_lines : (m : Meaning) (start : List Bool) (lines : List Line) (w : Scene) (v : List Bool) →
    Linked m start lines w → IsVector m.diagram v → Resolves w.truth v → MayBeTrue m.diagram start lines v
to_lines m start lines w v links whole is = record {
  whole = whole;
  each = λ i closed at. let lt : i < length v = slice_get_within v i closed at in
      subst (λ (p : Position). ReadsAs p closed) (links.truth i (omega (arith, lt, whole))) (is i closed at);
}

-- the open operation of each bay breaks no rule
pub obeys_now : (m : Meaning) (start : List Bool) (lines : List Line) (w : Scene) → RunIs m start lines w →
    (c : ℕ) (g : Grant) (v : List Bool) → open_of lines c ≡ Some g → MayBeTrue m.diagram start lines v →
    Breaks m.diagram v g.op None
obeys_now m start lines w is c g v has resolves = obeys m w is.facts c g v ((is.links.nodes c).granted ∙ has)
    resolves.whole (to_scene m start lines w v is.links resolves)

pub deliver_truth : (m : Meaning) (old new : Scene) (k : ℕ) (outcome : WorldOutcome) →
    DeliverHappens m old k new outcome → new.truth ≡ old.truth
deliver_truth m old new k outcome (DeliverHappens.unsent none refused) = ap (λ (w : Scene). w.truth) refused.unchanged
deliver_truth m old new k outcome (DeliverHappens.comes f is t) = ap (λ (w : Scene). w.truth) t.world

-- ---- soundness

sound_scene : (m : Meaning) (start : List Bool) (lines : List Line) (w : Scene) → IsStation m.diagram → Laws m →
    Run m start lines w → IsSound m.diagram start [] → IsSoundTruth m.diagram w.truth
sound_scene m start [] w station laws run sound =
    λ v whole resolves. sound v (to_lines m start [] w v (run_is m start [] w station laws run).links whole resolves)
sound_scene m start (l ∷ before) w station laws (old, run, leads) sound =
    let was = run_is m start before old station laws run in
    happens_sound m old w l.event leads.outcome was.facts.rounds (obeys_first_two m old was.facts) leads.range
    leads.happens (sound_scene m start before old station laws run sound)

sound_now : (m : Meaning) (start : List Bool) (lines : List Line) (w : Scene) → IsStation m.diagram → Laws m →
    Run m start lines w → IsSound m.diagram start [] → IsSound m.diagram start lines
sound_now m start lines w station laws run sound v is =
    sound_scene m start lines w station laws run sound v is.whole
    (to_scene m start lines w v (run_is m start lines w station laws run).links is)

-- soundness is kept
pub run_sound : (m : Meaning) (start : List Bool) (lines : List Line) (w : Scene) → IsStation m.diagram → Laws m →
    Run m start lines w → IsSound m.diagram start [] → AtEach (IsSound m.diagram start) lines
run_sound m start [] w station laws run sound = sound
run_sound m start (l ∷ before) w station laws run sound = (
  sound_now m start (l ∷ before) w station laws run sound,
  run_sound m start before run.0 station laws run.1 sound,
)
