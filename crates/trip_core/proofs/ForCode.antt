-- What the code needs of an event: the bay that it concerns, whose Answer counts, and the step that happens.
use Rattle.std.proofs.Common.{◌≡◌, ◌≢◌, ◌-◌, ℕ, List, slice_get, Option, Some, None, refl, sym, subst, ap, ◌∙◌}
use Rattle.std.specs.Prelude.{option_map, IfSome, IfNone}
use Rattle.ilk_base.specs.declared.words.BayId.{BayId}
use Rattle.station_graph.specs.Diagram.{Diagram, IsStation}
use Rattle.central_rules.specs.Meaning.{Meaning, IsBay}
use Rattle.bay_frames.specs.declared.frame.Frame.{Frame}
use Rattle.bay_protocol.specs.declared.values.Collection.{Collection}
use Rattle.bay_protocol.specs.declared.values.NodeEvent.{NodeEvent}
use Rattle.bay_protocol.specs.declared.values.NodeEvent.TheVariants.{Frame as Arrival}
use Rattle.bay_protocol.specs.State.{State}
use Rattle.bay_protocol.specs.Step.{IsMeant}
use Rattle.bay_protocol.specs.Counts.{Counts}
use Rattle.reservation_core.specs.Scene.{Scene, node}
use Rattle.reservation_core.specs.Concern.{Concern, concern, arrival}
use Rattle.reservation_core.specs.Happens.{Happens, InRange}
use Rattle.reservation_core.specs.RoundFacts.{RoundFacts, FrameFits}
use Rattle.reservation_core.specs.World.{World, KeepsWords}
use Rattle.reservation_core.specs.declared.values.Which.{Which}
use Rattle.reservation_core.specs.declared.values.WorldEvent.{WorldEvent}
use Rattle.reservation_core.specs.declared.values.WorldEvent.TheVariants.{Command, Sense, Deliver, Tick, Withdraw}
use Rattle.reservation_core.specs.declared.values.WorldEvent.TheVariants.{Restart, Begin, End, Part, Cut}
use Rattle.reservation_core.specs.declared.values.WorldOutcome.{WorldOutcome}
use Rattle.reservation_core.specs.declared.values.WorldOutcome.TheVariants.{Premise}
use Rattle.reservation_core.proofs.Steps.{bay_of_is}
use Rattle.reservation_core.proofs.Keeping.{got_there}
use Rattle.trip_core.specs.declared.values.Learning.{Learning}
use Rattle.trip_core.specs.declared.values.Note.{Note}
use Rattle.trip_core.specs.Trips.{TripScene}
use Rattle.trip_core.specs.Learning.{CountsOf, IsCounted, number_of}
use Rattle.trip_core.specs.Happens.{NotesAfter, StepHappens}
use Rattle.trip_core.specs.Facts.{IsClocked}
use Rattle.trip_core.proofs.TakenStep.{grows, Done, turned}

-- ---- the bay that an event concerns

-- it is one, and a frame that comes to it fits
pub record TaskFits (d : Diagram) (c : Concern) : Type 0 where
  pub bay : IsBay d c.bay
  pub frame : (f : Frame) → c.event ≡ Arrival f → FrameFits d f × (f.to.0 ≡ c.bay)

plainly : (d : Diagram) (b k : ℕ) (event : NodeEvent) (c : Concern) → IsBay d b → ((f : Frame) → event ≡ Arrival f
    → ⊥) → Some (let it : Concern = record { bay = b; message = k; event = event } in it) ≡ Some c → TaskFits d c
plainly d b k event c bay none is =
    let e : record { bay = b; message = k; event = event } ≡ c = cc is in
    subst (TaskFits d) e (record { bay = bay; frame = λ f comes. absurd (none f comes) })

arrives : (d : Diagram) (k : ℕ) (x : Option Frame) (c : Concern) → arrival k x ≡ Some c → ((f : Frame) → x ≡ Some f
    → FrameFits d f) → TaskFits d c
arrives d k None c is fit = absurd (cc is)
arrives d k (Some f) c is fit =
    let e : record { bay = f.to.0; message = k; event = Arrival f } ≡ c = cc is in
    subst (TaskFits d) e (record {
      bay = (fit f refl).receiver.0;
      frame = λ g comes. let same : f ≡ g = cc comes in
          subst (λ (x : Frame). FrameFits d x × (x.to.0 ≡ f.to.0)) same (fit f refl, refl);
    })

pub task_fits : (m : Meaning) (w : Scene) (event : WorldEvent) (c : Concern) → IsStation m.diagram → RoundFacts m w
    → InRange m.diagram event → concern m.diagram w event ≡ Some c → TaskFits m.diagram c
task_fits m w (Command op) c station facts lt is = plainly m.diagram _ _ _ c
    (bay_of_is m.diagram op.switch.0 station lt) (λ f comes. cc comes) is
task_fits m w (Sense i word) c station facts lt is = plainly m.diagram _ _ _ c (bay_of_is m.diagram i.0 station lt)
    (λ f comes. cc comes) is
task_fits m w (Deliver k) c station facts lt is = arrives m.diagram (k - 1) (slice_get w.sent (k - 1)) c is
    (λ f got. facts.bounds.fit f (got_there w.sent (k - 1) f got))
task_fits m w (Tick b) c station facts bay is = plainly m.diagram _ _ _ c bay (λ f comes. cc comes) is
task_fits m w (Withdraw b) c station facts bay is = plainly m.diagram _ _ _ c bay (λ f comes. cc comes) is
task_fits m w (Restart b) c station facts bay is = plainly m.diagram _ _ _ c bay (λ f comes. cc comes) is
task_fits m w (Begin i) c station facts lt is = absurd (cc is)
task_fits m w (End i) c station facts lt is = absurd (cc is)
task_fits m w (Part k bytes) c station facts lt is = absurd (cc is)
task_fits m w (Cut i) c station facts lt is = plainly m.diagram _ _ _ c (bay_of_is m.diagram i.0 station lt)
    (λ f comes. cc comes) is

-- ---- whose Answer counts

round_in : (x : Option Collection) (r : ℕ) → option_map (λ (g : Collection). g.round) x ≡ Some r
    → (g : Collection) × (x ≡ Some g) × (g.round ≡ r)
round_in None r is = absurd (cc is)
round_in (Some g) r is = (g, refl, cc is)

module _ (m : Meaning) (s : State) (f : Frame) (meant : IsMeant m.diagram s f) where
  counts_it : IsCounted m f (option_map (λ (g : Collection). g.round) s.collecting) → Counts m m.diagram s f
  counts_it counted =
      let it = round_in s.collecting f.round counted.round in
      record {
        meant = meant;
        round = it.0;
        collects = it.1;
        same = it.2;
        summary = counted.summary;
        answer = counted.answer;
        fits = subst (λ (b : ℕ). m.Fits f.from.0 b counted.summary) meant.here counted.fits;
      }

  counted_it : Counts m m.diagram s f → IsCounted m f (option_map (λ (g : Collection). g.round) s.collecting)
  counted_it counts = record {
    summary = counts.summary;
    answer = counts.answer;
    round = ap (λ (x : Option Collection). option_map (λ (g : Collection). g.round) x) counts.collects ∙ ap (λ
        (r : ℕ). Some r) counts.same;
    fits = subst (λ (b : ℕ). m.Fits f.from.0 b counts.summary) (sym meant.here) counts.fits;
  }

module _ (m : Meaning) (w : Scene) (bay : ℕ) (event : NodeEvent) (rounds : RoundFacts m w) (fit : (f : Frame)
    → event ≡ Arrival f → FrameFits m.diagram f × (f.to.0 ≡ bay)) where
  meant_in : (f : Frame) → event ≡ Arrival f → IsMeant m.diagram (node m.diagram w bay) f
  meant_in f is =
      let it = fit f is in
      let named = rounds.shape.named bay in
      let here : f.to.0 ≡ (node m.diagram w bay).bay = it.1 ∙ sym named in
      record { here = here; other = (it.0.sender, λ same. it.0.receiver.1 (here ∙ sym same)) }

  sender_counts : (collected : Option ℕ) (r : Option BayId) → collected ≡ option_map (λ (g : Collection). g.round)
      (node m.diagram w bay).collecting → IfSome r (λ b. (f : Frame) × (event ≡ Arrival f) × IsCounted m f collected
      × (b ≡ f.from)) → IfNone r ((f : Frame) → event ≡ Arrival f → ¬ IsCounted m f collected)
      → CountsOf m (node m.diagram w bay) event (number_of r)
  sender_counts collected (Some b) is some none =
      CountsOf.an_answer some.0 some.1 (counts_it m (node m.diagram w bay) some.0 (meant_in some.0 some.1) (subst
      (IsCounted m some.0) is some.2)) (ap (λ (x : BayId). Some x.0) some.3)
  sender_counts collected None is some none =
      CountsOf.nothing (λ f comes counts. none f comes (subst (IsCounted m f) (sym is) (counted_it m
      (node m.diagram w bay) f (meant_in f comes) counts))) refl

pub learned_from : (m : Meaning) (d : Diagram) (w : Scene) (bay : ℕ) (event : NodeEvent) (collected : Option ℕ)
    (r : Option BayId) → m.diagram ≡ d → RoundFacts m w → ((f : Frame) → event ≡ Arrival f
    → FrameFits d f × (f.to.0 ≡ bay)) → collected ≡ option_map (λ (g : Collection). g.round) (node d w bay).collecting
    → IfSome r (λ b. (f : Frame) × (event ≡ Arrival f) × IsCounted m f collected × (b ≡ f.from))
    → IfNone r ((f : Frame) → event ≡ Arrival f → ¬ IsCounted m f collected) → CountsOf m (node d w bay) event
    (number_of r)
learned_from m d w bay event collected r same rounds fit is some none =
    subst (λ (x : Diagram). CountsOf m (node x w bay) event (number_of r)) same
    (sender_counts m w bay event rounds (λ f comes. subst (λ (x : Diagram). FrameFits x f × (f.to.0 ≡ bay)) (sym same)
    (fit f comes)) collected r (is ∙ ap (λ (x : Diagram). option_map (λ (g : Collection). g.round)
    (node x w bay).collecting) (sym same)) some none)

-- ---- a step

-- the scene with another world
abbrev with_world : TripScene → World → TripScene
with_world s w = record {
  world = w;
  sensed = s.sensed;
  tripped = s.tripped;
  beside = s.beside;
  known = s.known;
  events = s.events;
}

module _ (m : Meaning) (d : Diagram) (same : m.diagram ≡ d) (old new : TripScene) (event : WorldEvent)
    (out : WorldOutcome) (happens : Happens m old.world.scene event new.world.scene out)
    (words : KeepsWords d old.world new.world) where
  words_kept : KeepsWords m.diagram old.world new.world
  words_kept = subst (λ (x : Diagram). KeepsWords x old.world new.world) (sym same) words

  pub refused : ((which : Which) × (out ≡ Premise which)) → ((which : Which) → out ≡ Premise which
      → new.world ≡ old.world) → new ≡ with_world old new.world → StepHappens m old event new out
  refused premise unchanged is = record {
    happens = happens;
    words = words_kept;
    notes = NotesAfter.refused premise.0 premise.1 (is ∙ ap (λ (w : World). with_world old w)
        (unchanged premise.0 premise.1));
  }

  pub turn_done : (c : Concern) (own said : List Note) (spare : List (List Note)) (l : Learning) → IsStation m.diagram
      → RoundFacts m old.world.scene → IsClocked d old → InRange d event → concern d old.world.scene event ≡ Some c
      → ((which : Which) → out ≢ Premise which) → Done m old new c own said spare l → StepHappens m old event new out
  turn_done c own said spare l station rounds clocked range some fine did =
      let within : InRange m.diagram event = subst (λ (x : Diagram). InRange x event) (sym same) range in
      let here : concern m.diagram old.world.scene event ≡ Some c = ap (λ
      (x : Diagram). concern x old.world.scene event) same ∙ some in
      let clocks : IsClocked m.diagram old = subst (λ (x : Diagram). IsClocked x old) (sym same) clocked in
      let fit = task_fits m old.world.scene event c station rounds within here in
      record {
        happens = happens;
        words = words_kept;
        notes = NotesAfter.turns c here fine (turned m old new c own said spare l clocks fit.bay.0
            (grows m old.world.scene new.world.scene event out station rounds within happens) did);
      }
