-- Notes stay what the lines say at a line that concerns no node.
use Rattle.std.proofs.Common.{◌≡◌, ◌≢◌, ◌+◌, ◌==◌, ◌-◌, ℕ, Bool, false, cond, List, ◌∷◌, length, get_or, slice_get}
use Rattle.std.proofs.Common.{Option, None, refl, sym, subst, ap, ◌∙◌, inr, arith}
use Rattle.std.specs.Prelude.{unwrap_or}
use Rattle.ilk_base.specs.declared.words.SwitchId.{SwitchId}
use Rattle.station_graph.specs.Diagram.{Diagram}
use Rattle.central_rules.specs.Meaning.{Meaning, bay_of}
use Rattle.bay_frames.specs.declared.frame.Frame.{Frame}
use Rattle.bay_protocol.specs.declared.values.Grant.{Grant}
use Rattle.bay_protocol.specs.declared.values.Outcome.{Outcome}
use Rattle.bay_protocol.specs.State.{State}
use Rattle.reservation_core.specs.Scene.{Scene, node, new_node}
use Rattle.reservation_core.specs.Concern.{concern, arrival}
use Rattle.reservation_core.specs.Happens.{Happens, DeliverHappens, PartHappens, BeginHappens, EndHappens}
use Rattle.reservation_core.specs.World.{World}
use Rattle.reservation_core.specs.Lines.{Shown}
use Rattle.reservation_core.specs.Runs.{ShowsNothing, Shows}
use Rattle.reservation_core.specs.Headline.{EndsIt}
use Rattle.reservation_core.specs.declared.values.Which.{Which}
use Rattle.reservation_core.specs.declared.values.WorldEvent.{WorldEvent}
use Rattle.reservation_core.specs.declared.values.WorldEvent.TheVariants.{Command, Sense, Deliver, Tick, Withdraw}
use Rattle.reservation_core.specs.declared.values.WorldEvent.TheVariants.{Restart, Begin, End, Part, Cut}
use Rattle.reservation_core.specs.declared.values.WorldOutcome.{WorldOutcome}
use Rattle.reservation_core.specs.declared.values.WorldOutcome.TheVariants.{Premise}
use Rattle.log_replay.proofs.Basic.{of_quiet}
use Rattle.log_replay.proofs.Links.{quiet_shown, drive_shown, put_is}
use Rattle.trip_core.specs.declared.values.Note.{Note}
use Rattle.trip_core.specs.declared.values.TripEvent.{TripEvent}
use Rattle.trip_core.specs.declared.values.TripEvent.TheVariants.{Step, Trip}
use Rattle.trip_core.specs.Trips.{TripScene, IsBreaker, note_at}
use Rattle.trip_core.specs.Happens.{later, IsTripped}
use Rattle.trip_core.specs.TripLines.{TripLine, is_sense, sensed_line, tripped_line}
use Rattle.trip_core.specs.Used.{sent_by, told_by_line, heard_lines, line_note, heard_note_at}
use Rattle.trip_core.proofs.Keeping.{breaker_within}
use Rattle.trip_replay.proofs.TripFollowing.{trip_line}
use Rattle.trip_replay.proofs.NotesAre.{NotesAre, KnewAt}

-- ---- a line that concerns no node

-- nothing is shown, told or read, and no node or message changes
pub record Passed (d : Diagram) (old new : Scene) (e : WorldEvent) (s : Shown) : Type 0 where
  pub quiet : ShowsNothing s
  pub nodes : new.nodes ≡ old.nodes
  pub sent : new.sent ≡ old.sent
  pub tells : (before : List TripLine) (x c : ℕ) → told_by_line e before x c ≡ None
  pub senses : (i : ℕ) → is_sense (Step e) i ≡ false

pub passes : (m : Meaning) (old new : Scene) (e : WorldEvent) (s : Shown) (outcome : WorldOutcome) → ((which : Which)
    → outcome ≢ Premise which) → concern m.diagram old e ≡ None → Happens m old e new outcome → Shows outcome s
    → Passed m.diagram old new e s
passes m old new (Begin i) s outcome fine none (BeginHappens.not_open free refused) shows = absurd (fine _ refused.says)
passes m old new (Begin i) s outcome fine none (BeginHappens.running on refused) shows = absurd (fine _ refused.says)
passes m old new (Begin i) s outcome fine none (BeginHappens.there_already g it at refused) shows = absurd
    (fine _ refused.says)
passes m old new (Begin i) s outcome fine none (BeginHappens.begins g it off away driven) shows = record {
  quiet = drive_shown new new outcome s driven.says shows;
  nodes = ap (λ (w : Scene). w.nodes) driven.world;
  sent = ap (λ (w : Scene). w.sent) driven.world;
  tells = λ before x c. refl;
  senses = λ j. refl;
}
passes m old new (End i) s outcome fine none (EndHappens.resting off refused) shows = absurd (fine _ refused.says)
passes m old new (End i) s outcome fine none (EndHappens.arrives g on it driven) shows = record {
  quiet = drive_shown new new outcome s driven.says shows;
  nodes = ap (λ (w : Scene). w.nodes) driven.world;
  sent = ap (λ (w : Scene). w.sent) driven.world;
  tells = λ before x c. refl;
  senses = λ j. refl;
}
passes m old new (Part k bytes) s outcome fine none (PartHappens.unsent no_one refused) shows = absurd
    (fine _ refused.says)
passes m old new (Part k bytes) s outcome fine none (PartHappens.nothing f message same says) shows = record {
  quiet = quiet_shown (length old.sent) f.to.0 (node m.diagram old f.to.0) outcome s says shows;
  nodes = ap (λ (w : Scene). w.nodes) same;
  sent = ap (λ (w : Scene). w.sent) same;
  tells = λ before x c. refl;
  senses = λ j. refl;
}
passes m old new (Deliver k) s outcome fine none (DeliverHappens.unsent no_one refused) shows = absurd
    (fine _ refused.says)
passes m old new (Deliver k) s outcome fine none (DeliverHappens.comes f message t) shows = absurd (cc (sym (ap (λ
    (x : Option Frame). arrival (k - 1) x) message.sent) ∙ none))
passes m old new (Command op) s outcome fine none happens shows = absurd (cc none)
passes m old new (Sense i word) s outcome fine none happens shows = absurd (cc none)
passes m old new (Tick b) s outcome fine none happens shows = absurd (cc none)
passes m old new (Withdraw b) s outcome fine none happens shows = absurd (cc none)
passes m old new (Restart b) s outcome fine none happens shows = absurd (cc none)
passes m old new (Cut i) s outcome fine none happens shows = absurd (cc none)

pub same_node : (d : Diagram) (old new : Scene) (c : ℕ) → new.nodes ≡ old.nodes → node d new c ≡ node d old c
same_node d old new c is = ap (λ (ns : List (Option State)). unwrap_or (get_or ns c None) (new_node d c)) is

module _ (m : Meaning) (before : List TripLine) (old : TripScene) (s : Shown) (said : NotesAre m before old) where
  -- a line that shows nothing leaves what was granted
  still_granted : (e : TripEvent) (known : ℕ → Note) (c : ℕ) (g : Grant) → ShowsNothing s
      → KnewAt m.diagram before known c g → KnewAt m.diagram (trip_line e s ∷ before) known c g
  still_granted e known c g quiet it = record {
    l = it.l;
    before = it.before;
    at = inr (it.at, λ ends. subst (λ (o : Outcome). EndsIt o g.round) (of_quiet s c quiet.outcome) ends);
    notes = it.notes;
  }

  pub passed_notes : (e : WorldEvent) (w : World) → Passed m.diagram old.world.scene w.scene e s
      → NotesAre m (trip_line (Step e) s ∷ before) (later old w)
  passed_notes e w p = record {
    events = omega (arith, said.events);
    sensed = λ i lt. said.sensed i lt ∙ sym (ap (λ (z : Bool). cond z (length (trip_line (Step e) s ∷ before))
        (sensed_line before i)) (p.senses i));
    tripped = λ i lt. said.tripped i lt;
    beside = λ k f t got body i own.
        let same : sent_by (trip_line (Step e) s ∷ before) (k + 1) ≡ sent_by before (k + 1) =
        rw p.quiet.messages refl in
        said.beside k f t (ap (λ (x : List Frame). slice_get x k) (sym p.sent) ∙ got) body i own ∙ ap (λ
        (ls : List TripLine). line_note m.diagram ls i) (sym same);
    collected = λ c g has i lt theirs.
        let y = bay_of m.diagram i in
        let same : heard_lines (trip_line (Step e) s ∷ before) c y ≡ heard_lines before c y = rw
        (of_quiet s c p.quiet.outcome, p.tells before y c) refl in
        said.collected c g (ap (λ (n : State). n.collecting) (sym
        (same_node m.diagram old.world.scene w.scene c p.nodes)) ∙ has) i lt theirs ∙ ap (λ (z : Option
        (List TripLine)). heard_note_at m.diagram z i) (sym same);
    granted = λ c g has. still_granted (Step e) (note_at old.known c) c g p.quiet (said.granted c g (ap (λ
        (n : State). n.granted) (sym (same_node m.diagram old.world.scene w.scene c p.nodes)) ∙ has));
  }

  -- ---- a trip

  pub tripped_notes : (new : TripScene) (i : SwitchId) (outcome : WorldOutcome) → IsBreaker m.diagram i.0
      → length old.tripped ≡ length m.diagram.switches → IsTripped old i.0 new outcome → ShowsNothing s
      → NotesAre m (trip_line (Trip i) s ∷ before) new
  tripped_notes new i outcome breaker long happens quiet =
      let lt = breaker_within m.diagram i.0 breaker in
      subst (NotesAre m (trip_line (Trip i) s ∷ before)) (sym happens.scene) (record {
        events = omega (arith, said.events);
        sensed = λ j less. said.sensed j less;
        tripped = λ j less.
            let number : old.events + 1 ≡ length (trip_line (Trip i) s ∷ before) = omega (arith, said.events) in
            put_is old.tripped i.0 j (old.events + 1) 0 (omega (arith, lt, long)) ∙ (ap (λ (y : ℕ). cond (i.0 == j)
            (old.events + 1) y) (said.tripped j less) ∙ ap (λ (y : ℕ). cond (i.0 == j) y
            (tripped_line before j)) number);
        beside = λ k f t got body j own.
            let same : sent_by (trip_line (Trip i) s ∷ before) (k + 1) ≡ sent_by before (k + 1) =
            rw quiet.messages refl in
            said.beside k f t got body j own ∙ ap (λ (ls : List TripLine). line_note m.diagram ls j) (sym same);
        collected = λ c g has j less theirs. said.collected c g has j less theirs;
        granted = λ c g has. still_granted (Trip i) (note_at old.known c) c g quiet (said.granted c g has);
      })
