-- How many messages a step sends, and a step that was taken, with its notes.
use Rattle.std.proofs.Common.{◌≡◌, ◌≢◌, ◌+◌, ◌-◌, ◌<◌, ◌≤◌, ◌==◌, ◌++◌, cond, ℕ, zero, suc, Bool, List, [], ◌∷◌, length}
use Rattle.std.proofs.Common.{take, get_or, slice_get, Some, Contains, refl, sym, ap, ◌∙◌, inl, inr, arith}
use Rattle.std.proofs.Common.{length-append}
use Rattle.std.specs.Prelude.{is_some}
use Rattle.std.proofs.lemmas.Bool.Decides.{eqb_tells}
use Rattle.std.proofs.lemmas.Option.{slice_get_within}
use Rattle.std.proofs.lemmas.List.{append-nil, get_or-append-add, get_or_append_left}
use Rattle.station_graph.specs.Diagram.{IsStation, part_count}
use Rattle.station_graph.specs.declared.limits.TheConstants.{BAYS}
use Rattle.central_rules.specs.Meaning.{Meaning, bay_of}
use Rattle.bay_frames.specs.declared.frame.Frame.{Frame}
use Rattle.bay_frames.specs.declared.frame.Body.TheVariants.{Answer}
use Rattle.reservation_core.specs.Scene.{Scene, node, stops}
use Rattle.reservation_core.specs.Concern.{Concern}
use Rattle.reservation_core.specs.Happens.{Happens, InRange}
use Rattle.reservation_core.specs.RoundFacts.{RoundFacts}
use Rattle.reservation_core.specs.declared.values.WorldEvent.{WorldEvent}
use Rattle.reservation_core.specs.declared.values.WorldOutcome.{WorldOutcome}
use Rattle.reservation_core.proofs.Sends.{facts_stops}
use Rattle.reservation_core.proofs.Effects.{effect}
use Rattle.reservation_core.proofs.AlikeNotes.{there_or_new}
use Rattle.reservation_core.proofs.Ways.{Way, way}
use Rattle.trip_core.specs.declared.values.Learning.{Learning}
use Rattle.trip_core.specs.declared.values.Note.{Note}
use Rattle.trip_core.specs.Trips.{TripScene, lost, note_at, own_note}
use Rattle.trip_core.specs.Learning.{CountsOf, number_of, learned_note}
use Rattle.trip_core.specs.Happens.{sensed_after, known_then, NotesTurn}
use Rattle.trip_core.specs.Facts.{IsClocked}

-- ---- how many messages are sent

pub record Grows (old new : Scene) : Type 0 where
  pub more : List Frame
  pub is : new.sent ≡ old.sent ++ more
  -- an Answer goes alone
  pub alone : (f : Frame) (s : List ℕ) → Contains more f → f.body ≡ Answer s → length more ≡ 1

no_growth : (old new : Scene) → new.sent ≡ old.sent → Grows old new
no_growth old new same = record {
  more = [];
  is = same ∙ sym (append-nil old.sent);
  alone = λ f s there. absurd (omega (arith, there.1));
}

grows_by : (m : Meaning) (old new : Scene) (event : WorldEvent) (outcome : WorldOutcome) → RoundFacts m old
    → Way m old event new outcome → Grows old new
grows_by m old new event outcome rounds (Way.refused which same says) = no_growth old new (ap (λ
    (w : Scene). w.sent) same)
grows_by m old new event outcome rounds (Way.nothing same none fits) = no_growth old new (ap (λ
    (w : Scene). w.sent) same)
grows_by m old new event outcome rounds (Way.drives i g at running none lt has switch is says) = no_growth old new (ap
    (λ (w : Scene). w.sent) is)
grows_by m old new event outcome rounds (Way.turns c some fair s) = record {
  more = s.turn.frames;
  is = ap (λ (w : Scene). w.sent) s.world;
  alone = (effect m (node m.diagram old c.bay) c.event s.turn (rounds.rounds c.bay fair.bay) s.step).alone;
}
grows_by m old new event outcome rounds (Way.cuts i c some fair s) = record {
  more = s.turn.frames;
  is = ap (λ (w : Scene). w.sent) s.world;
  alone = (effect m (node m.diagram (stops old i) c.bay) c.event s.turn
      ((facts_stops m old i rounds).rounds c.bay fair.bay) s.step).alone;
}

pub grows : (m : Meaning) (old new : Scene) (event : WorldEvent) (outcome : WorldOutcome) → IsStation m.diagram
    → RoundFacts m old → InRange m.diagram event → Happens m old event new outcome → Grows old new
grows m old new event outcome station rounds range happens = grows_by m old new event outcome rounds
    (way m station old new outcome rounds event range happens)

length_grown : (old new : Scene) (g : Grows old new) → length new.sent ≡ length old.sent + length g.more
length_grown old new g = ap (λ (x : List Frame). length x) g.is ∙ length-append old.sent g.more

-- ---- a step that was taken, with its notes

first_taken : (xs : List (List Note)) (k : ℕ) → k ≡ 1 → get_or (take k xs) 0 [] ≡ get_or xs 0 []
first_taken [] k is = rw is refl
first_taken (x ∷ xs) k is = rw is refl

length_taken : (xs : List (List Note)) (k : ℕ) → k ≤ length xs → length (take k xs) ≡ k
length_taken xs zero le = refl
length_taken [] (suc k) le = absurd (omega (arith, le))
length_taken (x ∷ xs) (suc k) le = ap (λ n. suc n) (length_taken xs k (omega (arith, le)))

if_same : {X : Type 0} (a b : ℕ) (x y : X) → a ≡ b → cond (a == b) x y ≡ x
if_same a b x y is = elim (eqb_tells a b) [ inl p ↦ rw p.0 refl | inr p ↦ absurd (p.1 is) ]

if_other : {X : Type 0} (a b : ℕ) (x y : X) → a ≢ b → cond (a == b) x y ≡ y
if_other a b x y differs = elim (eqb_tells a b) [ inl p ↦ absurd (differs p.1) | inr p ↦ rw p.0 refl ]

-- what the code has done
pub record Done (m : Meaning) (old new : TripScene) (c : Concern) (own said : List Note) (spare : List (List Note))
    (l : Learning) : Type 0 where
  pub own_is : (i : ℕ) → i < length m.diagram.switches → get_or own i lost ≡ own_note m.diagram old i
  pub said_is : said ≡ get_or old.beside c.message []
  pub from : CountsOf m (node m.diagram old.world.scene c.bay) c.event (number_of l.from)
  pub collected : l.collected ≡ is_some (node m.diagram old.world.scene c.bay).collecting
  pub granted : l.granted ≡ is_some (node m.diagram old.world.scene c.bay).granted
  pub first : get_or spare 0 [] ≡ own
  pub enough : length spare ≡ 64
  pub few : length new.world.scene.sent < length old.world.scene.sent + BAYS
  pub beside : new.beside ≡ old.beside ++ take (length new.world.scene.sent - length old.beside) spare
  pub tripped : new.tripped ≡ old.tripped
  pub events : new.events ≡ old.events + 1
  pub sensed : new.sensed ≡ sensed_after c.event old.sensed (old.events + 1)
  pub each_known : length new.known ≡ length old.known
  pub others : (b : ℕ) → b ≢ c.bay → get_or new.known b [] ≡ get_or old.known b []
  pub each_note : length (get_or new.known c.bay []) ≡ length m.diagram.switches
  pub learned : (i : ℕ) → i < length m.diagram.switches → get_or (get_or new.known c.bay []) i lost ≡ learned_note
      (number_of l.from) l.collected l.granted (is_some (node m.diagram new.world.scene c.bay).collecting)
      (bay_of m.diagram i) c.bay (get_or own i lost) (get_or said i lost) (get_or (get_or old.known c.bay []) i lost)

module _ (m : Meaning) (old new : TripScene) (c : Concern) (own said : List Note) (spare : List (List Note))
    (l : Learning) (clocked : IsClocked m.diagram old) (part : c.bay < part_count m.diagram)
    (g : Grows old.world.scene new.world.scene) (did : Done m old new c own said spare l) where
  sent_is : length new.world.scene.sent ≡ length old.world.scene.sent + length g.more
  sent_is = length_grown old.world.scene new.world.scene g

  taken : length new.world.scene.sent - length old.beside ≡ length g.more
  taken = let e = sent_is in omega (arith, e, clocked.each_beside)

  all_beside : length new.beside ≡ length new.world.scene.sent
  all_beside =
      let bays : BAYS ≡ 64 = refl in
      let some : length (take
      (length new.world.scene.sent - length old.beside) spare) ≡ length new.world.scene.sent - length old.beside =
      length_taken spare (length new.world.scene.sent - length old.beside) (let t = taken in
      omega (arith, t, did.few, bays, clocked.each_beside, did.enough)) in
      let e = ap (λ (x : List (List Note)). length x) did.beside ∙ length-append old.beside (take
      (length new.world.scene.sent - length old.beside) spare) in
      let s = sent_is in
      omega (arith, e, some, s, clocked.each_beside)

  new_beside : (j i : ℕ) (f : Frame) (s : List ℕ) → length old.world.scene.sent ≤ j
      → slice_get new.world.scene.sent j ≡ Some f → f.body ≡ Answer s → i < length m.diagram.switches
      → note_at new.beside j i ≡ own_note m.diagram old i
  new_beside j i f s le got body lt =
      let at : slice_get (old.world.scene.sent ++ g.more) j ≡ Some f = ap (λ (x : List Frame). slice_get x j)
      (sym g.is) ∙ got in
      let inside : j < length new.world.scene.sent = slice_get_within new.world.scene.sent j f got in
      elim (there_or_new old.world.scene.sent g.more j f at) [
        | inl early ↦ absurd (omega (arith, early.0, le))
        | inr late ↦
            let one : length g.more ≡ 1 = g.alone f s late.1 body in
            let place : j ≡ length old.beside + 0 = let e = sent_is in omega
            (arith, one, inside, le, e, clocked.each_beside) in
            let stands : get_or new.beside j [] ≡ own =
            ap (λ (x : List (List Note)). get_or x j []) did.beside
            ∙ (ap (λ (x : ℕ). get_or (old.beside ++ take
            (length new.world.scene.sent - length old.beside) spare) x []) place
            ∙ (get_or-append-add old.beside (take (length new.world.scene.sent - length old.beside) spare) 0 []
            ∙ (first_taken spare (length new.world.scene.sent - length old.beside) (taken ∙ one) ∙ did.first))) in
            ap (λ (x : List Note). get_or x i lost) stands ∙ did.own_is i lt
      ]

  known_is : (b i : ℕ) → i < length m.diagram.switches → note_at new.known b i ≡ known_then m old c (number_of l.from)
      (node m.diagram new.world.scene c.bay) b i
  known_is b i lt = elim (eqb_tells b c.bay) [
    | inr p ↦ ap (λ (x : List Note). get_or x i lost) (did.others b p.1) ∙ sym (if_other b c.bay _
        (note_at old.known b i) p.1)
    | inl p ↦
        let said_at : get_or said i lost ≡ note_at old.beside c.message i = ap (λ
        (x : List Note). get_or x i lost) did.said_is in
        let own_at : get_or own i lost ≡ own_note m.diagram old i = did.own_is i lt in
        let collects = is_some (node m.diagram new.world.scene c.bay).collecting in
        let bay = bay_of m.diagram i in
        let known = note_at old.known c.bay i in
        let here : note_at new.known c.bay i ≡ learned_note (number_of l.from) (is_some
        (node m.diagram old.world.scene c.bay).collecting) (is_some
        (node m.diagram old.world.scene c.bay).granted) collects bay c.bay (own_note m.diagram old i)
        (note_at old.beside c.message i) known =
        did.learned i lt
        ∙ (ap (λ (x : Bool). learned_note (number_of l.from) x l.granted collects bay c.bay (get_or own i lost)
        (get_or said i lost) known) did.collected
        ∙ (ap (λ (x : Bool). learned_note (number_of l.from) (is_some
        (node m.diagram old.world.scene c.bay).collecting) x collects bay c.bay (get_or own i lost)
        (get_or said i lost) known) did.granted
        ∙ (ap (λ (x : Note). learned_note (number_of l.from) (is_some
        (node m.diagram old.world.scene c.bay).collecting) (is_some
        (node m.diagram old.world.scene c.bay).granted) collects bay c.bay x (get_or said i lost) known) own_at
        ∙ ap (λ (x : Note). learned_note (number_of l.from) (is_some
        (node m.diagram old.world.scene c.bay).collecting) (is_some
        (node m.diagram old.world.scene c.bay).granted) collects bay c.bay
        (own_note m.diagram old i) x known) said_at))) in
        ap (λ (x : ℕ). note_at new.known x i) p.1 ∙ (here ∙ sym (if_same b c.bay _ (note_at old.known b i) p.1))
  ]

  pub turned : NotesTurn m old c new
  turned = record {
    sensed = did.sensed;
    tripped = did.tripped;
    events = did.events;
    each_beside = all_beside;
    each_known = did.each_known;
    each_note = λ b. elim (eqb_tells b c.bay) [
      | inr p ↦ ap (λ (x : List Note). length x) (did.others b p.1)
      | inl p ↦ ap (λ (x : ℕ). length (get_or new.known x [])) p.1 ∙ (did.each_note ∙ (sym
          (clocked.each_note c.bay part) ∙ ap (λ (x : ℕ). length (get_or old.known x [])) (sym p.1)))
    ];
    before = λ j i lt ilt. ap (λ (x : List (List Note)). note_at x j i) did.beside ∙ ap (λ
        (x : List Note). get_or x i lost) (get_or_append_left old.beside (take
        (length new.world.scene.sent - length old.beside) spare) [] j (omega (arith, lt, clocked.each_beside)));
    beside = λ j i f s le got body lt own_bay. new_beside j i f s le got body lt;
    from = number_of l.from;
    counts = did.from;
    known = known_is;
  }
