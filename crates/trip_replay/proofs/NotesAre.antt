-- The notes of a world with trips are what the lines of its run say, and so the third rule is obeyed as long as no
-- breaker has tripped that the lines say was used.
use Rattle.std.proofs.Common.{◌≡◌, ◌≢◌, ◌+◌, ◌<◌, ◌==◌, ℕ, List}
use Rattle.std.proofs.Common.{length, get_or, slice_get, Option, Some, None, refl, sym, ap}
use Rattle.std.proofs.Common.{inl, inr}
use Rattle.std.proofs.lemmas.Bool.{cases_Bool}
use Rattle.std.proofs.lemmas.Bool.Decides.{eqb_tells}
use Rattle.station_graph.specs.Diagram.{Diagram}
use Rattle.central_rules.specs.Meaning.{Meaning, bay_of}
use Rattle.bay_frames.specs.declared.frame.Frame.{Frame}
use Rattle.bay_frames.specs.declared.frame.Body.TheVariants.{Answer}
use Rattle.bay_protocol.specs.declared.values.Grant.{Grant}
use Rattle.bay_protocol.specs.declared.values.Collection.{Collection}
use Rattle.bay_protocol.specs.declared.values.Outcome.{Outcome}
use Rattle.bay_protocol.specs.declared.values.Outcome.TheVariants.{Granted, Collecting, Finished, Withdrawn, Stopped}
use Rattle.reservation_core.specs.History.{closes, open_after, or_else, collecting_after}
use Rattle.reservation_core.specs.History.{forgotten, Opened, Sending, sending, last_round}
use Rattle.reservation_core.specs.Hearing.{answers}
use Rattle.reservation_core.specs.Headline.{EndsIt}
use Rattle.reservation_core.specs.Scene.{node}
use Rattle.reservation_core.specs.Held.{IsSwitchOf}
use Rattle.reservation_core.specs.declared.values.WorldEvent.{WorldEvent}
use Rattle.reservation_core.specs.declared.values.WorldEvent.TheVariants.{Deliver}
use Rattle.reservation_core.specs.declared.values.WorldEvent.TheVariants.{Restart}
use Rattle.log_replay.proofs.Basic.{IsAnswer, answer_tells, answer_is}
use Rattle.trip_core.specs.declared.values.Note.{Note}
use Rattle.trip_core.specs.Trips.{TripScene, note_at, tripped_at}
use Rattle.trip_core.specs.TripLines.{TripLine, plain, sensed_line, tripped_line}
use Rattle.trip_core.specs.Used.{sent_by, told_by_line, heard_then, heard_lines, line_note}
use Rattle.trip_core.specs.Used.{heard_note_at, known_note, GrantedAt}

-- what bay c knew at the line that granted its operation
pub record KnewAt (d : Diagram) (lines : List TripLine) (known : ℕ → Note) (c : ℕ) (g : Grant) : Type 0 where
  pub l : TripLine
  pub before : List TripLine
  pub at : GrantedAt lines c g.round g.op l before
  pub notes : (i : ℕ) → i < length d.switches → known i ≡ known_note d l before c i

-- the notes are what the lines say
pub record NotesAre (m : Meaning) (lines : List TripLine) (s : TripScene) : Type 0 where
  pub events : s.events ≡ length lines
  pub sensed : (i : ℕ) → i < length m.diagram.switches → get_or s.sensed i 0 ≡ sensed_line lines i
  pub tripped : (i : ℕ) → i < length m.diagram.switches → tripped_at s.tripped i ≡ tripped_line lines i
  pub beside : (k : ℕ) (f : Frame) (t : List ℕ) → slice_get s.world.scene.sent k ≡ Some f → f.body ≡ Answer t
      → (i : ℕ) → IsSwitchOf m f.from.0 i → note_at s.beside k i ≡ line_note m.diagram (sent_by lines (k + 1)) i
  pub collected : (c : ℕ) (g : Collection) → (node m.diagram s.world.scene c).collecting ≡ Some g → (i : ℕ)
      → i < length m.diagram.switches → bay_of m.diagram i ≢ c → note_at s.known c i ≡ heard_note_at m.diagram
      (heard_lines lines c (bay_of m.diagram i)) i
  pub granted : (c : ℕ) (g : Grant) → (node m.diagram s.world.scene c).granted ≡ Some g
      → KnewAt m.diagram lines (note_at s.known c) c g

-- ---- outcomes

-- an operation that is still open did not end
pub not_ended : (o : Outcome) (g : Grant) → open_after o (Some g) ≡ Some g → ¬ EndsIt o g.round
not_ended (Finished q) g is ends = ended_by q g ends is
  where
    ended_by : (q : ℕ) (g : Grant) → q ≡ g.round → closes q (Some g) ≡ Some g → ⊥
    ended_by q g same is = elim (eqb_tells g.round q) [
      | inl p ↦ let none : closes q (Some g) ≡ None = rw p.0 refl in
          cc (none, is)
      | inr p ↦ p.1 (sym same)
    ]
not_ended (Withdrawn q) g is ends = elim (eqb_tells g.round q) [
  | inl p ↦ let none : closes q (Some g) ≡ None =
      rw p.0 refl in cc (none, is)
  | inr p ↦ p.1 (sym ends)
]
not_ended (Stopped q) g is ends = elim (eqb_tells g.round q) [
  | inl p ↦ let none : closes q (Some g) ≡ None =
      rw p.0 refl in cc (none, is)
  | inr p ↦ p.1 (sym ends)
]
not_ended o g is ends = absurd ends

-- what opens an operation grants it
pub granted_now : (o : Outcome) (g : Grant) → open_after o None ≡ Some g → o ≡ Granted g.round g.op
granted_now (Granted r op) g is = let e : record { round = r; op = op } ≡ g = cc is in
    ap (λ (x : Grant). Granted x.round x.op) e
granted_now (Finished q) g is = absurd (cc is)
granted_now (Withdrawn q) g is = absurd (cc is)
granted_now (Stopped q) g is = absurd (cc is)
granted_now o g is = absurd (cc is)

-- what opens a round shows that it is collected
pub forgets_none : (e : WorldEvent) (c : ℕ) → forgotten e c None ≡ None
forgets_none (Restart b) c = elim (cases_Bool (b.0 == c)) [ inl p ↦ rw p refl | inr p ↦ rw p refl ]
forgets_none e c = refl

pub collects_now : (o : Outcome) (e : WorldEvent) (c : ℕ) (p : Opened) → forgotten e c
    (collecting_after o e None) ≡ Some p → (r : ℕ) × (o ≡ Collecting r)
collects_now (Collecting r) e c p is = (r, refl)
collects_now (Granted r op) e c p is = absurd (cc (forgets_none e c, is))
collects_now o e c p is = absurd (cc (forgets_none e c, is))

-- what is heard stays, unless a new round is collected
pub heard_stays : (o : Outcome) (new was : Option (List TripLine)) → ((r : ℕ) → o ≢ Collecting r)
    → heard_then o new was ≡ or_else new was
heard_stays (Collecting r) new was never = absurd (never r refl)
heard_stays o new was never = refl

-- ---- what is told

pub untold : (n : ℕ) (before : List TripLine) (b c : ℕ) (s : Sending) → sending (plain before) n ≡ Some s
    → ¬ IsAnswer s.message b c (last_round (plain before) c) → told_by_line (Deliver n) before b c ≡ None
untold n before b c s found never = elim (cases_Bool (answers s.message b c (last_round (plain before) c))) [
  | inl p ↦ absurd (never (answer_tells s.message b c (last_round (plain before) c) p))
  | inr p ↦ rw (found, p) refl
]

pub told_now : (n : ℕ) (before : List TripLine) (b c : ℕ) (s : Sending) → sending (plain before) n ≡ Some s
    → IsAnswer s.message b c (last_round (plain before) c) → told_by_line (Deliver n) before b c ≡ Some
    (sent_by before n)
told_now n before b c s found is = rw (found, answer_is s.message b c (last_round (plain before) c) is) refl
