-- What the lines say of a node, and what a line changes of it.
use Rattle.std.proofs.Common.{◌≡◌, ◌≢◌, ◌<◌, ℕ, true, cond, List, [], ◌∷◌, length, get_or, Option, Some, None, refl}
use Rattle.std.proofs.Common.{sym, subst, ap, ◌∙◌, inl, inr}
use Rattle.std.specs.Prelude.{⊤}
use Rattle.std.proofs.lemmas.Bool.{cases_Bool}
use Rattle.station_graph.specs.Diagram.{Diagram}
use Rattle.central_rules.specs.Meaning.{bay_of}
use Rattle.bay_protocol.specs.State.{is_another, others}
use Rattle.central_rules.specs.Meaning.{Meaning, Summarises}
use Rattle.ilk_base.specs.declared.words.Dbpos.{Dbpos}
use Rattle.ilk_base.specs.declared.words.Dbpos.TheVariants.{Lost}
use Rattle.bay_protocol.specs.declared.values.Grant.{Grant}
use Rattle.bay_protocol.specs.declared.values.Collection.{Collection}
use Rattle.bay_protocol.specs.declared.values.Outcome.{Outcome}
use Rattle.bay_protocol.specs.declared.values.Outcome.TheVariants.{Quiet}
use Rattle.bay_protocol.specs.State.{under_way_of, AllHeard}
use Rattle.reservation_core.specs.declared.values.WorldEvent.{WorldEvent}
use Rattle.reservation_core.specs.declared.values.WorldEvent.TheVariants.{Command, Sense, Deliver, Tick, Withdraw}
use Rattle.reservation_core.specs.declared.values.WorldEvent.TheVariants.{Restart, Begin, End, Part, Cut}
use Rattle.reservation_core.specs.Lines.{Line, of_bay}
use Rattle.log_replay.proofs.Basic.{eqb_differ, IsAnswer, told_nothing}
use Rattle.reservation_core.specs.History.{or_else, granted_for, last_granted, open_after, open_of, takes_word, sensed}
use Rattle.reservation_core.specs.History.{reading_at, Sending, sending, Opened, collecting_after, forgotten}
use Rattle.reservation_core.specs.History.{collecting, round_shown, last_round}
use Rattle.reservation_core.specs.Hearing.{words_told, delivered, heard_after, heard, heard_of}

abbrev pub opened : Option Collection → Option Opened
opened None = None
opened (Some g) = Some (record { round = g.round; op = g.op })

-- what was heard is a summary of the words that the lines say were heard
abbrev pub HeardIs : Meaning → ℕ → ℕ → Option (List ℕ) → Option (List Dbpos) → Type 0
HeardIs m b c None None = ⊤
HeardIs m b c (Some summary) (Some words) = Summarises m b c words summary
HeardIs m b c None (Some words) = ⊥
HeardIs m b c (Some summary) None = ⊥

-- a node with this round, grant and these words is what the lines say of bay c
pub record NodeIs (m : Meaning) (lines : List Line) (c : ℕ) (x : Option Collection) (y : Option Grant)
    (words : List Dbpos) : Type 0 where
  pub granted : y ≡ open_of lines c
  pub collecting : opened x ≡ collecting lines c
  pub read : (i : ℕ) → i < length m.diagram.switches → bay_of m.diagram i ≡ c →
      get_or words i Lost ≡ reading_at m.diagram lines i
  pub last : (g : Grant) → y ≡ Some g → last_granted m.diagram lines g.op.switch.0 ≡ Some g.op
  pub round : (q : ℕ) → under_way_of x y ≡ Some q → others m.diagram c ≢ [] → last_round lines c ≡ Some q
  pub heard : (g : Collection) (b : ℕ) → x ≡ Some g →
      HeardIs m b c (get_or g.heard b None) (heard_of m.diagram lines c b)
  pub missing : (g : Collection) → x ≡ Some g → ¬ AllHeard m.diagram c g.heard

-- the same after a further line with this event, of which this outcome is shown for bay c
pub record NodeAfter (m : Meaning) (before : List Line) (c : ℕ) (x : Option Collection) (y : Option Grant)
    (words : List Dbpos) (o : Outcome) (e : WorldEvent) : Type 0 where
  pub granted : y ≡ open_after o (open_of before c)
  pub collecting : opened x ≡ forgotten e c (collecting_after o e (collecting before c))
  pub read : (i : ℕ) → i < length m.diagram.switches → bay_of m.diagram i ≡ c →
      get_or words i Lost ≡ cond (takes_word o (open_of before c) i) Lost (sensed e c i (reading_at m.diagram before i))
  pub last : (g : Grant) → y ≡ Some g →
      or_else (granted_for o g.op.switch.0) (last_granted m.diagram before g.op.switch.0) ≡ Some g.op
  pub round : (q : ℕ) → under_way_of x y ≡ Some q → others m.diagram c ≢ [] →
      or_else (round_shown o) (last_round before c) ≡ Some q
  pub heard : (g : Collection) (b : ℕ) → x ≡ Some g →
      HeardIs m b c (get_or g.heard b None) (cond (is_another m.diagram c b)
      (heard_after o (words_told m.diagram (delivered e before) b c (last_round before c))
      (heard m.diagram before c b)) None)
  pub missing : (g : Collection) → x ≡ Some g → ¬ AllHeard m.diagram c g.heard

pub node_is : (m : Meaning) (l : Line) (before : List Line) (c : ℕ) (x : Option Collection) (y : Option Grant)
    (words : List Dbpos) → NodeAfter m before c x y words (of_bay l.shown c) l.event →
    ((g : Grant) → y ≡ Some g → bay_of m.diagram g.op.switch.0 ≡ c) → NodeIs m (l ∷ before) c x y words
node_is m l before c x y words a own = record {
  granted = a.granted;
  collecting = a.collecting;
  read = λ i lt is. subst (λ (b : ℕ). get_or words i Lost ≡ cond (takes_word (of_bay l.shown b) (open_of before b) i)
      Lost (sensed l.event b i (reading_at m.diagram before i))) (sym is) (a.read i lt is);
  last = λ g has. subst (λ (b : ℕ). or_else (granted_for (of_bay l.shown b) g.op.switch.0)
      (last_granted m.diagram before g.op.switch.0) ≡ Some g.op) (sym (own g has)) (a.last g has);
  round = a.round;
  heard = a.heard;
  missing = a.missing;
}

-- ---- a line of which nothing is shown for bay c

-- the event changes no word of bay c, and ends no round of it
abbrev pub Harmless : Diagram → WorldEvent → ℕ → Type 0
Harmless d (Sense i word) c = bay_of d i.0 ≢ c
Harmless d (Restart b) c = b.0 ≢ c
Harmless d (Command op) c = ⊤
Harmless d (Deliver n) c = ⊤
Harmless d (Tick b) c = ⊤
Harmless d (Withdraw b) c = ⊤
Harmless d (Begin i) c = ⊤
Harmless d (End i) c = ⊤
Harmless d (Part n bytes) c = ⊤
Harmless d (Cut i) c = ⊤

pub not_sensed : (d : Diagram) (e : WorldEvent) (c i : ℕ) (was : Dbpos) → Harmless d e c → bay_of d i ≡ c →
    sensed e c i was ≡ was
not_sensed d (Sense j word) c i was harmless is =
    rw (eqb_differ j.0 i (λ same. harmless (ap (λ (x : ℕ). bay_of d x) same ∙ is))) refl
not_sensed d (Restart b) c i was harmless is = rw (eqb_differ b.0 c harmless) refl
not_sensed d (Command op) c i was harmless is = refl
not_sensed d (Deliver n) c i was harmless is = refl
not_sensed d (Tick b) c i was harmless is = refl
not_sensed d (Withdraw b) c i was harmless is = refl
not_sensed d (Begin j) c i was harmless is = refl
not_sensed d (End j) c i was harmless is = refl
not_sensed d (Part n bytes) c i was harmless is = refl
not_sensed d (Cut j) c i was harmless is = refl

pub not_forgotten : (d : Diagram) (e : WorldEvent) (c : ℕ) (was : Option Opened) → Harmless d e c →
    forgotten e c was ≡ was
not_forgotten d (Restart b) c was harmless = rw (eqb_differ b.0 c harmless) refl
not_forgotten d (Sense j word) c was harmless = refl
not_forgotten d (Command op) c was harmless = refl
not_forgotten d (Deliver n) c was harmless = refl
not_forgotten d (Tick b) c was harmless = refl
not_forgotten d (Withdraw b) c was harmless = refl
not_forgotten d (Begin j) c was harmless = refl
not_forgotten d (End j) c was harmless = refl
not_forgotten d (Part n bytes) c was harmless = refl
not_forgotten d (Cut j) c was harmless = refl

-- the event tells bay c nothing of others that counts in its round
abbrev pub TellsNothing : Diagram → List Line → WorldEvent → ℕ → Type 0
TellsNothing d before e c = (b : ℕ) → is_another d c b ≡ true →
    words_told d (delivered e before) b c (last_round before c) ≡ None

nothing_heard : (m : Meaning) (before : List Line) (e : WorldEvent) (c b : ℕ) (s : Option (List ℕ)) →
    TellsNothing m.diagram before e c →
    HeardIs m b c s (cond (is_another m.diagram c b) (heard m.diagram before c b) None) →
    HeardIs m b c s (cond (is_another m.diagram c b)
    (or_else (words_told m.diagram (delivered e before) b c (last_round before c)) (heard m.diagram before c b)) None)
nothing_heard m before e c b s tells is = elim (cases_Bool (is_another m.diagram c b)) [
  | inl p ↦ rw (p, tells b p) (rw p at is)
  | inr p ↦ rw p (rw p at is)
]

pub stays : (m : Meaning) (before : List Line) (e : WorldEvent) (c : ℕ) (x : Option Collection) (y : Option Grant)
    (words : List Dbpos) → NodeIs m before c x y words → Harmless m.diagram e c → ((g : Collection) → x ≡ Some g →
    TellsNothing m.diagram before e c) → NodeAfter m before c x y words Quiet e
stays m before e c x y words is harmless tells = record {
  granted = is.granted;
  collecting = is.collecting ∙ sym (not_forgotten m.diagram e c (collecting before c) harmless);
  read = λ i lt at. is.read i lt at ∙ sym (not_sensed m.diagram e c i (reading_at m.diagram before i) harmless at);
  last = is.last;
  round = is.round;
  heard = λ g b has. nothing_heard m before e c b (get_or g.heard b None) (tells g has) (is.heard g b has);
  missing = is.missing;
}

-- a message that is no answer to c from another bay in its round tells nothing
pub tells_nothing : (d : Diagram) (before : List Line) (n : ℕ) (c : ℕ) (s : Sending) → sending before n ≡ Some s →
    ((b : ℕ) → is_another d c b ≡ true → ¬ IsAnswer s.message b c (last_round before c)) →
    TellsNothing d before (Deliver n) c
tells_nothing d before n c s found never b other = rw found (told_nothing d s b c (last_round before c) (never b other))
