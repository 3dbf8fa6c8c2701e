-- What is promised of a run, by its lines alone: a command is granted exactly where the rules hold in each
-- reading of what its bay knows, and each granted operation obeys the rules on the true positions.
use Rattle.std.specs.Prelude.{◌≡◌, ◌≢◌, ◌⊎◌, ◌<◌, ℕ, Bool, true, List, [], ◌∷◌, length, Some, None, slice_get, Contains}
use Rattle.std.specs.Prelude.{⊤}
use Rattle.ilk_base.specs.declared.words.Op.{Op}
use Rattle.ilk_base.specs.declared.words.Rule.{Rule}
use Rattle.station_graph.specs.Diagram.{Diagram}
use Rattle.station_graph.specs.Alike.{IsVector}
use Rattle.station_graph.specs.CentralRules.{Breaks}
use Rattle.station_graph.specs.Supply.{Apart}
use Rattle.central_rules.specs.Knowledge.{Known, IsReadingOf, Holds, IsFull}
use Rattle.central_rules.specs.Meaning.{bay_of}
use Rattle.bay_protocol.specs.declared.values.Grant.{Grant}
use Rattle.bay_protocol.specs.declared.values.Outcome.{Outcome}
use Rattle.bay_protocol.specs.declared.values.Outcome.TheVariants.{Granted, Denied, BusyBy, Finished, Withdrawn}
use Rattle.bay_protocol.specs.declared.values.Outcome.TheVariants.{Stopped}
use Rattle.reservation_core.specs.Scene.{ReadsAs}
use Rattle.reservation_core.specs.declared.values.WorldEvent.TheVariants.{Restart}
use Rattle.reservation_core.specs.Lines.{Message, Line, of_bay, shown}
use Rattle.reservation_core.specs.History.{open_of, true_after, drive_runs, Opened, collecting}
use Rattle.reservation_core.specs.Hearing.{IsVerdictOn, DecidesRound, known_at, heard_of}

-- ---- the first half: decisions

-- What is shown is the verdict: granted, and the rules hold by what is known; or denied, with a rule and a
-- reading of what is known, but for the moved switch, in which the rule is broken.
pub data Verdict (d : Diagram) (k : Known) (o : Opened) (outcome : Outcome) : Type 0 where
  grants : outcome ≡ Granted o.round o.op → Holds d o.op k → Verdict d k o outcome
  denies : (rule : Rule) (v : List Bool) → outcome ≡ shown (Denied o.round o.op rule v) → IsReadingOf d k v →
      Breaks d v o.op (Some rule) → Verdict d k o outcome

-- At a line that decides a round its verdict is shown, by what is known there; and at no other line.
pub record DecidesWell (d : Diagram) (before : List Line) (l : Line) : Type 0 where
  pub shows : (c : ℕ) (o : Opened) → DecidesRound d before l c o
      → Verdict d (known_at d before l c) o (of_bay l.shown c)
  pub no_other : (c : ℕ) (o : Opened) → IsVerdictOn (of_bay l.shown c) o → DecidesRound d before l c o

-- ---- the second half: granted operations on the true positions

-- The vector resolves the truth after these lines: it is the true position of each switch that is not between.
pub record MayBeTrue (d : Diagram) (start : List Bool) (lines : List Line) (v : List Bool) : Type 0 where
  pub whole : IsVector d v
  pub each : (i : ℕ) (closed : Bool) → slice_get v i ≡ Some closed → ReadsAs (true_after d start lines i) closed

-- The outcome ends the operation of this round.
abbrev pub EndsIt : Outcome → ℕ → Type 0
EndsIt (Finished q) r = q ≡ r
EndsIt (Withdrawn q) r = q ≡ r
EndsIt (Stopped q) r = q ≡ r
EndsIt outcome r = ⊥

-- At one of these lines bay c was granted the operation in round r, and no line after it shows its end.
abbrev pub OpenSince : List Line → ℕ → ℕ → Op → Type 0
OpenSince [] c r op = ⊥
OpenSince (l ∷ before) c r op =
    (of_bay l.shown c ≡ Granted r op) ⊎ (OpenSince before c r op × (¬ EndsIt (of_bay l.shown c) r))

-- Each operation that was granted and has not ended breaks no rule in any vector that resolves the truth.
abbrev pub ObeysSince : Diagram → List Bool → List Line → Type 0
ObeysSince d start lines =
    (c r : ℕ) (op : Op) (v : List Bool) → OpenSince lines c r op → MayBeTrue d start lines v → Breaks d v op None

-- Each drive that runs moves its switch by an operation that its bay was granted and that has not ended.
abbrev pub DrivesAreGranted : Diagram → List Line → Type 0
DrivesAreGranted d lines =
    (i : ℕ) → i < length d.switches → drive_runs lines i ≡ true →
    (r : ℕ) × (op : Op) × (op.switch.0 ≡ i) × OpenSince lines (bay_of d i) r op

-- ---- consequences

-- In no vector that resolves the truth is a node both energisable and earthable.
abbrev pub IsSound : Diagram → List Bool → List Line → Type 0
IsSound d start lines = (v : List Bool) → MayBeTrue d start lines v → Apart d v

-- A round of the bay is under way.
abbrev pub IsUnderWay : List Line → ℕ → Type 0
IsUnderWay lines c = (collecting lines c ≢ None) ⊎ (open_of lines c ≢ None)

-- Of two bays whose rounds are under way at once, neither has heard the other in its round.
abbrev pub HearNothing : Diagram → List Line → Type 0
HearNothing d lines = (c b : ℕ) → c ≢ b → IsUnderWay lines c → IsUnderWay lines b → heard_of d lines c b ≡ None

-- What is shown is the verdict of the true positions, whichever of the vectors T they are.
pub data TrueVerdict (d : Diagram) (T : List Bool → Type 0) (o : Opened) (outcome : Outcome) : Type 0 where
  grants : outcome ≡ Granted o.round o.op → ((v : List Bool) → T v → Breaks d v o.op None) → TrueVerdict d T o outcome
  denies : (rule : Rule) (reading : List Bool) → outcome ≡ Denied o.round o.op rule reading →
      ((v : List Bool) → T v → Breaks d v o.op (Some rule)) → TrueVerdict d T o outcome

-- At a line that decides, the true positions are a reading of what is known; and where all others are heard and
-- all words known are off or on, they alone decide.
pub record TruthDecides (d : Diagram) (start : List Bool) (before : List Line) (l : Line) : Type 0 where
  pub reading : (c : ℕ) (o : Opened) → DecidesRound d before l c o → (v : List Bool)
      → MayBeTrue d start (l ∷ before) v →
      IsReadingOf d (known_at d before l c) v
  pub full : (c : ℕ) (o : Opened) → DecidesRound d before l c o → IsFull d (known_at d before l c) →
      TrueVerdict d (MayBeTrue d start (l ∷ before)) o (of_bay l.shown c)

-- ---- rounds and messages

-- The outcome is a Busy of the round.
abbrev pub IsBusy : Outcome → ℕ → Type 0
IsBusy (BusyBy r from holder q) round = r ≡ round
IsBusy outcome round = ⊥

-- The outcome is the withdrawal of the round.
abbrev pub IsWithdrawal : Outcome → ℕ → Type 0
IsWithdrawal (Withdrawn r) round = r ≡ round
IsWithdrawal outcome round = ⊥

-- Why a round that was being collected is collected no longer.
pub data StopsCollecting (d : Diagram) (before : List Line) (l : Line) (c : ℕ) (o : Opened) : Type 0 where
  decided : DecidesRound d before l c o → StopsCollecting d before l c o
  busy : IsBusy (of_bay l.shown c) o.round → StopsCollecting d before l c o
  withdrawn : IsWithdrawal (of_bay l.shown c) o.round → StopsCollecting d before l c o
  restarted : l.event ≡ Restart (record { 0 = c }) → StopsCollecting d before l c o

-- A round stops being collected exactly at the line that decides it, at a Busy of its round, at its withdrawal,
-- or at a restart; else it is collected still.
pub record StopsWell (d : Diagram) (before : List Line) (l : Line) : Type 0 where
  pub stops : (c : ℕ) (o : Opened) → collecting before c ≡ Some o → StopsCollecting d before l c o →
      collecting (l ∷ before) c ≡ None
  pub else_stays : (c : ℕ) (o : Opened) → collecting before c ≡ Some o →
      StopsCollecting d before l c o ⊎ (collecting (l ∷ before) c ≡ Some o)

-- Each message is sent by the bay that the line shows.
abbrev pub OwnMessages : Line → Type 0
OwnMessages l = (x : Message) → Contains l.shown.messages x → x.from ≡ l.shown.bay

-- ---- all of it

-- This holds after each of the lines, and at the start.
abbrev pub AtEach : (List Line → Type 0) → List Line → Type 0
AtEach P [] = P []
AtEach P (l ∷ before) = P (l ∷ before) × AtEach P before

-- The last line decides well, by the truth where all is known, and says rightly what becomes of rounds.
abbrev pub Decisions : Diagram → List Bool → List Line → Type 0
Decisions d start [] = ⊤
Decisions d start (l ∷ before) =
    DecidesWell d before l × TruthDecides d start before l × StopsWell d before l × OwnMessages l

-- The headline: every decision is exact, every movement was granted and obeys the rules on the true positions
-- throughout, a sound start stays sound, and two rounds at once hear nothing of each other.
pub record Headline (d : Diagram) (start : List Bool) (lines : List Line) : Type 0 where
  pub decisions : AtEach (Decisions d start) lines
  pub granted : AtEach (DrivesAreGranted d) lines
  pub obeys : AtEach (ObeysSince d start) lines
  pub sound : IsSound d start [] → AtEach (IsSound d start) lines
  pub apart : AtEach (HearNothing d) lines
