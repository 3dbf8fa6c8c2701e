-- The protocol of a bay: what a node may do at an event. A constructor is a rule of the protocol, and says
-- when the rule holds, which earlier ones do not, and how the step ends. Throughout, m is the meaning of the
-- judge's summaries, d the station, and old the state before the step.
use Rattle.std.specs.Prelude.{◌≡◌, ◌≢◌, ◌+◌, ◌<◌, ◌≤◌, ℕ, Bool, List, [], ◌∷◌, Some, None, slice_get}
use Rattle.ilk_base.specs.declared.words.BayId.{BayId}
use Rattle.ilk_base.specs.declared.words.Dbpos.{Dbpos}
use Rattle.ilk_base.specs.declared.words.Dbpos.TheVariants.{Off, On, Lost}
use Rattle.ilk_base.specs.declared.words.Direction.{Direction}
use Rattle.ilk_base.specs.declared.words.Direction.TheVariants.{ToOff, ToOn}
use Rattle.ilk_base.specs.declared.words.Op.{Op}
use Rattle.ilk_base.specs.declared.words.Rule.{Rule}
use Rattle.station_graph.specs.Diagram.{Diagram}
use Rattle.central_rules.specs.declared.verdict.Verdict.{Verdict}
use Rattle.central_rules.specs.declared.verdict.Verdict.TheVariants.{Release, Denied as Denies}
use Rattle.central_rules.specs.Readings.{Decides}
use Rattle.central_rules.specs.Meaning.{Meaning, Summarises, CannotExclude}
use Rattle.bay_frames.specs.declared.frame.Body.{Body}
use Rattle.bay_frames.specs.declared.frame.Body.TheVariants.{Reserve, Answer, Busy, Query, Over}
use Rattle.bay_frames.specs.declared.frame.Frame.{Frame}
use Rattle.bay_frames.specs.Row.{frame_row, IsLawful, FitsRow}
use Rattle.bay_protocol.specs.declared.values.TheConstants.{LAST_ROUND}
use Rattle.bay_protocol.specs.declared.values.Lock.{Lock}
use Rattle.bay_protocol.specs.declared.values.Grant.{Grant}
use Rattle.bay_protocol.specs.declared.values.Collection.{Collection}
use Rattle.bay_protocol.specs.declared.values.NodeEvent.{NodeEvent}
use Rattle.bay_protocol.specs.declared.values.NodeEvent.TheVariants.{Command, Sense, Frame as Arrival, Tick, Withdraw}
use Rattle.bay_protocol.specs.declared.values.NodeEvent.TheVariants.{Restart, Cut}
use Rattle.bay_protocol.specs.declared.values.Outcome.{Outcome}
use Rattle.bay_protocol.specs.declared.values.Outcome.TheVariants.{UnderWay, HeldBy, There, Spent, Collecting, Granted}
use Rattle.bay_protocol.specs.declared.values.Outcome.TheVariants.{Denied, BusyBy, Finished, Withdrawn, Stopped, Quiet}
use Rattle.bay_protocol.specs.State.{State, under_way, IsOther, others, AllHeard, collects, fresh, opens, hears, grants}
use Rattle.bay_protocol.specs.State.{drops, ends, locks, unlocks, senses, restarts, MayLock}
use Rattle.bay_protocol.specs.Sends.{frame, to_each, overs}

-- What comes of a step: the new state, the outcome that is shown, and the frames that are sent.
pub record Turn : Type 0 where
  pub new : State
  pub outcome : Outcome
  pub frames : List Frame

-- The step ends so.
pub record StepEnds (turn : Turn) (new : State) (outcome : Outcome) (frames : List Frame) : Type 0 where
  pub state : turn.new ≡ new
  pub says : turn.outcome ≡ outcome
  pub sends : turn.frames ≡ frames

-- Nothing: no change, no frame, and nothing to show.
abbrev pub Nothing : State → Turn → Type 0
Nothing old turn = StepEnds turn old Quiet []

-- ---- deciding

-- The judge decides so, by the own words and what was heard in g.
abbrev pub IsVerdict : Meaning → State → Collection → Verdict → Type 0
IsVerdict m s g verdict = Decides m.diagram (CannotExclude m s.bay s.words g.heard) g.op verdict

-- A node that collects g decides.
pub data Deciding (m : Meaning) (d : Diagram) (s : State) (g : Collection) (turn : Turn) : Type 0 where
  release : IsVerdict m s g Release → StepEnds turn (grants s g) (Granted g.round g.op) [] → Deciding m d s g turn
  denial : (rule : Rule) (v : List Bool) → IsVerdict m s g (Denies rule v) →
      StepEnds turn (drops s) (Denied g.round g.op rule v) (overs d s g.round) → Deciding m d s g turn

-- ---- Command

-- No round is under way and no other bay holds the lock: none of the first two rules of a command.
pub record IsFree (s : State) : Type 0 where
  pub idle : under_way s ≡ None
  pub unlocked : s.lock ≡ None

-- The word at which an operation ends.
abbrev pub end_word : Direction → Dbpos
end_word ToOff = Off
end_word ToOn = On

-- By the own reading the switch has the position that is wanted.
abbrev pub IsThere : State → Op → Type 0
IsThere s op = slice_get s.words op.switch.0 ≡ Some (end_word op.direction)

-- A node opens its next round: with no others it decides at once, else it sends Reserve to the others.
pub data OpenStep (m : Meaning) (d : Diagram) (old : State) (op : Op) (turn : Turn) : Type 0 where
  alone : others d old.bay ≡ [] → Deciding m d (opens d old op) (fresh d old op) turn → OpenStep m d old op turn
  reserves : others d old.bay ≢ [] →
      StepEnds turn (opens d old op) (Collecting (old.highest + 1))
      (to_each old.bay (old.highest + 1) Reserve (others d old.bay)) → OpenStep m d old op turn

-- The step at a command.
pub data CommandStep (m : Meaning) (d : Diagram) (old : State) (op : Op) (turn : Turn) : Type 0 where
  round_under_way : (q : ℕ) → under_way old ≡ Some q → StepEnds turn old (UnderWay q) [] → CommandStep m d old op turn
  held : (l : Lock) → under_way old ≡ None → old.lock ≡ Some l → StepEnds turn old (HeldBy l.holder l.round) [] →
      CommandStep m d old op turn
  there : IsFree old → IsThere old op → StepEnds turn old There [] → CommandStep m d old op turn
  spent : IsFree old → ¬ IsThere old op → old.highest ≡ LAST_ROUND → StepEnds turn old Spent [] →
      CommandStep m d old op turn
  opens_round : IsFree old → ¬ IsThere old op → old.highest < LAST_ROUND → OpenStep m d old op turn →
      CommandStep m d old op turn

-- ---- the five kinds of frames

-- The bay gives its lock to round r of bay c, and answers with a summary of its own words.
pub record Answering (m : Meaning) (old : State) (c r : ℕ) (turn : Turn) : Type 0 where
  pub summary : List ℕ
  pub of_words : Summarises m old.bay c old.words summary
  pub end : StepEnds turn (locks old c r) Quiet (frame old.bay c r (Answer summary) ∷ [])

-- Reserve from bay c with round r.
pub data ReserveStep (m : Meaning) (old : State) (c r : ℕ) (turn : Turn) : Type 0 where
  busy_itself : (q : ℕ) → under_way old ≡ Some q →
      StepEnds turn old Quiet (frame old.bay c r (Busy (record { 0 = old.bay }) q) ∷ []) → ReserveStep m old c r turn
  busy_locked : (l : Lock) → under_way old ≡ None → old.lock ≡ Some l → l.holder.0 ≢ c →
      StepEnds turn old Quiet (frame old.bay c r (Busy l.holder l.round) ∷ []) → ReserveStep m old c r turn
  late : (l : Lock) → under_way old ≡ None → old.lock ≡ Some l → l.holder.0 ≡ c → r < l.round → Nothing old turn →
      ReserveStep m old c r turn
  answers : under_way old ≡ None → MayLock old.lock c r → Answering m old c r turn → ReserveStep m old c r turn

-- Answer from bay b with round r.
pub data AnswerStep (m : Meaning) (d : Diagram) (old : State) (b r : ℕ) (summary : List ℕ) (turn : Turn) : Type 0 where
  heard_one : (g : Collection) → old.collecting ≡ Some g → g.round ≡ r → m.Fits b old.bay summary →
      ¬ AllHeard d old.bay (hears g b summary).heard →
      StepEnds turn (collects old old.highest (hears g b summary)) Quiet [] → AnswerStep m d old b r summary turn
  heard_last : (g : Collection) → old.collecting ≡ Some g → g.round ≡ r → m.Fits b old.bay summary →
      AllHeard d old.bay (hears g b summary).heard →
      Deciding m d (collects old old.highest (hears g b summary)) (hears g b summary) turn →
      AnswerStep m d old b r summary turn
  unfit : (g : Collection) → old.collecting ≡ Some g → g.round ≡ r → ¬ m.Fits b old.bay summary → Nothing old turn →
      AnswerStep m d old b r summary turn
  other_round : (g : Collection) → old.collecting ≡ Some g → g.round ≢ r → Nothing old turn →
      AnswerStep m d old b r summary turn
  none_collected : old.collecting ≡ None → Nothing old turn → AnswerStep m d old b r summary turn

-- Busy from bay b with round r: it holds still for this round of this holder.
pub data BusyStep (d : Diagram) (old : State) (b r : ℕ) (holder : BayId) (holder_round : ℕ) (turn : Turn) : Type 0 where
  gives_up : (g : Collection) → old.collecting ≡ Some g → g.round ≡ r →
      StepEnds turn (drops old) (BusyBy r (record { 0 = b }) holder holder_round) (overs d old r) →
      BusyStep d old b r holder holder_round turn
  other_round : (g : Collection) → old.collecting ≡ Some g → g.round ≢ r → Nothing old turn →
      BusyStep d old b r holder holder_round turn
  none_collected : old.collecting ≡ None → Nothing old turn → BusyStep d old b r holder holder_round turn

-- Query from bay b with round r.
pub data QueryStep (old : State) (b r : ℕ) (turn : Turn) : Type 0 where
  is_over : r ≤ old.highest → under_way old ≢ Some r → StepEnds turn old Quiet (frame old.bay b r Over ∷ []) →
      QueryStep old b r turn
  unknown_round : old.highest < r → Nothing old turn → QueryStep old b r turn
  round_under_way : under_way old ≡ Some r → Nothing old turn → QueryStep old b r turn

-- Over from bay c with round r.
pub data OverStep (old : State) (c r : ℕ) (turn : Turn) : Type 0 where
  unlocks_it : (l : Lock) → old.lock ≡ Some l → l.holder.0 ≡ c → l.round ≤ r → StepEnds turn (unlocks old) Quiet [] →
      OverStep old c r turn
  earlier_round : (l : Lock) → old.lock ≡ Some l → l.holder.0 ≡ c → r < l.round → Nothing old turn →
      OverStep old c r turn
  another_holder : (l : Lock) → old.lock ≡ Some l → l.holder.0 ≢ c → Nothing old turn → OverStep old c r turn
  no_lock : old.lock ≡ None → Nothing old turn → OverStep old c r turn

-- A frame is to this bay and from another bay of the station.
pub record IsMeant (d : Diagram) (s : State) (f : Frame) : Type 0 where
  pub here : f.to.0 ≡ s.bay
  pub other : IsOther d s.bay f.from.0

-- The step at a frame.
pub data FrameStep (m : Meaning) (d : Diagram) (old : State) (f : Frame) (turn : Turn) : Type 0 where
  elsewhere : f.to.0 ≢ old.bay → Nothing old turn → FrameStep m d old f turn
  stranger : ¬ IsOther d old.bay f.from.0 → Nothing old turn → FrameStep m d old f turn
  reserve : IsMeant d old f → f.body ≡ Reserve → ReserveStep m old f.from.0 f.round turn → FrameStep m d old f turn
  answer : (summary : List ℕ) → IsMeant d old f → f.body ≡ Answer summary →
      AnswerStep m d old f.from.0 f.round summary turn → FrameStep m d old f turn
  busy : (holder : BayId) (q : ℕ) → IsMeant d old f → f.body ≡ Busy holder q →
      BusyStep d old f.from.0 f.round holder q turn → FrameStep m d old f turn
  query : IsMeant d old f → f.body ≡ Query → QueryStep old f.from.0 f.round turn → FrameStep m d old f turn
  over : IsMeant d old f → f.body ≡ Over → OverStep old f.from.0 f.round turn → FrameStep m d old f turn

-- ---- the other events

-- The step at a tick.
pub data TickStep (m : Meaning) (d : Diagram) (old : State) (turn : Turn) : Type 0 where
  decides : (g : Collection) → old.collecting ≡ Some g → Deciding m d old g turn → TickStep m d old turn
  asks : (l : Lock) → old.collecting ≡ None → old.lock ≡ Some l →
      StepEnds turn old Quiet (frame old.bay l.holder.0 l.round Query ∷ []) → TickStep m d old turn
  rests : old.collecting ≡ None → old.lock ≡ None → Nothing old turn → TickStep m d old turn

-- The word of switch i is the wanted end of the granted operation.
pub record IsEnd (s : State) (i : ℕ) (word : Dbpos) (g : Grant) : Type 0 where
  pub granted : s.granted ≡ Some g
  pub switch : g.op.switch.0 ≡ i
  pub wanted : word ≡ end_word g.op.direction

-- The step at a sensed word.
pub data SenseStep (d : Diagram) (old : State) (i : ℕ) (word : Dbpos) (turn : Turn) : Type 0 where
  finishes : (g : Grant) → IsEnd old i word g →
      StepEnds turn (ends (senses old i word)) (Finished g.round) (overs d old g.round) → SenseStep d old i word turn
  reads : ((g : Grant) → ¬ IsEnd old i word g) → StepEnds turn (senses old i word) Quiet [] →
      SenseStep d old i word turn

-- The step at a withdrawal.
pub data WithdrawStep (d : Diagram) (old : State) (turn : Turn) : Type 0 where
  from_round : (g : Collection) → old.collecting ≡ Some g →
      StepEnds turn (drops old) (Withdrawn g.round) (overs d old g.round) → WithdrawStep d old turn
  from_grant : (g : Grant) → old.collecting ≡ None → old.granted ≡ Some g →
      StepEnds turn (ends (senses old g.op.switch.0 Lost)) (Withdrawn g.round) (overs d old g.round) →
      WithdrawStep d old turn
  no_round : under_way old ≡ None → Nothing old turn → WithdrawStep d old turn

-- The drive of switch i stopped.
pub data CutStep (d : Diagram) (old : State) (i : ℕ) (turn : Turn) : Type 0 where
  stops : (g : Grant) → old.granted ≡ Some g → g.op.switch.0 ≡ i →
      StepEnds turn (ends (senses old i Lost)) (Stopped g.round) (overs d old g.round) → CutStep d old i turn
  other_switch : (g : Grant) → old.granted ≡ Some g → g.op.switch.0 ≢ i → Nothing old turn → CutStep d old i turn
  no_grant : old.granted ≡ None → Nothing old turn → CutStep d old i turn

-- ---- a step

-- One step of the protocol, at any event. At a restart the words and the collected round are lost, and
-- nothing is sent.
abbrev pub Step : Meaning → Diagram → State → NodeEvent → Turn → Type 0
Step m d old (Command op) turn = CommandStep m d old op turn
Step m d old (Sense i word) turn = SenseStep d old i.0 word turn
Step m d old (Arrival f) turn = FrameStep m d old f turn
Step m d old Tick turn = TickStep m d old turn
Step m d old Withdraw turn = WithdrawStep d old turn
Step m d old Restart turn = StepEnds turn (restarts old) Quiet []
Step m d old (Cut i) turn = CutStep d old i.0 turn

-- These bytes arrive: where they are the row of a lawful frame, it is the step with that frame; else nothing.
pub data TakeStep (m : Meaning) (d : Diagram) (old : State) (bytes : List ℕ) (turn : Turn) : Type 0 where
  a_frame : (f : Frame) → FitsRow f → IsLawful f → bytes ≡ frame_row f → Step m d old (Arrival f) turn →
      TakeStep m d old bytes turn
  no_frame : ((f : Frame) → FitsRow f → IsLawful f → bytes ≢ frame_row f) → Nothing old turn →
      TakeStep m d old bytes turn
