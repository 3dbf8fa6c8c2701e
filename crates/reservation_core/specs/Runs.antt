-- A run: the scenes through which the lines of a log lead. And the premises, by the lines.
use Rattle.std.specs.Prelude.{◌≡◌, ◌≢◌, ℕ, Bool, true, false, List, [], ◌∷◌, Some, None, ⊤}
use Rattle.station_graph.specs.Diagram.{Diagram}
use Rattle.central_rules.specs.Meaning.{Meaning, bay_of}
use Rattle.bay_protocol.specs.declared.values.Grant.{Grant}
use Rattle.bay_protocol.specs.declared.values.Outcome.{Outcome}
use Rattle.bay_protocol.specs.declared.values.Outcome.TheVariants.{Quiet}
use Rattle.reservation_core.specs.Scene.{Scene, IsTrueWord, end_position}
use Rattle.reservation_core.specs.Start.{IsStart}
use Rattle.reservation_core.specs.Happens.{Happens, InRange}
use Rattle.reservation_core.specs.declared.values.Position.{Position}
use Rattle.reservation_core.specs.declared.values.Which.{Which}
use Rattle.reservation_core.specs.declared.values.Which.TheVariants.{Sensed, Begun, Ended, Withdrawn, Unsent}
use Rattle.reservation_core.specs.declared.values.Which.TheVariants.{Cut as NotCut}
use Rattle.reservation_core.specs.declared.values.WorldEvent.{WorldEvent}
use Rattle.reservation_core.specs.declared.values.WorldEvent.TheVariants.{Command, Sense, Deliver, Tick, Withdraw}
use Rattle.reservation_core.specs.declared.values.WorldEvent.TheVariants.{Restart, Begin, End, Part, Cut}
use Rattle.reservation_core.specs.declared.values.WorldOutcome.{WorldOutcome}
use Rattle.reservation_core.specs.declared.values.WorldOutcome.TheVariants.{Premise, Drive, Node}
use Rattle.reservation_core.specs.Lines.{Line, Message, Shown, shown, messages}
use Rattle.reservation_core.specs.History.{open_of, true_after, drive_runs, sending}

-- Nothing is shown.
pub record ShowsNothing (s : Shown) : Type 0 where
  pub outcome : s.outcome ≡ Quiet
  pub messages : s.messages ≡ []

-- The bay that stands beside an outcome and messages: 0 where nothing is shown.
abbrev pub bay_shown : ℕ → Outcome → List Message → ℕ
bay_shown b Quiet [] = 0
bay_shown b outcome messages = b

-- What bay b shows.
abbrev pub shown_by : ℕ → Outcome → List Message → Shown
shown_by b outcome messages = record {
  bay = bay_shown b outcome messages;
  outcome = outcome;
  messages = messages;
}

-- What is shown of an outcome. Where a premise is broken there is no line.
abbrev pub Shows : WorldOutcome → Shown → Type 0
Shows (Premise which) s = ⊥
Shows Drive s = ShowsNothing s
Shows (Node bay first output) s = s ≡ shown_by bay.0 (shown output.outcome) (messages first output.frames)

-- Nothing shown.
abbrev pub nothing_shown : Shown
nothing_shown = record { bay = 0; outcome = Quiet; messages = [] }

-- What is shown of what comes of an event.
abbrev pub shown_of : WorldOutcome → Shown
shown_of (Node bay first output) = shown_by bay.0 (shown output.outcome) (messages first output.frames)
shown_of (Premise which) = nothing_shown
shown_of Drive = nothing_shown

-- One line leads from a scene to another.
pub record Leads (m : Meaning) (old : Scene) (l : Line) (new : Scene) : Type 0 where
  pub range : InRange m.diagram l.event
  pub outcome : WorldOutcome
  pub happens : Happens m old l.event new outcome
  pub shows : Shows outcome l.shown

-- These lines, newest first, lead from the start to the scene.
abbrev pub Run : Meaning → List Bool → List Line → Scene → Type 0
Run m start [] w = IsStart m.diagram start w
Run m start (l ∷ before) w = (old : Scene) × Run m start before old × Leads m old l w

-- ---- the premises 2 to 7

-- The switch has an open operation, its drive stands still, and it is not at the wanted end, by these true
-- positions and drives.
pub record MayBegin (d : Diagram) (truth : ℕ → Position) (drives : ℕ → Bool) (before : List Line) (i : ℕ) : Type 0 where
  pub grant : Grant
  pub opened : open_of before (bay_of d i) ≡ Some grant
  pub switch : grant.op.switch.0 ≡ i
  pub still : drives i ≡ false
  pub away : truth i ≢ end_position grant.op.direction

-- The event keeps its premise, by the lines before it, and these true positions and drives: what is sensed as off
-- or on is the true position; what begins may begin; the drive that ends or is cut off runs; the drive of an
-- operation that is withdrawn does not; and the message that comes was sent.
abbrev pub MayHappenBy : Diagram → (ℕ → Position) → (ℕ → Bool) → List Line → WorldEvent → Type 0
MayHappenBy d truth drives before (Command op) = ⊤
MayHappenBy d truth drives before (Sense i word) = IsTrueWord word (truth i.0)
MayHappenBy d truth drives before (Begin i) = MayBegin d truth drives before i.0
MayHappenBy d truth drives before (End i) = drives i.0 ≡ true
MayHappenBy d truth drives before (Withdraw b) =
    (g : Grant) → open_of before b.0 ≡ Some g → drives g.op.switch.0 ≡ false
MayHappenBy d truth drives before (Deliver n) = sending before n ≢ None
MayHappenBy d truth drives before (Part n bytes) = sending before n ≢ None
MayHappenBy d truth drives before (Cut i) = drives i.0 ≡ true
MayHappenBy d truth drives before (Tick b) = ⊤
MayHappenBy d truth drives before (Restart b) = ⊤

-- The same by the true positions and drives that the lines tell.
abbrev pub MayHappen : Diagram → List Bool → List Line → WorldEvent → Type 0
MayHappen d start before event = MayHappenBy d (true_after d start before) (drive_runs before) before event

-- Each of the lines kept its premise.
abbrev pub PremisesHold : Diagram → List Bool → List Line → Type 0
PremisesHold d start [] = ⊤
PremisesHold d start (l ∷ before) = MayHappen d start before l.event × PremisesHold d start before

-- The premise of which an event speaks.
abbrev pub IsPremiseOf : WorldEvent → Which → Type 0
IsPremiseOf (Sense i word) which = which ≡ Sensed
IsPremiseOf (Begin i) which = which ≡ Begun
IsPremiseOf (End i) which = which ≡ Ended
IsPremiseOf (Withdraw b) which = which ≡ Withdrawn
IsPremiseOf (Deliver n) which = which ≡ Unsent
IsPremiseOf (Part n bytes) which = which ≡ Unsent
IsPremiseOf (Cut i) which = which ≡ NotCut
IsPremiseOf (Command op) which = ⊥
IsPremiseOf (Tick b) which = ⊥
IsPremiseOf (Restart b) which = ⊥

-- The event breaks this premise, by the lines before it.
pub record IsBrokenBy (d : Diagram) (start : List Bool) (before : List Line) (event : WorldEvent)
    (which : Which) : Type 0 where
  pub broken : ¬ MayHappen d start before event
  pub named : IsPremiseOf event which

-- The event keeps its premise, and no broken premise comes of it; or it breaks this one, and that comes of it.
pub data PremiseExact (d : Diagram) (start : List Bool) (before : List Line) (event : WorldEvent)
    (outcome : WorldOutcome) : Type 0 where
  keeps : MayHappen d start before event → ((which : Which) → outcome ≢ Premise which) →
      PremiseExact d start before event outcome
  breaks : (which : Which) → IsBrokenBy d start before event which → outcome ≡ Premise which →
      PremiseExact d start before event outcome
