-- What may happen in a world at an event. Throughout, m is the meaning of the judge's summaries, old the world
-- before the event, and new the one after it.
use Rattle.std.specs.Prelude.{◌≡◌, ◌≢◌, ◌+◌, ◌-◌, ◌<◌, ◌⊎◌, ℕ, List, true, false, [], length, Some, slice_get, ⊤}
use Rattle.ilk_base.specs.declared.words.Dbpos.{Dbpos}
use Rattle.ilk_base.specs.declared.words.SwitchId.{SwitchId}
use Rattle.station_graph.specs.Diagram.{Diagram}
use Rattle.station_graph.specs.CentralRules.{IsOperation}
use Rattle.central_rules.specs.Meaning.{Meaning, IsBay, bay_of}
use Rattle.bay_frames.specs.declared.frame.Frame.{Frame}
use Rattle.bay_protocol.specs.declared.values.Grant.{Grant}
use Rattle.bay_protocol.specs.declared.values.NodeEvent.{NodeEvent}
use Rattle.bay_protocol.specs.declared.values.NodeEvent.TheVariants.{Command as Commanded, Sense as Sensing}
use Rattle.bay_protocol.specs.declared.values.NodeEvent.TheVariants.{Frame as Arrival, Tick as Ticking}
use Rattle.bay_protocol.specs.declared.values.NodeEvent.TheVariants.{Withdraw as Withdrawing, Restart as Restarting}
use Rattle.bay_protocol.specs.declared.values.NodeEvent.TheVariants.{Cut as Cutting}
use Rattle.bay_protocol.specs.declared.values.Outcome.TheVariants.{Quiet}
use Rattle.bay_protocol.specs.State.{State, kept_of}
use Rattle.bay_protocol.specs.Step.{Turn, Step, TakeStep}
use Rattle.bay_protocol.specs.Output.{IsKeep}
use Rattle.reservation_core.specs.Scene.{Scene, node, at_node, posts, moves, stops, true_at, runs, IsTrueWord}
use Rattle.reservation_core.specs.Scene.{end_position}
use Rattle.reservation_core.specs.RoundFacts.{NotGranted}
use Rattle.reservation_core.specs.declared.values.Position.TheVariants.{Between}
use Rattle.reservation_core.specs.declared.values.Which.{Which}
use Rattle.reservation_core.specs.declared.values.Which.TheVariants.{Sensed, Begun, Ended, Withdrawn, Unsent}
use Rattle.reservation_core.specs.declared.values.Which.TheVariants.{Cut as NotCut}
use Rattle.reservation_core.specs.declared.values.WorldEvent.{WorldEvent}
use Rattle.reservation_core.specs.declared.values.WorldEvent.TheVariants.{Command, Sense, Deliver, Tick, Withdraw}
use Rattle.reservation_core.specs.declared.values.WorldEvent.TheVariants.{Restart, Begin, End, Part, Cut}
use Rattle.reservation_core.specs.declared.values.WorldOutcome.{WorldOutcome}
use Rattle.reservation_core.specs.declared.values.WorldOutcome.TheVariants.{Premise, Drive, Node}

-- A premise is broken, and nothing changes.
pub record IsStoppedBy (old new : Scene) (outcome : WorldOutcome) (which : Which) : Type 0 where
  pub unchanged : new ≡ old
  pub says : outcome ≡ Premise which

-- A drive has done something.
pub record IsDriven (new : Scene) (outcome : WorldOutcome) (after : Scene) : Type 0 where
  pub world : new ≡ after
  pub says : outcome ≡ Drive

-- The outcome is that of this turn of node b, which was s before it; so many messages were sent before.
abbrev pub Tells : ℕ → ℕ → State → Turn → WorldOutcome → Type 0
Tells count b s turn (Node bay first output) =
    (bay.0 ≡ b) × (first ≡ count + 1) × (output.outcome ≡ turn.outcome) × (output.frames ≡ turn.frames)
    × IsKeep (kept_of s) (kept_of turn.new) output.keep
Tells count b s turn (Premise which) = ⊥
Tells count b s turn Drive = ⊥

-- Node b takes one step of the protocol, and what it sends gets the next numbers.
pub record NodeSteps (m : Meaning) (old : Scene) (b : ℕ) (event : NodeEvent) (new : Scene)
    (outcome : WorldOutcome) : Type 0 where
  pub turn : Turn
  pub step : Step m m.diagram (node m.diagram old b) event turn
  pub world : new ≡ posts (at_node old b turn.new) turn.frames
  pub says : Tells (length old.sent) b (node m.diagram old b) turn outcome

-- Node b is handed these bytes: where they are the row of a frame, it takes the step with that frame, and else
-- nothing happens to it.
pub record NodeTakes (m : Meaning) (old : Scene) (b : ℕ) (bytes : List ℕ) (new : Scene)
    (outcome : WorldOutcome) : Type 0 where
  pub turn : Turn
  pub step : TakeStep m m.diagram (node m.diagram old b) bytes turn
  pub world : new ≡ posts (at_node old b turn.new) turn.frames
  pub says : Tells (length old.sent) b (node m.diagram old b) turn outcome

-- Message k is this frame.
pub record IsMessage (w : Scene) (k : ℕ) (f : Frame) : Type 0 where
  pub positive : k ≢ 0
  pub sent : slice_get w.sent (k - 1) ≡ Some f

-- No message k was sent yet.
abbrev pub IsUnsent : Scene → ℕ → Type 0
IsUnsent w k = (k ≡ 0) ⊎ (length w.sent < k)

-- A word of switch i is read: it is refused where it is not true.
pub data SenseHappens (m : Meaning) (old : Scene) (i : SwitchId) (word : Dbpos) (new : Scene)
    (outcome : WorldOutcome) : Type 0 where
  untrue : ¬ IsTrueWord word (true_at old.truth i.0) → IsStoppedBy old new outcome Sensed →
      SenseHappens m old i word new outcome
  reads : IsTrueWord word (true_at old.truth i.0) →
      NodeSteps m old (bay_of m.diagram i.0) (Sensing i word) new outcome → SenseHappens m old i word new outcome

-- Message k is delivered: it is refused where it was not sent.
pub data DeliverHappens (m : Meaning) (old : Scene) (k : ℕ) (new : Scene) (outcome : WorldOutcome) : Type 0 where
  unsent : IsUnsent old k → IsStoppedBy old new outcome Unsent → DeliverHappens m old k new outcome
  comes : (f : Frame) → IsMessage old k f → NodeSteps m old f.to.0 (Arrival f) new outcome →
      DeliverHappens m old k new outcome

-- Node b is as it was, shows nothing and sends nothing.
abbrev pub no_turn : State → Turn
no_turn s = record { new = s; outcome = Quiet; frames = [] }

-- A message that is cut short changes nothing.
pub data PartHappens (d : Diagram) (old : Scene) (k : ℕ) (new : Scene) (outcome : WorldOutcome) : Type 0 where
  unsent : IsUnsent old k → IsStoppedBy old new outcome Unsent → PartHappens d old k new outcome
  nothing : (f : Frame) → IsMessage old k f → new ≡ old →
      Tells (length old.sent) f.to.0 (node d old f.to.0) (no_turn (node d old f.to.0)) outcome →
      PartHappens d old k new outcome

-- The drive of the granted operation of bay b runs.
abbrev pub IsMoving : Diagram → Scene → ℕ → Type 0
IsMoving d w b = (g : Grant) × ((node d w b).granted ≡ Some g) × (runs w.drives g.op.switch.0 ≡ true)

-- Bay b gives up its operation: it is refused where the drive runs.
pub data WithdrawHappens (m : Meaning) (old : Scene) (b : ℕ) (new : Scene) (outcome : WorldOutcome) : Type 0 where
  running : (g : Grant) → (node m.diagram old b).granted ≡ Some g → runs old.drives g.op.switch.0 ≡ true →
      IsStoppedBy old new outcome Withdrawn → WithdrawHappens m old b new outcome
  resting : ((g : Grant) → (node m.diagram old b).granted ≡ Some g → runs old.drives g.op.switch.0 ≡ false) →
      NodeSteps m old b Withdrawing new outcome → WithdrawHappens m old b new outcome

-- The operation is the granted one of its bay, and it moves switch i.
pub record IsOpenOperation (s : State) (i : ℕ) (g : Grant) : Type 0 where
  pub granted : s.granted ≡ Some g
  pub switch : g.op.switch.0 ≡ i

-- An operation of switch i is open.
abbrev pub IsOpened : State → ℕ → Type 0
IsOpened s i = (g : Grant) × IsOpenOperation s i g

-- The drive of switch i begins: it is refused where no operation of it is granted, or where it runs.
pub data BeginHappens (d : Diagram) (old : Scene) (i : ℕ) (new : Scene) (outcome : WorldOutcome) : Type 0 where
  not_open : NotGranted (node d old (bay_of d i)) i → IsStoppedBy old new outcome Begun → BeginHappens d old i new outcome
  running : runs old.drives i ≡ true → IsStoppedBy old new outcome Begun → BeginHappens d old i new outcome
  there_already : (g : Grant) → IsOpenOperation (node d old (bay_of d i)) i g →
      true_at old.truth i ≡ end_position g.op.direction → IsStoppedBy old new outcome Begun →
      BeginHappens d old i new outcome
  begins : (g : Grant) → IsOpenOperation (node d old (bay_of d i)) i g → runs old.drives i ≡ false →
      true_at old.truth i ≢ end_position g.op.direction → IsDriven new outcome (moves old i Between true) →
      BeginHappens d old i new outcome

-- The drive of switch i ends: it is refused where it rests.
pub data EndHappens (d : Diagram) (old : Scene) (i : ℕ) (new : Scene) (outcome : WorldOutcome) : Type 0 where
  resting : runs old.drives i ≡ false → IsStoppedBy old new outcome Ended → EndHappens d old i new outcome
  arrives : (g : Grant) → runs old.drives i ≡ true → IsOpenOperation (node d old (bay_of d i)) i g →
      IsDriven new outcome (moves old i (end_position g.op.direction) false) → EndHappens d old i new outcome

-- The drive stops, the switch stays between, and its bay takes a step.
pub data CutHappens (m : Meaning) (old : Scene) (i : SwitchId) (new : Scene) (outcome : WorldOutcome) : Type 0 where
  resting : runs old.drives i.0 ≡ false → IsStoppedBy old new outcome NotCut → CutHappens m old i new outcome
  stops_between : runs old.drives i.0 ≡ true →
      NodeSteps m (stops old i.0) (bay_of m.diagram i.0) (Cutting i) new outcome → CutHappens m old i new outcome

-- One step of the world: one step of one node, one of one drive, or none.
abbrev pub Happens : Meaning → Scene → WorldEvent → Scene → WorldOutcome → Type 0
Happens m old (Command op) new outcome = NodeSteps m old (bay_of m.diagram op.switch.0) (Commanded op) new outcome
Happens m old (Sense i word) new outcome = SenseHappens m old i word new outcome
Happens m old (Deliver k) new outcome = DeliverHappens m old k new outcome
Happens m old (Tick b) new outcome = NodeSteps m old b.0 Ticking new outcome
Happens m old (Withdraw b) new outcome = WithdrawHappens m old b.0 new outcome
Happens m old (Restart b) new outcome = NodeSteps m old b.0 Restarting new outcome
Happens m old (Begin i) new outcome = BeginHappens m.diagram old i.0 new outcome
Happens m old (End i) new outcome = EndHappens m.diagram old i.0 new outcome
Happens m old (Part k bytes) new outcome = PartHappens m.diagram old k new outcome
Happens m old (Cut i) new outcome = CutHappens m old i new outcome

-- The switch of an event is one of the station, and its bay is one.
abbrev pub InRange : Diagram → WorldEvent → Type 0
InRange d (Command op) = IsOperation d op
InRange d (Sense i word) = i.0 < length d.switches
InRange d (Deliver k) = ⊤
InRange d (Tick b) = IsBay d b.0
InRange d (Withdraw b) = IsBay d b.0
InRange d (Restart b) = IsBay d b.0
InRange d (Begin i) = i.0 < length d.switches
InRange d (End i) = i.0 < length d.switches
InRange d (Part k bytes) = ⊤
InRange d (Cut i) = i.0 < length d.switches
