-- The five ways in which an event changes a world.
use Rattle.std.proofs.Common.{◌≡◌, ◌-◌, ◌<◌, ℕ, Bool, true, false, length, slice_get, Some, None, refl, sym, subst, ap}
use Rattle.std.proofs.Common.{◌∙◌}
use Rattle.std.specs.List.{All}
use Rattle.std.proofs.lemmas.List.Elements.{All-nil}
use Rattle.ilk_base.specs.declared.words.Dbpos.{Dbpos}
use Rattle.ilk_base.specs.declared.words.SwitchId.{SwitchId}
use Rattle.ilk_base.specs.declared.words.BayId.{BayId}
use Rattle.station_graph.specs.Diagram.{Diagram, IsStation}
use Rattle.central_rules.specs.Meaning.{Meaning, IsBay, bay_of}
use Rattle.bay_frames.specs.declared.frame.Frame.{Frame}
use Rattle.bay_protocol.specs.declared.values.Grant.{Grant}
use Rattle.bay_protocol.specs.declared.values.NodeEvent.{NodeEvent}
use Rattle.bay_protocol.specs.declared.values.NodeEvent.TheVariants.{Command as Commanded, Sense as Sensing}
use Rattle.bay_protocol.specs.declared.values.NodeEvent.TheVariants.{Frame as Arrival, Tick as Ticking}
use Rattle.bay_protocol.specs.declared.values.NodeEvent.TheVariants.{Withdraw as Withdrawing, Restart as Restarting}
use Rattle.bay_protocol.specs.declared.values.NodeEvent.TheVariants.{Cut as Cutting}
use Rattle.bay_frames.specs.Row.{IsLawful}
use Rattle.bay_protocol.specs.Fits.{EventFits}
use Rattle.bay_protocol.specs.State.{State}
use Rattle.bay_protocol.specs.Step.{Turn}
use Rattle.bay_protocol.specs.OutcomeLines.{OutcomeFits}
use Rattle.reservation_core.specs.World.{OutputFits}
use Rattle.reservation_core.specs.Scene.{Scene, node, moves, stops, true_at, IsTrueWord, end_position}
use Rattle.reservation_core.specs.declared.values.Position.{Position}
use Rattle.reservation_core.specs.declared.values.Position.TheVariants.{Between}
use Rattle.reservation_core.specs.declared.values.Which.{Which}
use Rattle.reservation_core.specs.declared.values.WorldEvent.{WorldEvent}
use Rattle.reservation_core.specs.declared.values.WorldEvent.TheVariants.{Command, Sense, Deliver, Tick, Withdraw}
use Rattle.reservation_core.specs.declared.values.WorldEvent.TheVariants.{Restart, Begin, End, Part, Cut}
use Rattle.reservation_core.specs.declared.values.WorldOutcome.{WorldOutcome}
use Rattle.reservation_core.specs.declared.values.WorldOutcome.TheVariants.{Premise, Drive, Node}
use Rattle.reservation_core.specs.RoundFacts.{RoundFacts}
use Rattle.reservation_core.specs.Concern.{Concern, concern, arrival}
use Rattle.reservation_core.specs.Happens.{Happens, InRange, Tells, NodeSteps, no_turn, SenseHappens, DeliverHappens}
use Rattle.reservation_core.specs.Happens.{PartHappens, WithdrawHappens, BeginHappens, EndHappens, CutHappens}
use Rattle.reservation_core.proofs.Steps.{bay_of_is}
use Rattle.reservation_core.proofs.Keeping.{got_there, own_switch}

-- the node is that of a bay, the event fits it, the message is there, and what is read is true
pub record Fair (d : Diagram) (w : Scene) (c : Concern) : Type 0 where
  pub bay : IsBay d c.bay
  pub fits : EventFits d (node d w c.bay).bay c.event
  pub message : (f : Frame) → c.event ≡ Arrival f → slice_get w.sent c.message ≡ Some f
  pub truly : (j : SwitchId) (word : Dbpos) → c.event ≡ Sensing j word → IsTrueWord word (true_at w.truth j.0)

-- what a turn shows fits where the turn does
pub told : (d : Diagram) (count b : ℕ) (s : State) (turn : Turn) (outcome : WorldOutcome) →
    Tells count b s turn outcome → IsBay d b → OutcomeFits d turn.outcome → All IsLawful turn.frames →
    OutputFits d outcome
told d count b s turn (Node bay first output) says is fits lawful = (
  subst (IsBay d) (sym says.0) is,
  subst (OutcomeFits d) (sym says.2) fits,
  subst (All IsLawful) (sym says.3) lawful,
)
told d count b s turn (Premise which) says is fits lawful = absurd says
told d count b s turn Drive says is fits lawful = absurd says

pub data Way (m : Meaning) (old : Scene) (event : WorldEvent) (new : Scene) (outcome : WorldOutcome) : Type 0 where
  refused : (which : Which) → new ≡ old → outcome ≡ Premise which → Way m old event new outcome
  nothing : new ≡ old → concern m.diagram old event ≡ None → OutputFits m.diagram outcome → Way m old event new outcome
  turns : (c : Concern) → concern m.diagram old event ≡ Some c → Fair m.diagram old c →
      NodeSteps m old c.bay c.event new outcome → Way m old event new outcome
  drives : (i : ℕ) (g : Grant) (at : Position) (running : Bool) → concern m.diagram old event ≡ None →
      i < length m.diagram.switches → (node m.diagram old (bay_of m.diagram i)).granted ≡ Some g → g.op.switch.0 ≡ i →
      new ≡ moves old i at running → outcome ≡ Drive → Way m old event new outcome
  cuts : (i : ℕ) (c : Concern) → concern m.diagram old event ≡ Some c → Fair m.diagram old c →
      NodeSteps m (stops old i) c.bay c.event new outcome → Way m old event new outcome

module _ (m : Meaning) (station : IsStation m.diagram) (old new : Scene) (outcome : WorldOutcome)
    (facts : RoundFacts m old) where
  -- an event that brings no message and reads nothing
  plainly : (b : ℕ) (event : NodeEvent) → IsBay m.diagram b → EventFits m.diagram (node m.diagram old b).bay event →
      ((f : Frame) → event ≡ Arrival f → ⊥) → ((j : SwitchId) (word : Dbpos) → event ≡ Sensing j word → ⊥) →
      Fair m.diagram old (record { bay = b; message = 0; event = event })
  plainly b event bay fits no_message no_word = record {
    bay = bay;
    fits = fits;
    message = λ f is. absurd (no_message f is);
    truly = λ j word is. absurd (no_word j word is);
  }

  way_sense : (i : SwitchId) (word : Dbpos) → i.0 < length m.diagram.switches → SenseHappens m old i word new outcome →
      Way m old (Sense i word) new outcome
  way_sense i word lt (SenseHappens.untrue not_so r) = Way.refused _ r.unchanged r.says
  way_sense i word lt (SenseHappens.reads truly s) =
      Way.turns (record { bay = bay_of m.diagram i.0; message = 0; event = Sensing i word }) refl (record {
        bay = bay_of_is m.diagram i.0 station lt;
        fits = own_switch m old i.0 facts lt;
        message = λ f is. absurd (cc is);
        truly = λ j x is.
            let at : i ≡ j = cc is in
            let e : word ≡ x = cc is in
            subst (λ (k : SwitchId). IsTrueWord x (true_at old.truth k.0)) at
            (subst (λ (y : Dbpos). IsTrueWord y (true_at old.truth i.0)) e truly);
      }) s

  way_deliver : (k : ℕ) → DeliverHappens m old k new outcome → Way m old (Deliver k) new outcome
  way_deliver k (DeliverHappens.unsent none r) = Way.refused _ r.unchanged r.says
  way_deliver k (DeliverHappens.comes f message s) =
      Way.turns (record { bay = f.to.0; message = k - 1; event = Arrival f })
      (ap (λ x. arrival (k - 1) x) message.sent) (record {
        bay = (facts.bounds.fit f (got_there old.sent (k - 1) f message.sent)).receiver.0;
        fits = (facts.bounds.fit f (got_there old.sent (k - 1) f message.sent)).lawful;
        message = λ g is. let e : f ≡ g = cc is in message.sent ∙ ap (λ x. Some x) e;
        truly = λ j x is. absurd (cc is);
      }) s

  way_part : (k bytes : ℕ) → PartHappens m.diagram old k new outcome → Way m old (Part k bytes) new outcome
  way_part k bytes (PartHappens.unsent none r) = Way.refused _ r.unchanged r.says
  way_part k bytes (PartHappens.nothing f message same says) =
      Way.nothing same refl (told m.diagram (length old.sent) f.to.0 (node m.diagram old f.to.0)
      (no_turn (node m.diagram old f.to.0)) outcome says
      (facts.bounds.fit f (got_there old.sent (k - 1) f message.sent)).receiver.0 tt (All-nil IsLawful))

  way_withdraw : (b : BayId) → IsBay m.diagram b.0 → WithdrawHappens m old b.0 new outcome →
      Way m old (Withdraw b) new outcome
  way_withdraw b bay (WithdrawHappens.running g has on r) = Way.refused _ r.unchanged r.says
  way_withdraw b bay (WithdrawHappens.resting rests s) =
      Way.turns (record { bay = b.0; message = 0; event = Withdrawing }) refl
      (plainly b.0 Withdrawing bay tt (λ f is. cc is) (λ j x is. cc is)) s

  way_begin : (i : SwitchId) → i.0 < length m.diagram.switches → BeginHappens m.diagram old i.0 new outcome →
      Way m old (Begin i) new outcome
  way_begin i lt (BeginHappens.not_open free r) = Way.refused _ r.unchanged r.says
  way_begin i lt (BeginHappens.running on r) = Way.refused _ r.unchanged r.says
  way_begin i lt (BeginHappens.there_already g it at r) = Way.refused _ r.unchanged r.says
  way_begin i lt (BeginHappens.begins g it off away driven) =
      Way.drives i.0 g Between true refl lt it.granted it.switch driven.world driven.says

  way_end : (i : SwitchId) → i.0 < length m.diagram.switches → EndHappens m.diagram old i.0 new outcome →
      Way m old (End i) new outcome
  way_end i lt (EndHappens.resting off r) = Way.refused _ r.unchanged r.says
  way_end i lt (EndHappens.arrives g on it driven) =
      Way.drives i.0 g (end_position g.op.direction) false refl lt it.granted it.switch driven.world driven.says

  way_cut : (i : SwitchId) → i.0 < length m.diagram.switches → CutHappens m old i new outcome →
      Way m old (Cut i) new outcome
  way_cut i lt (CutHappens.resting off r) = Way.refused _ r.unchanged r.says
  way_cut i lt (CutHappens.stops_between on s) =
      Way.cuts i.0 (record { bay = bay_of m.diagram i.0; message = 0; event = Cutting i }) refl (plainly
      (bay_of m.diagram i.0) (Cutting i) (bay_of_is m.diagram i.0 station lt) (own_switch m old i.0 facts lt)
      (λ f is. cc is) (λ j x is. cc is)) s

  pub way : (event : WorldEvent) → InRange m.diagram event → Happens m old event new outcome →
      Way m old event new outcome
  way (Command op) lt s =
      Way.turns (record { bay = bay_of m.diagram op.switch.0; message = 0; event = Commanded op }) refl (plainly
      (bay_of m.diagram op.switch.0) (Commanded op) (bay_of_is m.diagram op.switch.0 station lt)
      (own_switch m old op.switch.0 facts lt) (λ f is. cc is) (λ j x is. cc is)) s
  way (Sense i word) lt s = way_sense i word lt s
  way (Deliver k) lt s = way_deliver k s
  way (Tick b) bay s =
      Way.turns (record { bay = b.0; message = 0; event = Ticking }) refl
      (plainly b.0 Ticking bay tt (λ f is. cc is) (λ j x is. cc is)) s
  way (Withdraw b) bay s = way_withdraw b bay s
  way (Restart b) bay s =
      Way.turns (record { bay = b.0; message = 0; event = Restarting }) refl
      (plainly b.0 Restarting bay tt (λ f is. cc is) (λ j x is. cc is)) s
  way (Begin i) lt s = way_begin i lt s
  way (End i) lt s = way_end i lt s
  way (Part k bytes) lt s = way_part k bytes s
  way (Cut i) lt s = way_cut i lt s

-- a node's step shows no broken premise
pub node_says : (m : Meaning) (old new : Scene) (b : ℕ) (event : NodeEvent) (outcome : WorldOutcome) (which : Which) →
    outcome ≡ Premise which → NodeSteps m old b event new outcome → ⊥
node_says m old new b event outcome which is s =
    subst (λ (x : WorldOutcome). Tells (length old.sent) b (node m.diagram old b) s.turn x) is s.says

-- after a broken premise the world is unchanged
pub premise_same : (m : Meaning) (old new : Scene) (event : WorldEvent) (outcome : WorldOutcome) (which : Which) →
    outcome ≡ Premise which → Way m old event new outcome → new ≡ old
premise_same m old new event outcome which is (Way.refused other same says) = same
premise_same m old new event outcome which is (Way.nothing same none fits) = same
premise_same m old new event outcome which is (Way.turns c some fair s) =
    absurd (node_says m old new c.bay c.event outcome which is s)
premise_same m old new event outcome which is (Way.drives i g at running none lt has switch same says) =
    absurd (cc (is, says))
premise_same m old new event outcome which is (Way.cuts i c some fair s) =
    absurd (node_says m (stops old i) new c.bay c.event outcome which is s)
