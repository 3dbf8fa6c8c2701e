-- Whatever happens keeps the round half of the facts.
use Rattle.std.proofs.Common.{◌≡◌, ◌-◌, ◌<◌, ℕ, zero, suc, true, false, List, [], ◌∷◌, length, slice_get, Some}
use Rattle.std.proofs.Common.{Contains, refl, sym, subst, arith, get_or-set_same}
use Rattle.ilk_base.specs.declared.words.Dbpos.{Dbpos}
use Rattle.ilk_base.specs.declared.words.SwitchId.{SwitchId}
use Rattle.station_graph.specs.Diagram.{IsStation}
use Rattle.central_rules.specs.Meaning.{Meaning, IsBay, bay_of}
use Rattle.bay_protocol.specs.Fits.{IsOwn}
use Rattle.bay_protocol.specs.Step.{Turn}
use Rattle.reservation_core.specs.Scene.{Scene, node, at_node, posts, moves, stops, end_position}
use Rattle.reservation_core.specs.RoundFacts.{RoundFacts}
use Rattle.reservation_core.specs.Happens.{Happens, InRange, SenseHappens, DeliverHappens, PartHappens, WithdrawHappens}
use Rattle.reservation_core.specs.Happens.{BeginHappens, EndHappens, CutHappens}
use Rattle.reservation_core.specs.declared.values.Position.TheVariants.{Between}
use Rattle.reservation_core.specs.declared.values.WorldEvent.{WorldEvent}
use Rattle.reservation_core.specs.declared.values.WorldEvent.TheVariants.{Command, Sense, Deliver, Tick, Withdraw}
use Rattle.reservation_core.specs.declared.values.WorldEvent.TheVariants.{Restart, Begin, End, Part, Cut}
use Rattle.reservation_core.specs.declared.values.WorldOutcome.{WorldOutcome}
use Rattle.reservation_core.proofs.Sends.{facts_moves, facts_stops}
use Rattle.reservation_core.proofs.Steps.{After, bay_of_is, switch_there}
use Rattle.reservation_core.proofs.Events.{command_keeps, tick_keeps, sense_keeps, withdraw_keeps}
use Rattle.reservation_core.proofs.FrameEvents.{frame_keeps}
use Rattle.reservation_core.proofs.Events.{cut_keeps, restart_keeps}

stepped : (m : Meaning) (old new : Scene) (b : ℕ) (turn : Turn) → new ≡ posts (at_node old b turn.new) turn.frames →
    After m old b turn → RoundFacts m new
stepped m old new b turn is after = subst (RoundFacts m) (sym is) after

same_facts : (m : Meaning) (old new : Scene) → new ≡ old → RoundFacts m old → RoundFacts m new
same_facts m old new is facts = subst (RoundFacts m) (sym is) facts

-- what is found in a list is in it
pub got_there : {X : Type 0} (xs : List X) (i : ℕ) (x : X) → slice_get xs i ≡ Some x → Contains xs x
got_there [] i x got = absurd (cc got)
got_there (y ∷ ys) zero x got = let e : y ≡ x = cc got in (zero, omega arith, e)
got_there (y ∷ ys) (suc i) x got = let rest = got_there ys i x got in (suc rest.0, omega (arith, rest.1), rest.2)

-- a switch of the station is one of its bay
pub own_switch : (m : Meaning) (w : Scene) (i : ℕ) → RoundFacts m w → i < length m.diagram.switches →
    IsOwn m.diagram (node m.diagram w (bay_of m.diagram i)).bay i
own_switch m w i facts lt =
    let s = switch_there m.diagram i lt in
    subst (λ (x : ℕ). IsOwn m.diagram x i) (sym (facts.shape.named (bay_of m.diagram i))) (s.0, s.1, rw s.1 refl)

module _ (m : Meaning) (station : IsStation m.diagram) (old new : Scene) (outcome : WorldOutcome)
    (facts : RoundFacts m old) where
  sense_happens_keeps : (i : SwitchId) (word : Dbpos) → i.0 < length m.diagram.switches →
      SenseHappens m old i word new outcome → RoundFacts m new
  sense_happens_keeps i word lt (SenseHappens.untrue not_so refused) = same_facts m old new refused.unchanged facts
  sense_happens_keeps i word lt (SenseHappens.reads truly s) =
      stepped m old new (bay_of m.diagram i.0) s.turn s.world (sense_keeps m station old (bay_of m.diagram i.0) i.0 word
      s.turn facts (bay_of_is m.diagram i.0 station lt) lt truly s.step)

  deliver_keeps : (k : ℕ) → DeliverHappens m old k new outcome → RoundFacts m new
  deliver_keeps k (DeliverHappens.unsent none refused) = same_facts m old new refused.unchanged facts
  deliver_keeps k (DeliverHappens.comes f message s) =
      let there : Contains old.sent f = got_there old.sent (k - 1) f message.sent in
      stepped m old new f.to.0 s.turn s.world
      (frame_keeps m station old f.to.0 f s.turn facts ((facts.bounds.fit f there).receiver).0 there s.step)

  part_keeps : (k : ℕ) → PartHappens m.diagram old k new outcome → RoundFacts m new
  part_keeps k (PartHappens.unsent none refused) = same_facts m old new refused.unchanged facts
  part_keeps k (PartHappens.nothing f message same says) = same_facts m old new same facts

  withdraw_happens_keeps : (b : ℕ) → IsBay m.diagram b → WithdrawHappens m old b new outcome → RoundFacts m new
  withdraw_happens_keeps b bay (WithdrawHappens.running g has on refused) = same_facts m old new refused.unchanged facts
  withdraw_happens_keeps b bay (WithdrawHappens.resting rests s) =
      stepped m old new b s.turn s.world (withdraw_keeps m station old b s.turn facts bay rests s.step)

  begin_keeps : (i : ℕ) → i < length m.diagram.switches → BeginHappens m.diagram old i new outcome → RoundFacts m new
  begin_keeps i lt (BeginHappens.not_open free refused) = same_facts m old new refused.unchanged facts
  begin_keeps i lt (BeginHappens.running on refused) = same_facts m old new refused.unchanged facts
  begin_keeps i lt (BeginHappens.there_already g it at refused) = same_facts m old new refused.unchanged facts
  begin_keeps i lt (BeginHappens.begins g it off away driven) =
      same_facts m (moves old i Between true) new driven.world
      (facts_moves m old i g Between true facts lt it.granted it.switch (λ on. refl))

  end_keeps : (i : ℕ) → i < length m.diagram.switches → EndHappens m.diagram old i new outcome → RoundFacts m new
  end_keeps i lt (EndHappens.resting off refused) = same_facts m old new refused.unchanged facts
  end_keeps i lt (EndHappens.arrives g on it driven) =
      same_facts m (moves old i (end_position g.op.direction) false) new driven.world (facts_moves m old i g
      (end_position g.op.direction) false facts lt it.granted it.switch (λ on. absurd (cc on)))

  cut_happens_keeps : (i : SwitchId) → i.0 < length m.diagram.switches → CutHappens m old i new outcome →
      RoundFacts m new
  cut_happens_keeps i lt (CutHappens.resting off refused) = same_facts m old new refused.unchanged facts
  cut_happens_keeps i lt (CutHappens.stops_between on s) =
      let now = facts_stops m old i.0 facts in
      let inside : i.0 < length old.drives = omega (arith, lt, facts.shape.drives) in
      stepped m (stops old i.0) new (bay_of m.diagram i.0) s.turn s.world (cut_keeps m station (stops old i.0)
      (bay_of m.diagram i.0) i.0 s.turn now (bay_of_is m.diagram i.0 station lt)
      (get_or-set_same old.drives i.0 false false inside) s.step)

  pub happens_keeps : (event : WorldEvent) → InRange m.diagram event → Happens m old event new outcome →
      RoundFacts m new
  happens_keeps (Command op) lt s =
      stepped m old new (bay_of m.diagram op.switch.0) s.turn s.world (command_keeps m station old
      (bay_of m.diagram op.switch.0) op s.turn facts (bay_of_is m.diagram op.switch.0 station lt)
      (own_switch m old op.switch.0 facts lt) s.step)
  happens_keeps (Sense i word) lt s = sense_happens_keeps i word lt s
  happens_keeps (Deliver k) lt s = deliver_keeps k s
  happens_keeps (Tick b) bay s =
      stepped m old new b.0 s.turn s.world (tick_keeps m station old b.0 s.turn facts bay s.step)
  happens_keeps (Withdraw b) bay s = withdraw_happens_keeps b.0 bay s
  happens_keeps (Restart b) bay s =
      stepped m old new b.0 s.turn s.world (restart_keeps m station old b.0 s.turn facts bay _ s.step)
  happens_keeps (Begin i) lt s = begin_keeps i.0 lt s
  happens_keeps (End i) lt s = end_keeps i.0 lt s
  happens_keeps (Part k bytes) lt s = part_keeps k s
  happens_keeps (Cut i) lt s = cut_happens_keeps i lt s
