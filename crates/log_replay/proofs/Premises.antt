-- The premises are broken exactly where the lines say so.
use Rattle.std.proofs.Common.{◌≡◌, ◌≢◌, ◌<◌, ℕ, Bool, List, length, Some, None, refl, sym, subst, ap, ◌∙◌}
use Rattle.ilk_base.specs.declared.words.BayId.{BayId}
use Rattle.ilk_base.specs.declared.words.SwitchId.{SwitchId}
use Rattle.ilk_base.specs.declared.words.Dbpos.{Dbpos}
use Rattle.station_graph.specs.Diagram.{IsStation}
use Rattle.central_rules.specs.Meaning.{Meaning, Laws, bay_of}
use Rattle.bay_frames.specs.declared.frame.Frame.{Frame}
use Rattle.bay_protocol.specs.declared.values.Grant.{Grant}
use Rattle.bay_protocol.specs.declared.values.NodeEvent.{NodeEvent}
use Rattle.bay_protocol.specs.State.{State}
use Rattle.bay_protocol.specs.Step.{Turn}
use Rattle.reservation_core.specs.Scene.{Scene, node, stops, true_at, runs, IsTrueWord, end_position}
use Rattle.reservation_core.specs.RoundFacts.{RoundFacts}
use Rattle.reservation_core.specs.Happens.{Happens, InRange, NodeSteps, Tells, IsMessage, no_turn, SenseHappens}
use Rattle.reservation_core.specs.Happens.{DeliverHappens, PartHappens, WithdrawHappens, BeginHappens, EndHappens}
use Rattle.reservation_core.specs.Happens.{CutHappens}
use Rattle.reservation_core.specs.declared.values.Position.{Position}
use Rattle.reservation_core.specs.declared.values.Which.{Which}
use Rattle.reservation_core.specs.declared.values.Which.TheVariants.{Sensed, Begun, Ended, Withdrawn, Unsent}
use Rattle.reservation_core.specs.declared.values.Which.TheVariants.{Cut as NotCut}
use Rattle.reservation_core.specs.declared.values.WorldEvent.{WorldEvent}
use Rattle.reservation_core.specs.declared.values.WorldEvent.TheVariants.{Command, Sense, Deliver, Tick, Withdraw}
use Rattle.reservation_core.specs.declared.values.WorldEvent.TheVariants.{Restart, Begin, End, Part, Cut}
use Rattle.reservation_core.specs.declared.values.WorldOutcome.{WorldOutcome}
use Rattle.reservation_core.specs.declared.values.WorldOutcome.TheVariants.{Premise}
use Rattle.reservation_core.proofs.AlikeNotes.{switch_of, granted_bay}
use Rattle.reservation_core.specs.Lines.{Line}
use Rattle.reservation_core.specs.History.{sending, true_after, drive_runs}
use Rattle.reservation_core.specs.Runs.{MayHappenBy, IsPremiseOf, PremiseExact, Run}
use Rattle.log_replay.proofs.Links.{Spoken}
use Rattle.log_replay.proofs.Leading.{run_is, brought_of}

not_premise : (count b : ℕ) (old : State) (turn : Turn) (outcome : WorldOutcome) → Tells count b old turn outcome
    → (which : Which) → outcome ≢ Premise which
not_premise count b old turn outcome tells which is = subst (λ (o : WorldOutcome). Tells count b old turn o) is tells

node_no_premise : (m : Meaning) (old : Scene) (b : ℕ) (e : NodeEvent) (new : Scene) (outcome : WorldOutcome)
    → NodeSteps m old b e new outcome → (which : Which) → outcome ≢ Premise which
node_no_premise m old b e new outcome t = not_premise (length old.sent) b (node m.diagram old b) t.turn outcome t.says

-- the switch of a granted operation is one of the station
granted_known : (m : Meaning) (w : Scene) (c : ℕ) (g : Grant) → RoundFacts m w → (node m.diagram w c).granted ≡ Some g
    → g.op.switch.0 < length m.diagram.switches
granted_known m w c g facts has = (switch_of m (node m.diagram w c).bay g.op.switch.0 ((facts.rounds c
    (granted_bay m w c g facts has)).kept.granted g has).own).0

-- the premise holds, and the outcome is none of a broken one; or it does not, and it is that
pub data Exactly (May : Type 0) (e : WorldEvent) (outcome : WorldOutcome) : Type 0 where
  keeps : May → ((which : Which) → outcome ≢ Premise which) → Exactly May e outcome
  breaks : (which : Which) → ¬ May → IsPremiseOf e which → outcome ≡ Premise which → Exactly May e outcome

-- by any true positions and drives that the scene has
module _ (m : Meaning) (truth_of : ℕ → Position) (drives_of : ℕ → Bool) (before : List Line) (old new : Scene)
    (outcome : WorldOutcome) (facts : RoundFacts m old) (truth : (i : ℕ) → i < length m.diagram.switches
    → true_at old.truth i ≡ truth_of i) (drives : (i : ℕ) → i < length m.diagram.switches
    → runs old.drives i ≡ drives_of i) (said : Spoken m before old) where
  abbrev ExactAt : WorldEvent → Type 0
  ExactAt e = Exactly (MayHappenBy m.diagram truth_of drives_of before e) e outcome

  sense_exact : (i : SwitchId) (word : Dbpos) → i.0 < length m.diagram.switches
      → SenseHappens m old i word new outcome → ExactAt (Sense i word)
  sense_exact i word lt (SenseHappens.untrue false_word refused) =
      Exactly.breaks Sensed (λ k. false_word (subst (λ (p : Position). IsTrueWord word p) (sym
      (truth i.0 lt)) k)) refl refused.says
  sense_exact i word lt (SenseHappens.reads truly t) =
      Exactly.keeps (subst (λ (p : Position). IsTrueWord word p) (truth i.0 lt) truly)
      (node_no_premise m old _ _ new outcome t)

  sent_some : (k : ℕ) (f : Frame) → IsMessage old k f → sending before k ≢ None
  sent_some k f is none = let b = brought_of m before old k f said is in absurd (cc (b.found, none))

  deliver_exact : (k : ℕ) → DeliverHappens m old k new outcome → ExactAt (Deliver k)
  deliver_exact k (DeliverHappens.unsent none refused) = Exactly.breaks Unsent (λ some. some
      (said.unsent k none)) refl refused.says
  deliver_exact k (DeliverHappens.comes f is t) = Exactly.keeps (sent_some k f is)
      (node_no_premise m old _ _ new outcome t)

  part_exact : (k bytes : ℕ) → PartHappens m.diagram old k new outcome → ExactAt (Part k bytes)
  part_exact k bytes (PartHappens.unsent none refused) = Exactly.breaks Unsent (λ some. some
      (said.unsent k none)) refl refused.says
  part_exact k bytes (PartHappens.nothing f is same quiet) = Exactly.keeps (sent_some k f is) (not_premise
      (length old.sent) f.to.0 (node m.diagram old f.to.0) (no_turn (node m.diagram old f.to.0)) outcome quiet)

  withdraw_exact : (b : BayId) → WithdrawHappens m old b.0 new outcome → ExactAt (Withdraw b)
  withdraw_exact b (WithdrawHappens.running g has on refused) =
      Exactly.breaks Withdrawn (λ k. let off = k g (sym (said.nodes b.0).granted ∙ has) in
      let still = drives g.op.switch.0 (granted_known m old b.0 g facts has) in
      absurd (cc (off, still, on))) refl refused.says
  withdraw_exact b (WithdrawHappens.resting still t) =
      Exactly.keeps
      (λ g is. let has : (node m.diagram old b.0).granted ≡ Some g = (said.nodes b.0).granted ∙ is in
      sym (drives g.op.switch.0 (granted_known m old b.0 g facts has)) ∙ still g has)
      (node_no_premise m old _ _ new outcome t)

  begin_exact : (i : SwitchId) → i.0 < length m.diagram.switches → BeginHappens m.diagram old i.0 new outcome
      → ExactAt (Begin i)
  begin_exact i lt (BeginHappens.not_open free refused) =
      Exactly.breaks Begun (λ k. free k.grant ((said.nodes (bay_of m.diagram i.0)).granted
      ∙ k.opened) k.switch) refl refused.says
  begin_exact i lt (BeginHappens.running on refused) =
      Exactly.breaks Begun (λ k. let off = k.still in let is = drives i.0 lt in absurd (cc
      (on, off, is))) refl refused.says
  begin_exact i lt (BeginHappens.there_already g opened at refused) =
      Exactly.breaks Begun (λ k.
      let same : Some g ≡ Some k.grant = sym opened.granted ∙ (said.nodes (bay_of m.diagram i.0)).granted ∙ k.opened in
      let e : g ≡ k.grant = cc same in
      k.away (sym (truth i.0 lt) ∙ at ∙ ap (λ (x : Grant). end_position x.op.direction) e)) refl refused.says
  begin_exact i lt (BeginHappens.begins g opened off away driven) =
      Exactly.keeps (record {
        grant = g;
        opened = sym (said.nodes (bay_of m.diagram i.0)).granted ∙ opened.granted;
        switch = opened.switch;
        still = sym (drives i.0 lt) ∙ off;
        away = λ at. away (truth i.0 lt ∙ at);
      }) (λ which is. let says = driven.says in absurd (cc (is, says)))

  end_exact : (i : SwitchId) → i.0 < length m.diagram.switches → EndHappens m.diagram old i.0 new outcome
      → ExactAt (End i)
  end_exact i lt (EndHappens.resting off refused) =
      Exactly.breaks Ended (λ on. let is = drives i.0 lt in absurd (cc (on, off, is))) refl refused.says
  end_exact i lt (EndHappens.arrives g on opened driven) =
      Exactly.keeps (sym (drives i.0 lt) ∙ on) (λ which is. let says = driven.says in absurd (cc (is, says)))

  cut_exact : (i : SwitchId) → i.0 < length m.diagram.switches → CutHappens m old i new outcome → ExactAt (Cut i)
  cut_exact i lt (CutHappens.resting off refused) =
      Exactly.breaks NotCut (λ on. let is = drives i.0 lt in absurd (cc (on, off, is))) refl refused.says
  cut_exact i lt (CutHappens.stops_between on t) =
      Exactly.keeps (sym (drives i.0 lt) ∙ on) (node_no_premise m (stops old i.0) _ _ new outcome t)

  pub happens_exact : (e : WorldEvent) → InRange m.diagram e → Happens m old e new outcome → ExactAt e
  happens_exact (Command op) lt t = Exactly.keeps tt (node_no_premise m old _ _ new outcome t)
  happens_exact (Sense i word) lt happens = sense_exact i word lt happens
  happens_exact (Deliver k) lt happens = deliver_exact k happens
  happens_exact (Tick b) lt t = Exactly.keeps tt (node_no_premise m old _ _ new outcome t)
  happens_exact (Withdraw b) lt happens = withdraw_exact b happens
  happens_exact (Restart b) lt t = Exactly.keeps tt (node_no_premise m old _ _ new outcome t)
  happens_exact (Begin i) lt happens = begin_exact i lt happens
  happens_exact (End i) lt happens = end_exact i lt happens
  happens_exact (Part k bytes) lt happens = part_exact k bytes happens
  happens_exact (Cut i) lt happens = cut_exact i lt happens

-- after a run, whatever happens is a broken premise exactly where the lines break one
pub premise_exact : (m : Meaning) (start : List Bool) (before : List Line) (old new : Scene) (e : WorldEvent)
    (outcome : WorldOutcome) → IsStation m.diagram → Laws m → Run m start before old → InRange m.diagram e
    → Happens m old e new outcome → PremiseExact m.diagram start before e outcome
premise_exact m start before old new e outcome station laws run lt happens =
    let is = run_is m start before old station laws run in
    elim (happens_exact m (true_after m.diagram start before)
    (drive_runs before) before old new outcome is.facts.rounds is.links.truth is.links.drives is.links.said e lt
    happens) [
      | Exactly.keeps may never ↦ PremiseExact.keeps may never
      | Exactly.breaks which never named says ↦ PremiseExact.breaks which (record {
        broken = never;
        named = named;
      }) says
    ]
