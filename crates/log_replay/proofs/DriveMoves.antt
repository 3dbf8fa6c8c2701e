-- What a line makes of true positions and drives.
use Rattle.std.proofs.Common.{◌≡◌, ◌<◌, ◌==◌, ℕ, Bool, true, false, cond, List, length, Some, refl, sym, subst, ap, ◌∙◌}
use Rattle.std.proofs.Common.{inl, inr, arith}
use Rattle.std.proofs.lemmas.Bool.Decides.{eqb_tells}
use Rattle.ilk_base.specs.declared.words.BayId.{BayId}
use Rattle.ilk_base.specs.declared.words.SwitchId.{SwitchId}
use Rattle.ilk_base.specs.declared.words.Dbpos.{Dbpos}
use Rattle.ilk_base.specs.declared.words.Op.{Op}
use Rattle.station_graph.specs.Diagram.{Diagram}
use Rattle.central_rules.specs.Meaning.{Meaning, bay_of}
use Rattle.bay_protocol.specs.declared.values.NodeEvent.{NodeEvent}
use Rattle.reservation_core.specs.Scene.{Scene, true_at, runs, end_position}
use Rattle.reservation_core.specs.RoundFacts.{RoundFacts}
use Rattle.reservation_core.specs.Happens.{Happens, InRange, NodeSteps, SenseHappens, DeliverHappens}
use Rattle.reservation_core.specs.Happens.{PartHappens, WithdrawHappens, BeginHappens, EndHappens, CutHappens}
use Rattle.reservation_core.specs.declared.values.Position.{Position}
use Rattle.reservation_core.specs.declared.values.Position.TheVariants.{Between}
use Rattle.reservation_core.specs.declared.values.WorldEvent.{WorldEvent}
use Rattle.reservation_core.specs.declared.values.WorldEvent.TheVariants.{Command, Sense, Deliver, Tick, Withdraw}
use Rattle.reservation_core.specs.declared.values.WorldEvent.TheVariants.{Restart, Begin, End, Part, Cut}
use Rattle.reservation_core.specs.declared.values.WorldOutcome.{WorldOutcome}
use Rattle.reservation_core.specs.Lines.{Line, Shown}
use Rattle.reservation_core.specs.History.{end_after, last_granted, moved, driven}
use Rattle.reservation_core.specs.Runs.{Shows}
use Rattle.log_replay.proofs.Links.{Spoken, not_refused, put_is}

-- ---- true positions and drives

ends_there : (d : Diagram) (before : List Line) (i j : ℕ) (op : Op) (was : Position) →
    last_granted d before i ≡ Some op → cond (i == j) (end_position op.direction) was ≡ cond (i == j)
    (end_after (last_granted d before j)) was
ends_there d before i j op was last = elim (eqb_tells i j) [
  | inl p ↦ rw p.0 (subst (λ (x : ℕ). end_position op.direction ≡ end_after (last_granted d before x)) p.1
      (ap end_after (sym last)))
  | inr p ↦ rw p.0 refl
]

-- what a line makes of a switch's true position and drive, whatever says them before
pub record Moves (m : Meaning) (before : List Line) (e : WorldEvent) (old new : Scene) : Type 0 where
  pub truth : (i : ℕ) → i < length m.diagram.switches → (was : Position) → true_at old.truth i ≡ was →
      true_at new.truth i ≡ moved e i (last_granted m.diagram before i) was
  pub drives : (i : ℕ) → i < length m.diagram.switches → (was : Bool) → runs old.drives i ≡ was →
      runs new.drives i ≡ driven e i was

-- a scene with the same true positions and drives
rests : (m : Meaning) (before : List Line) (e : WorldEvent) (old new : Scene) → new.truth ≡ old.truth →
    new.drives ≡ old.drives → ((i : ℕ) (was : Position) → moved e i (last_granted m.diagram before i) was ≡ was) →
    ((i : ℕ) (was : Bool) → driven e i was ≡ was) → Moves m before e old new
rests m before e old new truth drives still quiet = record {
  truth = λ i lt was is. ap (λ (t : List Position). true_at t i) truth ∙ is ∙ sym (still i was);
  drives = λ i lt was is. ap (λ (d : List Bool). runs d i) drives ∙ is ∙ sym (quiet i was);
}

stepped : (m : Meaning) (before : List Line) (e : WorldEvent) (old new : Scene) (b : ℕ) (ev : NodeEvent)
    (outcome : WorldOutcome) → NodeSteps m old b ev new outcome →
    ((i : ℕ) (was : Position) → moved e i (last_granted m.diagram before i) was ≡ was) →
    ((i : ℕ) (was : Bool) → driven e i was ≡ was) → Moves m before e old new
stepped m before e old new b ev outcome t = rests m before e old new (ap (λ (w : Scene). w.truth) t.world)
    (ap (λ (w : Scene). w.drives) t.world)

module _ (m : Meaning) (before : List Line) (old new : Scene) (s : Shown) (outcome : WorldOutcome)
    (facts : RoundFacts m old) (said : Spoken m before old) (shows : Shows outcome s) where
  begin_moves : (i : SwitchId) → i.0 < length m.diagram.switches → BeginHappens m.diagram old i.0 new outcome →
      Moves m before (Begin i) old new
  begin_moves i lt (BeginHappens.not_open free refused) = absurd (not_refused old new outcome _ s refused shows)
  begin_moves i lt (BeginHappens.running on refused) = absurd (not_refused old new outcome _ s refused shows)
  begin_moves i lt (BeginHappens.there_already g opened at refused) =
      absurd (not_refused old new outcome _ s refused shows)
  begin_moves i lt (BeginHappens.begins g opened off away drive) = record {
    truth = λ j less was is. ap (λ (w : Scene). true_at w.truth j) drive.world ∙ put_is old.truth i.0 j Between Between
        (omega (arith, lt, facts.shape.truth)) ∙ ap (λ (p : Position). cond (i.0 == j) Between p) is;
    drives = λ j less was is. ap (λ (w : Scene). runs w.drives j) drive.world ∙ put_is old.drives i.0 j true false
        (omega (arith, lt, facts.shape.drives)) ∙ ap (λ (p : Bool). cond (i.0 == j) true p) is;
  }

  end_moves : (i : SwitchId) → i.0 < length m.diagram.switches → EndHappens m.diagram old i.0 new outcome →
      Moves m before (End i) old new
  end_moves i lt (EndHappens.resting off refused) = absurd (not_refused old new outcome _ s refused shows)
  end_moves i lt (EndHappens.arrives g on opened drive) =
      let last : last_granted m.diagram before i.0 ≡ Some g.op =
      subst (λ (x : ℕ). last_granted m.diagram before x ≡ Some g.op) opened.switch
      ((said.nodes (bay_of m.diagram i.0)).last g opened.granted) in
      record {
        truth = λ j less was is. ap (λ (w : Scene). true_at w.truth j) drive.world
            ∙ put_is old.truth i.0 j (end_position g.op.direction) Between (omega (arith, lt, facts.shape.truth))
            ∙ ap (λ (p : Position). cond (i.0 == j) (end_position g.op.direction) p) is
            ∙ ends_there m.diagram before i.0 j g.op was last;
        drives = λ j less was is. ap (λ (w : Scene). runs w.drives j) drive.world ∙ put_is old.drives i.0 j false false
            (omega (arith, lt, facts.shape.drives)) ∙ ap (λ (p : Bool). cond (i.0 == j) false p) is;
      }

  cut_moves : (i : SwitchId) → i.0 < length m.diagram.switches → CutHappens m old i new outcome →
      Moves m before (Cut i) old new
  cut_moves i lt (CutHappens.resting off refused) = absurd (not_refused old new outcome _ s refused shows)
  cut_moves i lt (CutHappens.stops_between on t) = record {
    truth = λ j less was is. ap (λ (w : Scene). true_at w.truth j) t.world ∙ is;
    drives = λ j less was is. ap (λ (w : Scene). runs w.drives j) t.world ∙ put_is old.drives i.0 j false false
        (omega (arith, lt, facts.shape.drives)) ∙ ap (λ (p : Bool). cond (i.0 == j) false p) is;
  }

  sense_moves : (i : SwitchId) (word : Dbpos) → SenseHappens m old i word new outcome →
      Moves m before (Sense i word) old new
  sense_moves i word (SenseHappens.untrue false_word refused) = absurd (not_refused old new outcome _ s refused shows)
  sense_moves i word (SenseHappens.reads truly t) = stepped m before (Sense i word) old new _ _ outcome t
      (λ j was. refl) (λ j was. refl)

  deliver_moves : (k : ℕ) → DeliverHappens m old k new outcome → Moves m before (Deliver k) old new
  deliver_moves k (DeliverHappens.unsent none refused) = absurd (not_refused old new outcome _ s refused shows)
  deliver_moves k (DeliverHappens.comes f at t) = stepped m before (Deliver k) old new _ _ outcome t (λ j was. refl)
      (λ j was. refl)

  part_moves : (k bytes : ℕ) → PartHappens m.diagram old k new outcome → Moves m before (Part k bytes) old new
  part_moves k bytes (PartHappens.unsent none refused) = absurd (not_refused old new outcome _ s refused shows)
  part_moves k bytes (PartHappens.nothing f at same quiet) = rests m before (Part k bytes) old new
      (ap (λ (w : Scene). w.truth) same) (ap (λ (w : Scene). w.drives) same) (λ j was. refl) (λ j was. refl)

  withdraw_moves : (b : BayId) → WithdrawHappens m old b.0 new outcome → Moves m before (Withdraw b) old new
  withdraw_moves b (WithdrawHappens.running g has on refused) = absurd (not_refused old new outcome _ s refused shows)
  withdraw_moves b (WithdrawHappens.resting still t) = stepped m before (Withdraw b) old new _ _ outcome t
      (λ j was. refl) (λ j was. refl)

  -- true positions and drives after a line
  pub happens_moves : (e : WorldEvent) → InRange m.diagram e → Happens m old e new outcome → Moves m before e old new
  happens_moves (Command op) lt t = stepped m before (Command op) old new _ _ outcome t (λ j was. refl) (λ j was. refl)
  happens_moves (Sense i word) lt happens = sense_moves i word happens
  happens_moves (Deliver k) lt happens = deliver_moves k happens
  happens_moves (Tick b) lt t = stepped m before (Tick b) old new _ _ outcome t (λ j was. refl) (λ j was. refl)
  happens_moves (Withdraw b) lt happens = withdraw_moves b happens
  happens_moves (Restart b) lt t = stepped m before (Restart b) old new _ _ outcome t (λ j was. refl) (λ j was. refl)
  happens_moves (Begin i) lt happens = begin_moves i lt happens
  happens_moves (End i) lt happens = end_moves i lt happens
  happens_moves (Part k bytes) lt happens = part_moves k bytes happens
  happens_moves (Cut i) lt happens = cut_moves i lt happens
