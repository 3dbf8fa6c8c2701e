-- Each line of a run leads to a scene that is what the lines say.
use Rattle.std.proofs.Common.{◌⊎◌, ◌≡◌, ◌≢◌, ◌+◌, ◌-◌, ◌<◌, ℕ, zero, suc, Bool, List, [], ◌∷◌, length, get_or, Option}
use Rattle.std.proofs.Common.{Some, None, refl, sym, subst, ap, arith}
use Rattle.std.specs.Prelude.{slice_get, unwrap_or}
use Rattle.ilk_base.specs.declared.words.SwitchId.{SwitchId}
use Rattle.ilk_base.specs.declared.words.Dbpos.{Dbpos}
use Rattle.station_graph.specs.Diagram.{IsStation}
use Rattle.central_rules.specs.Meaning.{Meaning, Laws, IsBay, bay_of}
use Rattle.bay_frames.specs.declared.frame.Frame.{Frame}
use Rattle.bay_protocol.specs.declared.values.Outcome.{Outcome}
use Rattle.bay_protocol.specs.State.{State}
use Rattle.bay_protocol.specs.Step.{Turn}
use Rattle.reservation_core.specs.Scene.{Scene, node, new_node, at_node, posts, stops}
use Rattle.reservation_core.specs.RoundFacts.{RoundFacts, FrameFits}
use Rattle.reservation_core.specs.Facts.{Facts}
use Rattle.reservation_core.specs.Happens.{Happens, InRange, Tells, IsMessage, SenseHappens, DeliverHappens}
use Rattle.reservation_core.specs.Happens.{PartHappens, WithdrawHappens, BeginHappens, EndHappens, CutHappens}
use Rattle.reservation_core.specs.declared.values.WorldEvent.{WorldEvent}
use Rattle.reservation_core.specs.declared.values.WorldEvent.TheVariants.{Command, Sense, Deliver, Tick, Withdraw}
use Rattle.reservation_core.specs.declared.values.WorldEvent.TheVariants.{Restart, Begin, End, Part, Cut}
use Rattle.reservation_core.specs.declared.values.WorldOutcome.{WorldOutcome}
use Rattle.reservation_core.proofs.Rounds.{node_there}
use Rattle.reservation_core.proofs.Steps.{bay_of_is}
use Rattle.reservation_core.proofs.Keeping.{got_there}
use Rattle.reservation_core.proofs.Plain.{keeps_facts}
use Rattle.reservation_core.proofs.Starting.{starts}
use Rattle.reservation_core.specs.Lines.{Line, Shown, message}
use Rattle.reservation_core.specs.History.{true_after, drive_runs}
use Rattle.reservation_core.specs.Runs.{ShowsNothing, Shows, Run}
use Rattle.log_replay.proofs.Basic.{of_quiet}
use Rattle.log_replay.proofs.Linked.{NodeIs, NodeAfter, Harmless, TellsNothing, node_is, stays, tells_nothing}
use Rattle.log_replay.proofs.Turns.{command_turn, sense_turn, withdraw_turn, cut_turn, restart_turn, tick_turn}
use Rattle.log_replay.proofs.TurnParts.{Before, TurnIs}
use Rattle.log_replay.proofs.Deliveries.{Brought, frame_turn}
use Rattle.log_replay.proofs.Links.{Spoken, Linked, start_linked, grant_own, turn_shown, quiet_shown, not_refused}
use Rattle.log_replay.proofs.Links.{drive_shown, turn_spoken}
use Rattle.log_replay.proofs.DriveMoves.{happens_moves}

abbrev line : WorldEvent → Shown → Line
line e s = record { event = e; shown = s }

pub before_of : (m : Meaning) (lines : List Line) (w : Scene) (b : ℕ) → RoundFacts m w → Spoken m lines w →
    IsBay m.diagram b → Before m lines b (node m.diagram w b)
before_of m lines w b facts links bay = record {
  is = links.nodes b;
  sound = facts.rounds b bay;
  name = facts.shape.named b;
}

-- a step of node b of which all but the turn is plain
node_spoken : (m : Meaning) (before : List Line) (old : Scene) (e : WorldEvent) (s : Shown) (b : ℕ) (turn : Turn)
    (outcome : WorldOutcome) (new : Scene) → new ≡ posts (at_node old b turn.new) turn.frames → RoundFacts m old →
    RoundFacts m new → Spoken m before old → IsBay m.diagram b → Tells (length old.sent) b (node m.diagram old b) turn
    outcome → Shows outcome s → TurnIs m before b e turn → ((c : ℕ) → c ≢ b → Harmless m.diagram e c) →
    ((c : ℕ) → c ≢ b → TellsNothing m.diagram before e c) → Spoken m (line e s ∷ before) new
node_spoken m before old e s b turn outcome new is was facts links bay says shows turn_is harmless silent =
    turn_spoken m before old (line e s) b turn new is facts links (record {
      bay = bay;
      within = node_there m old b was bay;
      shows = turn_shown (length old.sent) b (node m.diagram old b) turn outcome s says shows;
      is = turn_is;
      harmless = harmless;
      silent = silent;
    })

-- a line that shows nothing, and that changes no node
drive_spoken : (m : Meaning) (before : List Line) (old : Scene) (e : WorldEvent) (s : Shown) (new : Scene) →
    new.nodes ≡ old.nodes → new.sent ≡ old.sent → RoundFacts m old → Spoken m before old → ShowsNothing s →
    ((c : ℕ) → Harmless m.diagram e c) → ((c : ℕ) → TellsNothing m.diagram before e c) →
    Spoken m (line e s ∷ before) new
drive_spoken m before old e s new nodes sent facts links shows harmless silent = record {
  nodes = λ c.
      let P : State → Type 0 = λ n. NodeIs m (line e s ∷ before) c n.collecting n.granted n.words in
      subst (λ (ns : List (Option State)). P (unwrap_or (get_or ns c None) (new_node m.diagram c))) (sym nodes)
      (node_is m (line e s) before c (node m.diagram old c).collecting (node m.diagram old c).granted
      (node m.diagram old c).words
      (subst (λ (o : Outcome). NodeAfter m before c (node m.diagram old c).collecting (node m.diagram old c).granted
      (node m.diagram old c).words o e) (sym (of_quiet s c shows.outcome))
      (stays m before e c (node m.diagram old c).collecting (node m.diagram old c).granted (node m.diagram old c).words
      (links.nodes c) (harmless c) (λ g has. silent c)))
      (λ g has. grant_own m old c g facts has));
  sent = λ k f got.
      let was = links.sent k f (subst (λ (fs : List Frame). slice_get fs k ≡ Some f) sent got) in
      record { at = was.at; found = rw shows.messages was.found; words = was.words };
  unsent = λ n none. rw shows.messages (links.unsent n (subst (λ (fs : List Frame). (n ≡ 0) ⊎ (length fs < n))
      sent none));
}

-- ---- the events

back_one : (k : ℕ) → k ≢ 0 → (k - 1) + 1 ≡ k
back_one zero positive = absurd (positive refl)
back_one (suc k) positive = omega arith

pub brought_of : (m : Meaning) (before : List Line) (old : Scene) (k : ℕ) (f : Frame) → Spoken m before old →
    IsMessage old k f → Brought m before k f
brought_of m before old k f links is = subst (λ (n : ℕ). Brought m before n f) (back_one k is.positive)
    (links.sent (k - 1) f is.sent)

module _ (m : Meaning) (before : List Line) (old new : Scene) (s : Shown) (outcome : WorldOutcome)
    (station : IsStation m.diagram) (facts : RoundFacts m old) (now : RoundFacts m new) (links : Spoken m before old)
    (shows : Shows outcome s) where
  sense_leads : (i : SwitchId) (word : Dbpos) → i.0 < length m.diagram.switches →
      SenseHappens m old i word new outcome → Spoken m (line (Sense i word) s ∷ before) new
  sense_leads i word lt (SenseHappens.untrue false_word refused) =
      absurd (not_refused old new outcome _ s refused shows)
  sense_leads i word lt (SenseHappens.reads truly t) =
      let b = bay_of m.diagram i.0 in
      let bay = bay_of_is m.diagram i.0 station lt in
      node_spoken m before old (Sense i word) s b t.turn outcome new t.world facts now links bay t.says shows
      (sense_turn m before b (node m.diagram old b) i word t.turn (before_of m before old b facts links bay) lt t.step)
      (λ c other is. other (sym is)) (λ c other x is. refl)

  deliver_leads : (k : ℕ) → DeliverHappens m old k new outcome → Spoken m (line (Deliver k) s ∷ before) new
  deliver_leads k (DeliverHappens.unsent none refused) = absurd (not_refused old new outcome _ s refused shows)
  deliver_leads k (DeliverHappens.comes f is t) =
      let fit : FrameFits m.diagram f = facts.bounds.fit f (got_there old.sent (k - 1) f is.sent) in
      let brought = brought_of m before old k f links is in
      node_spoken m before old (Deliver k) s f.to.0 t.turn outcome new t.world facts now links fit.receiver.0
      t.says shows
      (frame_turn m before k f.to.0 (node m.diagram old f.to.0) f t.turn (before_of m before old f.to.0 facts links
      fit.receiver.0) brought refl fit.sender t.step)
      (λ c other. tt)
      (λ c other. tells_nothing m.diagram before k c (record { message = message k f; lines = brought.at })
      brought.found (λ b is_b a. other (sym a.to)))

  part_leads : (k bytes : ℕ) → PartHappens m.diagram old k new outcome → Spoken m (line (Part k bytes) s ∷ before) new
  part_leads k bytes (PartHappens.unsent none refused) = absurd (not_refused old new outcome _ s refused shows)
  part_leads k bytes (PartHappens.nothing f is same quiet) =
      drive_spoken m before old (Part k bytes) s new (ap (λ (w : Scene). w.nodes) same)
      (ap (λ (w : Scene). w.sent) same) facts links (quiet_shown (length old.sent) f.to.0 (node m.diagram old f.to.0)
      outcome s quiet shows) (λ c. tt) (λ c b is. refl)

  withdraw_leads : (b : ℕ) → IsBay m.diagram b → WithdrawHappens m old b new outcome →
      Spoken m (line (Withdraw (record { 0 = b })) s ∷ before) new
  withdraw_leads b bay (WithdrawHappens.running g has on refused) =
      absurd (not_refused old new outcome _ s refused shows)
  withdraw_leads b bay (WithdrawHappens.resting still t) =
      node_spoken m before old (Withdraw (record { 0 = b })) s b t.turn outcome new t.world facts now links bay
      t.says shows
      (withdraw_turn m before b (node m.diagram old b) t.turn (before_of m before old b facts links bay) t.step)
      (λ c other. tt) (λ c other x is. refl)

  begin_leads : (i : SwitchId) → BeginHappens m.diagram old i.0 new outcome → Spoken m (line (Begin i) s ∷ before) new
  begin_leads i (BeginHappens.not_open free refused) = absurd (not_refused old new outcome _ s refused shows)
  begin_leads i (BeginHappens.running on refused) = absurd (not_refused old new outcome _ s refused shows)
  begin_leads i (BeginHappens.there_already g opened at refused) =
      absurd (not_refused old new outcome _ s refused shows)
  begin_leads i (BeginHappens.begins g opened off away drive) =
      drive_spoken m before old (Begin i) s new (ap (λ (w : Scene). w.nodes) drive.world)
      (ap (λ (w : Scene). w.sent) drive.world) facts links (drive_shown new new outcome s drive.says shows) (λ c. tt)
      (λ c b is. refl)

  end_leads : (i : SwitchId) → EndHappens m.diagram old i.0 new outcome → Spoken m (line (End i) s ∷ before) new
  end_leads i (EndHappens.resting off refused) = absurd (not_refused old new outcome _ s refused shows)
  end_leads i (EndHappens.arrives g on opened drive) =
      drive_spoken m before old (End i) s new (ap (λ (w : Scene). w.nodes) drive.world)
      (ap (λ (w : Scene). w.sent) drive.world) facts links (drive_shown new new outcome s drive.says shows) (λ c. tt)
      (λ c b is. refl)

  cut_leads : (i : SwitchId) → i.0 < length m.diagram.switches → CutHappens m old i new outcome →
      Spoken m (line (Cut i) s ∷ before) new
  cut_leads i lt (CutHappens.resting off refused) = absurd (not_refused old new outcome _ s refused shows)
  cut_leads i lt (CutHappens.stops_between on t) =
      let b = bay_of m.diagram i.0 in
      let bay = bay_of_is m.diagram i.0 station lt in
      turn_spoken m before (stops old i.0) (line (Cut i) s) b t.turn new t.world now (record {
        nodes = links.nodes;
        sent = links.sent;
        unsent = links.unsent;
      }) (record {
        bay = bay;
        within = node_there m old b facts bay;
        shows = turn_shown (length old.sent) b (node m.diagram old b) t.turn outcome s t.says shows;
        is = cut_turn m before b (node m.diagram old b) i t.turn (before_of m before old b facts links bay) lt t.step;
        harmless = λ c other. tt;
        silent = λ c other x is. refl;
      })

  -- the nodes and the messages after a line
  pub speaks : (e : WorldEvent) → InRange m.diagram e → Happens m old e new outcome → Spoken m (line e s ∷ before) new
  speaks (Command op) lt t =
      let b = bay_of m.diagram op.switch.0 in
      let bay = bay_of_is m.diagram op.switch.0 station lt in
      node_spoken m before old (Command op) s b t.turn outcome new t.world facts now links bay t.says shows
      (command_turn m before b (node m.diagram old b) op t.turn (before_of m before old b facts links bay) lt t.step)
      (λ c other. tt) (λ c other x is. refl)
  speaks (Sense i word) lt happens = sense_leads i word lt happens
  speaks (Deliver k) lt happens = deliver_leads k happens
  speaks (Tick b) bay t =
      node_spoken m before old (Tick b) s b.0 t.turn outcome new t.world facts now links bay t.says shows
      (tick_turn m before b.0 (node m.diagram old b.0) t.turn (before_of m before old b.0 facts links bay) t.step)
      (λ c other. tt) (λ c other x is. refl)
  speaks (Withdraw b) bay happens = withdraw_leads b.0 bay happens
  speaks (Restart b) bay t =
      node_spoken m before old (Restart b) s b.0 t.turn outcome new t.world facts now links bay t.says shows
      (restart_turn m before b.0 (node m.diagram old b.0) t.turn (before_of m before old b.0 facts links bay) t.step)
      (λ c other is. other (sym is)) (λ c other x is. refl)
  speaks (Begin i) lt happens = begin_leads i happens
  speaks (End i) lt happens = end_leads i happens
  speaks (Part k bytes) lt happens = part_leads k bytes happens
  speaks (Cut i) lt happens = cut_leads i lt happens

-- the facts and what the lines say, after a run
pub record RunIs (m : Meaning) (start : List Bool) (lines : List Line) (w : Scene) : Type 0 where
  pub facts : Facts m w
  pub links : Linked m start lines w

pub run_is : (m : Meaning) (start : List Bool) (lines : List Line) (w : Scene) → IsStation m.diagram → Laws m →
    Run m start lines w → RunIs m start lines w
run_is m start [] w station laws run = record { facts = starts m start w run; links = start_linked m start w run }
run_is m start (l ∷ before) w station laws (old, run, leads) =
    let was = run_is m start before old station laws run in
    let now = keeps_facts m old w l.event leads.outcome station laws was.facts leads.range leads.happens in
    let step = happens_moves m before old w l.shown leads.outcome was.facts.rounds was.links.said leads.shows l.event
    leads.range leads.happens in
    record {
      facts = now;
      links = record {
        truth = λ i lt. step.truth i lt (true_after m.diagram start before i) (was.links.truth i lt);
        drives = λ i lt. step.drives i lt (drive_runs before i) (was.links.drives i lt);
        said = speaks m before old w l.shown leads.outcome station was.facts.rounds now.rounds was.links.said
            leads.shows l.event leads.range leads.happens;
      };
    }
