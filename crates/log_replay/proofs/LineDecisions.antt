-- Each line of a run decides well.
use Rattle.std.proofs.Common.{◌≡◌, ◌≢◌, ◌-◌, ◌<◌, ℕ, Bool, List, ◌∷◌, length, refl, sym, subst, ap, inl, inr}
use Rattle.std.proofs.lemmas.Bool.{cases_eq}
use Rattle.ilk_base.specs.declared.words.BayId.{BayId}
use Rattle.ilk_base.specs.declared.words.SwitchId.{SwitchId}
use Rattle.ilk_base.specs.declared.words.Dbpos.{Dbpos}
use Rattle.station_graph.specs.Diagram.{IsStation}
use Rattle.central_rules.specs.Meaning.{Meaning, Laws, IsBay, bay_of}
use Rattle.bay_protocol.specs.Step.{Turn}
use Rattle.reservation_core.specs.Scene.{Scene, node}
use Rattle.reservation_core.specs.RoundFacts.{RoundFacts, FrameFits}
use Rattle.reservation_core.specs.Happens.{Happens, InRange, Tells, SenseHappens, DeliverHappens, PartHappens}
use Rattle.reservation_core.specs.Happens.{WithdrawHappens, BeginHappens, EndHappens, CutHappens}
use Rattle.reservation_core.specs.declared.values.WorldEvent.{WorldEvent}
use Rattle.reservation_core.specs.declared.values.WorldEvent.TheVariants.{Command, Sense, Deliver, Tick, Withdraw}
use Rattle.reservation_core.specs.declared.values.WorldEvent.TheVariants.{Restart, Begin, End, Part, Cut}
use Rattle.reservation_core.specs.declared.values.WorldOutcome.{WorldOutcome}
use Rattle.reservation_core.proofs.Steps.{bay_of_is}
use Rattle.reservation_core.proofs.Keeping.{got_there}
use Rattle.reservation_core.specs.Lines.{Line, Shown, of_bay, message, shown}
use Rattle.reservation_core.specs.Runs.{ShowsNothing, Shows, Run}
use Rattle.reservation_core.specs.Headline.{DecidesWell}
use Rattle.log_replay.proofs.Basic.{of_quiet}
use Rattle.log_replay.proofs.Linked.{TellsNothing, tells_nothing}
use Rattle.log_replay.proofs.Links.{Spoken, turn_shown, quiet_shown, not_refused, drive_shown}
use Rattle.log_replay.proofs.Leading.{before_of, brought_of, run_is}
use Rattle.log_replay.proofs.Decisions.{command_bay, tick_bay, sense_bay, withdraw_bay, cut_bay, restart_bay}
use Rattle.log_replay.proofs.RestingBays.{BayDecides, shows_it, decides_it, quiet_bay}
use Rattle.log_replay.proofs.DeliveryDecisions.{frame_bay}

module _ (m : Meaning) (before : List Line) (old new : Scene) (s : Shown) (outcome : WorldOutcome)
    (station : IsStation m.diagram) (laws : Laws m) (facts : RoundFacts m old) (links : Spoken m before old)
    (shows : Shows outcome s) where
  -- a step of node b
  node_bays : (e : WorldEvent) (b : ℕ) (turn : Turn) → Tells (length old.sent) b (node m.diagram old b) turn outcome
      → ((c : ℕ) → c ≢ b → e ≢ Tick (record { 0 = c })) → ((c : ℕ) → c ≢ b → TellsNothing m.diagram before e c)
      → (of_bay s b ≡ shown turn.outcome → BayDecides m before (record { event = e; shown = s }) b) → (c : ℕ)
      → BayDecides m before (record { event = e; shown = s }) c
  node_bays e b turn says not_tick silent own c =
      let it = turn_shown (length old.sent) b (node m.diagram old b) turn outcome s says shows in
      elim (cases_eq c b) [
        | inl same ↦ subst (λ (x : ℕ). BayDecides m before (record { event = e; shown = s }) x) (sym same) (own
            it.own)
        | inr other ↦ quiet_bay m before (record { event = e; shown = s }) c (node m.diagram old c).collecting
            (node m.diagram old c).granted (node m.diagram old c).words (links.nodes c) (it.other c other) (not_tick c other) (silent c other)
      ]

  -- a line that shows nothing
  nothing_bays : (e : WorldEvent) → ShowsNothing s → ((c : ℕ) → e ≢ Tick (record { 0 = c })) → ((c : ℕ)
      → TellsNothing m.diagram before e c) → (c : ℕ) → BayDecides m before (record { event = e; shown = s }) c
  nothing_bays e nothing not_tick silent c =
      quiet_bay m before (record { event = e; shown = s }) c (node m.diagram old c).collecting
      (node m.diagram old c).granted (node m.diagram old c).words (links.nodes c) (of_quiet s c nothing.outcome)
      (not_tick c) (silent c)

  sense_bays : (i : SwitchId) (word : Dbpos) → i.0 < length m.diagram.switches → SenseHappens m old i word new outcome
      → (c : ℕ) → BayDecides m before (record { event = Sense i word; shown = s }) c
  sense_bays i word lt (SenseHappens.untrue false_word refused) = absurd (not_refused old new outcome _ s refused shows)
  sense_bays i word lt (SenseHappens.reads truly t) =
      let b = bay_of m.diagram i.0 in
      node_bays (Sense i word) b t.turn t.says (λ c other e. cc e) (λ c other x is. refl)
      (λ shown_so. sense_bay m before s b i word (node m.diagram old b) t.turn (before_of m before old b facts links
      (bay_of_is m.diagram i.0 station lt)) shown_so t.step)

  deliver_bays : (k : ℕ) → DeliverHappens m old k new outcome → (c : ℕ) → BayDecides m before (record {
    event =
        Deliver k;
    shown = s;
  }) c
  deliver_bays k (DeliverHappens.unsent none refused) = absurd (not_refused old new outcome _ s refused shows)
  deliver_bays k (DeliverHappens.comes f is t) =
      let fit : FrameFits m.diagram f = facts.bounds.fit f (got_there old.sent (k - 1) f is.sent) in
      let brought = brought_of m before old k f links is in
      node_bays (Deliver k) f.to.0 t.turn t.says (λ c other e. cc e)
      (λ c other. tells_nothing m.diagram before k c (record {
        message = message k f;
        lines = brought.at;
      }) brought.found (λ b is_b a. other (sym a.to)))
      (λ shown_so. frame_bay m before s k f.to.0 (node m.diagram old f.to.0) f t.turn station laws
      (before_of m before old f.to.0 facts links fit.receiver.0) brought refl fit.sender shown_so t.step)

  part_bays : (k bytes : ℕ) → PartHappens m.diagram old k new outcome → (c : ℕ) → BayDecides m before
      (record { event = Part k bytes; shown = s }) c
  part_bays k bytes (PartHappens.unsent none refused) = absurd (not_refused old new outcome _ s refused shows)
  part_bays k bytes (PartHappens.nothing f is same quiet) =
      nothing_bays (Part k bytes) (quiet_shown (length old.sent) f.to.0
      (node m.diagram old f.to.0) outcome s quiet shows) (λ c e. cc e) (λ c b is. refl)

  withdraw_bays : (b : ℕ) → IsBay m.diagram b → WithdrawHappens m old b new outcome → (c : ℕ)
      → BayDecides m before (record { event = Withdraw (record { 0 = b }); shown = s }) c
  withdraw_bays b bay (WithdrawHappens.running g has on refused) = absurd
      (not_refused old new outcome _ s refused shows)
  withdraw_bays b bay (WithdrawHappens.resting still t) =
      node_bays (Withdraw (record { 0 = b })) b t.turn t.says (λ c other e. cc e) (λ c other x is. refl)
      (λ shown_so. withdraw_bay m before s b (node m.diagram old b) t.turn
      (before_of m before old b facts links bay) shown_so t.step)

  begin_bays : (i : SwitchId) → BeginHappens m.diagram old i.0 new outcome → (c : ℕ)
      → BayDecides m before (record { event = Begin i; shown = s }) c
  begin_bays i (BeginHappens.not_open free refused) = absurd (not_refused old new outcome _ s refused shows)
  begin_bays i (BeginHappens.running on refused) = absurd (not_refused old new outcome _ s refused shows)
  begin_bays i (BeginHappens.there_already g opened at refused) = absurd (not_refused old new outcome _ s refused shows)
  begin_bays i (BeginHappens.begins g opened off away driven) =
      nothing_bays (Begin i) (drive_shown new new outcome s driven.says shows) (λ c e. cc e) (λ c b is. refl)

  end_bays : (i : SwitchId) → EndHappens m.diagram old i.0 new outcome → (c : ℕ) → BayDecides m before
      (record { event = End i; shown = s }) c
  end_bays i (EndHappens.resting off refused) = absurd (not_refused old new outcome _ s refused shows)
  end_bays i (EndHappens.arrives g on opened driven) =
      nothing_bays (End i) (drive_shown new new outcome s driven.says shows) (λ c e. cc e) (λ c b is. refl)

  cut_bays : (i : SwitchId) → i.0 < length m.diagram.switches → CutHappens m old i new outcome → (c : ℕ)
      → BayDecides m before (record { event = Cut i; shown = s }) c
  cut_bays i lt (CutHappens.resting off refused) = absurd (not_refused old new outcome _ s refused shows)
  cut_bays i lt (CutHappens.stops_between on t) =
      let b = bay_of m.diagram i.0 in
      node_bays (Cut i) b t.turn t.says (λ c other e. cc e) (λ c other x is. refl)
      (λ shown_so. cut_bay m before s b i (node m.diagram old b) t.turn (before_of m before old b facts links
      (bay_of_is m.diagram i.0 station lt)) shown_so t.step)

  pub lead_bays : (e : WorldEvent) → InRange m.diagram e → Happens m old e new outcome → (c : ℕ)
      → BayDecides m before (record { event = e; shown = s }) c
  lead_bays (Command op) lt t =
      let b = bay_of m.diagram op.switch.0 in
      node_bays (Command op) b t.turn t.says (λ c other e. cc e) (λ c other x is. refl)
      (λ shown_so. command_bay m before s b (node m.diagram old b) op t.turn station laws
      (before_of m before old b facts links (bay_of_is m.diagram op.switch.0 station lt)) lt refl shown_so t.step)
  lead_bays (Sense i word) lt happens = sense_bays i word lt happens
  lead_bays (Deliver k) lt happens = deliver_bays k happens
  lead_bays (Tick b) bay t =
      node_bays (Tick b) b.0 t.turn t.says (λ c other e. let same : b ≡ record { 0 = c } = cc e in
      other (sym (ap (λ (x : BayId). x.0) same))) (λ c other x is. refl)
      (λ shown_so. tick_bay m before s b.0 (node m.diagram old b.0) t.turn station laws
      (before_of m before old b.0 facts links bay) shown_so t.step)
  lead_bays (Withdraw b) bay happens = withdraw_bays b.0 bay happens
  lead_bays (Restart b) bay t =
      node_bays (Restart b) b.0 t.turn t.says (λ c other e. cc e) (λ c other x is. refl)
      (λ shown_so. restart_bay m before s b.0 (node m.diagram old b.0) t.turn _
      (before_of m before old b.0 facts links bay) shown_so t.step)
  lead_bays (Begin i) lt happens = begin_bays i happens
  lead_bays (End i) lt happens = end_bays i happens
  lead_bays (Part k bytes) lt happens = part_bays k bytes happens
  lead_bays (Cut i) lt happens = cut_bays i lt happens

-- the first half of the headline
pub decides_well : (m : Meaning) (start : List Bool) (l : Line) (before : List Line) (w : Scene) → IsStation m.diagram
    → Laws m → Run m start (l ∷ before) w → DecidesWell m.diagram before l
decides_well m start l before w station laws (old, run, leads) =
    let was = run_is m start before old station laws run in
    let each = lead_bays m before old w l.shown leads.outcome station laws was.facts.rounds was.links.said
    leads.shows l.event leads.range leads.happens in
    record {
      shows = λ c o is. shows_it m before l c o (each c) is;
      no_other = λ c o is. decides_it m before l c o
          (each c) is;
    }
