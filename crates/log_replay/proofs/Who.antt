-- Who takes a step at a line of a run, and what is shown of it.
use Rattle.std.proofs.Common.{ℕ, length}
use Rattle.ilk_base.specs.declared.words.SwitchId.{SwitchId}
use Rattle.ilk_base.specs.declared.words.Dbpos.{Dbpos}
use Rattle.central_rules.specs.Meaning.{Meaning, bay_of}
use Rattle.bay_protocol.specs.declared.values.NodeEvent.{NodeEvent}
use Rattle.bay_protocol.specs.declared.values.NodeEvent.TheVariants.{Cut as Cutting}
use Rattle.bay_protocol.specs.Step.{Turn, Step}
use Rattle.reservation_core.specs.Scene.{Scene, node}
use Rattle.reservation_core.specs.Happens.{Happens, NodeSteps, SenseHappens, DeliverHappens, PartHappens}
use Rattle.reservation_core.specs.Happens.{WithdrawHappens, BeginHappens, EndHappens, CutHappens}
use Rattle.reservation_core.specs.declared.values.WorldEvent.{WorldEvent}
use Rattle.reservation_core.specs.declared.values.WorldEvent.TheVariants.{Command, Sense, Deliver, Tick, Withdraw}
use Rattle.reservation_core.specs.declared.values.WorldEvent.TheVariants.{Restart, Begin, End, Part, Cut}
use Rattle.reservation_core.specs.declared.values.WorldOutcome.{WorldOutcome}
use Rattle.reservation_core.specs.Lines.{Shown}
use Rattle.reservation_core.specs.Runs.{ShowsNothing, Shows}
use Rattle.log_replay.proofs.Links.{TurnShown, turn_shown, quiet_shown, not_refused, drive_shown}

pub data Who (m : Meaning) (old : Scene) (s : Shown) : Type 0 where
  steps : (b : ℕ) (e : NodeEvent) (turn : Turn) → Step m m.diagram (node m.diagram old b) e turn →
      TurnShown (length old.sent) b turn s → Who m old s
  nobody : ShowsNothing s → Who m old s

module _ (m : Meaning) (old new : Scene) (outcome : WorldOutcome) (s : Shown) (shows : Shows outcome s) where
  step_who : (b : ℕ) (e : NodeEvent) → NodeSteps m old b e new outcome → Who m old s
  step_who b e t = Who.steps b e t.turn t.step (turn_shown (length old.sent) b (node m.diagram old b) t.turn outcome s
      t.says shows)

  sense_who : (i : SwitchId) (word : Dbpos) → SenseHappens m old i word new outcome → Who m old s
  sense_who i word (SenseHappens.untrue false_word refused) = absurd (not_refused old new outcome _ s refused shows)
  sense_who i word (SenseHappens.reads truly t) = step_who _ _ t

  deliver_who : (k : ℕ) → DeliverHappens m old k new outcome → Who m old s
  deliver_who k (DeliverHappens.unsent none refused) = absurd (not_refused old new outcome _ s refused shows)
  deliver_who k (DeliverHappens.comes f is t) = step_who _ _ t

  part_who : (k : ℕ) → PartHappens m.diagram old k new outcome → Who m old s
  part_who k (PartHappens.unsent none refused) = absurd (not_refused old new outcome _ s refused shows)
  part_who k (PartHappens.nothing f is same quiet) =
      Who.nobody (quiet_shown (length old.sent) f.to.0 (node m.diagram old f.to.0) outcome s quiet shows)

  withdraw_who : (b : ℕ) → WithdrawHappens m old b new outcome → Who m old s
  withdraw_who b (WithdrawHappens.running g has on refused) = absurd (not_refused old new outcome _ s refused shows)
  withdraw_who b (WithdrawHappens.resting still t) = step_who _ _ t

  begin_who : (i : ℕ) → BeginHappens m.diagram old i new outcome → Who m old s
  begin_who i (BeginHappens.not_open free refused) = absurd (not_refused old new outcome _ s refused shows)
  begin_who i (BeginHappens.running on refused) = absurd (not_refused old new outcome _ s refused shows)
  begin_who i (BeginHappens.there_already g opened at refused) = absurd (not_refused old new outcome _ s refused shows)
  begin_who i (BeginHappens.begins g opened off away drive) =
      Who.nobody (drive_shown new new outcome s drive.says shows)

  end_who : (i : ℕ) → EndHappens m.diagram old i new outcome → Who m old s
  end_who i (EndHappens.resting off refused) = absurd (not_refused old new outcome _ s refused shows)
  end_who i (EndHappens.arrives g on opened drive) = Who.nobody (drive_shown new new outcome s drive.says shows)

  cut_who : (i : SwitchId) → CutHappens m old i new outcome → Who m old s
  cut_who i (CutHappens.resting off refused) = absurd (not_refused old new outcome _ s refused shows)
  cut_who i (CutHappens.stops_between on t) =
      let b = bay_of m.diagram i.0 in
      Who.steps b (Cutting i) t.turn t.step (turn_shown (length old.sent) b (node m.diagram old b) t.turn outcome s
      t.says shows)

  pub who : (e : WorldEvent) → Happens m old e new outcome → Who m old s
  who (Command op) t = step_who _ _ t
  who (Sense i word) happens = sense_who i word happens
  who (Deliver k) happens = deliver_who k happens
  who (Tick b) t = step_who _ _ t
  who (Withdraw b) happens = withdraw_who b.0 happens
  who (Restart b) t = step_who _ _ t
  who (Begin i) happens = begin_who i.0 happens
  who (End i) happens = end_who i.0 happens
  who (Part k bytes) happens = part_who k happens
  who (Cut i) happens = cut_who i happens
