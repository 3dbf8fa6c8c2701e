-- A premise is told exactly where the event breaks it.
use Rattle.std.proofs.Common.{◌≡◌, ◌<◌, ◌-◌, ◌↔◌, ℕ, length, sym, subst, ap, ◌∙◌, inl, inr, arith}
use Rattle.std.proofs.lemmas.Option.{slice_get_within}
use Rattle.ilk_base.specs.declared.words.Dbpos.{Dbpos}
use Rattle.ilk_base.specs.declared.words.SwitchId.{SwitchId}
use Rattle.central_rules.specs.Meaning.{Meaning}
use Rattle.bay_frames.specs.declared.frame.Frame.{Frame}
use Rattle.bay_protocol.specs.declared.values.Grant.{Grant}
use Rattle.bay_protocol.specs.State.{State}
use Rattle.bay_protocol.specs.Step.{Turn}
use Rattle.reservation_core.specs.Scene.{Scene, node, stops, true_at, end_position}
use Rattle.reservation_core.specs.Happens.{Happens, Tells, IsMessage, IsUnsent, IsMoving, no_turn, SenseHappens}
use Rattle.reservation_core.specs.Happens.{DeliverHappens, PartHappens, WithdrawHappens, BeginHappens, EndHappens}
use Rattle.reservation_core.specs.Happens.{CutHappens}
use Rattle.reservation_core.specs.Premises.{BreaksPremise}
use Rattle.reservation_core.specs.declared.values.Which.{Which}
use Rattle.reservation_core.specs.declared.values.Which.TheVariants.{Withdrawn}
use Rattle.reservation_core.specs.declared.values.WorldEvent.{WorldEvent}
use Rattle.reservation_core.specs.declared.values.WorldEvent.TheVariants.{Command, Sense, Deliver, Tick, Withdraw}
use Rattle.reservation_core.specs.declared.values.WorldEvent.TheVariants.{Restart, Begin, End, Part, Cut}
use Rattle.reservation_core.specs.declared.values.WorldOutcome.{WorldOutcome}
use Rattle.reservation_core.specs.declared.values.WorldOutcome.TheVariants.{Premise}
use Rattle.reservation_core.proofs.Ways.{node_says}

-- a message is not unsent
was_sent : (w : Scene) (k : ℕ) (f : Frame) → IsMessage w k f → IsUnsent w k → ⊥
was_sent w k f message (inl zero) = message.positive zero
was_sent w k f message (inr late) =
    let lt : k - 1 < length w.sent = slice_get_within w.sent (k - 1) f message.sent in
    let positive = message.positive in
    omega (arith, lt, late, positive)

-- a turn tells no premise
no_premise : (count b : ℕ) (s : State) (turn : Turn) (outcome : WorldOutcome) (which : Which) →
    outcome ≡ Premise which → Tells count b s turn outcome → ⊥
no_premise count b s turn outcome which is says = subst (λ (x : WorldOutcome). Tells count b s turn x) is says

module _ (m : Meaning) (old new : Scene) (outcome : WorldOutcome) (which : Which) where
  abbrev Exactly : WorldEvent → Type 0
  Exactly event = (outcome ≡ Premise which) ↔ BreaksPremise m.diagram old event which

  -- one premise only
  same : (other : Which) → outcome ≡ Premise other → outcome ≡ Premise which → which ≡ other
  same other says is = cc (says, is)

  told : (other : Which) → outcome ≡ Premise other → which ≡ other → outcome ≡ Premise which
  told other says is = says ∙ ap (λ (x : Which). Premise x) (sym is)

  exact_sense : (i : SwitchId) (word : Dbpos) → SenseHappens m old i word new outcome → Exactly (Sense i word)
  exact_sense i word (SenseHappens.untrue not_so r) =
      (λ is. (same _ r.says is, not_so), λ breaks. told _ r.says breaks.0)
  exact_sense i word (SenseHappens.reads truly s) =
      (λ is. absurd (node_says m old new _ _ outcome which is s), λ breaks. absurd (breaks.1 truly))

  exact_deliver : (k : ℕ) → DeliverHappens m old k new outcome → Exactly (Deliver k)
  exact_deliver k (DeliverHappens.unsent none r) = (λ is. (same _ r.says is, none), λ breaks. told _ r.says breaks.0)
  exact_deliver k (DeliverHappens.comes f message s) = (
    λ is. absurd (node_says m old new _ _ outcome which is s),
    λ breaks. absurd (was_sent old k f message breaks.1),
  )

  exact_part : (k bytes : ℕ) → PartHappens m.diagram old k new outcome → Exactly (Part k bytes)
  exact_part k bytes (PartHappens.unsent none r) = (λ is. (same _ r.says is, none), λ breaks. told _ r.says breaks.0)
  exact_part k bytes (PartHappens.nothing f message unchanged says) = (
    λ is. absurd (no_premise (length old.sent) f.to.0 (node m.diagram old f.to.0) (no_turn (node m.diagram old f.to.0))
        outcome which is says),
    λ breaks. absurd (was_sent old k f message breaks.1),
  )

  exact_withdraw : (b : ℕ) → WithdrawHappens m old b new outcome → (outcome ≡ Premise which) ↔
      ((which ≡ Withdrawn) × IsMoving m.diagram old b)
  exact_withdraw b (WithdrawHappens.running g has on r) =
      (λ is. (same _ r.says is, (g, has, on)), λ breaks. told _ r.says breaks.0)
  exact_withdraw b (WithdrawHappens.resting rests s) = (
    λ is. absurd (node_says m old new _ _ outcome which is s),
    λ breaks. absurd (cc (rests breaks.1.0 breaks.1.1, breaks.1.2)),
  )

  exact_begin : (i : SwitchId) → BeginHappens m.diagram old i.0 new outcome → Exactly (Begin i)
  exact_begin i (BeginHappens.not_open free r) = (λ is. (same _ r.says is, inl free), λ breaks. told _ r.says breaks.0)
  exact_begin i (BeginHappens.running on r) = (λ is. (same _ r.says is, inr (inl on)), λ breaks. told _ r.says breaks.0)
  exact_begin i (BeginHappens.there_already g it at r) =
      (λ is. (same _ r.says is, inr (inr (g, it, at))), λ breaks. told _ r.says breaks.0)
  exact_begin i (BeginHappens.begins g it off away driven) = (
    λ is. absurd (cc (is, driven.says)),
    λ breaks. absurd (elim breaks.1 [
      | inl free ↦ free g it.granted it.switch
      | inr rest ↦ elim rest [
        | inl on ↦ cc (on, off)
        | inr there ↦
            let e : there.0 ≡ g = cc (there.1.granted, it.granted) in
            away (subst (λ (x : Grant). true_at old.truth i.0 ≡ end_position x.op.direction) e there.2)
      ]
    ]),
  )

  exact_end : (i : SwitchId) → EndHappens m.diagram old i.0 new outcome → Exactly (End i)
  exact_end i (EndHappens.resting off r) = (λ is. (same _ r.says is, off), λ breaks. told _ r.says breaks.0)
  exact_end i (EndHappens.arrives g on it driven) =
      (λ is. absurd (cc (is, driven.says)), λ breaks. absurd (cc (breaks.1, on)))

  exact_cut : (i : SwitchId) → CutHappens m old i new outcome → Exactly (Cut i)
  exact_cut i (CutHappens.resting off r) = (λ is. (same _ r.says is, off), λ breaks. told _ r.says breaks.0)
  exact_cut i (CutHappens.stops_between on s) = (
    λ is. absurd (node_says m (stops old i.0) new _ _ outcome which is s),
    λ breaks. absurd (cc (breaks.1, on)),
  )

  pub exact : (event : WorldEvent) → Happens m old event new outcome → Exactly event
  exact (Command op) s = (λ is. absurd (node_says m old new _ _ outcome which is s), λ breaks. absurd breaks)
  exact (Sense i word) s = exact_sense i word s
  exact (Deliver k) s = exact_deliver k s
  exact (Tick b) s = (λ is. absurd (node_says m old new _ _ outcome which is s), λ breaks. absurd breaks)
  exact (Withdraw b) s = exact_withdraw b.0 s
  exact (Restart b) s = (λ is. absurd (node_says m old new _ _ outcome which is s), λ breaks. absurd breaks)
  exact (Begin i) s = exact_begin i s
  exact (End i) s = exact_end i s
  exact (Part k bytes) s = exact_part k bytes s
  exact (Cut i) s = exact_cut i s
