-- A step of a node at an event that is no frame keeps the facts of rounds.
use Rattle.std.proofs.Common.{◌≡◌, ◌+◌, ◌<◌, ℕ, false, [], length, Option, Some, None, refl, sym, subst, ap, ◌∙◌, inl}
use Rattle.std.proofs.Common.{inr, arith}
use Rattle.std.proofs.lemmas.Bool.{cases_Bool}
use Rattle.ilk_base.specs.declared.words.Dbpos.{Dbpos}
use Rattle.ilk_base.specs.declared.words.Dbpos.TheVariants.{Lost}
use Rattle.ilk_base.specs.declared.words.Direction.{Direction}
use Rattle.ilk_base.specs.declared.words.Direction.TheVariants.{ToOff, ToOn}
use Rattle.ilk_base.specs.declared.words.Op.{Op}
use Rattle.station_graph.specs.Diagram.{IsStation}
use Rattle.central_rules.specs.Meaning.{Meaning, IsBay}
use Rattle.bay_frames.specs.declared.frame.Body.TheVariants.{Reserve, Query}
use Rattle.bay_protocol.specs.declared.values.Grant.{Grant}
use Rattle.bay_protocol.specs.declared.values.Collection.{Collection}
use Rattle.bay_protocol.specs.declared.values.Outcome.{Outcome}
use Rattle.bay_protocol.specs.Sends.{frame, to_each, overs}
use Rattle.bay_protocol.specs.State.{State, IsOther, others, under_way_of, fresh, opens, locks, senses, ends, restarts}
use Rattle.bay_protocol.specs.Fits.{IsOwn}
use Rattle.bay_protocol.specs.Step.{Turn, StepEnds, OpenStep, CommandStep, TickStep, SenseStep, WithdrawStep, CutStep}
use Rattle.bay_protocol.specs.Step.{IsFree, end_word}
use Rattle.reservation_core.specs.Scene.{Scene, node, at_node, posts, true_at, runs, IsTrueWord}
use Rattle.reservation_core.specs.declared.values.Position.{Position}
use Rattle.reservation_core.specs.declared.values.Position.TheVariants.{Between}
use Rattle.reservation_core.specs.RoundFacts.{RoundFacts}
use Rattle.reservation_core.proofs.Nodes.{node_here}
use Rattle.reservation_core.proofs.Change.{facts_at}
use Rattle.reservation_core.proofs.Moves.{may_open, may_sense, may_end, may_restart}
use Rattle.reservation_core.proofs.Rounds.{node_there}
use Rattle.reservation_core.proofs.Sends.{MaySend}
use Rattle.reservation_core.proofs.Steps.{again, After, settle, frame_fits, to_others_sent}
use Rattle.reservation_core.proofs.Steps.{overs_sent, round_dropped, decided}
use Rattle.reservation_core.proofs.PlainSteps.{becomes, still, sends_one, decided_after}

no_collection : (x : Option Collection) → ((k : Collection) → x ≡ Some k → ⊥) → x ≡ None
no_collection None f = refl
no_collection (Some k) f = absurd (f k refl)

at_end_not_between : (d : Direction) → IsTrueWord (end_word d) Between → ⊥
at_end_not_between ToOff is = cc is
at_end_not_between ToOn is = cc is

module _ (m : Meaning) (station : IsStation m.diagram) where
  -- ---- Command

  open_keeps : (w : Scene) (b : ℕ) (op : Op) (turn : Turn) → RoundFacts m w → IsBay m.diagram b →
      IsFree (node m.diagram w b) → IsOwn m.diagram (node m.diagram w b).bay op.switch.0 →
      OpenStep m m.diagram (node m.diagram w b) op turn → After m w b turn
  open_keeps w b op turn facts bay free own (OpenStep.alone _ deciding) =
      decided_after m station w b (opens m.diagram (node m.diagram w b) op) (fresh m.diagram (node m.diagram w b) op)
      turn facts bay (may_open m w b facts bay op free own) refl deciding
  open_keeps w b op turn facts bay free own (OpenStep.reserves _ end) =
      let old : State = node m.diagram w b in
      let now : RoundFacts m (at_node w b (opens m.diagram old op)) =
      facts_at m w b (opens m.diagram old op) facts (may_open m w b facts bay op free own) in
      let is = node_here m.diagram w b (opens m.diagram old op) (node_there m w b facts bay) in
      settle m w b turn (opens m.diagram old op) _
      (to_each old.bay (old.highest + 1) Reserve (others m.diagram old.bay)) end
      (subst (λ (x : ℕ). RoundFacts m
      (posts (at_node w b (opens m.diagram old op)) (to_each x (old.highest + 1) Reserve (others m.diagram x))))
      (sym (facts.shape.named b))
      (to_others_sent m station (at_node w b (opens m.diagram old op)) b (old.highest + 1) Reserve now
      (λ c other. record {
        fit = frame_fits m.diagram b c (old.highest + 1) Reserve station bay other (λ z. absurd (omega (arith, z))) tt;
        bound =
            let top : (node m.diagram (at_node w b (opens m.diagram old op)) b).highest ≡ old.highest + 1 =
            ap (λ (n : State). n.highest) is in
            omega (arith, top);
        over = λ body. absurd (cc body);
        answer = λ summary body. absurd (cc body);
      })))

  pub command_keeps : (w : Scene) (b : ℕ) (op : Op) (turn : Turn) → RoundFacts m w → IsBay m.diagram b →
      IsOwn m.diagram (node m.diagram w b).bay op.switch.0 → CommandStep m m.diagram (node m.diagram w b) op turn →
      After m w b turn
  command_keeps w b op turn facts bay own (CommandStep.round_under_way _ _ end) = still m w b turn _ facts bay end
  command_keeps w b op turn facts bay own (CommandStep.held _ _ _ end) = still m w b turn _ facts bay end
  command_keeps w b op turn facts bay own (CommandStep.there _ _ end) = still m w b turn _ facts bay end
  command_keeps w b op turn facts bay own (CommandStep.spent _ _ _ end) = still m w b turn _ facts bay end
  command_keeps w b op turn facts bay own (CommandStep.opens_round free _ _ step) =
      open_keeps w b op turn facts bay free own step

  -- ---- Tick

  pub tick_keeps : (w : Scene) (b : ℕ) (turn : Turn) → RoundFacts m w → IsBay m.diagram b →
      TickStep m m.diagram (node m.diagram w b) turn → After m w b turn
  tick_keeps w b turn facts bay (TickStep.decides g has deciding) = decided m station w b g turn facts bay has deciding
  tick_keeps w b turn facts bay (TickStep.asks l idle lock end) =
      let kept = (facts.rounds b bay).kept.lock l lock in
      sends_one m w b turn _ (frame (node m.diagram w b).bay l.holder.0 l.round Query) facts bay end
      (subst (λ (x : ℕ). MaySend m w (frame x l.holder.0 l.round Query)) (sym (facts.shape.named b)) (record {
        fit =
            frame_fits m.diagram b l.holder.0 l.round Query station bay
            (subst (λ (x : ℕ). IsOther m.diagram x l.holder.0) (facts.shape.named b) kept.holder) kept.positive tt;
        bound = facts.bounds.locks b l lock;
        over = λ is. absurd (cc is);
        answer = λ summary is. absurd (cc is);
      }))
  tick_keeps w b turn facts bay (TickStep.rests _ _ end) = still m w b turn _ facts bay end

  -- ---- the end of an operation

  -- the word of its switch is set, then it ends
  ended : (w : Scene) (b : ℕ) (g : Grant) (i : ℕ) (word : Dbpos) (turn : Turn) (outcome : Outcome) → RoundFacts m w →
      IsBay m.diagram b → (node m.diagram w b).granted ≡ Some g → g.op.switch.0 ≡ i → runs w.drives i ≡ false →
      StepEnds turn (ends (senses (node m.diagram w b) i word)) outcome (overs m.diagram (node m.diagram w b) g.round) →
      After m w b turn
  ended w b g i word turn outcome facts bay has switch rests end =
      let old : State = node m.diagram w b in
      let s : State = senses (node m.diagram w b) i word in
      let ok = facts.rounds b bay in
      let good = ok.kept.granted g has in
      let within = node_there m w b facts bay in
      let one : RoundFacts m (at_node w b (senses (node m.diagram w b) i word)) =
      facts_at m w b (senses (node m.diagram w b) i word) facts (may_sense m w b facts bay i word) in
      let at : node m.diagram (at_node w b (senses (node m.diagram w b) i word)) b
      ≡ senses (node m.diagram w b) i word = node_here m.diagram w b (senses (node m.diagram w b) i word) within in
      let may =
      may_end m (at_node w b (senses (node m.diagram w b) i word)) b one bay g (ap (λ (n : State). n.granted) at ∙ has)
      (ap (λ (x : ℕ). runs w.drives x) switch ∙ rests) in
      let two : RoundFacts m
      (at_node (at_node w b (senses (node m.diagram w b) i word)) b (ends (senses (node m.diagram w b) i word))) =
      subst (λ (n : State). RoundFacts m (at_node (at_node w b (senses (node m.diagram w b) i word)) b (ends n))) at
      (facts_at m (at_node w b (senses (node m.diagram w b) i word)) b
      (ends (node m.diagram (at_node w b (senses (node m.diagram w b) i word)) b)) one may) in
      let three : RoundFacts m (at_node w b (ends (senses (node m.diagram w b) i word))) =
      subst (RoundFacts m) (again w b (senses (node m.diagram w b) i word) (ends (senses (node m.diagram w b) i word)))
      two in
      let none : (node m.diagram w b).collecting ≡ None =
      no_collection (node m.diagram w b).collecting (λ k is. absurd (cc ((ok.collecting k is).no_grant, has))) in
      settle m w b turn (ends (senses (node m.diagram w b) i word)) outcome
      (overs m.diagram (node m.diagram w b) g.round) end
      (overs_sent m station w b g.round (ends (senses (node m.diagram w b) i word)) three within bay
      (facts.shape.named b) (ap (λ x. under_way_of x None) none) (omega (arith, good.newest)) good.positive)

  -- where off or on is true, no drive runs
  end_stands_still : (w : Scene) (i : ℕ) (way : Direction) → RoundFacts m w → i < length m.diagram.switches →
      IsTrueWord (end_word way) (true_at w.truth i) → runs w.drives i ≡ false
  end_stands_still w i way facts lt truly = elim (cases_Bool (runs w.drives i)) [
    | inl on ↦
        absurd (at_end_not_between way
        (subst (λ (x : Position). IsTrueWord (end_word way) x) (facts.drives i lt on).between truly))
    | inr off ↦ off
  ]

  pub sense_keeps : (w : Scene) (b i : ℕ) (word : Dbpos) (turn : Turn) → RoundFacts m w → IsBay m.diagram b →
      i < length m.diagram.switches → IsTrueWord word (true_at w.truth i) →
      SenseStep m.diagram (node m.diagram w b) i word turn → After m w b turn
  sense_keeps w b i word turn facts bay lt truly (SenseStep.finishes g is end) =
      ended w b g i word turn _ facts bay is.granted is.switch (end_stands_still w i g.op.direction facts lt
      (subst (λ (x : Dbpos). IsTrueWord x (true_at w.truth i)) is.wanted truly)) end
  sense_keeps w b i word turn facts bay lt truly (SenseStep.reads _ end) =
      becomes m w b turn (senses (node m.diagram w b) i word) _ facts end (may_sense m w b facts bay i word)

  pub withdraw_keeps : (w : Scene) (b : ℕ) (turn : Turn) → RoundFacts m w → IsBay m.diagram b →
      ((g : Grant) → (node m.diagram w b).granted ≡ Some g → runs w.drives g.op.switch.0 ≡ false) →
      WithdrawStep m.diagram (node m.diagram w b) turn → After m w b turn
  withdraw_keeps w b turn facts bay rests (WithdrawStep.from_round g has end) =
      round_dropped m station w b g turn _ facts bay has end
  withdraw_keeps w b turn facts bay rests (WithdrawStep.from_grant g none has end) =
      ended w b g g.op.switch.0 Lost turn _ facts bay has refl (rests g has) end
  withdraw_keeps w b turn facts bay rests (WithdrawStep.no_round _ end) = still m w b turn _ facts bay end

  pub cut_keeps : (w : Scene) (b i : ℕ) (turn : Turn) → RoundFacts m w → IsBay m.diagram b → runs w.drives i ≡ false →
      CutStep m.diagram (node m.diagram w b) i turn → After m w b turn
  cut_keeps w b i turn facts bay rests (CutStep.stops g has switch end) =
      ended w b g i Lost turn _ facts bay has switch rests end
  cut_keeps w b i turn facts bay rests (CutStep.other_switch _ _ _ end) = still m w b turn _ facts bay end
  cut_keeps w b i turn facts bay rests (CutStep.no_grant _ end) = still m w b turn _ facts bay end

  pub restart_keeps : (w : Scene) (b : ℕ) (turn : Turn) → RoundFacts m w → IsBay m.diagram b → (outcome : Outcome) →
      StepEnds turn (restarts (node m.diagram w b)) outcome [] → After m w b turn
  restart_keeps w b turn facts bay outcome end =
      becomes m w b turn (restarts (node m.diagram w b)) outcome facts end (may_restart m w b facts bay)
