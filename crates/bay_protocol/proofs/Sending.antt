-- Each frame that a step sends is lawful, and a step sends few.
use Rattle.std.proofs.Common.{◌≡◌, ◌≢◌, ◌+◌, ◌<◌, ◌≤◌, ℕ, List, [], ◌∷◌, length, map, Option, Some, None, refl, sym}
use Rattle.std.proofs.Common.{subst, ap, ◌∙◌, arith, lit<}
use Rattle.std.specs.List.{All}
use Rattle.std.proofs.lemmas.List.Elements.{All-nil, All-cons, All-map}
use Rattle.std.proofs.lemmas.List.{length-map}
use Rattle.ilk_base.specs.declared.words.BayId.{BayId}
use Rattle.ilk_base.specs.declared.words.Dbpos.{Dbpos}
use Rattle.ilk_base.specs.declared.words.Op.{Op}
use Rattle.station_graph.specs.declared.limits.TheConstants.{PARTS, BAYS}
use Rattle.station_graph.specs.Diagram.{Diagram, IsStation, part_count}
use Rattle.central_rules.specs.Meaning.{Meaning, IsBay}
use Rattle.bay_frames.specs.declared.frame.Frame.{Frame}
use Rattle.bay_frames.specs.declared.frame.Body.{Body}
use Rattle.bay_frames.specs.declared.frame.Body.TheVariants.{Reserve, Answer, Busy, Query, Over}
use Rattle.bay_frames.specs.Row.{IsLawful, IsLawfulBody}
use Rattle.bay_protocol.specs.declared.values.Collection.{Collection}
use Rattle.bay_protocol.specs.declared.values.Grant.{Grant}
use Rattle.bay_protocol.specs.declared.values.Outcome.{Outcome}
use Rattle.bay_protocol.specs.declared.values.NodeEvent.{NodeEvent}
use Rattle.bay_protocol.specs.declared.values.NodeEvent.TheVariants.{Command, Sense, Frame as Arrival, Tick, Withdraw}
use Rattle.bay_protocol.specs.declared.values.NodeEvent.TheVariants.{Restart, Cut}
use Rattle.bay_protocol.specs.State.{State, IsOther, others, under_way, under_way_of, hears}
use Rattle.bay_protocol.specs.Sends.{frame, to_each}
use Rattle.bay_protocol.specs.Fits.{IsNode, EventFits}
use Rattle.bay_protocol.specs.Step.{Turn, StepEnds, Step, IsFree, Deciding, OpenStep, CommandStep, ReserveStep}
use Rattle.bay_protocol.specs.Step.{AnswerStep}
use Rattle.bay_protocol.specs.Step.{BusyStep, QueryStep, OverStep, FrameStep, TickStep, SenseStep, WithdrawStep}
use Rattle.bay_protocol.specs.Step.{CutStep}
use Rattle.bay_protocol.proofs.Others.{others_each, others_count}

-- the frames of a turn are lawful, and fewer than a station has bays
pub record Sends (turn : Turn) : Type 0 where
  pub lawful : All IsLawful turn.frames
  pub few : length turn.frames < BAYS

-- a round that is under way is not 0
round_positive : (d : Diagram) (s : State) (q : ℕ) → IsNode d s → under_way s ≡ Some q → q ≢ 0
round_positive d s q node is = by_state s.collecting s.granted refl refl is
  where
    by_state : (x : Option Collection) (y : Option Grant) → s.collecting ≡ x → s.granted ≡ y →
        under_way_of x y ≡ Some q → q ≢ 0
    by_state (Some g) y has _ at = let e : g.round ≡ q = cc at in λ zero. (node.collecting g has).positive (e ∙ zero)
    by_state None (Some g) _ has at =
        let e : g.round ≡ q = cc at in
        λ zero. (node.kept.granted g has).positive (e ∙ zero)
    by_state None None _ _ at = absurd (cc at)

module _ (d : Diagram) (station : IsStation d) where
  -- a frame from a bay to another
  lawful_frame : (b c r : ℕ) (body : Body) → IsBay d b → IsOther d b c → r ≢ 0 → IsLawfulBody body →
      IsLawful (frame b c r body)
  lawful_frame b c r body bay other positive fits = record {
    from = omega (arith, bay.0, station.items.parts_few);
    to = omega (arith, other.0.0, station.items.parts_few);
    other = other.1;
    round = positive;
    body = fits;
  }

  send_none : (turn : Turn) → turn.frames ≡ [] → Sends turn
  send_none turn is = record { lawful = subst (All IsLawful) (sym is) (All-nil IsLawful); few = rw is (lit< tt) }

  send_one : (turn : Turn) (b c r : ℕ) (body : Body) → turn.frames ≡ frame b c r body ∷ [] → IsBay d b → IsOther d b c →
      r ≢ 0 → IsLawfulBody body → Sends turn
  send_one turn b c r body is bay other positive fits = record {
    lawful =
        subst (All IsLawful) (sym is) (All-cons IsLawful (frame b c r body) []
        (lawful_frame b c r body bay other positive fits) (All-nil IsLawful));
    few = rw is (lit< tt);
  }

  send_each : (turn : Turn) (b r : ℕ) (body : Body) → turn.frames ≡ to_each b r body (others d b) → IsBay d b → r ≢ 0 →
      IsLawfulBody body → Sends turn
  send_each turn b r body is bay positive fits = record {
    lawful =
        subst (All IsLawful) (sym is) (All-map IsLawful (λ c. frame b c r body) (others d b)
        (λ k e low. lawful_frame b _ r body bay (others_each d b k e low) positive fits));
    few = rw (is, length-map) (omega (arith, others_count d b bay, station.items.bays_few));
  }

  module _ (m : Meaning) where
    send_deciding : (s : State) (g : Collection) (turn : Turn) → IsBay d s.bay → g.round ≢ 0 → Deciding m d s g turn →
        Sends turn
    send_deciding s g turn bay positive (Deciding.release _ end) = send_none turn end.sends
    send_deciding s g turn bay positive (Deciding.denial _ _ _ end) =
        send_each turn s.bay g.round Over end.sends bay positive tt

    send_open : (old : State) (op : Op) (turn : Turn) → IsNode d old → OpenStep m d old op turn → Sends turn
    send_open old op turn node (OpenStep.alone _ step) =
        send_deciding _ _ turn node.bay (λ z. absurd (omega (arith, z))) step
    send_open old op turn node (OpenStep.reserves _ end) =
        send_each turn old.bay (old.highest + 1) Reserve end.sends node.bay (λ z. absurd (omega (arith, z))) tt

    send_command : (old : State) (op : Op) (turn : Turn) → IsNode d old → CommandStep m d old op turn → Sends turn
    send_command old op turn node (CommandStep.round_under_way _ _ end) = send_none turn end.sends
    send_command old op turn node (CommandStep.held _ _ _ end) = send_none turn end.sends
    send_command old op turn node (CommandStep.there _ _ end) = send_none turn end.sends
    send_command old op turn node (CommandStep.spent _ _ _ end) = send_none turn end.sends
    send_command old op turn node (CommandStep.opens_round _ _ _ step) = send_open old op turn node step

    send_reserve : (old : State) (c r : ℕ) (turn : Turn) → IsNode d old → IsOther d old.bay c → r ≢ 0 →
        ReserveStep m old c r turn → Sends turn
    send_reserve old c r turn node other positive (ReserveStep.busy_itself q at end) =
        send_one turn old.bay c r (Busy (record { 0 = old.bay }) q) end.sends node.bay other positive
        (omega (arith, node.bay.0, station.items.parts_few), round_positive d old q node at)
    send_reserve old c r turn node other positive (ReserveStep.busy_locked l _ has _ end) =
        let fits = node.kept.lock l has in
        send_one turn old.bay c r (Busy l.holder l.round) end.sends node.bay other positive
        (omega (arith, fits.holder.0.0, station.items.parts_few), fits.positive)
    send_reserve old c r turn node other positive (ReserveStep.late _ _ _ _ _ end) = send_none turn end.sends
    send_reserve old c r turn node other positive (ReserveStep.answers _ _ it) =
        send_one turn old.bay c r (Answer it.summary) it.end.sends node.bay other positive tt

    send_answer : (old : State) (b r : ℕ) (summary : List ℕ) (turn : Turn) → IsNode d old →
        AnswerStep m d old b r summary turn → Sends turn
    send_answer old b r summary turn node (AnswerStep.heard_one _ _ _ _ _ end) = send_none turn end.sends
    send_answer old b r summary turn node (AnswerStep.heard_last g has _ _ _ step) =
        send_deciding _ _ turn node.bay (node.collecting g has).positive step
    send_answer old b r summary turn node (AnswerStep.unfit _ _ _ _ end) = send_none turn end.sends
    send_answer old b r summary turn node (AnswerStep.other_round _ _ _ end) = send_none turn end.sends
    send_answer old b r summary turn node (AnswerStep.none_collected _ end) = send_none turn end.sends

  send_busy : (old : State) (b r : ℕ) (holder : BayId) (q : ℕ) (turn : Turn) → IsNode d old → r ≢ 0 →
      BusyStep d old b r holder q turn → Sends turn
  send_busy old b r holder q turn node positive (BusyStep.gives_up _ _ _ end) =
      send_each turn old.bay r Over end.sends node.bay positive tt
  send_busy old b r holder q turn node positive (BusyStep.other_round _ _ _ end) = send_none turn end.sends
  send_busy old b r holder q turn node positive (BusyStep.none_collected _ end) = send_none turn end.sends

  send_query : (old : State) (b r : ℕ) (turn : Turn) → IsNode d old → IsOther d old.bay b → r ≢ 0 →
      QueryStep old b r turn → Sends turn
  send_query old b r turn node other positive (QueryStep.is_over _ _ end) =
      send_one turn old.bay b r Over end.sends node.bay other positive tt
  send_query old b r turn node other positive (QueryStep.unknown_round _ end) = send_none turn end.sends
  send_query old b r turn node other positive (QueryStep.round_under_way _ end) = send_none turn end.sends

  send_over : (old : State) (c r : ℕ) (turn : Turn) → OverStep old c r turn → Sends turn
  send_over old c r turn (OverStep.unlocks_it _ _ _ _ end) = send_none turn end.sends
  send_over old c r turn (OverStep.earlier_round _ _ _ _ end) = send_none turn end.sends
  send_over old c r turn (OverStep.another_holder _ _ _ end) = send_none turn end.sends
  send_over old c r turn (OverStep.no_lock _ end) = send_none turn end.sends

  send_frame : (m : Meaning) (old : State) (f : Frame) (turn : Turn) → IsNode d old → IsLawful f →
      FrameStep m d old f turn → Sends turn
  send_frame m old f turn node lawful (FrameStep.elsewhere _ end) = send_none turn end.sends
  send_frame m old f turn node lawful (FrameStep.stranger _ end) = send_none turn end.sends
  send_frame m old f turn node lawful (FrameStep.reserve meant _ step) =
      send_reserve m old f.from.0 f.round turn node meant.other lawful.round step
  send_frame m old f turn node lawful (FrameStep.answer summary _ _ step) =
      send_answer m old f.from.0 f.round summary turn node step
  send_frame m old f turn node lawful (FrameStep.busy holder q _ _ step) =
      send_busy old f.from.0 f.round holder q turn node lawful.round step
  send_frame m old f turn node lawful (FrameStep.query meant _ step) =
      send_query old f.from.0 f.round turn node meant.other lawful.round step
  send_frame m old f turn node lawful (FrameStep.over _ _ step) = send_over old f.from.0 f.round turn step

  send_tick : (m : Meaning) (old : State) (turn : Turn) → IsNode d old → TickStep m d old turn → Sends turn
  send_tick m old turn node (TickStep.decides g has step) =
      send_deciding m old g turn node.bay (node.collecting g has).positive step
  send_tick m old turn node (TickStep.asks l _ has end) =
      let fits = node.kept.lock l has in
      send_one turn old.bay l.holder.0 l.round Query end.sends node.bay fits.holder fits.positive tt
  send_tick m old turn node (TickStep.rests _ _ end) = send_none turn end.sends

  send_sense : (old : State) (i : ℕ) (word : Dbpos) (turn : Turn) → IsNode d old → SenseStep d old i word turn →
      Sends turn
  send_sense old i word turn node (SenseStep.finishes g is end) =
      send_each turn old.bay g.round Over end.sends node.bay (node.kept.granted g is.granted).positive tt
  send_sense old i word turn node (SenseStep.reads _ end) = send_none turn end.sends

  send_withdraw : (old : State) (turn : Turn) → IsNode d old → WithdrawStep d old turn → Sends turn
  send_withdraw old turn node (WithdrawStep.from_round g has end) =
      send_each turn old.bay g.round Over end.sends node.bay (node.collecting g has).positive tt
  send_withdraw old turn node (WithdrawStep.from_grant g _ has end) =
      send_each turn old.bay g.round Over end.sends node.bay (node.kept.granted g has).positive tt
  send_withdraw old turn node (WithdrawStep.no_round _ end) = send_none turn end.sends

  send_cut : (old : State) (i : ℕ) (turn : Turn) → IsNode d old → CutStep d old i turn → Sends turn
  send_cut old i turn node (CutStep.stops g has _ end) =
      send_each turn old.bay g.round Over end.sends node.bay (node.kept.granted g has).positive tt
  send_cut old i turn node (CutStep.other_switch _ _ _ end) = send_none turn end.sends
  send_cut old i turn node (CutStep.no_grant _ end) = send_none turn end.sends

  -- each step of a node sends lawful frames, and few
  pub step_sends : (m : Meaning) (old : State) (event : NodeEvent) (turn : Turn) → IsNode d old →
      EventFits d old.bay event → Step m d old event turn → Sends turn
  step_sends m old (Command op) turn node fits step = send_command m old op turn node step
  step_sends m old (Sense i word) turn node fits step = send_sense old i.0 word turn node step
  step_sends m old (Arrival f) turn node fits step = send_frame m old f turn node fits step
  step_sends m old Tick turn node fits step = send_tick m old turn node step
  step_sends m old Withdraw turn node fits step = send_withdraw old turn node step
  step_sends m old Restart turn node fits end = send_none turn end.sends
  step_sends m old (Cut i) turn node fits step = send_cut old i.0 turn node step
