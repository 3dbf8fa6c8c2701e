-- What the outcome of a step names is of the station.
use Rattle.std.proofs.Common.{◌≡◌, ◌<◌, ℕ, List, length, slice_get, Option, Some, None, sym, subst, arith}
use Rattle.std.proofs.lemmas.Option.{slice_get_within}
use Rattle.ilk_base.specs.declared.words.BayId.{BayId}
use Rattle.ilk_base.specs.declared.words.Dbpos.{Dbpos}
use Rattle.ilk_base.specs.declared.words.Op.{Op}
use Rattle.station_graph.specs.Diagram.{Diagram}
use Rattle.station_graph.specs.Alike.{IsVector}
use Rattle.central_rules.specs.Meaning.{Meaning}
use Rattle.bay_frames.specs.declared.frame.Frame.{Frame}
use Rattle.bay_protocol.specs.declared.values.Collection.{Collection}
use Rattle.bay_protocol.specs.declared.values.Outcome.{Outcome}
use Rattle.bay_protocol.specs.declared.values.NodeEvent.{NodeEvent}
use Rattle.bay_protocol.specs.declared.values.NodeEvent.TheVariants.{Command, Sense, Frame as Arrival, Tick, Withdraw}
use Rattle.bay_protocol.specs.declared.values.NodeEvent.TheVariants.{Restart, Cut}
use Rattle.bay_protocol.specs.State.{State}
use Rattle.bay_protocol.specs.Fits.{IsOwn, IsNode, EventFits}
use Rattle.bay_protocol.specs.Step.{Turn, StepEnds, Step, Deciding, OpenStep, CommandStep, ReserveStep, AnswerStep}
use Rattle.bay_protocol.specs.Step.{BusyStep, QueryStep, OverStep, FrameStep, TickStep, SenseStep, WithdrawStep}
use Rattle.bay_protocol.specs.Step.{CutStep}
use Rattle.bay_protocol.specs.OutcomeLines.{OutcomeFits}

-- a switch of a bay is one of the station
own_within : (d : Diagram) (b i : ℕ) → IsOwn d b i → i < length d.switches
own_within d b i own = slice_get_within d.switches i own.0 own.1

module _ (d : Diagram) where
  by_end : (turn : Turn) (s : State) (o : Outcome) (fs : List Frame) → StepEnds turn s o fs → OutcomeFits d o →
      OutcomeFits d turn.outcome
  by_end turn s o fs end fits = subst (OutcomeFits d) (sym end.says) fits

  module _ (m : Meaning) (same : m.diagram ≡ d) where
    shown_deciding : (s : State) (g : Collection) (turn : Turn) → IsOwn d s.bay g.op.switch.0 → Deciding m d s g turn →
        OutcomeFits d turn.outcome
    shown_deciding s g turn own (Deciding.release _ end) = by_end turn _ _ _ end (own_within d s.bay g.op.switch.0 own)
    shown_deciding s g turn own (Deciding.denial _ v is end) =
        by_end turn _ _ _ end (own_within d s.bay g.op.switch.0 own, subst (λ x. IsVector x v) same is.0.whole)

    shown_command : (old : State) (op : Op) (turn : Turn) → IsOwn d old.bay op.switch.0 → CommandStep m d old op turn →
        OutcomeFits d turn.outcome
    shown_command old op turn own (CommandStep.round_under_way _ _ end) = by_end turn _ _ _ end tt
    shown_command old op turn own (CommandStep.held _ _ _ end) = by_end turn _ _ _ end tt
    shown_command old op turn own (CommandStep.there _ _ end) = by_end turn _ _ _ end tt
    shown_command old op turn own (CommandStep.spent _ _ _ end) = by_end turn _ _ _ end tt
    shown_command old op turn own (CommandStep.opens_round _ _ _ (OpenStep.alone _ step)) =
        shown_deciding _ _ turn own step
    shown_command old op turn own (CommandStep.opens_round _ _ _ (OpenStep.reserves _ end)) = by_end turn _ _ _ end tt

    shown_answer : (old : State) (b r : ℕ) (summary : List ℕ) (turn : Turn) → IsNode d old →
        AnswerStep m d old b r summary turn → OutcomeFits d turn.outcome
    shown_answer old b r summary turn node (AnswerStep.heard_one _ _ _ _ _ end) = by_end turn _ _ _ end tt
    shown_answer old b r summary turn node (AnswerStep.heard_last g has _ _ _ step) =
        shown_deciding _ _ turn (node.collecting g has).own step
    shown_answer old b r summary turn node (AnswerStep.unfit _ _ _ _ end) = by_end turn _ _ _ end tt
    shown_answer old b r summary turn node (AnswerStep.other_round _ _ _ end) = by_end turn _ _ _ end tt
    shown_answer old b r summary turn node (AnswerStep.none_collected _ end) = by_end turn _ _ _ end tt

    shown_tick : (old : State) (turn : Turn) → IsNode d old → TickStep m d old turn → OutcomeFits d turn.outcome
    shown_tick old turn node (TickStep.decides g has step) = shown_deciding old g turn (node.collecting g has).own step
    shown_tick old turn node (TickStep.asks _ _ _ end) = by_end turn _ _ _ end tt
    shown_tick old turn node (TickStep.rests _ _ end) = by_end turn _ _ _ end tt

  shown_reserve : (m : Meaning) (old : State) (c r : ℕ) (turn : Turn) → ReserveStep m old c r turn →
      OutcomeFits d turn.outcome
  shown_reserve m old c r turn (ReserveStep.busy_itself _ _ end) = by_end turn _ _ _ end tt
  shown_reserve m old c r turn (ReserveStep.busy_locked _ _ _ _ end) = by_end turn _ _ _ end tt
  shown_reserve m old c r turn (ReserveStep.late _ _ _ _ _ end) = by_end turn _ _ _ end tt
  shown_reserve m old c r turn (ReserveStep.answers _ _ it) = by_end turn _ _ _ it.end tt

  shown_busy : (old : State) (b r : ℕ) (holder : BayId) (q : ℕ) (turn : Turn) → BusyStep d old b r holder q turn →
      OutcomeFits d turn.outcome
  shown_busy old b r holder q turn (BusyStep.gives_up _ _ _ end) = by_end turn _ _ _ end tt
  shown_busy old b r holder q turn (BusyStep.other_round _ _ _ end) = by_end turn _ _ _ end tt
  shown_busy old b r holder q turn (BusyStep.none_collected _ end) = by_end turn _ _ _ end tt

  shown_query : (old : State) (b r : ℕ) (turn : Turn) → QueryStep old b r turn → OutcomeFits d turn.outcome
  shown_query old b r turn (QueryStep.is_over _ _ end) = by_end turn _ _ _ end tt
  shown_query old b r turn (QueryStep.unknown_round _ end) = by_end turn _ _ _ end tt
  shown_query old b r turn (QueryStep.round_under_way _ end) = by_end turn _ _ _ end tt

  shown_over : (old : State) (c r : ℕ) (turn : Turn) → OverStep old c r turn → OutcomeFits d turn.outcome
  shown_over old c r turn (OverStep.unlocks_it _ _ _ _ end) = by_end turn _ _ _ end tt
  shown_over old c r turn (OverStep.earlier_round _ _ _ _ end) = by_end turn _ _ _ end tt
  shown_over old c r turn (OverStep.another_holder _ _ _ end) = by_end turn _ _ _ end tt
  shown_over old c r turn (OverStep.no_lock _ end) = by_end turn _ _ _ end tt

  shown_frame : (m : Meaning) → m.diagram ≡ d → (old : State) (f : Frame) (turn : Turn) → IsNode d old →
      FrameStep m d old f turn → OutcomeFits d turn.outcome
  shown_frame m same old f turn node (FrameStep.elsewhere _ end) = by_end turn _ _ _ end tt
  shown_frame m same old f turn node (FrameStep.stranger _ end) = by_end turn _ _ _ end tt
  shown_frame m same old f turn node (FrameStep.reserve _ _ step) = shown_reserve m old f.from.0 f.round turn step
  shown_frame m same old f turn node (FrameStep.answer summary _ _ step) =
      shown_answer m same old f.from.0 f.round summary turn node step
  shown_frame m same old f turn node (FrameStep.busy holder q _ _ step) =
      shown_busy old f.from.0 f.round holder q turn step
  shown_frame m same old f turn node (FrameStep.query _ _ step) = shown_query old f.from.0 f.round turn step
  shown_frame m same old f turn node (FrameStep.over _ _ step) = shown_over old f.from.0 f.round turn step

  shown_sense : (old : State) (i : ℕ) (word : Dbpos) (turn : Turn) → SenseStep d old i word turn →
      OutcomeFits d turn.outcome
  shown_sense old i word turn (SenseStep.finishes _ _ end) = by_end turn _ _ _ end tt
  shown_sense old i word turn (SenseStep.reads _ end) = by_end turn _ _ _ end tt

  shown_withdraw : (old : State) (turn : Turn) → WithdrawStep d old turn → OutcomeFits d turn.outcome
  shown_withdraw old turn (WithdrawStep.from_round _ _ end) = by_end turn _ _ _ end tt
  shown_withdraw old turn (WithdrawStep.from_grant _ _ _ end) = by_end turn _ _ _ end tt
  shown_withdraw old turn (WithdrawStep.no_round _ end) = by_end turn _ _ _ end tt

  shown_cut : (old : State) (i : ℕ) (turn : Turn) → CutStep d old i turn → OutcomeFits d turn.outcome
  shown_cut old i turn (CutStep.stops _ _ _ end) = by_end turn _ _ _ end tt
  shown_cut old i turn (CutStep.other_switch _ _ _ end) = by_end turn _ _ _ end tt
  shown_cut old i turn (CutStep.no_grant _ end) = by_end turn _ _ _ end tt

  pub step_shown : (m : Meaning) → m.diagram ≡ d → (old : State) (event : NodeEvent) (turn : Turn) → IsNode d old →
      EventFits d old.bay event → Step m d old event turn → OutcomeFits d turn.outcome
  step_shown m same old (Command op) turn node fits step = shown_command m same old op turn fits step
  step_shown m same old (Sense i word) turn node fits step = shown_sense old i.0 word turn step
  step_shown m same old (Arrival f) turn node fits step = shown_frame m same old f turn node step
  step_shown m same old Tick turn node fits step = shown_tick m same old turn node step
  step_shown m same old Withdraw turn node fits step = shown_withdraw old turn step
  step_shown m same old Restart turn node fits end = by_end turn _ _ _ end tt
  step_shown m same old (Cut i) turn node fits step = shown_cut old i.0 turn step
