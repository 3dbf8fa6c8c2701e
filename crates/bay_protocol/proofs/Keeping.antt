-- A step of a node keeps what holds of it.
use Rattle.std.proofs.Common.{◌≡◌, ◌≢◌, ℕ, List, length, Some, refl, sym, subst}
use Rattle.std.proofs.lemmas.List.{length-replicate}
use Rattle.ilk_base.specs.declared.words.Dbpos.{Dbpos}
use Rattle.ilk_base.specs.declared.words.Dbpos.TheVariants.{Lost}
use Rattle.ilk_base.specs.declared.words.Op.{Op}
use Rattle.ilk_base.specs.declared.words.BayId.{BayId}
use Rattle.station_graph.specs.Diagram.{Diagram}
use Rattle.central_rules.specs.Meaning.{Meaning, IsBay}
use Rattle.bay_frames.specs.declared.frame.Frame.{Frame}
use Rattle.bay_frames.specs.Row.{IsLawful}
use Rattle.bay_protocol.specs.declared.values.Kept.{Kept}
use Rattle.bay_protocol.specs.declared.values.Collection.{Collection}
use Rattle.bay_protocol.specs.declared.values.Outcome.{Outcome}
use Rattle.bay_protocol.specs.declared.values.NodeEvent.{NodeEvent}
use Rattle.bay_protocol.specs.declared.values.NodeEvent.TheVariants.{Command, Sense, Frame as Arrival, Tick, Withdraw}
use Rattle.bay_protocol.specs.declared.values.NodeEvent.TheVariants.{Restart, Cut}
use Rattle.bay_protocol.specs.State.{State, IsOther, resumed, senses}
use Rattle.bay_protocol.specs.Fits.{IsOwn, KeptFits, IsNode, EventFits}
use Rattle.bay_protocol.specs.Step.{Turn, StepEnds, Step, IsFree, Deciding, OpenStep, CommandStep, ReserveStep}
use Rattle.bay_protocol.specs.Step.{AnswerStep, BusyStep, QueryStep, OverStep, FrameStep, TickStep, SenseStep}
use Rattle.bay_protocol.specs.Step.{WithdrawStep, CutStep}
use Rattle.bay_protocol.proofs.GoodStates.{Good, good_locks, good_unlocks, good_opens, good_hears, good_drops}
use Rattle.bay_protocol.proofs.GoodStates.{good_grants, good_senses, good_ends, good_restarts}

-- what a record leaves is a node
pub node_resumed : (d : Diagram) (b : ℕ) (k : Kept) → IsBay d b → KeptFits d b k → IsNode d (resumed d b k)
node_resumed d b k bay fits = record {
  bay = bay;
  words = length-replicate (length d.switches) Lost;
  kept = fits;
  collecting = λ g is. absurd (cc is);
}

module _ (m : Meaning) (d : Diagram) (bay : ℕ) where
  -- the new state is a good one
  by_end : (turn : Turn) (s : State) (o : Outcome) (fs : List Frame) → StepEnds turn s o fs → Good m d bay s →
      Good m d bay turn.new
  by_end turn s o fs end good = subst (Good m d bay) (sym end.state) good

  good_deciding : (s : State) (g : Collection) (turn : Turn) → Good m d bay s → s.collecting ≡ Some g →
      Deciding m d s g turn → Good m d bay turn.new
  good_deciding s g turn good has (Deciding.release _ end) = by_end turn _ _ _ end (good_grants s g good has)
  good_deciding s g turn good has (Deciding.denial _ _ _ end) = by_end turn _ _ _ end (good_drops s good)

  good_open : (old : State) (op : Op) (turn : Turn) → Good m d bay old → IsFree old → IsOwn d old.bay op.switch.0 →
      OpenStep m d old op turn → Good m d bay turn.new
  good_open old op turn good free own (OpenStep.alone _ step) =
      good_deciding _ _ turn (good_opens old op good free own) refl step
  good_open old op turn good free own (OpenStep.reserves _ end) =
      by_end turn _ _ _ end (good_opens old op good free own)

  good_command : (old : State) (op : Op) (turn : Turn) → Good m d bay old → IsOwn d old.bay op.switch.0 →
      CommandStep m d old op turn → Good m d bay turn.new
  good_command old op turn good own (CommandStep.round_under_way _ _ end) = by_end turn _ _ _ end good
  good_command old op turn good own (CommandStep.held _ _ _ end) = by_end turn _ _ _ end good
  good_command old op turn good own (CommandStep.there _ _ end) = by_end turn _ _ _ end good
  good_command old op turn good own (CommandStep.spent _ _ _ end) = by_end turn _ _ _ end good
  good_command old op turn good own (CommandStep.opens_round free _ _ step) = good_open old op turn good free own step

  good_reserve : (old : State) (c r : ℕ) (turn : Turn) → Good m d bay old → IsOther d old.bay c → r ≢ 0 →
      ReserveStep m old c r turn → Good m d bay turn.new
  good_reserve old c r turn good other positive (ReserveStep.busy_itself _ _ end) = by_end turn _ _ _ end good
  good_reserve old c r turn good other positive (ReserveStep.busy_locked _ _ _ _ end) = by_end turn _ _ _ end good
  good_reserve old c r turn good other positive (ReserveStep.late _ _ _ _ _ end) = by_end turn _ _ _ end good
  good_reserve old c r turn good other positive (ReserveStep.answers idle _ it) =
      by_end turn _ _ _ it.end (good_locks old c r good idle other positive)

  good_answer : (old : State) (b r : ℕ) (summary : List ℕ) (turn : Turn) → Good m d bay old →
      AnswerStep m d old b r summary turn → Good m d bay turn.new
  good_answer old b r summary turn good (AnswerStep.heard_one g has _ fit _ end) =
      by_end turn _ _ _ end (good_hears old g b summary good has fit)
  good_answer old b r summary turn good (AnswerStep.heard_last g has _ fit _ end) =
      good_deciding _ _ turn (good_hears old g b summary good has fit) refl end
  good_answer old b r summary turn good (AnswerStep.unfit _ _ _ _ end) = by_end turn _ _ _ end good
  good_answer old b r summary turn good (AnswerStep.other_round _ _ _ end) = by_end turn _ _ _ end good
  good_answer old b r summary turn good (AnswerStep.none_collected _ end) = by_end turn _ _ _ end good

  good_busy : (old : State) (b r : ℕ) (holder : BayId) (q : ℕ) (turn : Turn) → Good m d bay old →
      BusyStep d old b r holder q turn → Good m d bay turn.new
  good_busy old b r holder q turn good (BusyStep.gives_up _ _ _ end) = by_end turn _ _ _ end (good_drops old good)
  good_busy old b r holder q turn good (BusyStep.other_round _ _ _ end) = by_end turn _ _ _ end good
  good_busy old b r holder q turn good (BusyStep.none_collected _ end) = by_end turn _ _ _ end good

  good_query : (old : State) (b r : ℕ) (turn : Turn) → Good m d bay old → QueryStep old b r turn → Good m d bay turn.new
  good_query old b r turn good (QueryStep.is_over _ _ end) = by_end turn _ _ _ end good
  good_query old b r turn good (QueryStep.unknown_round _ end) = by_end turn _ _ _ end good
  good_query old b r turn good (QueryStep.round_under_way _ end) = by_end turn _ _ _ end good

  good_over : (old : State) (c r : ℕ) (turn : Turn) → Good m d bay old → OverStep old c r turn → Good m d bay turn.new
  good_over old c r turn good (OverStep.unlocks_it _ _ _ _ end) = by_end turn _ _ _ end (good_unlocks old good)
  good_over old c r turn good (OverStep.earlier_round _ _ _ _ end) = by_end turn _ _ _ end good
  good_over old c r turn good (OverStep.another_holder _ _ _ end) = by_end turn _ _ _ end good
  good_over old c r turn good (OverStep.no_lock _ end) = by_end turn _ _ _ end good

  good_frame : (old : State) (f : Frame) (turn : Turn) → Good m d bay old → IsLawful f → FrameStep m d old f turn →
      Good m d bay turn.new
  good_frame old f turn good lawful (FrameStep.elsewhere _ end) = by_end turn _ _ _ end good
  good_frame old f turn good lawful (FrameStep.stranger _ end) = by_end turn _ _ _ end good
  good_frame old f turn good lawful (FrameStep.reserve meant _ step) =
      good_reserve old f.from.0 f.round turn good meant.other lawful.round step
  good_frame old f turn good lawful (FrameStep.answer summary _ _ step) =
      good_answer old f.from.0 f.round summary turn good step
  good_frame old f turn good lawful (FrameStep.busy holder q _ _ step) =
      good_busy old f.from.0 f.round holder q turn good step
  good_frame old f turn good lawful (FrameStep.query _ _ step) = good_query old f.from.0 f.round turn good step
  good_frame old f turn good lawful (FrameStep.over _ _ step) = good_over old f.from.0 f.round turn good step

  good_tick : (old : State) (turn : Turn) → Good m d bay old → TickStep m d old turn → Good m d bay turn.new
  good_tick old turn good (TickStep.decides g has step) = good_deciding old g turn good has step
  good_tick old turn good (TickStep.asks _ _ _ end) = by_end turn _ _ _ end good
  good_tick old turn good (TickStep.rests _ _ end) = by_end turn _ _ _ end good

  good_sense : (old : State) (i : ℕ) (word : Dbpos) (turn : Turn) → Good m d bay old → SenseStep d old i word turn →
      Good m d bay turn.new
  good_sense old i word turn good (SenseStep.finishes g is end) =
      by_end turn _ _ _ end (good_ends (senses old i word) g (good_senses old i word good) is.granted)
  good_sense old i word turn good (SenseStep.reads _ end) = by_end turn _ _ _ end (good_senses old i word good)

  good_withdraw : (old : State) (turn : Turn) → Good m d bay old → WithdrawStep d old turn → Good m d bay turn.new
  good_withdraw old turn good (WithdrawStep.from_round _ _ end) = by_end turn _ _ _ end (good_drops old good)
  good_withdraw old turn good (WithdrawStep.from_grant g _ has end) =
      by_end turn _ _ _ end (good_ends (senses old g.op.switch.0 Lost) g (good_senses old g.op.switch.0 Lost good) has)
  good_withdraw old turn good (WithdrawStep.no_round _ end) = by_end turn _ _ _ end good

  good_cut : (old : State) (i : ℕ) (turn : Turn) → Good m d bay old → CutStep d old i turn → Good m d bay turn.new
  good_cut old i turn good (CutStep.stops g has _ end) =
      by_end turn _ _ _ end (good_ends (senses old i Lost) g (good_senses old i Lost good) has)
  good_cut old i turn good (CutStep.other_switch _ _ _ end) = by_end turn _ _ _ end good
  good_cut old i turn good (CutStep.no_grant _ end) = by_end turn _ _ _ end good

  -- each step keeps what holds of a node
  pub step_good : (old : State) (event : NodeEvent) (turn : Turn) → Good m d bay old → EventFits d old.bay event →
      Step m d old event turn → Good m d bay turn.new
  step_good old (Command op) turn good fits step = good_command old op turn good fits step
  step_good old (Sense i word) turn good fits step = good_sense old i.0 word turn good step
  step_good old (Arrival f) turn good fits step = good_frame old f turn good fits step
  step_good old Tick turn good fits step = good_tick old turn good step
  step_good old Withdraw turn good fits step = good_withdraw old turn good step
  step_good old Restart turn good fits end = by_end turn _ _ _ end (good_restarts old good)
  step_good old (Cut i) turn good fits step = good_cut old i.0 turn good step
