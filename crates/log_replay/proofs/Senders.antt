-- Each message is sent by the bay that its line shows.
use Rattle.std.proofs.Common.{◌≡◌, ◌+◌, ◌<◌, ℕ, zero, suc, Bool, List, [], ◌∷◌, length, get_or, Contains, refl, sym}
use Rattle.std.proofs.Common.{subst, ap, ◌∙◌, arith}
use Rattle.ilk_base.specs.declared.words.Dbpos.{Dbpos}
use Rattle.ilk_base.specs.declared.words.Op.{Op}
use Rattle.station_graph.specs.Diagram.{IsStation}
use Rattle.central_rules.specs.Meaning.{Meaning, Laws}
use Rattle.bay_frames.specs.declared.frame.Frame.{Frame}
use Rattle.bay_frames.specs.declared.frame.Body.{Body}
use Rattle.bay_frames.specs.declared.frame.Body.TheVariants.{Reserve, Answer, Busy, Query, Over}
use Rattle.bay_protocol.specs.declared.values.Collection.{Collection}
use Rattle.bay_protocol.specs.declared.values.Outcome.{Outcome}
use Rattle.bay_protocol.specs.declared.values.NodeEvent.{NodeEvent}
use Rattle.bay_protocol.specs.declared.values.NodeEvent.TheVariants.{Command as Commanded, Sense as Sensing}
use Rattle.bay_protocol.specs.declared.values.NodeEvent.TheVariants.{Frame as Arrival, Tick as Ticking}
use Rattle.bay_protocol.specs.declared.values.NodeEvent.TheVariants.{Withdraw as Withdrawing, Restart as Restarting}
use Rattle.bay_protocol.specs.declared.values.NodeEvent.TheVariants.{Cut as Cutting}
use Rattle.bay_protocol.specs.Sends.{frame, to_each}
use Rattle.bay_protocol.specs.State.{State, others}
use Rattle.bay_protocol.specs.Step.{Turn, StepEnds, Step, Deciding, OpenStep, CommandStep, ReserveStep, AnswerStep}
use Rattle.bay_protocol.specs.Step.{BusyStep, QueryStep, OverStep, FrameStep, TickStep, SenseStep, WithdrawStep}
use Rattle.bay_protocol.specs.Step.{CutStep}
use Rattle.reservation_core.specs.Scene.{Scene, node}
use Rattle.reservation_core.specs.Lines.{Message, Line, Shown, messages}
use Rattle.reservation_core.specs.Runs.{Leads, Run}
use Rattle.reservation_core.specs.Headline.{OwnMessages}
use Rattle.log_replay.proofs.Basic.{no_frame, one_frame}
use Rattle.log_replay.proofs.Leading.{run_is}
use Rattle.log_replay.proofs.Who.{Who, who}

-- all these frames are from bay b
abbrev From : ℕ → List Frame → Type 0
From b fs = (f : Frame) → Contains fs f → f.from.0 ≡ b

none_from : (b : ℕ) → From b []
none_from b f there = absurd (no_frame f there)

one_from : (b to r : ℕ) (body : Body) → From b (frame b to r body ∷ [])
one_from b to r body f there = ap (λ (x : Frame). x.from.0) (sym (one_frame (frame b to r body) f there))

each_at : (b r : ℕ) (body : Body) (tos : List ℕ) (k : ℕ) (f : Frame) → k < length (to_each b r body tos) →
    get_or (to_each b r body tos) k f ≡ f → f.from.0 ≡ b
each_at b r body [] k f lt is = absurd (omega (arith, lt))
each_at b r body (t ∷ tos) zero f lt is = ap (λ (x : Frame). x.from.0) (sym is)
each_at b r body (t ∷ tos) (suc k) f lt is = each_at b r body tos k f (omega (arith, lt)) is

each_from : (b r : ℕ) (body : Body) (tos : List ℕ) → From b (to_each b r body tos)
each_from b r body tos f there = each_at b r body tos there.0 f there.1 there.2

ends_from : (b : ℕ) (turn : Turn) (new : State) (o : Outcome) (fs : List Frame) → StepEnds turn new o fs → From b fs →
    From b turn.frames
ends_from b turn new o fs end own = subst (From b) (sym end.sends) own

deciding_from : (m : Meaning) (s : State) (g : Collection) (turn : Turn) → Deciding m m.diagram s g turn →
    From s.bay turn.frames
deciding_from m s g turn (Deciding.release verdict end) = ends_from s.bay turn _ _ _ end (none_from s.bay)
deciding_from m s g turn (Deciding.denial rule v verdict end) =
    ends_from s.bay turn _ _ _ end (each_from s.bay g.round Over (others m.diagram s.bay))

command_from : (m : Meaning) (s : State) (op : Op) (turn : Turn) → CommandStep m m.diagram s op turn →
    From s.bay turn.frames
command_from m s op turn (CommandStep.round_under_way q is end) = ends_from s.bay turn _ _ _ end (none_from s.bay)
command_from m s op turn (CommandStep.held l is lock end) = ends_from s.bay turn _ _ _ end (none_from s.bay)
command_from m s op turn (CommandStep.there free at end) = ends_from s.bay turn _ _ _ end (none_from s.bay)
command_from m s op turn (CommandStep.spent free at top end) = ends_from s.bay turn _ _ _ end (none_from s.bay)
command_from m s op turn (CommandStep.opens_round free at below (OpenStep.alone none deciding)) =
    deciding_from m _ _ turn deciding
command_from m s op turn (CommandStep.opens_round free at below (OpenStep.reserves some end)) =
    ends_from s.bay turn _ _ _ end (each_from s.bay (s.highest + 1) Reserve (others m.diagram s.bay))

answer_from : (m : Meaning) (s : State) (b r : ℕ) (summary : List ℕ) (turn : Turn) →
    AnswerStep m m.diagram s b r summary turn → From s.bay turn.frames
answer_from m s b r summary turn (AnswerStep.heard_one h has round fits all end) =
    ends_from s.bay turn _ _ _ end (none_from s.bay)
answer_from m s b r summary turn (AnswerStep.heard_last h has round fits all deciding) =
    deciding_from m _ _ turn deciding
answer_from m s b r summary turn (AnswerStep.unfit h has round fits end) =
    ends_from s.bay turn _ _ _ end (none_from s.bay)
answer_from m s b r summary turn (AnswerStep.other_round h has round end) =
    ends_from s.bay turn _ _ _ end (none_from s.bay)
answer_from m s b r summary turn (AnswerStep.none_collected none end) = ends_from s.bay turn _ _ _ end (none_from s.bay)

frame_from : (m : Meaning) (s : State) (f : Frame) (turn : Turn) → FrameStep m m.diagram s f turn →
    From s.bay turn.frames
frame_from m s f turn (FrameStep.elsewhere differ end) = ends_from s.bay turn _ _ _ end (none_from s.bay)
frame_from m s f turn (FrameStep.stranger differ end) = ends_from s.bay turn _ _ _ end (none_from s.bay)
frame_from m s f turn (FrameStep.reserve meant body (ReserveStep.busy_itself q is end)) =
    ends_from s.bay turn _ _ _ end (one_from s.bay f.from.0 f.round (Busy (record { 0 = s.bay }) q))
frame_from m s f turn (FrameStep.reserve meant body (ReserveStep.busy_locked l is lock differ end)) =
    ends_from s.bay turn _ _ _ end (one_from s.bay f.from.0 f.round (Busy l.holder l.round))
frame_from m s f turn (FrameStep.reserve meant body (ReserveStep.late l is lock same above end)) =
    ends_from s.bay turn _ _ _ end (none_from s.bay)
frame_from m s f turn (FrameStep.reserve meant body (ReserveStep.answers idle may a)) = ends_from s.bay turn _ _ _ a.end
    (one_from s.bay f.from.0 f.round (Answer a.summary))
frame_from m s f turn (FrameStep.answer summary meant body step) = answer_from m s f.from.0 f.round summary turn step
frame_from m s f turn (FrameStep.busy holder q meant body (BusyStep.gives_up h got round end)) =
    ends_from s.bay turn _ _ _ end (each_from s.bay f.round Over (others m.diagram s.bay))
frame_from m s f turn (FrameStep.busy holder q meant body (BusyStep.other_round h got round end)) =
    ends_from s.bay turn _ _ _ end (none_from s.bay)
frame_from m s f turn (FrameStep.busy holder q meant body (BusyStep.none_collected none end)) =
    ends_from s.bay turn _ _ _ end (none_from s.bay)
frame_from m s f turn (FrameStep.query meant body (QueryStep.is_over low idle end)) =
    ends_from s.bay turn _ _ _ end (one_from s.bay f.from.0 f.round Over)
frame_from m s f turn (FrameStep.query meant body (QueryStep.unknown_round above end)) =
    ends_from s.bay turn _ _ _ end (none_from s.bay)
frame_from m s f turn (FrameStep.query meant body (QueryStep.round_under_way is end)) =
    ends_from s.bay turn _ _ _ end (none_from s.bay)
frame_from m s f turn (FrameStep.over meant body (OverStep.unlocks_it l lock holder low end)) =
    ends_from s.bay turn _ _ _ end (none_from s.bay)
frame_from m s f turn (FrameStep.over meant body (OverStep.earlier_round l lock holder low end)) =
    ends_from s.bay turn _ _ _ end (none_from s.bay)
frame_from m s f turn (FrameStep.over meant body (OverStep.another_holder l lock holder end)) =
    ends_from s.bay turn _ _ _ end (none_from s.bay)
frame_from m s f turn (FrameStep.over meant body (OverStep.no_lock lock end)) =
    ends_from s.bay turn _ _ _ end (none_from s.bay)

tick_from : (m : Meaning) (s : State) (turn : Turn) → TickStep m m.diagram s turn → From s.bay turn.frames
tick_from m s turn (TickStep.decides h has deciding) = deciding_from m _ _ turn deciding
tick_from m s turn (TickStep.asks l none lock end) =
    ends_from s.bay turn _ _ _ end (one_from s.bay l.holder.0 l.round Query)
tick_from m s turn (TickStep.rests none lock end) = ends_from s.bay turn _ _ _ end (none_from s.bay)

sense_from : (m : Meaning) (s : State) (i : ℕ) (word : Dbpos) (turn : Turn) → SenseStep m.diagram s i word turn →
    From s.bay turn.frames
sense_from m s i word turn (SenseStep.finishes h at end) =
    ends_from s.bay turn _ _ _ end (each_from s.bay h.round Over (others m.diagram s.bay))
sense_from m s i word turn (SenseStep.reads never end) = ends_from s.bay turn _ _ _ end (none_from s.bay)

withdraw_from : (m : Meaning) (s : State) (turn : Turn) → WithdrawStep m.diagram s turn → From s.bay turn.frames
withdraw_from m s turn (WithdrawStep.from_round h got end) =
    ends_from s.bay turn _ _ _ end (each_from s.bay h.round Over (others m.diagram s.bay))
withdraw_from m s turn (WithdrawStep.from_grant h none got end) =
    ends_from s.bay turn _ _ _ end (each_from s.bay h.round Over (others m.diagram s.bay))
withdraw_from m s turn (WithdrawStep.no_round idle end) = ends_from s.bay turn _ _ _ end (none_from s.bay)

cut_from : (m : Meaning) (s : State) (i : ℕ) (turn : Turn) → CutStep m.diagram s i turn → From s.bay turn.frames
cut_from m s i turn (CutStep.stops h has at end) =
    ends_from s.bay turn _ _ _ end (each_from s.bay h.round Over (others m.diagram s.bay))
cut_from m s i turn (CutStep.other_switch h has other end) = ends_from s.bay turn _ _ _ end (none_from s.bay)
cut_from m s i turn (CutStep.no_grant none end) = ends_from s.bay turn _ _ _ end (none_from s.bay)

step_from : (m : Meaning) (s : State) (e : NodeEvent) (turn : Turn) → Step m m.diagram s e turn →
    From s.bay turn.frames
step_from m s (Commanded op) turn step = command_from m s op turn step
step_from m s (Sensing i word) turn step = sense_from m s i.0 word turn step
step_from m s (Arrival f) turn step = frame_from m s f turn step
step_from m s Ticking turn step = tick_from m s turn step
step_from m s Withdrawing turn step = withdraw_from m s turn step
step_from m s Restarting turn end = ends_from s.bay turn _ _ _ end (none_from s.bay)
step_from m s (Cutting i) turn step = cut_from m s i.0 turn step

messages_at : (b first : ℕ) (fs : List Frame) → From b fs → (k : ℕ) (x : Message) → k < length (messages first fs) →
    get_or (messages first fs) k x ≡ x → x.from ≡ b
messages_at b first [] own k x lt is = absurd (omega (arith, lt))
messages_at b first (f ∷ fs) own zero x lt is = ap (λ (y : Message). y.from) (sym is) ∙ own f (zero, omega arith, refl)
messages_at b first (f ∷ fs) own (suc k) x lt is =
    messages_at b (first + 1) fs (λ h there. own h (suc there.0, omega (arith, there.1), there.2)) k x
    (omega (arith, lt)) is

messages_from : (b first : ℕ) (fs : List Frame) → From b fs → (x : Message) →
    Contains (messages first fs) x → x.from ≡ b
messages_from b first fs own x there = messages_at b first fs own there.0 x there.1 there.2

shown_from : (m : Meaning) (old : Scene) (s : Shown) → ((b : ℕ) → (node m.diagram old b).bay ≡ b) → Who m old s →
    (x : Message) → Contains s.messages x → x.from ≡ s.bay
shown_from m old s named (Who.nobody nothing) x there =
    absurd (omega (arith, (subst (λ (xs : List Message). Contains xs x) nothing.messages there).1))
shown_from m old s named (Who.steps b e turn step shows) x there =
    messages_from b (length old.sent + 1) turn.frames (λ f is. step_from m (node m.diagram old b) e turn step f is
    ∙ named b) x (subst (λ (xs : List Message). Contains xs x) shows.messages there) ∙ sym (shows.bay x there)

pub own_at : (m : Meaning) (old w : Scene) (l : Line) → ((b : ℕ) → (node m.diagram old b).bay ≡ b) → Leads m old l w →
    OwnMessages l
own_at m old w l named leads =
    shown_from m old l.shown named (who m old w leads.outcome l.shown leads.shows l.event leads.happens)

pub own_messages : (m : Meaning) (start : List Bool) (before : List Line) (l : Line) (w : Scene) → IsStation m.diagram →
    Laws m → Run m start (l ∷ before) w → OwnMessages l
own_messages m start before l w station laws (old, run, leads) =
    own_at m old w l (run_is m start before old station laws run).facts.rounds.shape.named leads
