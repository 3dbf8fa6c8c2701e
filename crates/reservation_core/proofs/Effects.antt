-- What the step at each event does, by the change of state that it makes.
use Rattle.std.proofs.Common.{◌≡◌, ◌+◌, ℕ, List, [], length, Some, None, refl, sym, subst, ap, ◌∙◌, inl, inr, arith}
use Rattle.ilk_base.specs.declared.words.BayId.{BayId}
use Rattle.ilk_base.specs.declared.words.Dbpos.{Dbpos}
use Rattle.ilk_base.specs.declared.words.Dbpos.TheVariants.{Lost}
use Rattle.ilk_base.specs.declared.words.Op.{Op}
use Rattle.central_rules.specs.Meaning.{Meaning, Summarises}
use Rattle.bay_frames.specs.declared.frame.Frame.{Frame}
use Rattle.bay_frames.specs.declared.frame.Body.{Body}
use Rattle.bay_frames.specs.declared.frame.Body.TheVariants.{Reserve, Answer, Busy, Query, Over}
use Rattle.bay_protocol.specs.declared.values.Collection.{Collection}
use Rattle.bay_protocol.specs.declared.values.Outcome.{Outcome}
use Rattle.bay_protocol.specs.declared.values.NodeEvent.{NodeEvent}
use Rattle.bay_protocol.specs.declared.values.NodeEvent.TheVariants.{Command as Commanded, Sense as Sensing}
use Rattle.bay_protocol.specs.declared.values.NodeEvent.TheVariants.{Frame as Arrival, Tick as Ticking}
use Rattle.bay_protocol.specs.declared.values.NodeEvent.TheVariants.{Withdraw as Withdrawing, Restart as Restarting}
use Rattle.bay_protocol.specs.declared.values.NodeEvent.TheVariants.{Cut as Cutting}
use Rattle.bay_protocol.specs.Sends.{frame}
use Rattle.bay_protocol.specs.State.{State, others, under_way_of, fresh, opens, collects, grants}
use Rattle.bay_protocol.specs.State.{locks, unlocks, hears, senses, restarts}
use Rattle.bay_protocol.specs.Fits.{IsNode}
use Rattle.bay_protocol.specs.Step.{Turn, Step, StepEnds, IsMeant, OpenStep, CommandStep, ReserveStep, AnswerStep}
use Rattle.bay_protocol.specs.Step.{BusyStep, QueryStep, OverStep, FrameStep, TickStep, SenseStep, WithdrawStep}
use Rattle.bay_protocol.specs.Step.{CutStep}
use Rattle.bay_protocol.specs.Counts.{Counts}
use Rattle.reservation_core.proofs.Nodes.{get_set}
use Rattle.reservation_core.proofs.Rounds.{get_lost, dropped_round}
use Rattle.bay_protocol.proofs.UnderWay.{idle_collecting, idle_grant}
use Rattle.reservation_core.proofs.Steps.{contains_cons, none_there}
use Rattle.reservation_core.proofs.StepEffect.{IsSensed, CountsAt, HeardFrom, Said, Effect, no_frame, no_each}
use Rattle.reservation_core.proofs.StepEffect.{one_frame, ended, still, dropped, decided, finished, changed}

-- ---- the events

open_effect : (m : Meaning) (old : State) (op : Op) (turn : Turn) → IsNode m.diagram old → old.collecting ≡ None →
    old.granted ≡ None → OpenStep m m.diagram old op turn → Effect m old (Commanded op) turn.new turn.frames
open_effect m old op turn ok idle free (OpenStep.alone none deciding) =
    decided m old (Commanded op) turn ok (opens m.diagram old op) (fresh m.diagram old op)
    (record { bay = refl; words = refl; granted = refl }) free (HeardFrom.opened idle refl) (inr (omega arith)) deciding
open_effect m old op turn ok idle free (OpenStep.reserves some end) =
    changed m old (Commanded op) turn ok (opens m.diagram old op) _ _ (inr (λ never. never)) end refl refl
    (λ g is. let e : g ≡ fresh m.diagram old op = cc is in HeardFrom.opened idle (ap (λ (x : Collection). x.heard) e))
    (λ q is. let e : old.highest + 1 ≡ q = cc is in inr (omega (arith, e)))
    (no_each old.bay (old.highest + 1) Reserve (others m.diagram old.bay) (λ s is. cc is))

command_effect : (m : Meaning) (old : State) (op : Op) (turn : Turn) → IsNode m.diagram old →
    CommandStep m m.diagram old op turn → Effect m old (Commanded op) turn.new turn.frames
command_effect m old op turn ok (CommandStep.round_under_way _ _ end) =
    still m old (Commanded op) turn ok _ [] (λ never. never) no_frame end
command_effect m old op turn ok (CommandStep.held _ _ _ end) =
    still m old (Commanded op) turn ok _ [] (λ never. never) no_frame end
command_effect m old op turn ok (CommandStep.there _ _ end) =
    still m old (Commanded op) turn ok _ [] (λ never. never) no_frame end
command_effect m old op turn ok (CommandStep.spent _ _ _ end) =
    still m old (Commanded op) turn ok _ [] (λ never. never) no_frame end
command_effect m old op turn ok (CommandStep.opens_round free _ _ step) =
    open_effect m old op turn ok (idle_collecting old.collecting old.granted free.idle)
    (idle_grant old.collecting old.granted free.idle) step

-- a frame that is no Answer does not count
not_answer : (m : Meaning) (old : State) (f : Frame) (body : Body) → f.body ≡ body →
    ((s : List ℕ) → body ≡ Answer s → ⊥) → ¬ CountsAt m old (Arrival f)
not_answer m old f body is never counts = never counts.summary (sym is ∙ counts.answer)

reserve_effect : (m : Meaning) (old : State) (f : Frame) (turn : Turn) → IsNode m.diagram old → f.body ≡ Reserve →
    ReserveStep m old f.from.0 f.round turn → Effect m old (Arrival f) turn.new turn.frames
reserve_effect m old f turn ok body (ReserveStep.busy_itself _ _ end) =
    still m old (Arrival f) turn ok _ _ (not_answer m old f Reserve body (λ s is. cc is))
    (one_frame _ (λ s is. cc is)) end
reserve_effect m old f turn ok body (ReserveStep.busy_locked _ _ _ _ end) =
    still m old (Arrival f) turn ok _ _ (not_answer m old f Reserve body (λ s is. cc is))
    (one_frame _ (λ s is. cc is)) end
reserve_effect m old f turn ok body (ReserveStep.late _ _ _ _ _ end) =
    still m old (Arrival f) turn ok _ [] (not_answer m old f Reserve body (λ s is. cc is)) no_frame end
reserve_effect m old f turn ok body (ReserveStep.answers idle may it) =
    ended m old (Arrival f) turn ok (locks old f.from.0 f.round) _ _ it.end (record {
      counted = inr (not_answer m old f Reserve body (λ s e. cc e));
      words = λ i. inl refl;
      grants = λ g is. inl is;
      freed = λ g is. inl is;
      heard = λ g is. HeardFrom.kept is (not_answer m old f Reserve body (λ s e. cc e));
      rounds = λ q is. inl is;
      answers = λ h s there is. elim (contains_cons (frame old.bay f.from.0 f.round (Answer it.summary)) [] h there) [
        | inl same ↦
            let said : Answer it.summary ≡ Answer s = subst (λ (x : Frame). x.body ≡ Answer s) (sym same) is in
            let e : it.summary ≡ s = cc said in
            subst (λ (x : Frame). Said m old (Arrival f) x s) same (record {
              asked = body;
              from = refl;
              idle = idle;
              sums = subst (Summarises m old.bay f.from.0 old.words) e it.of_words;
            })
        | inr none ↦ absurd (none_there h none)
      ];
      alone = λ h s there is. refl;
    })

-- the Answer that comes counts
it_counts : (m : Meaning) (old : State) (f : Frame) (s : List ℕ) (g : Collection) → IsMeant m.diagram old f →
    f.body ≡ Answer s → old.collecting ≡ Some g → g.round ≡ f.round → m.Fits f.from.0 old.bay s →
    Counts m m.diagram old f
it_counts m old f s g meant body has round fits = record {
  meant = meant;
  round = g;
  collects = has;
  same = round;
  summary = s;
  answer = body;
  fits = fits;
}

answer_effect : (m : Meaning) (old : State) (f : Frame) (s : List ℕ) (turn : Turn) → IsNode m.diagram old →
    IsMeant m.diagram old f → f.body ≡ Answer s → AnswerStep m m.diagram old f.from.0 f.round s turn →
    Effect m old (Arrival f) turn.new turn.frames
answer_effect m old f s turn ok meant body (AnswerStep.heard_one g has round fits all end) =
    changed m old (Arrival f) turn ok (collects old old.highest (hears g f.from.0 s)) _ []
    (inl (it_counts m old f s g meant body has round fits)) end refl refl
    (λ k is.
    let e : k ≡ hears g f.from.0 s = cc is in
    HeardFrom.one_more g f s refl (it_counts m old f s g meant body has round fits) body has round e)
    (λ q is. inl (ap (λ x. under_way_of x old.granted) has ∙ is)) no_frame
answer_effect m old f s turn ok meant body (AnswerStep.heard_last g has round fits all deciding) =
    decided m old (Arrival f) turn ok (collects old old.highest (hears g f.from.0 s)) (hears g f.from.0 s)
    (record { bay = refl; words = refl; granted = refl }) (ok.collecting g has).no_grant
    (HeardFrom.one_more g f s refl (it_counts m old f s g meant body has round fits) body has round refl)
    (inl (ap (λ x. under_way_of x old.granted) has)) deciding
answer_effect m old f s turn ok meant body (AnswerStep.unfit g has round unfit end) =
    still m old (Arrival f) turn ok _ [] (λ counts.
    let said : Answer counts.summary ≡ Answer s = sym counts.answer ∙ body in
    let e : counts.summary ≡ s = cc said in
    unfit (subst (m.Fits f.from.0 old.bay) e counts.fits)) no_frame end
answer_effect m old f s turn ok meant body (AnswerStep.other_round g has round end) =
    still m old (Arrival f) turn ok _ [] (λ counts.
    let e : g ≡ counts.round = cc (has, counts.collects) in
    round (ap (λ (x : Collection). x.round) e ∙ counts.same)) no_frame end
answer_effect m old f s turn ok meant body (AnswerStep.none_collected has end) =
    still m old (Arrival f) turn ok _ [] (λ counts. cc (has, counts.collects)) no_frame end

busy_effect : (m : Meaning) (old : State) (f : Frame) (holder : BayId) (q : ℕ) (turn : Turn) → IsNode m.diagram old →
    f.body ≡ Busy holder q → BusyStep m.diagram old f.from.0 f.round holder q turn →
    Effect m old (Arrival f) turn.new turn.frames
busy_effect m old f holder q turn ok body (BusyStep.gives_up _ _ _ end) =
    dropped m old (Arrival f) turn ok _ f.round (not_answer m old f (Busy holder q) body (λ s e. cc e)) end
busy_effect m old f holder q turn ok body (BusyStep.other_round _ _ _ end) =
    still m old (Arrival f) turn ok _ [] (not_answer m old f (Busy holder q) body (λ s is. cc is)) no_frame end
busy_effect m old f holder q turn ok body (BusyStep.none_collected _ end) =
    still m old (Arrival f) turn ok _ [] (not_answer m old f (Busy holder q) body (λ s is. cc is)) no_frame end

query_effect : (m : Meaning) (old : State) (f : Frame) (turn : Turn) → IsNode m.diagram old → f.body ≡ Query →
    QueryStep old f.from.0 f.round turn → Effect m old (Arrival f) turn.new turn.frames
query_effect m old f turn ok body (QueryStep.is_over _ _ end) =
    still m old (Arrival f) turn ok _ _ (not_answer m old f Query body (λ s is. cc is))
    (one_frame _ (λ s is. cc is)) end
query_effect m old f turn ok body (QueryStep.unknown_round _ end) =
    still m old (Arrival f) turn ok _ [] (not_answer m old f Query body (λ s is. cc is)) no_frame end
query_effect m old f turn ok body (QueryStep.round_under_way _ end) =
    still m old (Arrival f) turn ok _ [] (not_answer m old f Query body (λ s is. cc is)) no_frame end

over_effect : (m : Meaning) (old : State) (f : Frame) (turn : Turn) → IsNode m.diagram old → f.body ≡ Over →
    OverStep old f.from.0 f.round turn → Effect m old (Arrival f) turn.new turn.frames
over_effect m old f turn ok body (OverStep.unlocks_it _ _ _ _ end) =
    changed m old (Arrival f) turn ok (unlocks old) _ [] (inr (not_answer m old f Over body (λ s e. cc e))) end refl
    refl (λ k is. HeardFrom.kept is (not_answer m old f Over body (λ s e. cc e))) (λ q is. inl is) no_frame
over_effect m old f turn ok body (OverStep.earlier_round _ _ _ _ end) =
    still m old (Arrival f) turn ok _ [] (not_answer m old f Over body (λ s is. cc is)) no_frame end
over_effect m old f turn ok body (OverStep.another_holder _ _ _ end) =
    still m old (Arrival f) turn ok _ [] (not_answer m old f Over body (λ s is. cc is)) no_frame end
over_effect m old f turn ok body (OverStep.no_lock _ end) =
    still m old (Arrival f) turn ok _ [] (not_answer m old f Over body (λ s is. cc is)) no_frame end

frame_effect : (m : Meaning) (old : State) (f : Frame) (turn : Turn) → IsNode m.diagram old →
    FrameStep m m.diagram old f turn → Effect m old (Arrival f) turn.new turn.frames
frame_effect m old f turn ok (FrameStep.elsewhere differ end) =
    still m old (Arrival f) turn ok _ [] (λ counts. differ counts.meant.here) no_frame end
frame_effect m old f turn ok (FrameStep.stranger other end) =
    still m old (Arrival f) turn ok _ [] (λ counts. other counts.meant.other) no_frame end
frame_effect m old f turn ok (FrameStep.reserve meant body step) = reserve_effect m old f turn ok body step
frame_effect m old f turn ok (FrameStep.answer summary meant body step) =
    answer_effect m old f summary turn ok meant body step
frame_effect m old f turn ok (FrameStep.busy holder q meant body step) = busy_effect m old f holder q turn ok body step
frame_effect m old f turn ok (FrameStep.query meant body step) = query_effect m old f turn ok body step
frame_effect m old f turn ok (FrameStep.over meant body step) = over_effect m old f turn ok body step

tick_effect : (m : Meaning) (old : State) (turn : Turn) → IsNode m.diagram old → TickStep m m.diagram old turn →
    Effect m old Ticking turn.new turn.frames
tick_effect m old turn ok (TickStep.decides g has deciding) =
    decided m old Ticking turn ok old g (record { bay = refl; words = refl; granted = refl })
    (ok.collecting g has).no_grant (HeardFrom.kept has (λ never. never))
    (inl (ap (λ x. under_way_of x old.granted) has)) deciding
tick_effect m old turn ok (TickStep.asks _ _ _ end) =
    still m old Ticking turn ok _ _ (λ never. never) (one_frame _ (λ s is. cc is)) end
tick_effect m old turn ok (TickStep.rests _ _ end) = still m old Ticking turn ok _ [] (λ never. never) no_frame end

sense_effect : (m : Meaning) (old : State) (i : ℕ) (event : NodeEvent) (word : Dbpos) (turn : Turn) →
    IsNode m.diagram old → ¬ CountsAt m old event → IsSensed event i word → SenseStep m.diagram old i word turn →
    Effect m old event turn.new turn.frames
sense_effect m old i event word turn ok uncounted sensed (SenseStep.finishes g is end) =
    finished m old event turn ok _ g i word uncounted is.granted is.switch (inr sensed) end
sense_effect m old i event word turn ok uncounted sensed (SenseStep.reads other end) =
    ended m old event turn ok (senses old i word) _ [] end (record {
      counted = inr uncounted;
      words = λ j. elim (get_set old.words i word j Lost) [
        | inl p ↦
            inr
            (inr (subst (λ (x : Dbpos). IsSensed event j x) (sym p.1)
            (subst (λ (x : ℕ). IsSensed event x word) (sym p.0) sensed)))
        | inr p ↦ inl p
      ];
      grants = λ k is. inl is;
      freed = λ k is. inl is;
      heard = λ k is. HeardFrom.kept is uncounted;
      rounds = λ q is. inl is;
      answers = λ f s there is. absurd (no_frame f s there is);
      alone = λ f s there is. absurd (no_frame f s there is);
    })

withdraw_effect : (m : Meaning) (old : State) (turn : Turn) → IsNode m.diagram old → WithdrawStep m.diagram old turn →
    Effect m old Withdrawing turn.new turn.frames
withdraw_effect m old turn ok (WithdrawStep.from_round g has end) =
    dropped m old Withdrawing turn ok _ g.round (λ never. never) end
withdraw_effect m old turn ok (WithdrawStep.from_grant g none has end) =
    finished m old Withdrawing turn ok _ g g.op.switch.0 Lost (λ never. never) has refl (inl refl) end
withdraw_effect m old turn ok (WithdrawStep.no_round _ end) =
    still m old Withdrawing turn ok _ [] (λ never. never) no_frame end

cut_effect : (m : Meaning) (old : State) (i : ℕ) (event : NodeEvent) (turn : Turn) → IsNode m.diagram old →
    ¬ CountsAt m old event → CutStep m.diagram old i turn → Effect m old event turn.new turn.frames
cut_effect m old i event turn ok uncounted (CutStep.stops g has switch end) =
    finished m old event turn ok _ g i Lost uncounted has switch (inl refl) end
cut_effect m old i event turn ok uncounted (CutStep.other_switch _ _ _ end) =
    still m old event turn ok _ [] uncounted no_frame end
cut_effect m old i event turn ok uncounted (CutStep.no_grant _ end) =
    still m old event turn ok _ [] uncounted no_frame end

restart_effect : (m : Meaning) (old : State) (turn : Turn) (outcome : Outcome) → IsNode m.diagram old →
    StepEnds turn (restarts old) outcome [] → Effect m old Restarting turn.new turn.frames
restart_effect m old turn outcome ok end = ended m old Restarting turn ok (restarts old) outcome [] end (record {
  counted = inr (λ never. never);
  words = λ i. inr (inl (get_lost (length old.words) i));
  grants = λ k is. inl is;
  freed = λ k is. inl is;
  heard = λ k is. absurd (cc is);
  rounds = λ q is. inl (dropped_round old.collecting old.granted q (λ g has. (ok.collecting g has).no_grant) is);
  answers = λ f s there is. absurd (no_frame f s there is);
  alone = λ f s there is. absurd (no_frame f s there is);
})

pub effect : (m : Meaning) (old : State) (event : NodeEvent) (turn : Turn) → IsNode m.diagram old →
    Step m m.diagram old event turn → Effect m old event turn.new turn.frames
effect m old (Commanded op) turn ok s = command_effect m old op turn ok s
effect m old (Sensing i word) turn ok s =
    sense_effect m old i.0 (Sensing i word) word turn ok (λ never. never) (refl, refl) s
effect m old (Arrival f) turn ok s = frame_effect m old f turn ok s
effect m old Ticking turn ok s = tick_effect m old turn ok s
effect m old Withdrawing turn ok s = withdraw_effect m old turn ok s
effect m old Restarting turn ok s = restart_effect m old turn _ ok s
effect m old (Cutting i) turn ok s = cut_effect m old i.0 (Cutting i) turn ok (λ never. never) s
