-- Where a round stops being collected.
use Rattle.std.proofs.Common.{◌⊎◌, ◌≡◌, ℕ, Bool, List, ◌∷◌, Option, Some, None, refl, sym, subst, ap, ◌∙◌, inl, inr}
use Rattle.std.specs.Prelude.{⊤}
use Rattle.std.proofs.lemmas.Bool.{cases_eq}
use Rattle.std.proofs.lemmas.Bool.Decides.{eqb_tells}
use Rattle.ilk_base.specs.declared.words.Dbpos.{Dbpos}
use Rattle.ilk_base.specs.declared.words.Op.{Op}
use Rattle.station_graph.specs.Diagram.{Diagram, IsStation}
use Rattle.central_rules.specs.Knowledge.{Known}
use Rattle.central_rules.specs.Meaning.{Meaning, Laws}
use Rattle.bay_frames.specs.declared.frame.Frame.{Frame}
use Rattle.bay_protocol.specs.declared.values.Collection.{Collection}
use Rattle.bay_protocol.specs.declared.values.Outcome.{Outcome}
use Rattle.bay_protocol.specs.declared.values.Outcome.TheVariants.{UnderWay, HeldBy, There, Spent, Collecting, Granted}
use Rattle.bay_protocol.specs.declared.values.Outcome.TheVariants.{Denied, BusyBy, Finished, Withdrawn, Stopped, Quiet}
use Rattle.bay_protocol.specs.declared.values.NodeEvent.{NodeEvent}
use Rattle.bay_protocol.specs.declared.values.NodeEvent.TheVariants.{Command as Commanded, Sense as Sensing}
use Rattle.bay_protocol.specs.declared.values.NodeEvent.TheVariants.{Frame as Arrival, Tick as Ticking}
use Rattle.bay_protocol.specs.declared.values.NodeEvent.TheVariants.{Withdraw as Withdrawing, Restart as Restarting}
use Rattle.bay_protocol.specs.declared.values.NodeEvent.TheVariants.{Cut as Cutting}
use Rattle.bay_protocol.specs.State.{State}
use Rattle.bay_protocol.specs.Step.{Turn, StepEnds, Step, Deciding, OpenStep, CommandStep, ReserveStep, AnswerStep}
use Rattle.bay_protocol.specs.Step.{BusyStep, QueryStep, OverStep, FrameStep, TickStep, SenseStep, WithdrawStep}
use Rattle.bay_protocol.specs.Step.{CutStep}
use Rattle.reservation_core.specs.Scene.{Scene, node}
use Rattle.reservation_core.specs.declared.values.WorldEvent.{WorldEvent}
use Rattle.reservation_core.specs.declared.values.WorldEvent.TheVariants.{Command, Sense, Deliver, Tick, Withdraw}
use Rattle.reservation_core.specs.declared.values.WorldEvent.TheVariants.{Restart, Begin, End, Part, Cut}
use Rattle.bay_protocol.proofs.UnderWay.{idle_collecting}
use Rattle.reservation_core.specs.Lines.{Line, Shown, of_bay, shown}
use Rattle.reservation_core.specs.History.{Opened, collecting_after, forgotten, collecting}
use Rattle.reservation_core.specs.Hearing.{IsVerdictOn, DecidesRound}
use Rattle.reservation_core.specs.Runs.{Leads, Run}
use Rattle.reservation_core.specs.Headline.{DecidesWell, Verdict, StopsCollecting, StopsWell, IsBusy, IsWithdrawal}
use Rattle.log_replay.proofs.Basic.{eqb_same, of_quiet}
use Rattle.log_replay.proofs.Linked.{opened}
use Rattle.log_replay.proofs.Links.{Spoken}
use Rattle.log_replay.proofs.Others.{missing_some}
use Rattle.log_replay.proofs.Leading.{run_is}
use Rattle.log_replay.proofs.Who.{Who, who}
use Rattle.log_replay.proofs.LineDecisions.{decides_well}

-- ---- what may be shown while a round is collected

abbrev StopOk : Collection → Outcome → Type 0
StopOk g (Collecting r) = ⊥
StopOk g (BusyBy r from holder q) = r ≡ g.round
StopOk g (Withdrawn r) = r ≡ g.round
StopOk g outcome = ⊤

so_ends : (g : Collection) (turn : Turn) (new : State) (o : Outcome) (fs : List Frame) → StepEnds turn new o fs →
    StopOk g (shown o) → StopOk g (shown turn.outcome)
so_ends g turn new o fs end ok = subst (λ (x : Outcome). StopOk g (shown x)) (sym end.says) ok

deciding_ok : (m : Meaning) (s : State) (h g : Collection) (turn : Turn) → Deciding m m.diagram s h turn →
    StopOk g (shown turn.outcome)
deciding_ok m s h g turn (Deciding.release verdict end) = so_ends g turn _ (Granted h.round h.op) _ end tt
deciding_ok m s h g turn (Deciding.denial rule v verdict end) = so_ends g turn _ (Denied h.round h.op rule v) _ end tt

same_round_of : (x : Option Collection) (g h : Collection) → x ≡ Some g → x ≡ Some h → g.round ≡ h.round
same_round_of x g h a b = let e : Some g ≡ Some h = sym a ∙ b in let same : g ≡ h = cc e in
    ap (λ (y : Collection). y.round) same

command_ok : (m : Meaning) (s : State) (op : Op) (g : Collection) (turn : Turn) → s.collecting ≡ Some g →
    CommandStep m m.diagram s op turn → StopOk g (shown turn.outcome)
command_ok m s op g turn has (CommandStep.round_under_way q is end) = so_ends g turn _ (UnderWay q) _ end tt
command_ok m s op g turn has (CommandStep.held l is lock end) = so_ends g turn _ (HeldBy l.holder l.round) _ end tt
command_ok m s op g turn has (CommandStep.there free at end) = so_ends g turn _ There _ end tt
command_ok m s op g turn has (CommandStep.spent free at top end) = so_ends g turn _ Spent _ end tt
command_ok m s op g turn has (CommandStep.opens_round free at below (OpenStep.alone none deciding)) =
    deciding_ok m _ _ g turn deciding
command_ok m s op g turn has (CommandStep.opens_round free at below (OpenStep.reserves some end)) = let none =
    idle_collecting s.collecting s.granted free.idle in absurd (cc (has, none))

answer_ok : (m : Meaning) (s : State) (b r : ℕ) (summary : List ℕ) (g : Collection) (turn : Turn) →
    AnswerStep m m.diagram s b r summary turn → StopOk g (shown turn.outcome)
answer_ok m s b r summary g turn (AnswerStep.heard_one h has round fits all end) = so_ends g turn _ Quiet _ end tt
answer_ok m s b r summary g turn (AnswerStep.heard_last h has round fits all deciding) =
    deciding_ok m _ _ g turn deciding
answer_ok m s b r summary g turn (AnswerStep.unfit h has round fits end) = so_ends g turn _ Quiet _ end tt
answer_ok m s b r summary g turn (AnswerStep.other_round h has round end) = so_ends g turn _ Quiet _ end tt
answer_ok m s b r summary g turn (AnswerStep.none_collected none end) = so_ends g turn _ Quiet _ end tt

frame_ok : (m : Meaning) (s : State) (f : Frame) (g : Collection) (turn : Turn) → s.collecting ≡ Some g →
    FrameStep m m.diagram s f turn → StopOk g (shown turn.outcome)
frame_ok m s f g turn has (FrameStep.elsewhere differ end) = so_ends g turn _ Quiet _ end tt
frame_ok m s f g turn has (FrameStep.stranger differ end) = so_ends g turn _ Quiet _ end tt
frame_ok m s f g turn has (FrameStep.reserve meant body (ReserveStep.busy_itself q is end)) =
    so_ends g turn _ Quiet _ end tt
frame_ok m s f g turn has (FrameStep.reserve meant body (ReserveStep.busy_locked l is lock differ end)) =
    so_ends g turn _ Quiet _ end tt
frame_ok m s f g turn has (FrameStep.reserve meant body (ReserveStep.late l is lock same above end)) =
    so_ends g turn _ Quiet _ end tt
frame_ok m s f g turn has (FrameStep.reserve meant body (ReserveStep.answers idle may a)) =
    so_ends g turn _ Quiet _ a.end tt
frame_ok m s f g turn has (FrameStep.answer summary meant body step) =
    answer_ok m s f.from.0 f.round summary g turn step
frame_ok m s f g turn has (FrameStep.busy holder q meant body (BusyStep.gives_up h got round end)) =
    so_ends g turn _ (BusyBy f.round (record { 0 = f.from.0 }) holder q) _ end (sym round
    ∙ same_round_of s.collecting h g got has)
frame_ok m s f g turn has (FrameStep.busy holder q meant body (BusyStep.other_round h got round end)) =
    so_ends g turn _ Quiet _ end tt
frame_ok m s f g turn has (FrameStep.busy holder q meant body (BusyStep.none_collected none end)) =
    so_ends g turn _ Quiet _ end tt
frame_ok m s f g turn has (FrameStep.query meant body (QueryStep.is_over low idle end)) =
    so_ends g turn _ Quiet _ end tt
frame_ok m s f g turn has (FrameStep.query meant body (QueryStep.unknown_round above end)) =
    so_ends g turn _ Quiet _ end tt
frame_ok m s f g turn has (FrameStep.query meant body (QueryStep.round_under_way is end)) =
    so_ends g turn _ Quiet _ end tt
frame_ok m s f g turn has (FrameStep.over meant body (OverStep.unlocks_it l lock holder low end)) =
    so_ends g turn _ Quiet _ end tt
frame_ok m s f g turn has (FrameStep.over meant body (OverStep.earlier_round l lock holder low end)) =
    so_ends g turn _ Quiet _ end tt
frame_ok m s f g turn has (FrameStep.over meant body (OverStep.another_holder l lock holder end)) =
    so_ends g turn _ Quiet _ end tt
frame_ok m s f g turn has (FrameStep.over meant body (OverStep.no_lock lock end)) = so_ends g turn _ Quiet _ end tt

tick_ok : (m : Meaning) (s : State) (g : Collection) (turn : Turn) → TickStep m m.diagram s turn →
    StopOk g (shown turn.outcome)
tick_ok m s g turn (TickStep.decides h has deciding) = deciding_ok m _ _ g turn deciding
tick_ok m s g turn (TickStep.asks l none lock end) = so_ends g turn _ Quiet _ end tt
tick_ok m s g turn (TickStep.rests none lock end) = so_ends g turn _ Quiet _ end tt

sense_ok : (m : Meaning) (s : State) (i : ℕ) (word : Dbpos) (g : Collection) (turn : Turn) →
    SenseStep m.diagram s i word turn → StopOk g (shown turn.outcome)
sense_ok m s i word g turn (SenseStep.finishes h at end) = so_ends g turn _ (Finished h.round) _ end tt
sense_ok m s i word g turn (SenseStep.reads never end) = so_ends g turn _ Quiet _ end tt

withdraw_ok : (m : Meaning) (s : State) (g : Collection) (turn : Turn) → s.collecting ≡ Some g →
    WithdrawStep m.diagram s turn → StopOk g (shown turn.outcome)
withdraw_ok m s g turn has (WithdrawStep.from_round h got end) = so_ends g turn _ (Withdrawn h.round) _ end
    (same_round_of s.collecting h g got has)
withdraw_ok m s g turn has (WithdrawStep.from_grant h none got end) = absurd (cc (has, none))
withdraw_ok m s g turn has (WithdrawStep.no_round idle end) = so_ends g turn _ Quiet _ end tt

cut_ok : (m : Meaning) (s : State) (i : ℕ) (g : Collection) (turn : Turn) → CutStep m.diagram s i turn →
    StopOk g (shown turn.outcome)
cut_ok m s i g turn (CutStep.stops h has at end) = so_ends g turn _ (Stopped h.round) _ end tt
cut_ok m s i g turn (CutStep.other_switch h has other end) = so_ends g turn _ Quiet _ end tt
cut_ok m s i g turn (CutStep.no_grant none end) = so_ends g turn _ Quiet _ end tt

step_ok : (m : Meaning) (s : State) (e : NodeEvent) (g : Collection) (turn : Turn) → s.collecting ≡ Some g →
    Step m m.diagram s e turn → StopOk g (shown turn.outcome)
step_ok m s (Commanded op) g turn has step = command_ok m s op g turn has step
step_ok m s (Sensing i word) g turn has step = sense_ok m s i.0 word g turn step
step_ok m s (Arrival f) g turn has step = frame_ok m s f g turn has step
step_ok m s Ticking g turn has step = tick_ok m s g turn step
step_ok m s Withdrawing g turn has step = withdraw_ok m s g turn has step
step_ok m s Restarting g turn has end = so_ends g turn _ Quiet _ end tt
step_ok m s (Cutting i) g turn has step = cut_ok m s i.0 g turn step

line_ok : (m : Meaning) (old : Scene) (s : Shown) (c : ℕ) (g : Collection) →
    (node m.diagram old c).collecting ≡ Some g → Who m old s → StopOk g (of_bay s c)
line_ok m old s c g has (Who.nobody nothing) = subst (StopOk g) (sym (of_quiet s c nothing.outcome)) tt
line_ok m old s c g has (Who.steps b e turn step shows) = elim (cases_eq c b) [
  | inl same ↦
      let here : (node m.diagram old b).collecting ≡ Some g =
      subst (λ (x : ℕ). (node m.diagram old x).collecting ≡ Some g) same has in
      subst (StopOk g) (sym (subst (λ (x : ℕ). of_bay s x ≡ shown turn.outcome) (sym same) shows.own)) (step_ok m (node m.diagram old b) e g
      turn here step)
  | inr other ↦ subst (StopOk g) (sym (shows.other c other)) tt
]

-- ---- exactly there

restart_tells : (e : WorldEvent) (c : ℕ) (was : Option Opened) → (e ≡ Restart (record { 0 = c }))
    ⊎ (forgotten e c was ≡ was)
restart_tells (Restart b) c was = elim (eqb_tells b.0 c) [
  | inl p ↦ inl (ap (λ (x : ℕ). Restart (record { 0 = x })) p.1)
  | inr p ↦ inr (rw p.0 refl)
]
restart_tells (Command op) c was = inr refl
restart_tells (Sense i word) c was = inr refl
restart_tells (Deliver k) c was = inr refl
restart_tells (Tick b) c was = inr refl
restart_tells (Withdraw b) c was = inr refl
restart_tells (Begin i) c was = inr refl
restart_tells (End i) c was = inr refl
restart_tells (Part k bytes) c was = inr refl
restart_tells (Cut i) c was = inr refl

forgets_none : (e : WorldEvent) (c : ℕ) → forgotten e c None ≡ None
forgets_none (Restart b) c = elim (eqb_tells b.0 c) [ inl p ↦ rw p.0 refl | inr p ↦ rw p.0 refl ]
forgets_none e c = refl

-- what an outcome makes of a round that is collected
after_outcome : (x : Outcome) (e : WorldEvent) (g : Collection) (o : Opened) → g.round ≡ o.round → StopOk g x →
    ((p : Opened) × IsVerdictOn x p)
    ⊎ (IsBusy x o.round ⊎ (IsWithdrawal x o.round ⊎ (collecting_after x e (Some o) ≡ Some o)))
after_outcome (Granted r op) e g o same ok = inl (record { round = r; op = op }, (refl, refl))
after_outcome (Denied r op rule reading) e g o same ok = inl (record { round = r; op = op }, (refl, refl))
after_outcome (BusyBy r from holder q) e g o same ok = inr (inl (ok ∙ same))
after_outcome (Withdrawn r) e g o same ok = inr (inr (inl (ok ∙ same)))
after_outcome (Collecting r) e g o same ok = absurd ok
after_outcome x e g o same ok = inr (inr (inr refl))

collection_of : (x : Option Collection) (before : List Line) (c : ℕ) (o : Opened) → opened x ≡ collecting before c →
    collecting before c ≡ Some o → (g : Collection) × (x ≡ Some g) × (g.round ≡ o.round)
collection_of None before c o is has = absurd (cc (is, has))
collection_of (Some g) before c o is has =
    let e : Some (record { round = g.round; op = g.op }) ≡ Some o = is ∙ has in
    let same : record { round = g.round; op = g.op } ≡ o = cc e in
    (g, refl, ap (λ (y : Opened). y.round) same)

verdict_stops : (d : Diagram) (k : Known) (o : Opened) (x : Outcome) (e : WorldEvent) (was : Option Opened) →
    Verdict d k o x → collecting_after x e was ≡ None
verdict_stops d k o x e was (Verdict.grants is holds) = rw is refl
verdict_stops d k o x e was (Verdict.denies rule v is reads breaks) = rw is refl

busy_stops : (x : Outcome) (r : ℕ) (e : WorldEvent) (was : Option Opened) → IsBusy x r → collecting_after x e was ≡ None
busy_stops (BusyBy q from holder p) r e was is = refl
busy_stops x r e was is = absurd is

withdrawn_stops : (x : Outcome) (r : ℕ) (e : WorldEvent) (was : Option Opened) → IsWithdrawal x r →
    collecting_after x e was ≡ None
withdrawn_stops (Withdrawn q) r e was is = refl
withdrawn_stops x r e was is = absurd is

forgotten_none : (e : WorldEvent) (c : ℕ) (x : Option Opened) → x ≡ None → forgotten e c x ≡ None
forgotten_none e c x is = subst (λ (y : Option Opened). forgotten e c y ≡ None) (sym is) (forgets_none e c)

-- ---- at one line

module _ (m : Meaning) (before : List Line) (l : Line) (old w : Scene) (said : Spoken m before old)
    (well : DecidesWell m.diagram before l) (leads : Leads m old l w) where
  -- while a round is collected, no bay decides but that round
  same_round : (c : ℕ) (o p : Opened) → collecting before c ≡ Some o → DecidesRound m.diagram before l c p → p ≡ o
  same_round c o p has (DecidesRound.at_tick is e) = let x : Some p ≡ Some o = sym is ∙ has in cc x
  same_round c o p has (DecidesRound.all_heard n is e all) = let x : Some p ≡ Some o = sym is ∙ has in cc x
  same_round c o p has (DecidesRound.alone e at none d) =
      let g = collection_of (node m.diagram old c).collecting before c o (said.nodes c).collecting has in
      absurd (missing_some m.diagram c g.0.heard ((said.nodes c).missing g.0 g.1) none)

  else_case : (c : ℕ) (o : Opened) → collecting before c ≡ Some o →
      (StopsCollecting m.diagram before l c o) ⊎ (collecting (l ∷ before) c ≡ Some o)
  else_case c o has =
      let g = collection_of (node m.diagram old c).collecting before c o (said.nodes c).collecting has in
      let ok = line_ok m old l.shown c g.0 g.1 (who m old w leads.outcome l.shown leads.shows l.event leads.happens) in
      elim (restart_tells l.event c (collecting_after (of_bay l.shown c) l.event (collecting before c))) [
        | inl again ↦ inl (StopsCollecting.restarted again)
        | inr same ↦ elim (after_outcome (of_bay l.shown c) l.event g.0 o g.2 ok) [
          | inl d ↦
              let it = well.no_other c d.0 d.1 in
              inl (StopsCollecting.decided (subst (λ (x : Opened). DecidesRound m.diagram before l c x)
              (same_round c o d.0 has it) it))
          | inr rest ↦ elim rest [
            | inl busy ↦ inl (StopsCollecting.busy busy)
            | inr more ↦ elim more [
              | inl gone ↦ inl (StopsCollecting.withdrawn gone)
              | inr stays ↦ inr (same ∙ ap (λ (x : Option Opened). collecting_after (of_bay l.shown c) l.event x)
                  has ∙ stays)
            ]
          ]
        ]
      ]

  stop_case : (c : ℕ) (o : Opened) → StopsCollecting m.diagram before l c o → collecting (l ∷ before) c ≡ None
  stop_case c o (StopsCollecting.decided d) =
      forgotten_none l.event c _ (verdict_stops m.diagram _ o (of_bay l.shown c) l.event (collecting before c)
      (well.shows c o d))
  stop_case c o (StopsCollecting.busy is) =
      forgotten_none l.event c _ (busy_stops (of_bay l.shown c) o.round l.event (collecting before c) is)
  stop_case c o (StopsCollecting.withdrawn is) =
      forgotten_none l.event c _ (withdrawn_stops (of_bay l.shown c) o.round l.event (collecting before c) is)
  stop_case c o (StopsCollecting.restarted is) =
      subst (λ (e : WorldEvent). forgotten e c (collecting_after (of_bay l.shown c) l.event (collecting before c)) ≡ None)
      (sym is) (rw (eqb_same c) refl)

  pub stops_at : StopsWell m.diagram before l
  stops_at = record { stops = λ c o has is. stop_case c o is; else_stays = else_case }

pub stops_well : (m : Meaning) (start : List Bool) (before : List Line) (l : Line) (w : Scene) → IsStation m.diagram →
    Laws m → Run m start (l ∷ before) w → StopsWell m.diagram before l
stops_well m start before l w station laws run =
    stops_at m before l run.0 w (run_is m start before run.0 station laws run.1).links.said
    (decides_well m start l before w station laws run) run.2
