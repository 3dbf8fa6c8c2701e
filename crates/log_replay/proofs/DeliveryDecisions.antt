-- A bay decides by the lines at a delivery exactly where the line shows a verdict.
use Rattle.std.proofs.Common.{◌≡◌, ◌≢◌, ℕ, true, false, List, [], ◌∷◌, Some, None, refl, sym, subst, ap, ◌∙◌}
use Rattle.std.proofs.Common.{length-set}
use Rattle.station_graph.specs.Diagram.{IsStation}
use Rattle.central_rules.specs.Meaning.{Meaning, Laws, IsBay}
use Rattle.bay_frames.specs.declared.frame.Frame.{Frame}
use Rattle.bay_frames.specs.declared.frame.Body.TheVariants.{Answer}
use Rattle.bay_protocol.specs.declared.values.Collection.{Collection}
use Rattle.bay_protocol.specs.declared.values.Outcome.{Outcome}
use Rattle.bay_protocol.specs.declared.values.Outcome.TheVariants.{BusyBy, Quiet}
use Rattle.bay_protocol.specs.State.{State, IsOther, AllHeard, is_another, collects, hears}
use Rattle.bay_protocol.specs.Step.{Turn, StepEnds, ReserveStep, AnswerStep, BusyStep, QueryStep, OverStep, FrameStep}
use Rattle.bay_protocol.proofs.Others.{another_no}
use Rattle.reservation_core.specs.declared.values.WorldEvent.TheVariants.{Deliver}
use Rattle.reservation_core.specs.Lines.{MessageKind, Line, Shown, of_bay, message, kind_of, shown}
use Rattle.reservation_core.specs.History.{last_round, sending}
use Rattle.reservation_core.specs.Hearing.{words_told, heard_after, heard, AreAllHeard, IsVerdictOn, DecidesRound}
use Rattle.reservation_core.specs.Hearing.{known_at}
use Rattle.log_replay.proofs.Basic.{IsAnswer}
use Rattle.log_replay.proofs.Linked.{opened, tells_nothing}
use Rattle.log_replay.proofs.Turns.{last_opened}
use Rattle.log_replay.proofs.TurnParts.{Before, own_known}
use Rattle.log_replay.proofs.Deliveries.{Brought, hears_it, other_kind}
use Rattle.log_replay.proofs.Others.{AreHeard, not_every, every, missing_some}
use Rattle.log_replay.proofs.Verdicts.{heard_now, Plain, heard_plain, opened_of, judged}
use Rattle.log_replay.proofs.RestingBays.{verdict_plain, Undecided, not_decided, BayDecides, bay_rests, not_all_heard}
use Rattle.log_replay.proofs.Decisions.{own_of}

-- ---- a delivery

-- a delivery that decides nothing, where not all are heard after it
delivery_rests : (m : Meaning) (before : List Line) (s : Shown) (n b : ℕ) (old : State) (turn : Turn) (new : State)
    (o : Outcome) (fs : List Frame) → Before m before b old → of_bay s b ≡ shown turn.outcome → StepEnds turn new o fs →
    Undecided o →
    (old.collecting ≢ None → ¬ AreAllHeard m.diagram (record { event = Deliver n; shown = s } ∷ before) b) →
    BayDecides m before (record { event = Deliver n; shown = s }) b
delivery_rests m before s n b old turn new o fs k shows end un missing =
    bay_rests m before _ b old.collecting k.is.collecting
    (λ p d. not_decided o un p (subst (λ (y : Outcome). IsVerdictOn y p) (shows ∙ ap shown end.says) d))
    (λ e. absurd (cc e)) (λ x e some. missing some)

-- one that tells nothing
silent_rests : (m : Meaning) (before : List Line) (s : Shown) (n b : ℕ) (old : State) (f : Frame) (turn : Turn)
    (new : State) (o : Outcome) (fs : List Frame) → Before m before b old → Brought m before n f →
    of_bay s b ≡ shown turn.outcome → StepEnds turn new o fs → Undecided o → Plain (shown o) →
    ((x : ℕ) → is_another m.diagram b x ≡ true → (g : Collection) → old.collecting ≡ Some g →
    ¬ IsAnswer (message n f) x b (last_round before b)) →
    BayDecides m before (record { event = Deliver n; shown = s }) b
silent_rests m before s n b old f turn new o fs k brought shows end un plain never =
    delivery_rests m before s n b old turn new o fs k shows end un (λ some. not_all_heard m before
    (record { event = Deliver n; shown = s }) b old.collecting old.granted old.words k.is
    (subst Plain (sym (shows ∙ ap shown end.says)) plain)
    (λ g has. tells_nothing m.diagram before n b (record { message = message n f; lines = brought.at }) brought.found
    (λ x other. never x other g has)) some)

answer_bay : (m : Meaning) (before : List Line) (s : Shown) (n b : ℕ) (old : State) (f : Frame) (summary : List ℕ)
    (turn : Turn) → IsStation m.diagram → Laws m → Before m before b old → Brought m before n f → f.to.0 ≡ b →
    IsBay m.diagram f.from.0 → IsOther m.diagram old.bay f.from.0 → f.body ≡ Answer summary →
    of_bay s b ≡ shown turn.outcome → AnswerStep m m.diagram old f.from.0 f.round summary turn →
    BayDecides m before (record { event = Deliver n; shown = s }) b
answer_bay m before s n b old f summary turn station laws k brought to part other body shows
    (AnswerStep.heard_one g has round fits all end) =
    let l : Line = record { event = Deliver n; shown = s } in
    let some = missing_some m.diagram b g.heard (k.is.missing g has) in
    let other_b : IsOther m.diagram b f.from.0 = subst (λ (x : ℕ). IsOther m.diagram x f.from.0) k.name other in
    let all_b : ¬ AllHeard m.diagram b (hears g f.from.0 summary).heard =
    subst (λ (x : ℕ). ¬ AllHeard m.diagram x (hears g f.from.0 summary).heard) k.name all in
    let are : AreHeard m b (hears g f.from.0 summary).heard (heard_now m.diagram before l b) =
    hears_it m before n b old g f summary k brought has to part other_b some body round in
    delivery_rests m before s n b old turn _ Quiet [] k shows end tt (λ collects_one every.
    not_every m b (hears g f.from.0 summary).heard (heard_now m.diagram before l b) all_b are
    (λ x is none. every x is (ap (λ (y : Outcome). heard_after y (words_told m.diagram (sending before n) x b
    (last_round before b)) (heard m.diagram before b x)) (shows ∙ ap shown end.says) ∙ none)))
answer_bay m before s n b old f summary turn station laws k brought to part other body shows
    (AnswerStep.heard_last g has round fits all deciding) =
    let l : Line = record { event = Deliver n; shown = s } in
    let good = k.sound.collecting g has in
    let some = missing_some m.diagram b g.heard (k.is.missing g has) in
    let other_b : IsOther m.diagram b f.from.0 = subst (λ (x : ℕ). IsOther m.diagram x f.from.0) k.name other in
    let all_b : AllHeard m.diagram b (hears g f.from.0 summary).heard =
    subst (λ (x : ℕ). AllHeard m.diagram x (hears g f.from.0 summary).heard) k.name all in
    let are : AreHeard m b (hears g f.from.0 summary).heard (heard_now m.diagram before l b) =
    hears_it m before n b old g f summary k brought has to part other_b some body round in
    let v = judged m before l b (collects old old.highest (hears g f.from.0 summary)) (hears g f.from.0 summary) turn
    station laws (record {
      name = k.name;
      known = own_known m old g k.sound has;
      own = own_of m b old g k has;
      read = k.is.read;
      words = k.sound.words;
      long = length-set g.heard f.from.0 (Some summary) ∙ good.places;
      heard = are;
    }) shows deciding in
    let plain : Plain (of_bay s b) = verdict_plain m.diagram (known_at m.diagram before l b) (opened_of g)
    (of_bay s b) v in
    BayDecides.decides (opened_of g) (DecidesRound.all_heard n (sym k.is.collecting ∙ ap opened has) refl
    (λ x is none. every m b (hears g f.from.0 summary).heard (heard_now m.diagram before l b) all_b are x is
    (sym (heard_plain (of_bay s b) (words_told m.diagram (sending before n) x b (last_round before b))
    (heard m.diagram before b x) plain) ∙ none))) v
answer_bay m before s n b old f summary turn station laws k brought to part other body shows
    (AnswerStep.unfit g has round fits end) =
    absurd (fits (subst (λ (x : ℕ). m.Fits f.from.0 x summary) (to ∙ sym k.name) (brought.words summary body).fits))
answer_bay m before s n b old f summary turn station laws k brought to part other body shows
    (AnswerStep.other_round g has round end) =
    silent_rests m before s n b old f turn _ Quiet [] k brought shows end tt tt (λ x is h got a.
    let some = missing_some m.diagram b g.heard (k.is.missing g has) in
    let same : Some f.round ≡ Some g.round = sym a.round ∙ last_opened m before b old g k has some in
    let e : g.round ≡ f.round = cc same in
    round e)
answer_bay m before s n b old f summary turn station laws k brought to part other body shows
    (AnswerStep.none_collected none end) =
    silent_rests m before s n b old f turn _ Quiet [] k brought shows end tt tt
    (λ x is h got a. absurd (cc (got, none)))

pub frame_bay : (m : Meaning) (before : List Line) (s : Shown) (n b : ℕ) (old : State) (f : Frame) (turn : Turn) →
    IsStation m.diagram → Laws m → Before m before b old → Brought m before n f → f.to.0 ≡ b →
    IsBay m.diagram f.from.0 →
    of_bay s b ≡ shown turn.outcome → FrameStep m m.diagram old f turn →
    BayDecides m before (record { event = Deliver n; shown = s }) b
frame_bay m before s n b old f turn station laws k brought to part shows (FrameStep.elsewhere differ end) =
    absurd (differ (to ∙ sym k.name))
frame_bay m before s n b old f turn station laws k brought to part shows (FrameStep.stranger differ end) =
    silent_rests m before s n b old f turn _ Quiet [] k brought shows end tt tt (λ x other h got a.
    let strange : is_another m.diagram b x ≡ false = subst (λ (y : ℕ). is_another m.diagram y x ≡ false) k.name
    (subst (λ (y : ℕ). is_another m.diagram old.bay y ≡ false) a.from (another_no m.diagram old.bay f.from.0
    part.0 differ)) in
    absurd (cc (other, strange)))
frame_bay m before s n b old f turn station laws k brought to part shows (FrameStep.reserve meant body
    (ReserveStep.busy_itself q is end)) = silent_rests m before s n b old f turn _ Quiet _ k brought shows end tt tt
    (λ x other g has. other_kind n f x b _ MessageKind.reserve (ap kind_of body) (λ e. absurd (cc e)))
frame_bay m before s n b old f turn station laws k brought to part shows (FrameStep.reserve meant body
    (ReserveStep.busy_locked l is lock differ end)) =
    silent_rests m before s n b old f turn _ Quiet _ k brought shows end
    tt tt (λ x other g has. other_kind n f x b _ MessageKind.reserve (ap kind_of body) (λ e. absurd (cc e)))
frame_bay m before s n b old f turn station laws k brought to part shows (FrameStep.reserve meant body
    (ReserveStep.late l is lock same above end)) =
    silent_rests m before s n b old f turn _ Quiet _ k brought shows end tt
    tt (λ x other g has. other_kind n f x b _ MessageKind.reserve (ap kind_of body) (λ e. absurd (cc e)))
frame_bay m before s n b old f turn station laws k brought to part shows (FrameStep.reserve meant body
    (ReserveStep.answers idle may a)) = silent_rests m before s n b old f turn _ Quiet _ k brought shows a.end tt tt
    (λ x other g has. other_kind n f x b _ MessageKind.reserve (ap kind_of body) (λ e. absurd (cc e)))
frame_bay m before s n b old f turn station laws k brought to part shows (FrameStep.answer summary meant body step) =
    answer_bay m before s n b old f summary turn station laws k brought to part meant.other body shows step
frame_bay m before s n b old f turn station laws k brought to part shows (FrameStep.busy holder q meant body
    (BusyStep.gives_up g has round end)) = silent_rests m before s n b old f turn _
    (BusyBy f.round (record { 0 = f.from.0 }) holder q) _ k brought shows end tt tt
    (λ x other h got. other_kind n f x b _
    MessageKind.busy (ap kind_of body) (λ e. absurd (cc e)))
frame_bay m before s n b old f turn station laws k brought to part shows (FrameStep.busy holder q meant body
    (BusyStep.other_round g has round end)) = silent_rests m before s n b old f turn _ Quiet _ k brought shows end tt tt
    (λ x other h got. other_kind n f x b _ MessageKind.busy (ap kind_of body) (λ e. absurd (cc e)))
frame_bay m before s n b old f turn station laws k brought to part shows (FrameStep.busy holder q meant body
    (BusyStep.none_collected none end)) = silent_rests m before s n b old f turn _ Quiet _ k brought shows end tt tt
    (λ x other h got. other_kind n f x b _ MessageKind.busy (ap kind_of body) (λ e. absurd (cc e)))
frame_bay m before s n b old f turn station laws k brought to part shows
    (FrameStep.query meant body (QueryStep.is_over low idle end)) = silent_rests m before s n b old f turn _ Quiet _ k
    brought shows end tt tt (λ x other h got. other_kind n f x b _ MessageKind.query (ap kind_of body)
    (λ e. absurd (cc e)))
frame_bay m before s n b old f turn station laws k brought to part shows
    (FrameStep.query meant body (QueryStep.unknown_round above end)) =
    silent_rests m before s n b old f turn _ Quiet _ k
    brought shows end tt tt (λ x other h got. other_kind n f x b _ MessageKind.query (ap kind_of body)
    (λ e. absurd (cc e)))
frame_bay m before s n b old f turn station laws k brought to part shows
    (FrameStep.query meant body (QueryStep.round_under_way is end)) = silent_rests m before s n b old f turn _ Quiet _ k
    brought shows end tt tt (λ x other h got. other_kind n f x b _ MessageKind.query (ap kind_of body)
    (λ e. absurd (cc e)))
frame_bay m before s n b old f turn station laws k brought to part shows
    (FrameStep.over meant body (OverStep.unlocks_it l lock holder low end)) = silent_rests m before s n b old f turn _
    Quiet _ k brought shows end tt tt (λ x other h got. other_kind n f x b _ MessageKind.over (ap kind_of body)
    (λ e. absurd (cc e)))
frame_bay m before s n b old f turn station laws k brought to part shows
    (FrameStep.over meant body (OverStep.earlier_round l lock holder low end)) =
    silent_rests m before s n b old f turn _
    Quiet _ k brought shows end tt tt (λ x other h got. other_kind n f x b _ MessageKind.over (ap kind_of body)
    (λ e. absurd (cc e)))
frame_bay m before s n b old f turn station laws k brought to part shows
    (FrameStep.over meant body (OverStep.another_holder l lock holder end)) = silent_rests m before s n b old f turn _
    Quiet _ k brought shows end tt tt (λ x other h got. other_kind n f x b _ MessageKind.over (ap kind_of body)
    (λ e. absurd (cc e)))
frame_bay m before s n b old f turn station laws k brought to part shows
    (FrameStep.over meant body (OverStep.no_lock lock end)) = silent_rests m before s n b old f turn _ Quiet _ k brought
    shows end tt tt (λ x other h got. other_kind n f x b _ MessageKind.over (ap kind_of body) (λ e. absurd (cc e)))
