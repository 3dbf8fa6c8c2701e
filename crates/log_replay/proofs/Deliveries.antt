-- A turn of a node is what the lines say after it: a delivery.
use Rattle.std.proofs.Common.{◌≡◌, ◌≢◌, ◌<◌, ℕ, true, false, cond, List, [], length, get_or, set, Option, Some, None}
use Rattle.std.proofs.Common.{Contains, refl, sym, subst, ap, ◌∙◌, inl, inr, arith, get_or-set_same, get_or-set_other}
use Rattle.std.proofs.lemmas.Bool.Decides.{eqb_tells}
use Rattle.ilk_base.specs.declared.words.BayId.{BayId}
use Rattle.central_rules.specs.Meaning.{Meaning, Summarises, IsBay}
use Rattle.bay_frames.specs.declared.frame.Frame.{Frame}
use Rattle.bay_frames.specs.declared.frame.Body.TheVariants.{Reserve, Answer, Busy, Query, Over}
use Rattle.bay_protocol.specs.declared.values.Collection.{Collection}
use Rattle.bay_protocol.specs.declared.values.Outcome.TheVariants.{BusyBy, Quiet}
use Rattle.bay_protocol.specs.Sends.{frame, overs}
use Rattle.bay_protocol.specs.State.{State, IsOther, AllHeard, is_another, others, collects, drops, locks, unlocks}
use Rattle.bay_protocol.specs.State.{hears}
use Rattle.bay_protocol.specs.Step.{Turn, StepEnds, ReserveStep, AnswerStep, BusyStep, QueryStep, OverStep, FrameStep}
use Rattle.bay_protocol.proofs.Others.{another_yes, another_no}
use Rattle.reservation_core.specs.Lines.{MessageKind, Line, message, kind_of}
use Rattle.reservation_core.specs.History.{or_else, sending, last_round}
use Rattle.reservation_core.specs.Hearing.{words_at, words_told, heard}
use Rattle.reservation_core.specs.declared.values.WorldEvent.TheVariants.{Deliver}
use Rattle.log_replay.proofs.Basic.{one_frame, IsAnswer, answer_is, told_nothing}
use Rattle.log_replay.proofs.Linked.{opened, HeardIs, stays, tells_nothing}
use Rattle.log_replay.proofs.Others.{missing_some}
use Rattle.log_replay.proofs.TurnParts.{Before, TurnIs, by_ends, nothing_sent, one_sent, each_sent, decided_turn}
use Rattle.log_replay.proofs.TurnParts.{no_round, own_known}
use Rattle.log_replay.proofs.Turns.{last_opened}

-- the message that is delivered, where it was sent, and what it tells
pub record Brought (m : Meaning) (before : List Line) (n : ℕ) (f : Frame) : Type 0 where
  pub at : List Line
  pub found : sending before n ≡ Some (record { message = message n f; lines = at })
  pub words : (summary : List ℕ) → f.body ≡ Answer summary →
      Summarises m f.from.0 f.to.0 (words_at m.diagram at) summary

-- a delivery that tells the bay nothing
still_delivery : (m : Meaning) (before : List Line) (n b : ℕ) (s new : State) (f : Frame) (fs : List Frame)
    (turn : Turn) → Before m before b s → Brought m before n f → ((x : ℕ) → is_another m.diagram b x ≡ true →
    (g : Collection) → s.collecting ≡ Some g → ¬ IsAnswer (message n f) x b (last_round before b)) →
    new.collecting ≡ s.collecting → new.granted ≡ s.granted → new.words ≡ s.words → StepEnds turn new Quiet fs →
    ((h : Frame) (summary : List ℕ) → Contains fs h → h.body ≡ Answer summary → (h.from.0 ≡ b)
    × Summarises m b h.to.0 s.words summary) → TurnIs m before b (Deliver n) turn
still_delivery m before n b s new f fs turn k brought never x y w end tells =
    by_ends (TurnIs m before b (Deliver n)) turn new Quiet fs end (record {
      node = rw (x, y, w) (stays m before (Deliver n) b s.collecting s.granted s.words k.is tt
          (λ g has. tells_nothing m.diagram before n b (record { message = message n f; lines = brought.at })
          brought.found (λ c other. never c other g has)));
      tells = rw w tells;
    })

-- a message of another kind is no answer
pub other_kind : (n : ℕ) (f : Frame) (x b : ℕ) (r : Option ℕ) (kind : MessageKind) → kind_of f.body ≡ kind →
    (MessageKind.answer ≡ kind → ⊥) → ¬ IsAnswer (message n f) x b r
other_kind n f x b r kind is differ a = differ (sym a.kind ∙ is)

reserve_turn : (m : Meaning) (before : List Line) (n b : ℕ) (s : State) (f : Frame) (turn : Turn) →
    Before m before b s → Brought m before n f → f.body ≡ Reserve → ReserveStep m s f.from.0 f.round turn →
    TurnIs m before b (Deliver n) turn
reserve_turn m before n b s f turn k brought body (ReserveStep.busy_itself q is end) =
    still_delivery m before n b s s f _ turn k brought (λ x other g has. other_kind n f x b _ MessageKind.reserve
    (ap kind_of body) (λ e. absurd (cc e))) refl refl refl end
    (one_sent m b s.words (frame s.bay f.from.0 f.round (Busy (record { 0 = s.bay }) q)) tt)
reserve_turn m before n b s f turn k brought body (ReserveStep.busy_locked l is lock differ end) =
    still_delivery m before n b s s f _ turn k brought (λ x other g has. other_kind n f x b _ MessageKind.reserve
    (ap kind_of body) (λ e. absurd (cc e))) refl refl refl end
    (one_sent m b s.words (frame s.bay f.from.0 f.round (Busy l.holder l.round)) tt)
reserve_turn m before n b s f turn k brought body (ReserveStep.late l is lock same above end) =
    still_delivery m before n b s s f _ turn k brought (λ x other g has. other_kind n f x b _ MessageKind.reserve
    (ap kind_of body) (λ e. absurd (cc e))) refl refl refl end (nothing_sent m b s.words)
reserve_turn m before n b s f turn k brought body (ReserveStep.answers idle may a) =
    still_delivery m before n b s (locks s f.from.0 f.round) f _ turn k brought (λ x other g has. other_kind n f x b _
    MessageKind.reserve (ap kind_of body) (λ e. absurd (cc e))) refl refl refl a.end
    (λ h given there is.
    let e : frame s.bay f.from.0 f.round (Answer a.summary) ≡ h =
    one_frame (frame s.bay f.from.0 f.round (Answer a.summary)) h there in
    let same : Answer a.summary ≡ Answer given = ap (λ (y : Frame). y.body) e ∙ is in
    let sum : a.summary ≡ given = cc same in (
      sym (ap (λ (y : Frame). y.from.0) e) ∙ k.name,
      subst (λ (y : Frame). Summarises m b y.to.0 s.words given) e
          (subst (λ (y : List ℕ). Summarises m b f.from.0 s.words y) sum
          (subst (λ (y : ℕ). Summarises m y f.from.0 s.words a.summary) k.name a.of_words)),
    ))

busy_turn : (m : Meaning) (before : List Line) (n b : ℕ) (s : State) (f : Frame) (holder : BayId) (q : ℕ)
    (turn : Turn) → Before m before b s → Brought m before n f → f.body ≡ Busy holder q →
    BusyStep m.diagram s f.from.0 f.round holder q turn → TurnIs m before b (Deliver n) turn
busy_turn m before n b s f holder q turn k brought body (BusyStep.gives_up g has round end) =
    let none : s.granted ≡ None = (k.sound.collecting g has).no_grant in
    by_ends (TurnIs m before b (Deliver n)) turn (drops s) (BusyBy f.round (record { 0 = f.from.0 }) holder q)
    (overs m.diagram s f.round) end (record {
      node = record {
        granted = k.is.granted;
        collecting = refl;
        read = k.is.read;
        last = k.is.last;
        round = λ p is some. absurd (no_round s.granted p none is);
        heard = λ h x got. absurd (cc got);
        missing = λ h got. absurd (cc got);
      };
      tells = each_sent m b s.words s.bay f.round Over (others m.diagram s.bay) tt;
    })
busy_turn m before n b s f holder q turn k brought body (BusyStep.other_round g has round end) =
    still_delivery m before n b s s f _ turn k brought (λ x other h got. other_kind n f x b _ MessageKind.busy
    (ap kind_of body) (λ e. absurd (cc e))) refl refl refl end (nothing_sent m b s.words)
busy_turn m before n b s f holder q turn k brought body (BusyStep.none_collected none end) =
    still_delivery m before n b s s f _ turn k brought (λ x other h got. other_kind n f x b _ MessageKind.busy
    (ap kind_of body) (λ e. absurd (cc e))) refl refl refl end (nothing_sent m b s.words)

query_turn : (m : Meaning) (before : List Line) (n b : ℕ) (s : State) (f : Frame) (turn : Turn) → Before m before b s →
    Brought m before n f → f.body ≡ Query → QueryStep s f.from.0 f.round turn → TurnIs m before b (Deliver n) turn
query_turn m before n b s f turn k brought body (QueryStep.is_over low idle end) =
    still_delivery m before n b s s f _ turn k brought (λ x other h got. other_kind n f x b _ MessageKind.query
    (ap kind_of body) (λ e. absurd (cc e))) refl refl refl end
    (one_sent m b s.words (frame s.bay f.from.0 f.round Over) tt)
query_turn m before n b s f turn k brought body (QueryStep.unknown_round above end) =
    still_delivery m before n b s s f _ turn k brought (λ x other h got. other_kind n f x b _ MessageKind.query
    (ap kind_of body) (λ e. absurd (cc e))) refl refl refl end (nothing_sent m b s.words)
query_turn m before n b s f turn k brought body (QueryStep.round_under_way is end) =
    still_delivery m before n b s s f _ turn k brought (λ x other h got. other_kind n f x b _ MessageKind.query
    (ap kind_of body) (λ e. absurd (cc e))) refl refl refl end (nothing_sent m b s.words)

over_turn : (m : Meaning) (before : List Line) (n b : ℕ) (s : State) (f : Frame) (turn : Turn) → Before m before b s →
    Brought m before n f → f.body ≡ Over → OverStep s f.from.0 f.round turn → TurnIs m before b (Deliver n) turn
over_turn m before n b s f turn k brought body (OverStep.unlocks_it l lock holder low end) =
    still_delivery m before n b s (unlocks s) f _ turn k brought (λ x other h got. other_kind n f x b _ MessageKind.over
    (ap kind_of body) (λ e. absurd (cc e))) refl refl refl end (nothing_sent m b s.words)
over_turn m before n b s f turn k brought body (OverStep.earlier_round l lock holder low end) =
    still_delivery m before n b s s f _ turn k brought (λ x other h got. other_kind n f x b _ MessageKind.over
    (ap kind_of body) (λ e. absurd (cc e))) refl refl refl end (nothing_sent m b s.words)
over_turn m before n b s f turn k brought body (OverStep.another_holder l lock holder end) =
    still_delivery m before n b s s f _ turn k brought (λ x other h got. other_kind n f x b _ MessageKind.over
    (ap kind_of body) (λ e. absurd (cc e))) refl refl refl end (nothing_sent m b s.words)
over_turn m before n b s f turn k brought body (OverStep.no_lock lock end) =
    still_delivery m before n b s s f _ turn k brought (λ x other h got. other_kind n f x b _ MessageKind.over
    (ap kind_of body) (λ e. absurd (cc e))) refl refl refl end (nothing_sent m b s.words)

-- ---- an answer

-- what was heard and what the lines say that was heard, with one answer more
pub hears_it : (m : Meaning) (before : List Line) (n b : ℕ) (s : State) (g : Collection) (f : Frame)
    (summary : List ℕ) → Before m before b s → Brought m before n f → s.collecting ≡ Some g → f.to.0 ≡ b →
    IsBay m.diagram f.from.0 → IsOther m.diagram b f.from.0 → others m.diagram b ≢ [] → f.body ≡ Answer summary →
    g.round ≡ f.round → (x : ℕ) → HeardIs m x b (get_or (set g.heard f.from.0 (Some summary)) x None)
    (cond (is_another m.diagram b x) (or_else (words_told m.diagram (sending before n) x b (last_round before b))
    (heard m.diagram before b x)) None)
hears_it m before n b s g f summary k brought has to part other some body round x =
    let opened_last : last_round before b ≡ Some f.round = last_opened m before b s g k has some
    ∙ ap (λ (r : ℕ). Some r) round in
    let long : f.from.0 < length g.heard = omega (arith, part.0, (k.sound.collecting g has).places) in
    elim (eqb_tells f.from.0 x) [
      | inl p ↦
          let yes_it : words_told m.diagram (sending before n) f.from.0 b (last_round before b) ≡ Some
          (words_at m.diagram brought.at) =
          rw brought.found (rw (answer_is (message n f) f.from.0 b (last_round before b)
          (record { kind = ap kind_of body; from = refl; to = to; round = opened_last })) refl) in
          subst (λ (y : ℕ). HeardIs m y b (get_or (set g.heard f.from.0 (Some summary)) y None)
          (cond (is_another m.diagram b y) (or_else (words_told m.diagram (sending before n) y b (last_round before b))
          (heard m.diagram before b y)) None)) p.1
          (rw (
            get_or-set_same g.heard f.from.0 (Some summary) None long,
            another_yes m.diagram b f.from.0 other,
            yes_it,
          ) (subst (λ (y : ℕ). Summarises m f.from.0 y (words_at m.diagram brought.at) summary) to
          (brought.words summary body)))
      | inr p ↦
          let none_it : words_told m.diagram (sending before n) x b (last_round before b) ≡ None =
          rw brought.found (told_nothing m.diagram (record { message = message n f; lines = brought.at }) x b
          (last_round before b) (λ a. p.1 a.from)) in
          rw (get_or-set_other g.heard f.from.0 x (Some summary) None (λ same. p.1 (sym same)), none_it)
          (k.is.heard g x has)
    ]

answer_turn : (m : Meaning) (before : List Line) (n b : ℕ) (s : State) (f : Frame) (summary : List ℕ) (turn : Turn) →
    Before m before b s → Brought m before n f → f.to.0 ≡ b → IsBay m.diagram f.from.0 →
    IsOther m.diagram s.bay f.from.0 → f.body ≡ Answer summary →
    AnswerStep m m.diagram s f.from.0 f.round summary turn →
    TurnIs m before b (Deliver n) turn
answer_turn m before n b s f summary turn k brought to part other body (AnswerStep.heard_one g has round fits all end) =
    let some = missing_some m.diagram b g.heard (k.is.missing g has) in
    let other_b : IsOther m.diagram b f.from.0 = subst (λ (x : ℕ). IsOther m.diagram x f.from.0) k.name other in
    by_ends (TurnIs m before b (Deliver n)) turn (collects s s.highest (hears g f.from.0 summary)) Quiet []
    end (record {
      node = record {
        granted = k.is.granted;
        collecting = ap opened (sym has) ∙ k.is.collecting;
        read = k.is.read;
        last = k.is.last;
        round = λ q is more. last_opened m before b s g k has more ∙ is;
        heard = λ h x got.
            let e : hears g f.from.0 summary ≡ h = cc got in
            subst (λ (y : Collection). HeardIs m x b (get_or y.heard x None) (cond (is_another m.diagram b x)
            (or_else (words_told m.diagram (sending before n) x b (last_round before b))
            (heard m.diagram before b x)) None)) e
            (hears_it m before n b s g f summary k brought has to part other_b some body round x);
        missing = λ h got.
            let e : hears g f.from.0 summary ≡ h = cc got in
            subst (λ (y : Collection). ¬ AllHeard m.diagram b y.heard) e
            (subst (λ (x : ℕ). ¬ AllHeard m.diagram x (hears g f.from.0 summary).heard) k.name all);
      };
      tells = nothing_sent m b s.words;
    })
answer_turn m before n b s f summary turn k brought to part other body (AnswerStep.heard_last g has round fits
    all deciding) =
    decided_turn m before b (collects s s.highest (hears g f.from.0 summary)) (hears g f.from.0 summary) (Deliver n)
    turn (record {
      name = k.name;
      granted = k.is.granted;
      none = (k.sound.collecting g has).no_grant;
      read = k.is.read;
      long = k.sound.words;
      known = own_known m s g k.sound has;
      round = last_opened m before b s g k has;
      harmless = tt;
    }) deciding
answer_turn m before n b s f summary turn k brought to part other body (AnswerStep.unfit g has round fits end) =
    absurd (fits (subst (λ (x : ℕ). m.Fits f.from.0 x summary) (to ∙ sym k.name) (brought.words summary body).fits))
answer_turn m before n b s f summary turn k brought to part other body (AnswerStep.other_round g has round end) =
    still_delivery m before n b s s f _ turn k brought (λ x is h got a.
    let some = missing_some m.diagram b g.heard (k.is.missing g has) in
    let same : Some f.round ≡ Some g.round = sym a.round ∙ last_opened m before b s g k has some in
    let e : g.round ≡ f.round = cc same in
    round e) refl refl refl end (nothing_sent m b s.words)
answer_turn m before n b s f summary turn k brought to part other body (AnswerStep.none_collected none end) =
    still_delivery m before n b s s f _ turn k brought (λ x is h got a. absurd (cc (got, none))) refl refl refl end
    (nothing_sent m b s.words)

pub frame_turn : (m : Meaning) (before : List Line) (n b : ℕ) (s : State) (f : Frame) (turn : Turn) →
    Before m before b s → Brought m before n f → f.to.0 ≡ b → IsBay m.diagram f.from.0 →
    FrameStep m m.diagram s f turn →
    TurnIs m before b (Deliver n) turn
frame_turn m before n b s f turn k brought to part (FrameStep.elsewhere differ end) = absurd (differ (to ∙ sym k.name))
frame_turn m before n b s f turn k brought to part (FrameStep.stranger differ end) =
    still_delivery m before n b s s f _ turn k brought (λ x other h got a.
    let strange : is_another m.diagram b x ≡ false = subst (λ (y : ℕ). is_another m.diagram y x ≡ false) k.name
    (subst (λ (y : ℕ). is_another m.diagram s.bay y ≡ false) a.from
    (another_no m.diagram s.bay f.from.0 part.0 differ)) in
    absurd (cc (other, strange))) refl refl refl end (nothing_sent m b s.words)
frame_turn m before n b s f turn k brought to part (FrameStep.reserve meant body step) =
    reserve_turn m before n b s f turn k brought body step
frame_turn m before n b s f turn k brought to part (FrameStep.answer summary meant body step) =
    answer_turn m before n b s f summary turn k brought to part meant.other body step
frame_turn m before n b s f turn k brought to part (FrameStep.busy holder q meant body step) =
    busy_turn m before n b s f holder q turn k brought body step
frame_turn m before n b s f turn k brought to part (FrameStep.query meant body step) =
    query_turn m before n b s f turn k brought body step
frame_turn m before n b s f turn k brought to part (FrameStep.over meant body step) =
    over_turn m before n b s f turn k brought body step
