-- Two rounds at once hear nothing of each other.
use Rattle.std.proofs.Common.{◌⊎◌, ◌≡◌, ◌≢◌, ◌<◌, ℕ, zero, suc, Bool, List, [], ◌∷◌, ◌++◌, length, Option, Some, None}
use Rattle.std.proofs.Common.{Contains, refl, sym, subst, ap, ◌∙◌, inl, inr, arith}
use Rattle.std.specs.Prelude.{slice_get}
use Rattle.std.proofs.lemmas.Bool.{cases_Bool}
use Rattle.ilk_base.specs.declared.words.Dbpos.{Dbpos}
use Rattle.station_graph.specs.Diagram.{Diagram, IsStation}
use Rattle.central_rules.specs.Meaning.{Meaning, Laws, Summarises}
use Rattle.bay_frames.specs.declared.frame.Frame.{Frame}
use Rattle.bay_frames.specs.declared.frame.Body.{Body}
use Rattle.bay_frames.specs.declared.frame.Body.TheVariants.{Reserve, Answer, Busy, Query, Over}
use Rattle.bay_protocol.specs.declared.values.Grant.{Grant}
use Rattle.bay_protocol.specs.declared.values.Lock.{Lock}
use Rattle.bay_protocol.specs.declared.values.Collection.{Collection}
use Rattle.bay_protocol.specs.declared.values.Outcome.{Outcome}
use Rattle.bay_protocol.specs.declared.values.Outcome.TheVariants.{Collecting}
use Rattle.bay_protocol.specs.State.{is_another, under_way, under_way_of}
use Rattle.reservation_core.specs.Scene.{Scene, node}
use Rattle.reservation_core.specs.declared.values.WorldEvent.{WorldEvent}
use Rattle.reservation_core.specs.declared.values.WorldEvent.TheVariants.{Command, Sense, Deliver, Tick, Withdraw}
use Rattle.reservation_core.specs.declared.values.WorldEvent.TheVariants.{Restart, Begin, End, Part, Cut}
use Rattle.reservation_core.specs.declared.values.WorldOutcome.{WorldOutcome}
use Rattle.reservation_core.proofs.Keeping.{got_there}
use Rattle.reservation_core.proofs.Ways.{Way, way}
use Rattle.reservation_core.specs.Lines.{MessageKind, Line, of_bay, message, kind_of}
use Rattle.reservation_core.specs.History.{Sending, sending, round_shown, last_round}
use Rattle.reservation_core.specs.Hearing.{words_at, answers, words_told, delivered, heard_after, heard}
use Rattle.reservation_core.specs.RoundFacts.{RoundFacts}
use Rattle.reservation_core.specs.Runs.{Leads, Run}
use Rattle.reservation_core.specs.Headline.{IsUnderWay, HearNothing, AtEach}
use Rattle.log_replay.proofs.Basic.{IsAnswer, answer_tells, in_or_past}
use Rattle.log_replay.proofs.Linked.{opened}
use Rattle.log_replay.proofs.Links.{Spoken}
use Rattle.log_replay.proofs.Leading.{run_is}
use Rattle.log_replay.proofs.Others.{is_other, other_of}

-- ---- what was sent stays sent

contains_more : (xs ys : List Frame) (x : Frame) → Contains xs x → Contains (xs ++ ys) x
contains_more [] ys x (k, lt, is) = absurd (omega (arith, lt))
contains_more (y ∷ xs) ys x (zero, lt, is) = (zero, omega arith, is)
contains_more (y ∷ xs) ys x (suc k, lt, is) = let rest = contains_more xs ys x (k, omega (arith, lt), is) in
    (suc rest.0, omega (arith, rest.1), rest.2)

same_sent : (old new : Scene) (f : Frame) → new.sent ≡ old.sent → Contains old.sent f → Contains new.sent f
same_sent old new f is there = subst (λ (fs : List Frame). Contains fs f) (sym is) there

way_sent : (m : Meaning) (old new : Scene) (e : WorldEvent) (outcome : WorldOutcome) (f : Frame) →
    Way m old e new outcome → Contains old.sent f → Contains new.sent f
way_sent m old new e outcome f (Way.refused which same says) there =
    same_sent old new f (ap (λ (w : Scene). w.sent) same) there
way_sent m old new e outcome f (Way.nothing same none fits) there =
    same_sent old new f (ap (λ (w : Scene). w.sent) same) there
way_sent m old new e outcome f (Way.turns c at fair t) there = subst (λ (w : Scene). Contains w.sent f) (sym t.world)
    (contains_more old.sent t.turn.frames f there)
way_sent m old new e outcome f (Way.drives i g at running none lt has switch moved says) there =
    same_sent old new f (ap (λ (w : Scene). w.sent) moved) there
way_sent m old new e outcome f (Way.cuts i c at fair t) there = subst (λ (w : Scene). Contains w.sent f) (sym t.world)
    (contains_more old.sent t.turn.frames f there)

-- ---- what was heard was sent

-- an answer from b to c with the round that c last opened, that tells these words
pub record AnswerTo (m : Meaning) (w : Scene) (b c : ℕ) (r : Option ℕ) (words : List Dbpos) : Type 0 where
  pub frame : Frame
  pub summary : List ℕ
  pub there : Contains w.sent frame
  pub from : frame.from.0 ≡ b
  pub to : frame.to.0 ≡ c
  pub round : r ≡ Some frame.round
  pub body : frame.body ≡ Answer summary
  pub sums : Summarises m b c words summary

answer_body : (body : Body) → kind_of body ≡ MessageKind.answer → (summary : List ℕ) × (body ≡ Answer summary)
answer_body (Answer summary) is = (summary, refl)
answer_body Reserve is = absurd (cc is)
answer_body (Busy holder q) is = absurd (cc is)
answer_body Query is = absurd (cc is)
answer_body Over is = absurd (cc is)

got_at : {A : Type 0} (xs : List A) (k : ℕ) → k < length xs → (x : A) × (slice_get xs k ≡ Some x)
got_at [] k lt = absurd (omega (arith, lt))
got_at (x ∷ xs) zero lt = (x, refl)
got_at (x ∷ xs) (suc k) lt = got_at xs k (omega (arith, lt))

-- a message of the lines is a frame of the world
record SentFrame (m : Meaning) (w : Scene) (s : Sending) : Type 0 where
  number : ℕ
  frame : Frame
  there : Contains w.sent frame
  is : s.message ≡ message number frame
  words : (summary : List ℕ) → frame.body ≡ Answer summary →
      Summarises m frame.from.0 frame.to.0 (words_at m.diagram s.lines) summary

sending_frame : (m : Meaning) (lines : List Line) (w : Scene) (n : ℕ) (s : Sending) →
    Spoken m lines w → sending lines n ≡ Some s → SentFrame m w s
sending_frame m lines w zero s links is = let none = links.unsent zero (inl refl) in absurd (cc (is, none))
sending_frame m lines w (suc n) s links is = elim (in_or_past n (length w.sent)) [
  | inl lt ↦
      let it = got_at w.sent n lt in
      let b = links.sent n it.0 it.1 in
      let found : sending lines (suc n) ≡ Some (record { message = message (suc n) it.0; lines = b.at }) =
      subst (λ (k : ℕ). sending lines k ≡ Some (record { message = message k it.0; lines = b.at }))
      (omega arith) b.found in
      let e : s ≡ record { message = message (suc n) it.0; lines = b.at } = cc (is, found) in
      record {
        number = suc n;
        frame = it.0;
        there = got_there w.sent n it.0 it.1;
        is = ap (λ (x : Sending). x.message) e;
        words = λ summary body. subst (λ (x : List Line). Summarises m it.0.from.0 it.0.to.0 (words_at m.diagram x)
            summary) (sym (ap (λ (x : Sending). x.lines) e)) (b.words summary body);
      }
  | inr past ↦ let none = links.unsent (suc n) (inr (omega (arith, past))) in absurd (cc (is, none))
]

delivered_frame : (m : Meaning) (lines : List Line) (w : Scene) (e : WorldEvent) (s : Sending) →
    Spoken m lines w → delivered e lines ≡ Some s → SentFrame m w s
delivered_frame m lines w (Deliver n) s links is = sending_frame m lines w n s links is
delivered_frame m lines w (Command op) s links is = absurd (cc is)
delivered_frame m lines w (Sense i word) s links is = absurd (cc is)
delivered_frame m lines w (Tick b) s links is = absurd (cc is)
delivered_frame m lines w (Withdraw b) s links is = absurd (cc is)
delivered_frame m lines w (Restart b) s links is = absurd (cc is)
delivered_frame m lines w (Begin i) s links is = absurd (cc is)
delivered_frame m lines w (End i) s links is = absurd (cc is)
delivered_frame m lines w (Part k bytes) s links is = absurd (cc is)
delivered_frame m lines w (Cut i) s links is = absurd (cc is)

-- what a message tells
record TellsIt (d : Diagram) (b c : ℕ) (r : Option ℕ) (message_is : Option Sending) (words : List Dbpos) : Type 0 where
  sending : Sending
  is : message_is ≡ Some sending
  answer : IsAnswer sending.message b c r
  tells : words_at d sending.lines ≡ words

told_answer : (d : Diagram) (b c : ℕ) (r : Option ℕ) (x : Option Sending) (ws : List Dbpos) → words_told d x b c r
    ≡ Some ws →
    TellsIt d b c r x ws
told_answer d b c r None ws is = absurd (cc is)
told_answer d b c r (Some s) ws is = elim (cases_Bool (answers s.message b c r)) [
  | inl so ↦
      let told_so : Some (words_at d s.lines) ≡ Some ws = rw so at is in
      record { sending = s; is = refl; answer = answer_tells s.message b c r so; tells = cc told_so }
  | inr never ↦ let told_so : None ≡ Some ws = rw never at is in absurd (cc told_so)
]

-- what a line tells or leaves heard
heard_cases : (o : Outcome) (new was : Option (List Dbpos)) (ws : List Dbpos) → heard_after o new was ≡ Some ws →
    (round_shown o ≡ None) × ((new ≡ Some ws) ⊎ (was ≡ Some ws))
heard_cases (Collecting r) new was ws is = absurd (cc is)
heard_cases o None was ws is = (refl, inr is)
heard_cases o (Some new) was ws is = (refl, inl is)

heard_step : (m : Meaning) (before : List Line) (l : Line) (old : Scene) (b c : ℕ)
    (words : List Dbpos) → Spoken m before old → (heard m.diagram before c b ≡ Some words →
    AnswerTo m old b c (last_round before c) words) → heard m.diagram (l ∷ before) c b ≡ Some words →
    (round_shown (of_bay l.shown c) ≡ None) × AnswerTo m old b c (last_round before c) words
heard_step m before l old b c words links earlier is =
    let p = heard_cases (of_bay l.shown c) (words_told m.diagram (delivered l.event before) b c (last_round before c))
    (heard m.diagram before c b) words is in (
      p.0,
      elim p.1 [
        | inl new ↦
            let t = told_answer m.diagram b c (last_round before c) (delivered l.event before) words new in
            let f = delivered_frame m before old l.event t.sending links t.is in
            let a : IsAnswer (message f.number f.frame) b c (last_round before c) =
            subst (λ x. IsAnswer x b c (last_round before c)) f.is t.answer in
            let body = answer_body f.frame.body a.kind in
            record {
              frame = f.frame;
              summary = body.0;
              there = f.there;
              from = a.from;
              to = a.to;
              round = a.round;
              body = body.1;
              sums = subst (λ (x : List Dbpos). Summarises m b c x body.0) t.tells
                  (subst (λ (x : ℕ). Summarises m b x (words_at m.diagram t.sending.lines) body.0) a.to
                  (subst (λ (x : ℕ). Summarises m x f.frame.to.0 (words_at m.diagram t.sending.lines) body.0) a.from
                  (f.words body.0 body.1)));
            }
        | inr was ↦ earlier was
      ],
    )

-- what is heard after a line was sent, if what was heard before it was
pub heard_next : (m : Meaning) (before : List Line) (l : Line) (old w : Scene) (b c : ℕ) (words : List Dbpos) →
    IsStation m.diagram → RoundFacts m old → Spoken m before old → Leads m old l w →
    (heard m.diagram before c b ≡ Some words → AnswerTo m old b c (last_round before c) words) →
    heard m.diagram (l ∷ before) c b ≡ Some words → AnswerTo m w b c (last_round (l ∷ before) c) words
heard_next m before l old w b c words station facts said leads earlier is =
    let p = heard_step m before l old b c words said earlier is in
    let same : last_round (l ∷ before) c ≡ last_round before c = rw p.0 refl in
    let a = p.1 in
    record {
      frame = a.frame;
      summary = a.summary;
      there = way_sent m old w l.event leads.outcome a.frame
          (way m station old w leads.outcome facts l.event leads.range leads.happens) a.there;
      from = a.from;
      to = a.to;
      round = same ∙ a.round;
      body = a.body;
      sums = a.sums;
    }

heard_sent : (m : Meaning) (start : List Bool) (lines : List Line) (w : Scene) (b c : ℕ) (words : List Dbpos) →
    IsStation m.diagram → Laws m → Run m start lines w → heard m.diagram lines c b ≡ Some words →
    AnswerTo m w b c (last_round lines c) words
heard_sent m start [] w b c words station laws run is = absurd (cc is)
heard_sent m start (l ∷ before) w b c words station laws (old, run, leads) is =
    let was = run_is m start before old station laws run in
    heard_next m before l old w b c words station was.facts.rounds was.links.said leads
    (heard_sent m start before old b c words station laws run) is

-- what is heard at a line was sent before it
pub heard_old : (m : Meaning) (start : List Bool) (before : List Line) (l : Line) (old : Scene) (b c : ℕ)
    (words : List Dbpos) → IsStation m.diagram → Laws m → Run m start before old →
    heard m.diagram (l ∷ before) c b ≡ Some words → AnswerTo m old b c (last_round before c) words
heard_old m start before l old b c words station laws run is =
    (heard_step m before l old b c words (run_is m start before old station laws run).links.said
    (heard_sent m start before old b c words station laws run) is).1

-- ---- two rounds at once

under_some : (x : Option Collection) (y : Option Grant) → (x ≢ None) ⊎ (y ≢ None) → (q : ℕ)
    × (under_way_of x y ≡ Some q)
under_some (Some g) y some = (g.round, refl)
under_some None (Some g) some = (g.round, refl)
under_some None None (inl some) = absurd (some refl)
under_some None None (inr some) = absurd (some refl)

node_under_way : (m : Meaning) (lines : List Line) (w : Scene) (c : ℕ) → Spoken m lines w →
    IsUnderWay lines c → (q : ℕ) × (under_way (node m.diagram w c) ≡ Some q)
node_under_way m lines w c links (inl some) = under_some (node m.diagram w c).collecting
    (node m.diagram w c).granted (inl (λ none. some (sym (links.nodes c).collecting ∙ ap opened none)))
node_under_way m lines w c links (inr some) = under_some (node m.diagram w c).collecting
    (node m.diagram w c).granted (inr (λ none. some (sym (links.nodes c).granted ∙ none)))

no_round_locked : (x : Option Collection) (y : Option Grant) (q : ℕ) → x ≡ None → y ≡ None → under_way_of x y ≢ Some q
no_round_locked x y q none nothing = rw (none, nothing) (λ e. absurd (cc e))

none_collected : (x : Option Collection) (y : Option Lock) (l : Lock) → ((g : Collection) → x ≡ Some g → y ≡ None) →
    y ≡ Some l → x ≡ None
none_collected None y l none is = refl
none_collected (Some g) y l none is = let no = none g refl in absurd (cc (no, is))

none_of : (h : Option (List Dbpos)) → ((words : List Dbpos) → h ≢ Some words) → h ≡ None
none_of None never = refl
none_of (Some x) never = absurd (never x refl)

-- by what is sent: of two bays whose rounds are under way neither hears the other
pub hear_now : (m : Meaning) (lines : List Line) (w : Scene) → IsStation m.diagram → RoundFacts m w →
    Spoken m lines w → ((b c : ℕ) (words : List Dbpos) → heard m.diagram lines c b ≡ Some words →
    AnswerTo m w b c (last_round lines c) words) → HearNothing m.diagram lines
hear_now m lines w station facts said sent c d differ first second = elim (cases_Bool (is_another m.diagram c d)) [
  | inr stranger ↦ rw stranger refl
  | inl other ↦ rw other (none_of (heard m.diagram lines c d) (λ words got.
      let a = sent d c words got in
      let mine = node_under_way m lines w c said first in
      let theirs = node_under_way m lines w d said second in
      let another = is_other m.diagram c d station other in
      let last = (said.nodes c).round mine.0 mine.1 (other_of m.diagram c d another) in
      let same : Some mine.0 ≡ Some a.frame.round = sym last ∙ a.round in
      let running : under_way (node m.diagram w a.frame.to.0) ≡ Some a.frame.round =
      subst (λ (x : ℕ). under_way (node m.diagram w x) ≡ Some a.frame.round) (sym a.to) (mine.1 ∙ same) in
      let locked = subst (λ (x : ℕ). (node m.diagram w x).lock ≡ Some (record {
        holder = a.frame.to;
        round = a.frame.round;
      })) a.from (facts.locks a.frame a.summary a.there a.body running) in
      let ok = facts.rounds d another.0 in
      let fits = ok.kept.lock (record { holder = a.frame.to; round = a.frame.round }) locked in
      no_round_locked (node m.diagram w d).collecting (node m.diagram w d).granted theirs.0
      (none_collected (node m.diagram w d).collecting (node m.diagram w d).lock (record {
        holder = a.frame.to;
        round = a.frame.round;
      }) (λ g has. (ok.collecting g has).no_lock) locked) fits.alone theirs.1))
]

hear_nothing : (m : Meaning) (start : List Bool) (lines : List Line) (w : Scene) → IsStation m.diagram → Laws m →
    Run m start lines w → HearNothing m.diagram lines
hear_nothing m start lines w station laws run =
    let is = run_is m start lines w station laws run in
    hear_now m lines w station is.facts.rounds is.links.said
    (λ b c words got. heard_sent m start lines w b c words station laws run got)

-- two rounds at once hear nothing of each other
pub run_apart : (m : Meaning) (start : List Bool) (lines : List Line) (w : Scene) → IsStation m.diagram → Laws m →
    Run m start lines w → AtEach (HearNothing m.diagram) lines
run_apart m start [] w station laws run = hear_nothing m start [] w station laws run
run_apart m start (l ∷ before) w station laws run = (
  hear_nothing m start (l ∷ before) w station laws run,
  run_apart m start before run.0 station laws run.1,
)
