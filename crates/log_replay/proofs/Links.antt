-- The scene after the lines of a run is what the lines say.
use Rattle.std.proofs.Common.{◌⊎◌, ◌≡◌, ◌≢◌, ◌+◌, ◌-◌, ◌<◌, ◌==◌, ℕ, zero, suc, Bool, cond, List, [], ◌∷◌, ◌++◌}
use Rattle.std.proofs.Common.{length, get_or, set, Option, Some, None, Contains, refl, sym, subst, ap, ◌∙◌, inl, inr}
use Rattle.std.proofs.Common.{arith, get_or-set_same, get_or-set_other}
use Rattle.std.specs.Prelude.{slice_get, unwrap_or}
use Rattle.std.proofs.lemmas.Bool.Decides.{eqb_tells}
use Rattle.std.proofs.lemmas.Option.{slice_get-get_or}
use Rattle.ilk_base.specs.declared.words.Dbpos.{Dbpos}
use Rattle.ilk_base.specs.declared.words.Dbpos.TheVariants.{Lost}
use Rattle.double_points.specs.Words.{Agrees, BayAgrees}
use Rattle.central_rules.specs.Knowledge.{StandsAlike}
use Rattle.central_rules.specs.Meaning.{Meaning, Summarises, IsBay, bay_of}
use Rattle.bay_frames.specs.declared.frame.Frame.{Frame}
use Rattle.bay_protocol.specs.declared.values.Grant.{Grant}
use Rattle.bay_protocol.specs.declared.values.Collection.{Collection}
use Rattle.bay_protocol.specs.declared.values.Outcome.{Outcome}
use Rattle.bay_protocol.specs.declared.values.Outcome.TheVariants.{Quiet}
use Rattle.bay_protocol.specs.State.{State}
use Rattle.bay_protocol.specs.Step.{Turn}
use Rattle.reservation_core.specs.Scene.{Scene, node, new_node, at_node, posts, true_at, runs}
use Rattle.reservation_core.specs.RoundFacts.{RoundFacts}
use Rattle.reservation_core.specs.Start.{IsStart}
use Rattle.reservation_core.specs.Happens.{Tells, IsStoppedBy, IsUnsent, no_turn}
use Rattle.reservation_core.specs.declared.values.Which.{Which}
use Rattle.reservation_core.specs.declared.values.WorldOutcome.{WorldOutcome}
use Rattle.reservation_core.specs.declared.values.WorldOutcome.TheVariants.{Premise, Drive, Node}
use Rattle.reservation_core.specs.Lines.{Line, Message, Shown, message, messages, shown, of_bay}
use Rattle.reservation_core.specs.History.{true_after, drive_runs, reading_at, with_number, sending}
use Rattle.reservation_core.specs.Hearing.{words_at}
use Rattle.reservation_core.specs.Runs.{ShowsNothing, Shows}
use Rattle.reservation_core.proofs.Rounds.{get_lost}
use Rattle.reservation_core.proofs.Nodes.{each_node, node_here}
use Rattle.reservation_core.proofs.AlikeNotes.{got_or, switch_of, granted_bay}
use Rattle.log_replay.proofs.ShownBays.{shown_is}
use Rattle.log_replay.proofs.Basic.{in_or_past, get_listed, length_listed, number_before}
use Rattle.log_replay.proofs.Basic.{number_after, number_at}
use Rattle.log_replay.proofs.Linked.{NodeIs, NodeAfter, Harmless, TellsNothing, node_is, stays}
use Rattle.log_replay.proofs.TurnParts.{TurnIs}
use Rattle.log_replay.proofs.Deliveries.{Brought}

-- the nodes and the messages are what the lines say
pub record Spoken (m : Meaning) (lines : List Line) (w : Scene) : Type 0 where
  pub nodes : (c : ℕ) → NodeIs m lines c (node m.diagram w c).collecting (node m.diagram w c).granted
      (node m.diagram w c).words
  pub sent : (k : ℕ) (f : Frame) → slice_get w.sent k ≡ Some f → Brought m lines (k + 1) f
  pub unsent : (n : ℕ) → IsUnsent w n → sending lines n ≡ None

-- and the true positions and the drives
pub record Linked (m : Meaning) (start : List Bool) (lines : List Line) (w : Scene) : Type 0 where
  pub truth : (i : ℕ) → i < length m.diagram.switches → true_at w.truth i ≡ true_after m.diagram start lines i
  pub drives : (i : ℕ) → i < length m.diagram.switches → runs w.drives i ≡ drive_runs lines i
  pub said : Spoken m lines w
  pub open said use *

-- ---- lists

get_append : {A : Type 0} (xs ys : List A) (k : ℕ) → k < length xs → slice_get (xs ++ ys) k ≡ slice_get xs k
get_append [] ys k lt = absurd (omega (arith, lt))
get_append (x ∷ xs) ys zero lt = refl
get_append (x ∷ xs) ys (suc k) lt = get_append xs ys k (omega (arith, lt))

pub get_appended : {A : Type 0} (xs ys : List A) (k j : ℕ) → k ≡ length xs + j → slice_get (xs ++ ys) k ≡ slice_get ys j
get_appended [] ys k j is = let e : k ≡ j = omega (arith, is) in ap (λ n. slice_get ys n) e
get_appended (x ∷ xs) ys zero j is = absurd (omega (arith, is))
get_appended (x ∷ xs) ys (suc k) j is = get_appended xs ys k j (omega (arith, is))

length_append : {A : Type 0} (xs ys : List A) → length (xs ++ ys) ≡ length xs + length ys
length_append [] ys = omega arith
length_append (x ∷ xs) ys = let e = length_append xs ys in omega (arith, e)

get_contains : {A : Type 0} (xs : List A) (k : ℕ) (x : A) → slice_get xs k ≡ Some x → Contains xs x
get_contains [] k x got = absurd (cc got)
get_contains (y ∷ xs) zero x got = let e : y ≡ x = cc got in (zero, omega arith, e)
get_contains (y ∷ xs) (suc k) x got = let rest = get_contains xs k x got in (suc rest.0, omega (arith, rest.1), rest.2)

pub put_is : {A : Type 0} (xs : List A) (i j : ℕ) (x d : A) → i < length xs → get_or (set xs i x) j d ≡ cond (i == j) x
    (get_or xs j d)
put_is xs i j x d lt = elim (eqb_tells i j) [
  | inl p ↦ rw p.0 (subst (λ (k : ℕ). get_or (set xs i x) k d ≡ x) p.1 (get_or-set_same xs i x d lt))
  | inr p ↦ rw p.0 (get_or-set_other xs i j x d (λ is. p.1 (sym is)))
]

-- ---- the start

new_is : (m : Meaning) (c : ℕ) (s : State) → s ≡ new_node m.diagram c → NodeIs m [] c s.collecting s.granted s.words
new_is m c s is = subst (λ (x : State). NodeIs m [] c x.collecting x.granted x.words) (sym is) (record {
  granted = refl;
  collecting = refl;
  read = λ i lt at. get_lost (length m.diagram.switches) i;
  last = λ g has. absurd (cc has);
  round = λ q has. absurd (cc has);
  heard = λ g b has. absurd (cc has);
  missing = λ g has. absurd (cc has);
})

fresh_at : (xs : List (Option State)) (c : ℕ) (n : State) → ((s : State) → slice_get xs c ≡ Some (Some s) → s ≡ n) →
    unwrap_or (get_or xs c None) n ≡ n
fresh_at [] c n each = refl
fresh_at (None ∷ xs) zero n each = refl
fresh_at (Some s ∷ xs) zero n each = each s refl
fresh_at (x ∷ xs) (suc c) n each = fresh_at xs c n each

start_spoken : (m : Meaning) (start : List Bool) (w : Scene) → IsStart m.diagram start w → Spoken m [] w
start_spoken m start w is = record {
  nodes = λ c. new_is m c (node m.diagram w c) (fresh_at w.nodes c (new_node m.diagram c)
      (λ s got. (is.nodes.each c (Some s) got).1));
  sent = λ k f got. let none : slice_get w.sent k ≡ None = rw is.sent refl in absurd (cc (got, none));
  unsent = λ n is. refl;
}

pub start_linked : (m : Meaning) (start : List Bool) (w : Scene) → IsStart m.diagram start w → Linked m start [] w
start_linked m start w is = record { truth = is.stands; drives = is.still; said = start_spoken m start w is }

-- ---- a step of a node

-- other words that say the same of bay b agree with the same vectors
pub agree_same : (m : Meaning) (b : ℕ) (words other : List Dbpos) (v : List Bool) →
    length words ≡ length m.diagram.switches → ((i : ℕ) → i < length m.diagram.switches → bay_of m.diagram i ≡ b →
    get_or words i Lost ≡ get_or other i Lost) → BayAgrees m.diagram b words v → BayAgrees m.diagram b other v
agree_same m b words other v long same agrees i word closed own at_word at_v =
    let is = switch_of m b i own in
    let at : slice_get words i ≡ Some (get_or words i Lost) =
    slice_get-get_or words i Lost (omega (arith, is.0, long)) in
    subst (λ (w : Dbpos). Agrees w closed) (same i is.0 is.1 ∙ got_or other i word Lost at_word)
    (agrees i (get_or words i Lost) closed own at at_v)

stands_same : (m : Meaning) (b : ℕ) (words other : List Dbpos) (v : List Bool) →
    length words ≡ length m.diagram.switches → ((i : ℕ) → i < length m.diagram.switches → bay_of m.diagram i ≡ b →
    get_or words i Lost ≡ get_or other i Lost) → StandsAlike m.diagram b words v → StandsAlike m.diagram b other v
stands_same m b words other v long same a = record {
  position = a.position;
  whole = a.whole;
  agrees = agree_same m b words other a.position long same a.agrees;
  alike = a.alike;
}

sums_same : (m : Meaning) (b to : ℕ) (words other : List Dbpos) (s : List ℕ) →
    length words ≡ length m.diagram.switches → length other ≡ length m.diagram.switches →
    ((i : ℕ) → i < length m.diagram.switches → bay_of m.diagram i ≡ b → get_or words i Lost ≡ get_or other i Lost) →
    Summarises m b to words s → Summarises m b to other s
sums_same m b to words other s long more same sums = record {
  fits = sums.fits;
  each = λ v whole agrees. sums.each v whole (agree_same m b other words v more (λ i lt is. sym (same i lt is)) agrees);
  no_more = elim sums.no_more [
    | inl silent ↦ inl silent
    | inr allows ↦ inr (λ v whole allowed. stands_same m b words other v long same (allows v whole allowed))
  ];
}

pub grant_own : (m : Meaning) (w : Scene) (c : ℕ) (g : Grant) → RoundFacts m w → (node m.diagram w c).granted ≡ Some g →
    bay_of m.diagram g.op.switch.0 ≡ c
grant_own m w c g facts has =
    let ok = facts.rounds c (granted_bay m w c g facts has) in
    (switch_of m (node m.diagram w c).bay g.op.switch.0 (ok.kept.granted g has).own).1 ∙ facts.shape.named c

collecting_there : (xs : List (Option State)) (c : ℕ) (n : State) (g : Collection) → n.collecting ≡ None →
    (unwrap_or (get_or xs c None) n).collecting ≡ Some g → (s : State) × (slice_get xs c ≡ Some (Some s))
collecting_there [] c n g free is = absurd (cc (free, is))
collecting_there (None ∷ xs) zero n g free is = absurd (cc (free, is))
collecting_there (Some s ∷ xs) zero n g free is = (s, refl)
collecting_there (x ∷ xs) (suc c) n g free is = collecting_there xs c n g free is

-- a node that collects a round is that of a bay
pub collecting_bay : (m : Meaning) (w : Scene) (c : ℕ) (g : Collection) → RoundFacts m w →
    (node m.diagram w c).collecting ≡ Some g → IsBay m.diagram c
collecting_bay m w c g rounds has = let s = collecting_there w.nodes c (new_node m.diagram c) g refl has in
    rounds.shape.only c s.0 s.1

-- what is shown of a turn of node b
pub record TurnShown (count b : ℕ) (turn : Turn) (s : Shown) : Type 0 where
  pub own : of_bay s b ≡ shown turn.outcome
  pub other : (c : ℕ) → c ≢ b → of_bay s c ≡ Quiet
  pub bay : (x : Message) → Contains s.messages x → s.bay ≡ b
  pub outcome : s.outcome ≡ shown turn.outcome
  pub messages : s.messages ≡ messages (count + 1) turn.frames

pub turn_shown : (count b : ℕ) (old : State) (turn : Turn) (outcome : WorldOutcome) (s : Shown) →
    Tells count b old turn outcome → Shows outcome s → TurnShown count b turn s
turn_shown count b old turn (Node bay first output) s tells shows =
    let it = shown_is bay.0 (shown output.outcome) (messages first output.frames) s shows in
    record {
      own = subst (λ (x : ℕ). of_bay s x ≡ shown turn.outcome) tells.0 (it.own ∙ ap shown tells.2);
      other = λ c differ. it.other c (λ e. differ (e ∙ tells.0));
      bay = λ x there. it.bay x there ∙ tells.0;
      outcome = ap (λ (x : Shown). x.outcome) shows ∙ ap shown tells.2;
      messages = ap (λ (x : Shown). x.messages) shows ∙ ap (λ (k : ℕ). messages k output.frames) tells.1
          ∙ ap (λ (fs : List Frame). messages (count + 1) fs) tells.3;
    }
turn_shown count b old turn (Premise which) s tells shows = absurd tells
turn_shown count b old turn Drive s tells shows = absurd tells

pub quiet_shown : (count b : ℕ) (old : State) (outcome : WorldOutcome) (s : Shown) →
    Tells count b old (no_turn old) outcome → Shows outcome s → ShowsNothing s
quiet_shown count b old (Node bay first output) s quiet shows = record {
  outcome = ap (λ (x : Shown). x.outcome) shows ∙ ap shown quiet.2;
  messages = ap (λ (x : Shown). x.messages) shows ∙ ap (λ (fs : List Frame). messages first fs) quiet.3;
}
quiet_shown count b old (Premise which) s quiet shows = absurd quiet
quiet_shown count b old Drive s quiet shows = absurd quiet

pub not_refused : (old new : Scene) (outcome : WorldOutcome) (which : Which) (s : Shown) →
    IsStoppedBy old new outcome which → Shows outcome s → ⊥
not_refused old new outcome which s refused shows = subst (λ (x : WorldOutcome). Shows x s) refused.says shows

pub drive_shown : (new after : Scene) (outcome : WorldOutcome) (s : Shown) → outcome ≡ Drive → Shows outcome s →
    ShowsNothing s
drive_shown new after outcome s says shows = subst (λ (x : WorldOutcome). Shows x s) says shows

-- the number of a message that is sent is no earlier one
old_sending : (before : List Line) (l : Line) (count n : ℕ) (fs : List Frame) →
    l.shown.messages ≡ messages (count + 1) fs → n < count + 1 → sending (l ∷ before) n ≡ sending before n
old_sending before l count n fs is lt = rw (is, number_before n (count + 1) fs lt) refl

-- the nodes after a turn of node b
pub record TurnOf (m : Meaning) (before : List Line) (old : Scene) (l : Line) (b : ℕ) (turn : Turn) : Type 0 where
  pub bay : IsBay m.diagram b
  pub within : b < length old.nodes
  pub shows : TurnShown (length old.sent) b turn l.shown
  pub is : TurnIs m before b l.event turn
  pub harmless : (c : ℕ) → c ≢ b → Harmless m.diagram l.event c
  pub silent : (c : ℕ) → c ≢ b → TellsNothing m.diagram before l.event c

turn_node : (m : Meaning) (before : List Line) (old : Scene) (l : Line) (b : ℕ) (turn : Turn) →
    ((c : ℕ) → NodeIs m before c (node m.diagram old c).collecting (node m.diagram old c).granted
    (node m.diagram old c).words) → RoundFacts m (posts (at_node old b turn.new) turn.frames) →
    TurnOf m before old l b turn → (c : ℕ) →
    NodeIs m (l ∷ before) c (node m.diagram (at_node old b turn.new) c).collecting
    (node m.diagram (at_node old b turn.new) c).granted (node m.diagram (at_node old b turn.new) c).words
turn_node m before old l b turn nodes facts t c =
    each_node m.diagram old b turn.new (λ x n. ((g : Grant) → n.granted ≡ Some g → bay_of m.diagram g.op.switch.0 ≡ x) →
    NodeIs m (l ∷ before) x n.collecting n.granted n.words) t.within
    (λ own. node_is m l before b turn.new.collecting turn.new.granted turn.new.words
    (subst (λ (o : Outcome). NodeAfter m before b turn.new.collecting turn.new.granted turn.new.words o l.event)
    (sym t.shows.own) t.is.node) own)
    (λ x other own. node_is m l before x (node m.diagram old x).collecting (node m.diagram old x).granted
    (node m.diagram old x).words
    (subst (λ (o : Outcome). NodeAfter m before x (node m.diagram old x).collecting (node m.diagram old x).granted
    (node m.diagram old x).words o l.event)
    (sym (t.shows.other x other))
    (stays m before l.event x (node m.diagram old x).collecting (node m.diagram old x).granted
    (node m.diagram old x).words (nodes x) (t.harmless x other) (λ g has. t.silent x other))) own)
    c (λ g has. grant_own m (posts (at_node old b turn.new) turn.frames) c g facts has)

turn_sent : (m : Meaning) (before : List Line) (old : Scene) (l : Line) (b : ℕ) (turn : Turn) →
    length turn.new.words ≡ length m.diagram.switches → ((k : ℕ) (f : Frame) → slice_get old.sent k ≡ Some f →
    Brought m before (k + 1) f) → NodeIs m (l ∷ before) b turn.new.collecting turn.new.granted turn.new.words →
    TurnOf m before old l b turn → (k : ℕ) (f : Frame) → slice_get (old.sent ++ turn.frames) k ≡ Some f →
    Brought m (l ∷ before) (k + 1) f
turn_sent m before old l b turn long sent is t k f got = elim (in_or_past k (length old.sent)) [
  | inl lt ↦
      let was = sent k f (sym (get_append old.sent turn.frames k lt) ∙ got) in
      record {
        at = was.at;
        found = old_sending before l (length old.sent) (k + 1) turn.frames t.shows.messages
            (omega (arith, lt)) ∙ was.found;
        words = was.words;
      }
  | inr past ↦
      let new : slice_get turn.frames (k - length old.sent) ≡ Some f =
      sym (get_appended old.sent turn.frames k (k - length old.sent) (omega (arith, past))) ∙ got in
      let number : with_number (k + 1) l.shown.messages ≡ Some (message (k + 1) f) =
      rw t.shows.messages (number_at (k + 1) (length old.sent + 1) turn.frames (k - length old.sent) f
      (omega (arith, past)) new) in
      record {
        at = l ∷ before;
        found = rw number refl;
        words = λ summary body.
            let it = t.is.tells f summary (get_contains turn.frames (k - length old.sent) f new) body in
            subst (λ (x : ℕ). Summarises m x f.to.0 (words_at m.diagram (l ∷ before)) summary) (sym it.0)
            (sums_same m b f.to.0 turn.new.words (words_at m.diagram (l ∷ before)) summary long
            (length_listed (reading_at m.diagram (l ∷ before)) (length m.diagram.switches))
            (λ i lt at. is.read i lt at
            ∙ sym (get_listed (reading_at m.diagram (l ∷ before)) (length m.diagram.switches) i Lost lt)) it.1);
      }
]

turn_unsent : (before : List Line) (old : Scene) (l : Line) (count n : ℕ) (fs : List Frame) →
    l.shown.messages ≡ messages (count + 1) fs → (n ≡ 0) ⊎ (count + length fs < n) → sending before n ≡ None →
    sending (l ∷ before) n ≡ None
turn_unsent before old l count n fs is (inl none) was =
    rw (is, number_before n (count + 1) fs (omega (arith, none)), was) refl
turn_unsent before old l count n fs is (inr past) was =
    rw (is, number_after n (count + 1) fs (omega (arith, past)), was) refl

long_words : (m : Meaning) (old : Scene) (b : ℕ) (turn : Turn) →
    RoundFacts m (posts (at_node old b turn.new) turn.frames) → node m.diagram (at_node old b turn.new) b ≡ turn.new →
    IsBay m.diagram b → length turn.new.words ≡ length m.diagram.switches
long_words m old b turn facts same bay = subst (λ (n : State). length n.words ≡ length m.diagram.switches) same
    (facts.rounds b bay).words

pub turn_spoken : (m : Meaning) (before : List Line) (old : Scene) (l : Line) (b : ℕ) (turn : Turn) (new : Scene) →
    new ≡ posts (at_node old b turn.new) turn.frames → RoundFacts m new → Spoken m before old →
    TurnOf m before old l b turn → Spoken m (l ∷ before) new
turn_spoken m before old l b turn new is facts said t =
    let now : RoundFacts m (posts (at_node old b turn.new) turn.frames) = subst (RoundFacts m) is facts in
    let each = turn_node m before old l b turn said.nodes now t in
    let same : node m.diagram (at_node old b turn.new) b ≡ turn.new = node_here m.diagram old b turn.new t.within in
    let own : NodeIs m (l ∷ before) b turn.new.collecting turn.new.granted turn.new.words =
    subst (λ (n : State). NodeIs m (l ∷ before) b n.collecting n.granted n.words) same (each b) in
    subst (Spoken m (l ∷ before)) (sym is) (record {
      nodes = each;
      sent = turn_sent m before old l b turn (long_words m old b turn now same t.bay) said.sent own t;
      unsent = λ n none. turn_unsent before old l (length old.sent) n turn.frames t.shows.messages
          (elim none [
            | inl z ↦ inl z
            | inr past ↦ inr (let e = length_append old.sent turn.frames in
                omega (arith, e, past))
          ])
          (said.unsent n (elim none [
            | inl z ↦ inl z
            | inr past ↦ inr (let e = length_append old.sent turn.frames in
                omega (arith, e, past))
          ]));
    })
