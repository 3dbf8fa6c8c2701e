-- A node that decides gives the verdict of what the lines say that its bay knows.
use Rattle.std.proofs.Common.{◌≡◌, ◌<◌, ℕ, zero, suc, Bool, List, ◌∷◌, length, get_or, Option, Some, None, refl, sym}
use Rattle.std.proofs.Common.{subst, ap, ◌∙◌, arith}
use Rattle.std.specs.Prelude.{slice_get, ⊤}
use Rattle.std.proofs.lemmas.Option.{slice_get_within}
use Rattle.ilk_base.specs.declared.words.Dbpos.{Dbpos}
use Rattle.ilk_base.specs.declared.words.Dbpos.TheVariants.{Lost}
use Rattle.station_graph.specs.Diagram.{Diagram, IsStation, part_count}
use Rattle.central_rules.specs.Readings.{Decides}
use Rattle.central_rules.specs.Meaning.{Meaning, Laws, CannotExclude, AreMade, IsMade, bay_of}
use Rattle.central_rules.specs.declared.verdict.Verdict.TheVariants.{Release, Denied as Denies}
use Rattle.central_rules.proofs.MeaningLemmas.{reading_of}
use Rattle.central_rules.proofs.KnownLemmas.{holds_same}
use Rattle.bay_protocol.specs.declared.values.Collection.{Collection}
use Rattle.bay_protocol.specs.declared.values.Outcome.{Outcome}
use Rattle.bay_protocol.specs.declared.values.Outcome.TheVariants.{Collecting}
use Rattle.bay_protocol.specs.State.{State}
use Rattle.bay_protocol.specs.Step.{Turn, Deciding}
use Rattle.reservation_core.proofs.AlikeNotes.{of_part}
use Rattle.reservation_core.specs.Lines.{Line, of_bay, shown}
use Rattle.reservation_core.specs.History.{or_else, reading_at, Opened, last_round}
use Rattle.reservation_core.specs.Hearing.{words_at, words_told, delivered, heard_after, heard, heard_of, heard_by}
use Rattle.reservation_core.specs.Hearing.{listed, known_at}
use Rattle.reservation_core.specs.Headline.{Verdict}
use Rattle.log_replay.proofs.Basic.{get_listed, length_listed}
use Rattle.log_replay.proofs.Linked.{HeardIs}
use Rattle.log_replay.proofs.Links.{agree_same}
use Rattle.log_replay.proofs.Others.{AreHeard, got_some, some_got}

-- what is heard where no round is opened
abbrev pub heard_now : Diagram → List Line → Line → ℕ → ℕ → Option (List Dbpos)
heard_now d before l c b =
    or_else (words_told d (delivered l.event before) b c (last_round before c)) (heard d before c b)

abbrev pub Plain : Outcome → Type 0
Plain (Collecting r) = ⊥
Plain outcome = ⊤

pub heard_plain : (o : Outcome) (new was : Option (List Dbpos)) → Plain o → heard_after o new was ≡ or_else new was
heard_plain (Collecting r) new was plain = absurd plain
heard_plain o new was plain = refl

-- ---- the words heard are those of the summaries heard

-- what a list of values has at a place is the value there
pub listed_at : {A : Type 0} (f : ℕ → A) (n i : ℕ) (x : A) → slice_get (listed f n) i ≡ Some x → (i < n) × (f i ≡ x)
listed_at f zero i x got = absurd (cc got)
listed_at f (suc n) zero x got = (omega arith, cc got)
listed_at f (suc n) (suc i) x got = let rest = listed_at (λ k. f (suc k)) n i x got in (omega (arith, rest.0), rest.1)

at_listed : {A : Type 0} (f : ℕ → A) (n i : ℕ) → i < n → slice_get (listed f n) i ≡ Some (f i)
at_listed f zero i lt = absurd (omega (arith, lt))
at_listed f (suc n) zero lt = refl
at_listed f (suc n) (suc i) lt = at_listed (λ k. f (suc k)) n i (omega (arith, lt))

is_made : (m : Meaning) (b c : ℕ) (hs : List (Option (List ℕ))) (h : Option (List ℕ)) (words : List Dbpos) →
    get_or hs b None ≡ h → HeardIs m b c h (Some words) → IsMade m b c words hs
is_made m b c hs None words at is = absurd is
is_made m b c hs (Some s) words at is = record { summary = s; stands = got_some hs b s at; made = is }

words_of : (m : Meaning) (b c : ℕ) (s : List ℕ) (w : Option (List Dbpos)) → HeardIs m b c (Some s) w →
    (words : List Dbpos) × (w ≡ Some words)
words_of m b c s None is = absurd is
words_of m b c s (Some words) is = (words, refl)

are_made : (m : Meaning) (lines : List Line) (c : ℕ) (own : List Dbpos) (hs : List (Option (List ℕ))) →
    length hs ≡ part_count m.diagram → ((b : ℕ) → HeardIs m b c (get_or hs b None) (heard_of m.diagram lines c b)) →
    AreMade m (record { bay = c; own = own; heard = heard_by m.diagram lines c }) hs
are_made m lines c own hs long are = record {
  each = λ b words differ got.
      let at = listed_at (heard_of m.diagram lines c) (part_count m.diagram) b (Some words) got in
      is_made m b c hs (get_or hs b None) words refl
      (subst (λ (x : Option (List Dbpos)). HeardIs m b c (get_or hs b None) x) at.1 (are b));
  no_other = λ b s differ got.
      let lt : b < length hs = slice_get_within hs b (Some s) got in
      let w = words_of m b c s (heard_of m.diagram lines c b)
      (subst (λ (x : Option (List ℕ)). HeardIs m b c x (heard_of m.diagram lines c b))
      (some_got hs b s got) (are b)) in (
        w.0,
        at_listed (heard_of m.diagram lines c) (part_count m.diagram) b (omega (arith, lt, long))
            ∙ ap (λ (x : Option (List Dbpos)). Some x) w.1,
      );
}

-- ---- a node that decides, by the lines

pub record Judging (m : Meaning) (before : List Line) (l : Line) (b : ℕ) (t : State) (g : Collection) : Type 0 where
  pub name : t.bay ≡ b
  pub known : g.op.switch.0 < length m.diagram.switches
  pub own : bay_of m.diagram g.op.switch.0 ≡ b
  pub read : (i : ℕ) → i < length m.diagram.switches → bay_of m.diagram i ≡ b →
      get_or t.words i Lost ≡ reading_at m.diagram before i
  pub words : length t.words ≡ length m.diagram.switches
  pub long : length g.heard ≡ part_count m.diagram
  pub heard : AreHeard m b g.heard (heard_now m.diagram before l b)

abbrev pub opened_of : Collection → Opened
opened_of g = record { round = g.round; op = g.op }

plain_deciding : (m : Meaning) (t : State) (g : Collection) (turn : Turn) → Deciding m m.diagram t g turn →
    Plain (shown turn.outcome)
plain_deciding m t g turn (Deciding.release verdict end) = rw end.says tt
plain_deciding m t g turn (Deciding.denial rule v verdict end) = rw end.says tt

are_heard : (m : Meaning) (before : List Line) (l : Line) (b : ℕ) (hs : List (Option (List ℕ))) →
    Plain (of_bay l.shown b) → AreHeard m b hs (heard_now m.diagram before l b) → (x : ℕ) →
    HeardIs m x b (get_or hs x None) (heard_of m.diagram (l ∷ before) b x)
are_heard m before l b hs plain are x =
    rw (heard_plain (of_bay l.shown b) (words_told m.diagram (delivered l.event before) x b (last_round before b))
    (heard m.diagram before b x) plain) (are x)

own_words : (m : Meaning) (before : List Line) (b : ℕ) (words : List Dbpos) → ((i : ℕ) → i < length m.diagram.switches →
    bay_of m.diagram i ≡ b → get_or words i Lost ≡ reading_at m.diagram before i) → (i : ℕ) →
    i < length m.diagram.switches → bay_of m.diagram i ≡ b →
    get_or words i Lost ≡ get_or (words_at m.diagram before) i Lost
own_words m before b words read i lt is = read i lt is
    ∙ sym (get_listed (reading_at m.diagram before) (length m.diagram.switches) i Lost lt)

-- other words that say the same of the bay
knows_same : (m : Meaning) (c : ℕ) (words other : List Dbpos) (hs : List (Option (List ℕ))) (v : List Bool) →
    length words ≡ length m.diagram.switches → ((i : ℕ) → i < length m.diagram.switches → bay_of m.diagram i ≡ c →
    get_or words i Lost ≡ get_or other i Lost) → CannotExclude m c words hs v → CannotExclude m c other hs v
knows_same m c words other hs v long same knows = record {
  whole = knows.whole;
  own_agree = agree_same m c words other v long same knows.own_agree;
  heard_allow = knows.heard_allow;
}

verdict_of : (m : Meaning) (before : List Line) (l : Line) (b : ℕ) (t : State) (g : Collection) (turn : Turn) →
    IsStation m.diagram → Laws m → Judging m before l b t g → of_bay l.shown b ≡ shown turn.outcome →
    AreMade m (known_at m.diagram before l b) g.heard → Deciding m m.diagram t g turn →
    Verdict m.diagram (known_at m.diagram before l b) (opened_of g) (of_bay l.shown b)
verdict_of m before l b t g turn station laws k shows made (Deciding.release verdict end) =
    let same = own_words m before b t.words k.read in
    let none : Decides m.diagram (CannotExclude m b t.words g.heard) g.op Release =
    subst (λ (x : ℕ). Decides m.diagram (CannotExclude m x t.words g.heard) g.op Release) k.name verdict in
    Verdict.grants (shows ∙ ap shown end.says)
    ((holds_same m laws station g.op (known_at m.diagram before l b) g.heard made
    (of_part m b g.op.switch.0 (k.known, k.own))).1
    (λ v knows. none v (knows_same m b (words_at m.diagram before) t.words g.heard v
    (length_listed (reading_at m.diagram before) (length m.diagram.switches)) (λ i lt is. sym (same i lt is)) knows)))
verdict_of m before l b t g turn station laws k shows made (Deciding.denial rule v verdict end) =
    let same = own_words m before b t.words k.read in
    let that : Decides m.diagram (CannotExclude m b t.words g.heard) g.op (Denies rule v) =
    subst (λ (x : ℕ). Decides m.diagram (CannotExclude m x t.words g.heard) g.op (Denies rule v)) k.name verdict in
    Verdict.denies rule v (shows ∙ ap shown end.says)
    (reading_of m laws (known_at m.diagram before l b) g.heard v made
    (knows_same m b t.words (words_at m.diagram before) g.heard v k.words same that.0))
    that.1

pub judged : (m : Meaning) (before : List Line) (l : Line) (b : ℕ) (t : State) (g : Collection) (turn : Turn) →
    IsStation m.diagram → Laws m → Judging m before l b t g → of_bay l.shown b ≡ shown turn.outcome →
    Deciding m m.diagram t g turn → Verdict m.diagram (known_at m.diagram before l b) (opened_of g) (of_bay l.shown b)
judged m before l b t g turn station laws k shows deciding =
    let plain : Plain (of_bay l.shown b) = subst Plain (sym shows) (plain_deciding m t g turn deciding) in
    verdict_of m before l b t g turn station laws k shows (are_made m (l ∷ before) b (words_at m.diagram before) g.heard
    k.long (are_heard m before l b g.heard plain k.heard)) deciding
