-- At a line that decides the true positions are a reading of what is known; with full knowledge they alone
-- decide.
use Rattle.std.proofs.Common.{◌⊎◌, ◌≡◌, ◌<◌, ℕ, Bool, false, cond, List, ◌∷◌, length, get_or, Option, Some, None}
use Rattle.std.proofs.Common.{refl, sym, subst, ap, ◌∙◌, inl, inr}
use Rattle.std.specs.Prelude.{slice_get}
use Rattle.std.proofs.lemmas.Bool.{cases_Bool}
use Rattle.ilk_base.specs.declared.words.Dbpos.{Dbpos}
use Rattle.ilk_base.specs.declared.words.Dbpos.TheVariants.{Lost}
use Rattle.ilk_base.specs.declared.words.Op.{Op}
use Rattle.double_points.specs.Words.{Agrees, BayAgrees}
use Rattle.station_graph.specs.Diagram.{Diagram, IsStation, part_count}
use Rattle.station_graph.specs.Connection.{a_switch}
use Rattle.station_graph.specs.Sharing.{OfPart}
use Rattle.station_graph.specs.Alike.{Irrelevant, IsVector}
use Rattle.central_rules.specs.Knowledge.{Known, StandsAlike, IsReadingOf, IsFull}
use Rattle.central_rules.specs.Meaning.{Meaning, Laws, bay_of}
use Rattle.central_rules.proofs.FullLemmas.{same_by_full}
use Rattle.bay_protocol.specs.declared.values.Collection.{Collection}
use Rattle.bay_protocol.specs.declared.values.Outcome.{Outcome}
use Rattle.bay_protocol.specs.declared.values.Outcome.TheVariants.{UnderWay, HeldBy, There, Spent}
use Rattle.bay_protocol.specs.State.{State, IsOther, is_another, under_way, under_way_of}
use Rattle.bay_protocol.specs.Step.{Turn, CommandStep}
use Rattle.reservation_core.specs.Scene.{Scene, node, true_at, IsTrueWord, Resolves}
use Rattle.reservation_core.specs.RoundFacts.{RoundFacts}
use Rattle.reservation_core.specs.Facts.{Facts}
use Rattle.reservation_core.specs.Held.{IsSwitchOf}
use Rattle.reservation_core.specs.Happens.{Happens, InRange, NodeSteps}
use Rattle.reservation_core.specs.declared.values.Position.{Position}
use Rattle.reservation_core.specs.declared.values.WorldEvent.{WorldEvent}
use Rattle.bay_protocol.proofs.UnderWay.{idle_grant}
use Rattle.reservation_core.proofs.TrueWords.{true_word_agrees, stood, answers}
use Rattle.reservation_core.proofs.AlikeNotes.{of_part, bay_agrees}
use Rattle.reservation_core.specs.Lines.{Line, of_bay, shown}
use Rattle.reservation_core.specs.History.{Opened, collecting, reading_at}
use Rattle.reservation_core.specs.Hearing.{words_at, heard, heard_of, heard_by, known_at, IsVerdictOn, DecidesRound}
use Rattle.reservation_core.specs.Runs.{Run, Leads}
use Rattle.reservation_core.specs.Headline.{Verdict, MayBeTrue, TrueVerdict, TruthDecides}
use Rattle.log_replay.proofs.Basic.{get_listed}
use Rattle.log_replay.proofs.Linked.{opened}
use Rattle.log_replay.proofs.TurnParts.{own_known}
use Rattle.log_replay.proofs.Links.{Spoken, Linked, turn_shown, collecting_bay}
use Rattle.log_replay.proofs.Leading.{RunIs, run_is}
use Rattle.log_replay.proofs.Others.{is_other, other_of}
use Rattle.log_replay.proofs.Verdicts.{listed_at}
use Rattle.log_replay.proofs.Decisions.{own_of}
use Rattle.log_replay.proofs.RestingBays.{not_decided}
use Rattle.log_replay.proofs.LineDecisions.{decides_well}
use Rattle.log_replay.proofs.Obeying.{to_scene, deliver_truth}
use Rattle.log_replay.proofs.Apart.{heard_old}

-- ---- the bay that decides has no granted operation

command_idle : (m : Meaning) (s : State) (op : Op) (turn : Turn) (p : Opened) → CommandStep m m.diagram s op turn
    → IsVerdictOn (shown turn.outcome) p → s.granted ≡ None
command_idle m s op turn p (CommandStep.round_under_way q is end) d = absurd (not_decided (UnderWay q) tt p (subst (λ
    (o : Outcome). IsVerdictOn (shown o) p) end.says d))
command_idle m s op turn p (CommandStep.held l is lock end) d = absurd (not_decided (HeldBy l.holder l.round) tt p
    (subst (λ (o : Outcome). IsVerdictOn (shown o) p) end.says d))
command_idle m s op turn p (CommandStep.there free at end) d = absurd (not_decided There tt p (subst (λ
    (o : Outcome). IsVerdictOn (shown o) p) end.says d))
command_idle m s op turn p (CommandStep.spent free at top end) d = absurd (not_decided Spent tt p (subst (λ
    (o : Outcome). IsVerdictOn (shown o) p) end.says d))
command_idle m s op turn p (CommandStep.opens_round free at below step) d = idle_grant s.collecting s.granted free.idle

collected : (x : Option Collection) (before : List Line) (c : ℕ) (o : Opened) → opened x ≡ collecting before c
    → collecting before c ≡ Some o → (g : Collection) × (x ≡ Some g) × (record { round = g.round; op = g.op } ≡ o)
collected None before c o is has = absurd (cc (is, has))
collected (Some g) before c o is has = let e : Some (record { round = g.round; op = g.op }) ≡ Some o = is ∙ has in
    (g, refl, cc e)

-- what a bay collects, by its node
record Collects (m : Meaning) (old : Scene) (c : ℕ) (o : Opened) : Type 0 where
  round : Collection
  has : (node m.diagram old c).collecting ≡ Some round
  is : record { round = round.round; op = round.op } ≡ o
  idle : (node m.diagram old c).granted ≡ None
  known : o.op.switch.0 < length m.diagram.switches
  own : bay_of m.diagram o.op.switch.0 ≡ c

collects_it : (m : Meaning) (before : List Line) (old : Scene) (c : ℕ) (o : Opened) → RoundFacts m old
    → Spoken m before old → collecting before c ≡ Some o → Collects m old c o
collects_it m before old c o rounds said has =
    let p = collected (node m.diagram old c).collecting before c o (said.nodes c).collecting has in
    let ok = rounds.rounds c (collecting_bay m old c p.0 rounds p.1) in
    record {
      round = p.0;
      has = p.1;
      is = p.2;
      idle = (ok.collecting p.0 p.1).no_grant;
      known = subst (λ (x : Opened). x.op.switch.0 < length m.diagram.switches) p.2 (own_known m
          (node m.diagram old c) p.0 ok p.1);
      own = subst (λ (x : Opened). bay_of m.diagram x.op.switch.0 ≡ c) p.2 (own_of m c (node m.diagram old c) p.0
          (record { is = said.nodes c; sound = ok; name = rounds.shape.named c }) p.1);
    }

pub idle_at : (m : Meaning) (before : List Line) (l : Line) (old new : Scene) (c : ℕ) (o : Opened) → RoundFacts m old
    → Spoken m before old → Leads m old l new → DecidesRound m.diagram before l c o
    → (node m.diagram old c).granted ≡ None
idle_at m before l old new c o rounds said leads (DecidesRound.at_tick has e) =
    (collects_it m before old c o rounds said has).idle
idle_at m before l old new c o rounds said leads (DecidesRound.all_heard n has e all) =
    (collects_it m before old c o rounds said has).idle
idle_at m before l old new c o rounds said leads (DecidesRound.alone e at none d) =
    let b = bay_of m.diagram o.op.switch.0 in
    let t : NodeSteps m old b _ new leads.outcome = subst (λ
    (x : WorldEvent). Happens m old x new leads.outcome) e leads.happens in
    let s = turn_shown (length old.sent) b (node m.diagram old b) t.turn leads.outcome l.shown t.says leads.shows in
    let shows : of_bay l.shown c ≡ shown t.turn.outcome = subst (λ (x : ℕ).
    of_bay l.shown x ≡ shown t.turn.outcome) at s.own in
    subst (λ (x : ℕ). (node m.diagram old x).granted ≡ None) at
    (command_idle m (node m.diagram old b) o.op t.turn o t.step (subst (λ (x : Outcome). IsVerdictOn x o) shows d))

-- ---- and does not change the true positions

truth_at : (m : Meaning) (before : List Line) (l : Line) (old new : Scene) (c : ℕ) (o : Opened) → Leads m old l new
    → DecidesRound m.diagram before l c o → new.truth ≡ old.truth
truth_at m before l old new c o leads (DecidesRound.at_tick has e) =
    let t : NodeSteps m old c _ new leads.outcome = subst (λ
    (x : WorldEvent). Happens m old x new leads.outcome) e leads.happens in ap (λ (w : Scene). w.truth) t.world
truth_at m before l old new c o leads (DecidesRound.all_heard n has e all) =
    deliver_truth m old new n leads.outcome (subst
    (λ (x : WorldEvent). Happens m old x new leads.outcome) e leads.happens)
truth_at m before l old new c o leads (DecidesRound.alone e at none d) =
    let t : NodeSteps m old (bay_of m.diagram o.op.switch.0) _ new leads.outcome = subst (λ
    (x : WorldEvent). Happens m old x new leads.outcome) e leads.happens in ap (λ (w : Scene). w.truth) t.world

-- ---- the true positions are a reading

-- of whom something is heard, the round is collected
round_at : (m : Meaning) (start : List Bool) (before : List Line) (l : Line) (old : Scene) (c b : ℕ) (o : Opened)
    → RunIs m start before old → DecidesRound m.diagram before l c o → IsOther m.diagram c b
    → (q : ℕ) × (under_way (node m.diagram old c) ≡ Some q)
round_at m start before l old c b o is (DecidesRound.at_tick has e) other = let p =
    collects_it m before old c o is.facts.rounds is.links.said has in (
      p.round.round,
      ap (λ
          (x : Option Collection). under_way_of x (node m.diagram old c).granted) p.has,
    )
round_at m start before l old c b o is (DecidesRound.all_heard n has e all) other = let p =
    collects_it m before old c o is.facts.rounds is.links.said has in (
      p.round.round,
      ap (λ
          (x : Option Collection). under_way_of x (node m.diagram old c).granted) p.has,
    )
round_at m start before l old c b o is (DecidesRound.alone e at none d) other =
    absurd (other_of m.diagram c b other none)

-- what is heard is heard of another bay
record HeardOf (d : Diagram) (lines : List Line) (c b : ℕ) (words : List Dbpos) : Type 0 where
  other : IsOther d c b
  words_are : heard d lines c b ≡ Some words

heard_of_is : (d : Diagram) (lines : List Line) (c b : ℕ) (words : List Dbpos) → IsStation d
    → slice_get (heard_by d lines c) b ≡ Some (Some words) → HeardOf d lines c b words
heard_of_is d lines c b words station got =
    let at = listed_at (heard_of d lines c) (part_count d) b (Some words) got in
    elim (cases_Bool (is_another d c b)) [
      | inl other ↦ record {
        other = is_other d c b station other;
        words_are = subst (λ (y : Bool). cond y
            (heard d lines c b) None ≡ Some words) other at.1;
      }
      | inr stranger ↦ let none : None ≡ Some words = subst (λ (y : Bool). cond y
          (heard d lines c b) None ≡ Some words) stranger at.1 in absurd (cc none)
    ]

heard_reads : (m : Meaning) (start : List Bool) (before : List Line) (l : Line) (old : Scene) (c b : ℕ) (o : Opened)
    (words : List Dbpos) (v : List Bool) → IsStation m.diagram → Laws m → Run m start before old
    → DecidesRound m.diagram before l c o → IsVector m.diagram v → Resolves old.truth v
    → HeardOf m.diagram (l ∷ before) c b words → Irrelevant m.diagram b c ⊎ StandsAlike m.diagram b words v
heard_reads m start before l old c b o words v station laws run decides whole resolves said =
    let is = run_is m start before old station laws run in
    let a = heard_old m start before l old b c words station laws run said.words_are in
    let round = round_at m start before l old c b o is decides said.other in
    let last = (is.links.nodes c).round round.0 round.1 (other_of m.diagram c b said.other) in
    let same : Some round.0 ≡ Some a.frame.round = sym last ∙ a.round in
    let running : under_way (node m.diagram old a.frame.to.0) ≡ Some a.frame.round = subst (λ (x : ℕ). under_way
    (node m.diagram old x) ≡ Some a.frame.round) (sym a.to) (round.1 ∙ same) in
    let answered = answers m old is.facts a.frame a.summary a.there a.body running in
    let allowed : m.Allows b a.summary v = subst (λ (x : ℕ). m.Allows x a.summary v) a.from (answered.allowed v whole
    (λ i closed own at. resolves i closed at)) in
    elim a.sums.no_more [
      | inl silent ↦ inl (laws.irrelevant b c said.other.1 silent.0)
      | inr alike ↦ inr (alike v whole allowed)
    ]

-- a word of a bay without a granted operation is true
own_word : (m : Meaning) (w : Scene) (c i : ℕ) → Facts m w → (node m.diagram w c).granted ≡ None → IsSwitchOf m c i
    → IsTrueWord (get_or (node m.diagram w c).words i Lost) (true_at w.truth i)
own_word m w c i facts none is =
    let held = facts.truth.held in
    let truly : IsTrueWord (held.own i) (true_at w.truth i) = facts.truth.facts.words i is.0 (λ g has.
    let no : (node m.diagram w (bay_of m.diagram i)).granted ≡ None = subst (λ (x : ℕ).
    (node m.diagram w x).granted ≡ None) (sym is.1) none in absurd (cc (has, no))) in
    let at : IsTrueWord (get_or (node m.diagram w (bay_of m.diagram i)).words i Lost) (true_at w.truth i) = subst (λ
    (x : Dbpos). IsTrueWord x (true_at w.truth i)) (facts.truth.facts.words_are i is.0) truly in
    subst (λ (x : ℕ). IsTrueWord (get_or (node m.diagram w x).words i Lost) (true_at w.truth i)) is.1 at

own_reads : (m : Meaning) (start : List Bool) (before : List Line) (old : Scene) (c : ℕ) (v : List Bool)
    → RunIs m start before old → (node m.diagram old c).granted ≡ None → IsVector m.diagram v → Resolves old.truth v
    → BayAgrees m.diagram c (words_at m.diagram before) v
own_reads m start before old c v is none whole resolves = bay_agrees m c (words_at m.diagram before) v (λ i own.
    let e : get_or (node m.diagram old c).words i Lost ≡ get_or (words_at m.diagram before) i Lost =
    (is.links.nodes c).read i own.0 own.1 ∙ sym (get_listed (reading_at m.diagram before)
    (length m.diagram.switches) i Lost own.0) in
    subst (λ (x : Dbpos). Agrees x (get_or v i false)) e
    (true_word_agrees (get_or (node m.diagram old c).words i Lost) (true_at old.truth i) (get_or v i false)
    (own_word m old c i is.facts none own) (resolves i (get_or v i false) (stood m v i whole own.0))))

truth_reads : (m : Meaning) (start : List Bool) (before : List Line) (l : Line) (old new : Scene) (c : ℕ) (o : Opened)
    (v : List Bool) → IsStation m.diagram → Laws m → Run m start before old → Leads m old l new
    → Linked m start (l ∷ before) new → DecidesRound m.diagram before l c o → MayBeTrue m.diagram start (l ∷ before) v
    → IsReadingOf m.diagram (known_at m.diagram before l c) v
truth_reads m start before l old new c o v station laws run leads links decides may =
    let is = run_is m start before old station laws run in
    let was : Resolves old.truth v = subst (λ (t : List Position). Resolves t v)
    (truth_at m before l old new c o leads decides) (to_scene m start (l ∷ before) new v links may) in
    record {
      whole = may.whole;
      own = own_reads m start before old c v is
          (idle_at m before l old new c o is.facts.rounds is.links.said leads decides) may.whole was;
      heard = λ b words differ got. heard_reads m start before l old c b o words v station laws run decides may.whole
          was (heard_of_is m.diagram (l ∷ before) c b words station got);
    }

-- ---- with full knowledge

true_verdict : (d : Diagram) (k : Known) (T : List Bool → Type 0) (o : Opened) (outcome : Outcome) → IsStation d
    → IsFull d k → OfPart d k.bay (a_switch o.op.switch.0) → ((v : List Bool) → T v → IsReadingOf d k v)
    → Verdict d k o outcome → TrueVerdict d T o outcome
true_verdict d k T o outcome station full own reads (Verdict.grants is holds) = TrueVerdict.grants is
    (λ v may. holds v (reads v may))
true_verdict d k T o outcome station full own reads (Verdict.denies rule v is reads_v breaks) =
    TrueVerdict.denies rule _ is (λ w may. (same_by_full d k v w station full reads_v (reads w may) o.op own
    (Some rule)).0 breaks)

op_at : (m : Meaning) (start : List Bool) (before : List Line) (l : Line) (old new : Scene) (c : ℕ) (o : Opened)
    → RunIs m start before old → Leads m old l new → DecidesRound m.diagram before l c o → IsSwitchOf m c o.op.switch.0
op_at m start before l old new c o is leads (DecidesRound.at_tick has e) = let p =
    collects_it m before old c o is.facts.rounds is.links.said has in (p.known, p.own)
op_at m start before l old new c o is leads (DecidesRound.all_heard n has e all) = let p =
    collects_it m before old c o is.facts.rounds is.links.said has in (p.known, p.own)
op_at m start before l old new c o is leads (DecidesRound.alone e at none d) =
    (subst (InRange m.diagram) e leads.range, at)

pub truth_decides : (m : Meaning) (start : List Bool) (before : List Line) (l : Line) (w : Scene)
    → IsStation m.diagram → Laws m → Run m start (l ∷ before) w → TruthDecides m.diagram start before l
truth_decides m start before l w station laws run =
    let is = run_is m start before run.0 station laws run.1 in
    let now = run_is m start (l ∷ before) w station laws run in
    let reads : (c : ℕ) (o : Opened) → DecidesRound m.diagram before l c o → (v : List Bool)
    → MayBeTrue m.diagram start (l ∷ before) v → IsReadingOf m.diagram (known_at m.diagram before l c) v =
    λ c o d v may. truth_reads m start before l run.0 w c o v station laws run.1 run.2 now.links d may in
    record {
      reading = reads;
      full = λ c o d full. true_verdict m.diagram (known_at m.diagram before l c) (MayBeTrue m.diagram start
          (l ∷ before)) o (of_bay l.shown c) station full (of_part m c o.op.switch.0
          (op_at m start before l run.0 w c o is run.2 d)) (reads c o d)
          ((decides_well m start l before w station laws run).shows c o d);
    }
