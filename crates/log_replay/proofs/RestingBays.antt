-- What a bay decides at a line, and a bay that decides nothing.
use Rattle.std.proofs.Common.{◌≡◌, ◌≢◌, ℕ, List, ◌∷◌, Option, Some, None, refl, sym, subst, ap, ◌∙◌}
use Rattle.std.specs.Prelude.{⊤}
use Rattle.ilk_base.specs.declared.words.Dbpos.{Dbpos}
use Rattle.ilk_base.specs.declared.words.Op.{Op}
use Rattle.station_graph.specs.Diagram.{Diagram}
use Rattle.central_rules.specs.Knowledge.{Known}
use Rattle.central_rules.specs.Meaning.{Meaning}
use Rattle.bay_frames.specs.declared.frame.Frame.{Frame}
use Rattle.bay_protocol.specs.declared.values.Grant.{Grant}
use Rattle.bay_protocol.specs.declared.values.Collection.{Collection}
use Rattle.bay_protocol.specs.declared.values.Outcome.{Outcome}
use Rattle.bay_protocol.specs.declared.values.Outcome.TheVariants.{Granted, Denied, Quiet}
use Rattle.bay_protocol.specs.State.{State}
use Rattle.bay_protocol.specs.Step.{Turn, StepEnds}
use Rattle.bay_protocol.proofs.Others.{another_yes}
use Rattle.reservation_core.specs.declared.values.WorldEvent.{WorldEvent}
use Rattle.reservation_core.specs.declared.values.WorldEvent.TheVariants.{Deliver, Tick}
use Rattle.reservation_core.specs.Lines.{Line, of_bay, shown}
use Rattle.reservation_core.specs.History.{or_else, Opened, collecting, last_round}
use Rattle.reservation_core.specs.Hearing.{words_told, delivered, heard, AreAllHeard, IsVerdictOn, DecidesRound}
use Rattle.reservation_core.specs.Hearing.{known_at}
use Rattle.reservation_core.specs.Headline.{Verdict}
use Rattle.log_replay.proofs.Linked.{opened, NodeIs, TellsNothing}
use Rattle.log_replay.proofs.Others.{Every, not_every, every}
use Rattle.log_replay.proofs.Verdicts.{Plain, heard_plain}

abbrev pub unheard : Option (List ℕ)
unheard = None

-- ---- what is decided

opened_is : (o p : Opened) → o.round ≡ p.round → o.op ≡ p.op → o ≡ p
opened_is o p r op = subst (λ (x : ℕ). o ≡ record { round = x; op = p.op }) r
    (subst (λ (y : Op). o ≡ record { round = o.round; op = y }) op refl)

decided_same : (outcome : Outcome) (o p : Opened) → IsVerdictOn outcome o → IsVerdictOn outcome p → o ≡ p
decided_same (Granted r op) o p x y = opened_is o p (sym x.0 ∙ y.0) (sym x.1 ∙ y.1)
decided_same (Denied r op rule reading) o p x y = opened_is o p (sym x.0 ∙ y.0) (sym x.1 ∙ y.1)
decided_same outcome o p x y = absurd x

collecting_same : (before : List Line) (c : ℕ) (o p : Opened) → collecting before c ≡ Some o →
    collecting before c ≡ Some p → o ≡ p
collecting_same before c o p x y = let e : Some o ≡ Some p = sym x ∙ y in cc e

decides_once : (d : Diagram) (before : List Line) (l : Line) (c : ℕ) (o p : Opened) → DecidesRound d before l c o →
    DecidesRound d before l c p → o ≡ p
decides_once d before l c o p (DecidesRound.at_tick x e) (DecidesRound.at_tick y f) = collecting_same before c o p x y
decides_once d before l c o p (DecidesRound.at_tick x e) (DecidesRound.all_heard n y f all) =
    collecting_same before c o p x y
decides_once d before l c o p (DecidesRound.at_tick x e) (DecidesRound.alone f at none h) = absurd (cc (e, f))
decides_once d before l c o p (DecidesRound.all_heard n x e all) (DecidesRound.at_tick y f) =
    collecting_same before c o p x y
decides_once d before l c o p (DecidesRound.all_heard n x e all) (DecidesRound.all_heard k y f every) =
    collecting_same before c o p x y
decides_once d before l c o p (DecidesRound.all_heard n x e all) (DecidesRound.alone f at none h) = absurd (cc (e, f))
decides_once d before l c o p (DecidesRound.alone e at none h) (DecidesRound.at_tick y f) = absurd (cc (e, f))
decides_once d before l c o p (DecidesRound.alone e at none h) (DecidesRound.all_heard k y f every) = absurd (cc (e, f))
decides_once d before l c o p (DecidesRound.alone e at none h) (DecidesRound.alone f there nobody g) =
    decided_same (of_bay l.shown c) o p h g

pub verdict_decided : (d : Diagram) (k : Known) (o : Opened) (outcome : Outcome) → Verdict d k o outcome →
    IsVerdictOn outcome o
verdict_decided d k o outcome (Verdict.grants is holds) = rw is (refl, refl)
verdict_decided d k o outcome (Verdict.denies rule v is reads breaks) = rw is (refl, refl)

pub verdict_plain : (d : Diagram) (k : Known) (o : Opened) (outcome : Outcome) → Verdict d k o outcome → Plain outcome
verdict_plain d k o outcome (Verdict.grants is holds) = rw is tt
verdict_plain d k o outcome (Verdict.denies rule v is reads breaks) = rw is tt

abbrev pub Undecided : Outcome → Type 0
Undecided (Granted r op) = ⊥
Undecided (Denied r op rule reading) = ⊥
Undecided outcome = ⊤

pub not_decided : (o : Outcome) → Undecided o → (p : Opened) → ¬ IsVerdictOn (shown o) p
not_decided (Granted r op) un p d = un
not_decided (Denied r op rule reading) un p d = un
not_decided o un p d = d

-- what comes of a line for a bay
pub data BayDecides (m : Meaning) (before : List Line) (l : Line) (c : ℕ) : Type 0 where
  decides : (o : Opened) → DecidesRound m.diagram before l c o → Verdict m.diagram (known_at m.diagram before l c) o
      (of_bay l.shown c) → BayDecides m before l c
  rests : ((o : Opened) → ¬ DecidesRound m.diagram before l c o) → ((o : Opened) → ¬ IsVerdictOn (of_bay l.shown c) o) →
      BayDecides m before l c

pub shows_it : (m : Meaning) (before : List Line) (l : Line) (c : ℕ) (o : Opened) → BayDecides m before l c →
    DecidesRound m.diagram before l c o → Verdict m.diagram (known_at m.diagram before l c) o (of_bay l.shown c)
shows_it m before l c o (BayDecides.decides p d v) is =
    subst (λ (x : Opened). Verdict m.diagram (known_at m.diagram before l c) x (of_bay l.shown c))
    (decides_once m.diagram before l c p o d is) v
shows_it m before l c o (BayDecides.rests never nothing) is = absurd (never o is)

pub decides_it : (m : Meaning) (before : List Line) (l : Line) (c : ℕ) (o : Opened) → BayDecides m before l c →
    IsVerdictOn (of_bay l.shown c) o → DecidesRound m.diagram before l c o
decides_it m before l c o (BayDecides.decides p d v) is = subst (λ (x : Opened). DecidesRound m.diagram before l c x)
    (decided_same (of_bay l.shown c) p o (verdict_decided m.diagram (known_at m.diagram before l c) p
    (of_bay l.shown c) v) is) d
decides_it m before l c o (BayDecides.rests never nothing) is = absurd (nothing o is)

-- ---- a bay that decides nothing

none_collecting : (before : List Line) (c : ℕ) (x : Option Collection) (o : Opened) → opened x ≡ collecting before c →
    collecting before c ≡ Some o → x ≢ None
none_collecting before c None o is has = absurd (cc (is, has))
none_collecting before c (Some g) o is has = λ e. absurd (cc e)

rests_of : (m : Meaning) (before : List Line) (l : Line) (c : ℕ) (x : Option Collection) →
    opened x ≡ collecting before c → ((o : Opened) → ¬ IsVerdictOn (of_bay l.shown c) o) →
    (l.event ≡ Tick (record { 0 = c }) → x ≡ None) → ((n : ℕ) → l.event ≡ Deliver n → (x ≢ None) →
    ¬ AreAllHeard m.diagram (l ∷ before) c) → (o : Opened) → ¬ DecidesRound m.diagram before l c o
rests_of m before l c x is nothing tick deliver o (DecidesRound.at_tick has e) =
    none_collecting before c x o is has (tick e)
rests_of m before l c x is nothing tick deliver o (DecidesRound.all_heard n has e all) =
    deliver n e (none_collecting before c x o is has) all
rests_of m before l c x is nothing tick deliver o (DecidesRound.alone e at none d) = nothing o d

pub bay_rests : (m : Meaning) (before : List Line) (l : Line) (c : ℕ) (x : Option Collection) →
    opened x ≡ collecting before c → ((o : Opened) → ¬ IsVerdictOn (of_bay l.shown c) o) →
    (l.event ≡ Tick (record { 0 = c }) → x ≡ None) → ((n : ℕ) → l.event ≡ Deliver n → (x ≢ None) →
    ¬ AreAllHeard m.diagram (l ∷ before) c) → BayDecides m before l c
bay_rests m before l c x is nothing tick deliver =
    BayDecides.rests (rests_of m before l c x is nothing tick deliver) nothing

-- where the line tells nothing, what was heard before is what is heard
heard_before : (m : Meaning) (before : List Line) (l : Line) (c : ℕ) → Plain (of_bay l.shown c) →
    TellsNothing m.diagram before l.event c → AreAllHeard m.diagram (l ∷ before) c →
    Every m.diagram c (heard m.diagram before c)
heard_before m before l c plain tells all b other none =
    all b other (heard_plain (of_bay l.shown c)
    (words_told m.diagram (delivered l.event before) b c (last_round before c))
    (heard m.diagram before c b) plain
    ∙ ap (λ (t : Option (List Dbpos)). or_else t (heard m.diagram before c b))
    (tells b (another_yes m.diagram c b other)) ∙ none)

pub not_all_heard : (m : Meaning) (before : List Line) (l : Line) (c : ℕ) (x : Option Collection) (y : Option Grant)
    (words : List Dbpos) → NodeIs m before c x y words → Plain (of_bay l.shown c) → ((g : Collection) → x ≡ Some g →
    TellsNothing m.diagram before l.event c) → x ≢ None → ¬ AreAllHeard m.diagram (l ∷ before) c
not_all_heard m before l c None y words is plain tells some all = some refl
not_all_heard m before l c (Some g) y words is plain tells some all = not_every m c g.heard (heard m.diagram before c)
    (is.missing g refl) (λ b. is.heard g b refl) (heard_before m before l c plain (tells g refl) all)

-- a bay of which nothing is shown
pub quiet_bay : (m : Meaning) (before : List Line) (l : Line) (c : ℕ) (x : Option Collection) (y : Option Grant)
    (words : List Dbpos) → NodeIs m before c x y words → of_bay l.shown c ≡ Quiet → l.event ≢ Tick (record { 0 = c }) →
    TellsNothing m.diagram before l.event c → BayDecides m before l c
quiet_bay m before l c x y words is quiet not_tick tells =
    bay_rests m before l c x is.collecting (λ o d. subst (λ (y : Outcome). IsVerdictOn y o) quiet d)
    (λ e. absurd (not_tick e))
    (λ n e some. not_all_heard m before l c x y words is (subst Plain (sym quiet) tt) (λ g has. tells) some)

-- a bay that ends a step with an outcome which is no verdict, at an event that is neither a tick nor a delivery
abbrev IsPlainEvent : WorldEvent → Type 0
IsPlainEvent (Tick b) = ⊥
IsPlainEvent (Deliver n) = ⊥
IsPlainEvent event = ⊤

no_tick : (e : WorldEvent) (c : ℕ) → IsPlainEvent e → e ≢ Tick (record { 0 = c })
no_tick e c other is = subst IsPlainEvent is other

no_delivery : (e : WorldEvent) (n : ℕ) → IsPlainEvent e → e ≢ Deliver n
no_delivery e n other is = subst IsPlainEvent is other

pub own_rests : (m : Meaning) (before : List Line) (l : Line) (b : ℕ) (x : Option Collection) (turn : Turn)
    (new : State) (o : Outcome) (fs : List Frame) → opened x ≡ collecting before b → IsPlainEvent l.event →
    of_bay l.shown b ≡ shown turn.outcome → StepEnds turn new o fs → Undecided o → BayDecides m before l b
own_rests m before l b x turn new o fs is other shows end un =
    bay_rests m before l b x is (λ p d. not_decided o un p (subst (λ (y : Outcome). IsVerdictOn y p) (shows
    ∙ ap shown end.says) d))
    (λ e. absurd (no_tick l.event b other e)) (λ n e some all. no_delivery l.event n other e)
