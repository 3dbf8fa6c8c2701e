-- An operation that was granted and has not ended is the open one.
use Rattle.std.proofs.Common.{◌≡◌, ◌≢◌, ℕ, Bool, List, [], ◌∷◌, Option, Some, None, refl, sym, ap, ◌∙◌}
use Rattle.std.proofs.Common.{inl, inr, subst}
use Rattle.std.proofs.lemmas.Bool.Decides.{eqb_tells}
use Rattle.ilk_base.specs.declared.words.Op.{Op}
use Rattle.station_graph.specs.Diagram.{IsStation}
use Rattle.central_rules.specs.Meaning.{Meaning, Laws, bay_of}
use Rattle.bay_protocol.specs.declared.values.Grant.{Grant}
use Rattle.bay_protocol.specs.declared.values.Outcome.{Outcome}
use Rattle.bay_protocol.specs.declared.values.Outcome.TheVariants.{Granted, Finished, Withdrawn, Stopped}
use Rattle.reservation_core.specs.Scene.{Scene}
use Rattle.reservation_core.specs.Lines.{Line, of_bay}
use Rattle.reservation_core.specs.History.{closes, open_after, open_of, Opened}
use Rattle.reservation_core.specs.Hearing.{IsVerdictOn}
use Rattle.reservation_core.specs.Runs.{Run}
use Rattle.reservation_core.specs.Headline.{AtEach, EndsIt, OpenSince, ObeysSince, DrivesAreGranted}
use Rattle.log_replay.proofs.Leading.{run_is}
use Rattle.log_replay.proofs.LineDecisions.{decides_well}
use Rattle.log_replay.proofs.Truth.{idle_at}
use Rattle.log_replay.proofs.Obeying.{obeys_now}

abbrev pub grant : ℕ → Op → Grant
grant r op = record { round = r; op = op }

closes_other : (q r : ℕ) (op : Op) → q ≢ r → closes q (Some (grant r op)) ≡ Some (grant r op)
closes_other q r op differ = elim (eqb_tells r q) [ inl p ↦ absurd (differ (sym p.1)) | inr p ↦ rw p.0 refl ]

-- an outcome that is no grant and not its end leaves it open
pub stays_open : (x : Outcome) (r : ℕ) (op : Op) → ((p : Opened) → ¬ IsVerdictOn x p) → ¬ EndsIt x r
    → open_after x (Some (grant r op)) ≡ Some (grant r op)
stays_open (Granted q other) r op none ends = absurd (none (record { round = q; op = other }) (refl, refl))
stays_open (Finished q) r op none ends = closes_other q r op ends
stays_open (Withdrawn q) r op none ends = closes_other q r op ends
stays_open (Stopped q) r op none ends = closes_other q r op ends
stays_open x r op none ends = refl

since_open : (m : Meaning) (start : List Bool) (lines : List Line) (w : Scene) (c r : ℕ) (op : Op)
    → IsStation m.diagram → Laws m → Run m start lines w → OpenSince lines c r op → open_of lines c ≡ Some (grant r op)
since_open m start [] w c r op station laws run since = absurd since
since_open m start (l ∷ before) w c r op station laws run (inl now) = rw now refl
since_open m start (l ∷ before) w c r op station laws run (inr (earlier, ends)) =
    let was : open_of before c ≡ Some (grant r op) =
    since_open m start before run.0 c r op station laws run.1 earlier in
    let is = run_is m start before run.0 station laws run.1 in
    let none : (p : Opened) → ¬ IsVerdictOn (of_bay l.shown c) p = λ p d.
    let idle = idle_at m before l run.0 w c p is.facts.rounds is.links.said run.2
    ((decides_well m start l before w station laws run).no_other c p d) in
    let shut = (is.links.nodes c).granted in
    absurd (cc (was, sym shut ∙ idle)) in
    ap (λ (g : Option Grant). open_after (of_bay l.shown c) g) was ∙ stays_open (of_bay l.shown c) r op none ends

obeys_since : (m : Meaning) (start : List Bool) (lines : List Line) (w : Scene) → IsStation m.diagram → Laws m
    → Run m start lines w → ObeysSince m.diagram start lines
obeys_since m start lines w station laws run c r op v since is = obeys_now m start lines w
    (run_is m start lines w station laws run) c (grant r op) v
    (since_open m start lines w c r op station laws run since) is

-- the second half of the headline
pub run_obeys : (m : Meaning) (start : List Bool) (lines : List Line) (w : Scene) → IsStation m.diagram → Laws m
    → Run m start lines w → AtEach (ObeysSince m.diagram start) lines
run_obeys m start [] w station laws run = obeys_since m start [] w station laws run
run_obeys m start (l ∷ before) w station laws run = (
  obeys_since m start
      (l ∷ before) w station laws run,
  run_obeys m start before run.0 station laws run.1,
)

-- ---- the other way: the open operation was granted and has not ended

-- an operation that is open still was open before, and this is not its end
still_open : (q : ℕ) (was : Option Grant) (g : Grant) → closes q was ≡ Some g → (was ≡ Some g) × (q ≢ g.round)
still_open q None g is = absurd cc
still_open q (Some x) g is = elim (eqb_tells x.round q) [
  | inl p ↦ absurd (let e : closes q (Some x) ≡ None = rw p.0 refl in cc)
  | inr p ↦
      let e : closes q (Some x) ≡ Some x = rw p.0 refl in
      let same : x ≡ g = cc in (ap Some same, λ (r : q ≡ g.round). p.1 (ap (λ (y : Grant). y.round) same ∙ sym r))
]

-- what is open after a line was open before it, or is granted at it
since_line : (l : Line) (before : List Line) (c : ℕ) (g : Grant) (x : Outcome) → ((h : Grant) →
    open_of before c ≡ Some h → OpenSince before c h.round h.op) → of_bay l.shown c ≡ x →
    open_after x (open_of before c) ≡ Some g → OpenSince (l ∷ before) c g.round g.op
since_line l before c g (Granted q other) earlier shows now = let same : grant q other ≡ g = cc in
    inl (shows ∙ ap (λ (y : Grant). Granted y.round y.op) same)
since_line l before c g (Finished q) earlier shows now = let s = still_open q (open_of before c) g now in
    inr (earlier g s.0, subst (λ (y : Outcome). ¬ EndsIt y g.round) (sym shows) s.1)
since_line l before c g (Withdrawn q) earlier shows now = let s = still_open q (open_of before c) g now in
    inr (earlier g s.0, subst (λ (y : Outcome). ¬ EndsIt y g.round) (sym shows) s.1)
since_line l before c g (Stopped q) earlier shows now = let s = still_open q (open_of before c) g now in
    inr (earlier g s.0, subst (λ (y : Outcome). ¬ EndsIt y g.round) (sym shows) s.1)
since_line l before c g x earlier shows now =
    inr (earlier g now, subst (λ (y : Outcome). ¬ EndsIt y g.round) (sym shows) (λ e. e))

pub opens_since : (lines : List Line) (c : ℕ) (g : Grant) → open_of lines c ≡ Some g → OpenSince lines c g.round g.op
opens_since [] c g is = absurd cc
opens_since (l ∷ before) c g is =
    since_line l before c g (of_bay l.shown c) (λ h opened. opens_since before c h opened) refl is

granted_now : (m : Meaning) (start : List Bool) (lines : List Line) (w : Scene) → IsStation m.diagram → Laws m
    → Run m start lines w → DrivesAreGranted m.diagram lines
granted_now m start lines w station laws run i lt on =
    let is = run_is m start lines w station laws run in
    let driven = is.facts.rounds.drives i lt (is.links.drives i lt ∙ on) in
    let opened = sym (is.links.nodes (bay_of m.diagram i)).granted ∙ driven.granted in
    (driven.grant.round, driven.grant.op, driven.switch, opens_since lines (bay_of m.diagram i) driven.grant opened)

-- every movement was granted
pub run_granted : (m : Meaning) (start : List Bool) (lines : List Line) (w : Scene) → IsStation m.diagram → Laws m
    → Run m start lines w → AtEach (DrivesAreGranted m.diagram) lines
run_granted m start [] w station laws run = granted_now m start [] w station laws run
run_granted m start (l ∷ before) w station laws run = (
  granted_now m start (l ∷ before) w station laws run,
  run_granted m start before run.0 station laws run.1,
)
