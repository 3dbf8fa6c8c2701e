-- A call that ends otherwise than by its text or for memory has a cause.
use Rattle.std.proofs.Common.{◌≡◌, ◌⊎◌, ◌-◌, ℕ, List, Option, Some, None, Ok, Err, refl, sym, ap, ◌∙◌, arith, inl, inr}
use Rattle.std.proofs.Common.{subst}
use Rattle.ilk_base.specs.declared.words.Dbpos.{Dbpos}
use Rattle.ilk_base.specs.declared.words.InputRefusal.{InputRefusal}
use Rattle.ilk_base.specs.declared.words.BayId.{BayId}
use Rattle.station_graph.specs.Diagram.{Diagram, IsStation}
use Rattle.ssd_read.specs.declared.refusal.SsdRefusal.{SsdRefusal}
use Rattle.ssd_read.specs.StandsFor.{Stands}
use Rattle.ssd_read.proofs.Once.{one_station}
use Rattle.double_points.specs.Positions.{IsAccepted, IsRefusedWith}
use Rattle.interlock_cli.specs.Formats.{Format, Drawing, Elements, Positions, CertainPositions, OrderOf, LogOf}
use Rattle.interlock_cli.specs.Formats.{TripLogOf}
use Rattle.interlock_cli.specs.Formats.{BlocksOf, SwitchOf, BayOf, Value, AcceptsAs, Refuses, PassesLimit}
use Rattle.interlock_cli.specs.Form.{Form, Write, Take, Serve, Origin, File, Word, IsContent, Given, Fails, FormStops}
use Rattle.interlock_cli.specs.Form.{ReadRose}
use Rattle.interlock_cli.specs.Commands.{Command, form_of}
use Rattle.ilk_base.specs.Outside.{Rose}
use Rattle.release_compile.specs.Judging.{KeepsLimits, IsBuildRefusal}
use Rattle.release_compile.specs.Summaries.{judges}
use Rattle.release_compile.specs.declared.refusal.BuildRefusal.{BuildRefusal}
use Rattle.release_compile.specs.declared.refusal.BuildRefusal.TheVariants.{Memory, Many, Wide}
use Rattle.release_compile.proofs.MostLemmas.{limits_kept}
use Rattle.node_session.specs.declared.end.SessionEnd.{SessionEnd}
use Rattle.node_session.specs.declared.end.SessionEnd.TheVariants as se
use Rattle.node_session.proofs.Whole.{goes_through}
use Rattle.interlock_cli.specs.Serving.{session_end, ServesBay}
use Rattle.interlock_cli.specs.Lines.{status_of}
use Rattle.interlock_cli.specs.Ends.{Call, FormEnds, Serves, Ends}
use Rattle.interlock_cli.specs.Complete.{OriginTells, IsAnswered, ReadsCalm, Completes}
use Rattle.switching_orders.specs.Certain.{IsUnsure}
use Rattle.station_lines.proofs.DrawingLemmas.{drawing_stands}
use Rattle.equation_audit.proofs.OneOutcome.{blocks_not_refused}
use Rattle.log_replay.proofs.OneOutcome.{log_not_refused}
use Rattle.trip_replay.proofs.OneTripOutcome.{trip_log_not_refused}
use Rattle.interlock_cli.proofs.Orders.{never_unsure, order_not_refused}
use Rattle.interlock_cli.specs.declared.status.Status.{Status}
use Rattle.interlock_cli.specs.declared.status.Status.TheVariants as s
use Rattle.interlock_cli.specs.declared.status.Status.TheVariants.{Usage}
use Rattle.interlock_cli.specs.declared.end.Outcome.{Outcome}
use Rattle.interlock_cli.specs.declared.end.Outcome.TheVariants.{Done, Differs, Premise, TooWide}
use Rattle.interlock_cli.specs.declared.end.End.{End}
use Rattle.interlock_cli.specs.declared.end.End.TheVariants as e

not_both : (paths : List (List ℕ)) (b : List ℕ) (words : List Dbpos) (r : InputRefusal) → IsAccepted paths b words →
    IsRefusedWith paths b r → ⊥
not_both paths b words r a (inl long) = omega (arith, a.0, long.0)
not_both paths b words r a (inr short) =
    let f = short.1 in
    let none = a.1 (r.line - 1) (omega (arith, f.counts, f.within)) in
    cc (none, f.fault)

not_refused : (s : List ℕ) (d : Diagram) (refusal : SsdRefusal) → Stands s (Ok d) → Stands s (Err refusal) → ⊥
not_refused s d refusal stands refused = let same = one_station s (Ok d) (Err refusal) stands refused in cc same

within_limits : (s : List ℕ) (d : Diagram) (refusal : BuildRefusal) → Stands s (Ok d) → KeepsLimits d →
    PassesLimit s refusal → refusal ≡ Memory
within_limits s d refusal stands keeps passes =
    let equal = one_station s (Ok passes.diagram) (Ok d) passes.stands stands in
    let same : passes.diagram ≡ d = cc equal in
    limits_kept d (subst IsStation same passes.station) refusal keeps
    (subst (λ (x : Diagram). IsBuildRefusal x refusal) same passes.past)

many_some : (part : BayId) (step : ℕ) → Many part step ≡ Memory → ⊥
many_some part step is = cc is

wide_some : (bay : BayId) → Wide bay ≡ Memory → ⊥
wide_some bay is = cc is

-- no content is accepted and refused
one_verdict : (f : Format) (content : List ℕ) (a : Value f) (end : End) → AcceptsAs f content a →
    Refuses f content end → ⊥
one_verdict Drawing content a (e.Station refusal) p r = not_refused content a refusal p.0 r
one_verdict Drawing content a (e.Many part step) p r =
    absurd (many_some part step (within_limits content a (Many part step) p.0 p.1 r))
one_verdict Drawing content a (e.Wide bay) p r = absurd (wide_some bay (within_limits content a (Wide bay) p.0 p.1 r))
one_verdict Elements content all (e.Station refusal) p r =
    not_refused content p.reads.station.diagram refusal (drawing_stands content all p) r
one_verdict (Positions d) content a (e.Input refusal) p r = not_both d.switch_paths content a refusal p r
one_verdict (CertainPositions d) content v (e.Input refusal) (words, accepted, are) (inl fault) =
    not_both d.switch_paths content words refusal accepted fault
one_verdict (CertainPositions d) content v (e.Input refusal) (words, accepted, are) (inr (others, same, unsure, is)) =
    never_unsure v (subst IsUnsure (same.2 ∙ sym accepted.2 ∙ are) unsure)
one_verdict (OrderOf d) content steps (e.Input refusal) p r = order_not_refused d content steps refusal p r
one_verdict (LogOf d) content events (e.Input refusal) p r = log_not_refused d content events refusal p.0 p.1 r
one_verdict (TripLogOf d) content events (e.Input refusal) p r =
    trip_log_not_refused d content events refusal p.0 p.1 r
one_verdict (BlocksOf d) content es (e.Input refusal) p r = blocks_not_refused d p.0 content es refusal p.1 r
one_verdict (SwitchOf d) content a (e.Input refusal) p r = r.0 p.0
one_verdict (BayOf d) content b (e.Input refusal) p r = r.0 b p
one_verdict f content a end p r = r

same_content : (held : List ℕ → Option (List ℕ)) (origin : Origin) (a b : List ℕ) → OriginTells held origin a →
    IsContent held origin b → b ≡ a
same_content held (File name) a b told is = let h = rw told at is in sym h
same_content held (Word word) a b told is = sym is ∙ told

module _ (held : List ℕ → Option (List ℕ)) (before after : List ℕ → ℕ) where
  pub fails_memory : (origin : Origin) (f : Format) (content : List ℕ) (value : Value f) (end : End) →
      OriginTells held origin content → AcceptsAs f content value → (¬ ReadRose before after origin) →
      Fails held before after origin f end → end ≡ e.Memory
  fails_memory origin f content value e.Memory told accepts calm fails = refl
  fails_memory origin f content value e.ReadFault told accepts calm fails = absurd (calm fails)
  fails_memory origin f content value end told accepts calm (other, is, refuses) =
      let same = same_content held origin content other told is in
      absurd (one_verdict f content value end accepts (subst (λ (x : List ℕ). Refuses f x end) same refuses))

module _ (c : Call) where
  -- what is found of the first that is named is what is told of it
  pub found_told : (origin : Origin) (f : Format) (content : List ℕ) (value : Value f)
      → OriginTells c.held origin content →
      Given c.held origin f value → AcceptsAs f content value
  found_told origin f content value told (other, is, accepted) =
      let same = same_content c.held origin content other told is in
      subst (λ (x : List ℕ). AcceptsAs f x value) same accepted

  stops_memory : (form : Form) (end : End) → IsAnswered form c.held c.before.input → ReadsCalm form c →
      FormStops form c.held c.reads_before c.reads_after end → end ≡ e.Memory
  stops_memory (Write writes) end answered calm stops = stops
  stops_memory (Serve d b) end answered calm stops = absurd stops
  stops_memory (Take origin f next) end (content, told, (value, accepts), more) calm (inl fails) =
      fails_memory c.held c.reads_before c.reads_after origin f content value end told accepts calm.0 fails
  stops_memory (Take origin f next) end (content, told, acceptable, more) calm (inr (found, given, stops)) =
      stops_memory (next found) end (more found (found_told origin f content found told given)) (calm.1 found) stops

  -- an input that is told, and of lines that are not refused, is served to its end
  serves_through : (form : Form) (end : End) → IsAnswered form c.held c.before.input → ReadsCalm form c →
      ¬ Rose c.before.writes c.after.writes → Serves form c end
      → (Serves form c (e.Written Done) × (end ≡ e.Written Done)) ⊎ (end ≡ e.Memory)
  serves_through (Write writes) end answered calm out serves = absurd serves
  serves_through (Serve d b) end (content, told, input) calm out (s, is, serves) =
      elim (goes_through (judges serves.judging) d b c.before c.after s content serves.ends told input calm out) [
        | inl done ↦ inl (
          (se.Done, refl, subst (λ (x : SessionEnd). ServesBay d b c.before c.after x) done serves),
          is ∙ ap session_end done,
        )
        | inr memory ↦ inr (is ∙ ap session_end memory)
      ]
  serves_through (Take origin f next) end (content, told, acceptable, more) calm out (found, given, serves) =
      elim (serves_through (next found) end (more found (found_told origin f content found told given))
      (calm.1 found) out serves) [
        | inl whole ↦ inl ((found, given, whole.0), whole.1)
        | inr memory ↦ inr memory
      ]

  ends_through : (status : Status) (command : Command) (end : End) → status ≡ status_of end →
      FormEnds (form_of command) c end → Completes status (Some command) c
  ends_through status command (e.Written outcome) is (text, tells, took) =
      λ answered reads out. inl (outcome, text, tells, is)
  ends_through status command e.WriteFault is ends = λ answered reads out. absurd (out ends.0)
  ends_through status command e.Usage is ends = absurd ends
  ends_through status command end is ends =
      λ answered reads out. inr (inr (is ∙ ap status_of (stops_memory (form_of command) end answered reads ends.0)))

  pub completes : (status : Status) (command : Option Command) (end : End) → status ≡ status_of end →
      Ends command c end → Completes status command c
  completes status None end is ends = tt
  completes status (Some command) end is (inl (ends, unasked)) = ends_through status command end is ends
  completes status (Some command) end is (inr serves) = λ answered reads out.
      elim (serves_through (form_of command) end answered reads out serves) [
        | inl whole ↦ inr (inl (whole.0, is ∙ ap status_of whole.1))
        | inr memory ↦ inr (inr (is ∙ ap status_of memory))
      ]

outcome_usage : (outcome : Outcome) → status_of (e.Written outcome) ≡ Usage → ⊥
outcome_usage Done is = cc is
outcome_usage Differs is = cc is
outcome_usage (Premise number line) is = cc is
outcome_usage (TooWide bay) is = cc is

not_usage : (s : SessionEnd) → e.Usage ≡ session_end s → ⊥
not_usage se.Done is = cc is
not_usage (se.Refused line) is = cc is
not_usage se.Long is = cc is
not_usage se.ReadFault is = cc is
not_usage se.WriteFault is = cc is
not_usage se.Memory is = cc is

serves_usage : (form : Form) (c : Call) → Serves form c e.Usage → ⊥
serves_usage (Write writes) c serves = serves
serves_usage (Serve d b) c (s, is, serves) = not_usage s is
serves_usage (Take origin f next) c (value, given, serves) = serves_usage (next value) c serves

ends_usage : (command : Command) (c : Call) → Ends (Some command) c e.Usage → ⊥
ends_usage command c (inl (ends, unasked)) = ends
ends_usage command c (inr serves) = serves_usage (form_of command) c serves

some_usage : (command : Command) (c : Call) (end : End) → end ≡ e.Usage → Ends (Some command) c end → ⊥
some_usage command c end is ends = ends_usage command c (subst (λ (x : End). Ends (Some command) c x) is ends)

usage_end : (end : End) → status_of end ≡ Usage → end ≡ e.Usage
usage_end (e.Written outcome) is = absurd (outcome_usage outcome is)
usage_end e.Usage is = refl
usage_end e.ReadFault is = cc is
usage_end e.WriteFault is = cc is
usage_end (e.Station refusal) is = cc is
usage_end (e.Many part step) is = cc is
usage_end (e.Wide bay) is = cc is
usage_end (e.Input refusal) is = cc is
usage_end e.Long is = cc is
usage_end e.Memory is = cc is

-- the call is Usage only where the words name no command
pub usage : (status : Status) (command : Option Command) (c : Call) (end : End) → status ≡ status_of end →
    Ends command c end → status ≡ Usage → command ≡ None
usage status None c end is ends = λ u. refl
usage status (Some command) c end is ends = λ u. absurd (some_usage command c end (usage_end end (sym is ∙ u)) ends)

-- and then it is, or wants memory
pub unnamed : (status : Status) (command : Option Command) (c : Call) (end : End) → status ≡ status_of end →
    Ends command c end → command ≡ None → (status ≡ Usage) ⊎ (status ≡ s.Memory)
unnamed status None c e.Usage is ends = λ none. inl is
unnamed status None c e.Memory is ends = λ none. inr is
unnamed status None c end is ends = absurd ends.0
unnamed status (Some command) c end is ends = λ none. cc none
