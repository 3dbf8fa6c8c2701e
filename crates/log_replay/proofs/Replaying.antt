-- What a replay keeps at each line.
use Rattle.std.proofs.Common.{◌≡◌, ◌≢◌, ◌+◌, ◌*◌, ◌<◌, ◌≤◌, ◌∙◌, sym, ap, refl, subst, ℕ, Bool, List, [], ◌∷◌, ◌++◌}
use Rattle.std.proofs.Common.{length, map, Option, Some, None, arith}
use Rattle.std.specs.Prelude.{slice_get, All}
use Rattle.std.proofs.lemmas.List.{length-append, length-map, map-append}
use Rattle.ilk_base.specs.declared.words.SwitchId.{SwitchId}
use Rattle.station_graph.specs.Diagram.{IsStation}
use Rattle.station_graph.specs.declared.limits.TheConstants.{BAYS}
use Rattle.central_rules.specs.Meaning.{Meaning, Laws}
use Rattle.reservation_core.specs.declared.values.LogEvent.{LogEvent}
use Rattle.reservation_core.specs.declared.values.LogEvent.TheVariants.{At, Step}
use Rattle.reservation_core.specs.declared.values.WorldEvent.{WorldEvent}
use Rattle.reservation_core.specs.declared.values.WorldOutcome.{WorldOutcome}
use Rattle.reservation_core.specs.declared.values.WorldOutcome.TheVariants.{Premise, Drive, Node}
use Rattle.reservation_core.specs.declared.values.Which.{Which}
use Rattle.reservation_core.specs.Scene.{Scene}
use Rattle.reservation_core.specs.Start.{IsStart}
use Rattle.reservation_core.specs.World.{World, WorldFacts}
use Rattle.reservation_core.specs.Lines.{Line, Shown}
use Rattle.reservation_core.specs.Runs.{Run, Leads, Shows, MayHappen, IsBrokenBy, PremiseExact, PremisesHold}
use Rattle.reservation_core.specs.Runs.{nothing_shown, shown_of}
use Rattle.reservation_core.specs.LogLines.{HasStart, start_of, lines_of}
use Rattle.log_replay.specs.declared.limits.TheConstants.{MOST_RECORDS}
use Rattle.log_replay.specs.Records.{MayBeTold}
use Rattle.log_replay.specs.Following.{LineHappens, FitsAt, IsBroken}
use Rattle.log_replay.specs.Replay.{Replayed, IsRunOf, IsReplay, ShownFits, shown_at}
use Rattle.log_replay.proofs.Premises.{premise_exact}
use Rattle.log_replay.proofs.ReportLemmas.{all_more}
use Rattle.log_replay.specs.Telling.{AreNumbered, IsShowable}
use Rattle.log_replay.proofs.Senders.{own_at}
use Rattle.log_replay.proofs.ShownOutcomes.{nothing_fits, shown_of_fits, nothing_showable, showable_of}

-- what a replay keeps after k lines
pub record Replaying (m : Meaning) (log : List LogEvent) (outs : List (Option WorldOutcome)) (w : World)
    (k : ℕ) : Type 0 where
  pub facts : WorldFacts m w
  pub count : length outs ≡ k
  pub run : Run m (start_of m.diagram log) (lines_of log (map shown_at outs) []) w.scene
  pub premises : PremisesHold m.diagram (start_of m.diagram log) (lines_of log (map shown_at outs) [])
  pub room : length w.scene.sent ≤ 64 * k
  pub fits : All (ShownFits m.diagram) (map shown_at outs)
  pub showable : All (IsShowable m.diagram) (map shown_at outs)

-- ---- lines

pub lines_none : (log : List LogEvent) (seen : List Line) → lines_of log [] seen ≡ seen
lines_none [] seen = refl
lines_none (At i closed ∷ log) seen = refl
lines_none (Step e ∷ log) seen = refl

lines_step : (log : List LogEvent) (out : List Shown) (seen : List Line) (e : WorldEvent) (s : Shown)
    → slice_get log (length out) ≡ Some (Step e) → lines_of log (out ++ s ∷ []) seen ≡ record {
      event = e;
      shown = s;
    } ∷ lines_of log out seen
lines_step [] out seen e s got = absurd (cc got)
lines_step (At i closed ∷ log) [] seen e s got = absurd (cc got)
lines_step (Step x ∷ log) [] seen e s got = let same : x ≡ e = cc got in lines_none log (record {
  event = x;
  shown = s;
} ∷ seen) ∙ ap (λ (y : WorldEvent). let list : List Line = record { event = y; shown = s } ∷ seen in
    list) same
lines_step (At i closed ∷ log) (p ∷ out) seen e s got = lines_step log out seen e s got
lines_step (Step x ∷ log) (p ∷ out) seen e s got = lines_step log out (record { event = x; shown = p } ∷ seen) e s got

lines_at : (log : List LogEvent) (out : List Shown) (seen : List Line) (i : SwitchId) (closed : Bool) (s : Shown)
    → slice_get log (length out) ≡ Some (At i closed) → lines_of log (out ++ s ∷ []) seen ≡ lines_of log out seen
lines_at [] out seen i closed s got = absurd (cc got)
lines_at (At j shut ∷ log) [] seen i closed s got = lines_none log seen ∙ sym (lines_none (At j shut ∷ log) seen)
lines_at (Step x ∷ log) [] seen i closed s got = absurd (cc got)
lines_at (At j shut ∷ log) (p ∷ out) seen i closed s got = lines_at log out seen i closed s got
lines_at (Step x ∷ log) (p ∷ out) seen i closed s got = lines_at log out (record {
  event = x;
  shown = p;
} ∷ seen) i closed s got

pub shows_so : (o : WorldOutcome) → ((which : Which) → o ≢ Premise which) → Shows o (shown_of o)
shows_so (Premise which) none = absurd (none which refl)
shows_so Drive none = record { outcome = refl; messages = refl }
shows_so (Node bay first output) none = refl

-- ---- the lines

pub start_replaying : (m : Meaning) (log : List LogEvent) (w : World) → IsStart m.diagram
    (start_of m.diagram log) w.scene → WorldFacts m w → Replaying m log [] w 0
start_replaying m log w is facts = record {
  facts = facts;
  count = refl;
  run = subst (λ (ls : List Line). Run m (start_of m.diagram log) ls w.scene) (sym (lines_none log [])) is;
  premises = subst (λ (ls : List Line). PremisesHold m.diagram (start_of m.diagram log) ls) (sym
      (lines_none log [])) tt;
  room = let e : length w.scene.sent ≡ 0 = ap length is.sent in omega (arith, e);
  fits = λ k d lt. absurd (omega (arith, lt));
  showable = λ k d lt. absurd (omega (arith, lt));
}

pub shown_more : (outs : List (Option WorldOutcome)) (o : Option WorldOutcome) → map shown_at
    (outs ++ o ∷ []) ≡ map shown_at outs ++ shown_at o ∷ []
shown_more outs o = map-append shown_at outs (o ∷ [])

got_at : (log : List LogEvent) (outs : List (Option WorldOutcome)) (k : ℕ) (x : LogEvent) → length outs ≡ k
    → slice_get log k ≡ Some x → slice_get log (length (map shown_at outs)) ≡ Some x
got_at log outs k x count got = ap (slice_get log) (length-map outs shown_at ∙ count) ∙ got

-- one line more
pub goes_on : (m : Meaning) (log : List LogEvent) (outs : List (Option WorldOutcome)) (old new : World) (k : ℕ)
    (x : LogEvent) (o : Option WorldOutcome) → IsStation m.diagram → Laws m → Replaying m log outs old k
    → slice_get log k ≡ Some x → k < MOST_RECORDS → MayBeTold m.diagram x → LineHappens m old.scene x new.scene o
    → FitsAt m.diagram o → AreNumbered o → length new.scene.sent < length old.scene.sent + BAYS → WorldFacts m new
    → ((which : Which) → ¬ IsBroken o which) → Replaying m log (outs ++ o ∷ []) new (k + 1)
goes_on m log outs old new k (At i closed) (Some o) station laws r got lt told happens fits numbers few facts none =
    absurd happens
goes_on m log outs old new k (Step e) None station laws r got lt told happens fits numbers few facts none =
    absurd happens
goes_on m log outs old new k (At i closed) None station laws r got lt told happens fits numbers few facts none =
    let start = start_of m.diagram log in
    let same = shown_more outs None in
    let lines : lines_of log (map shown_at (outs ++ None ∷ [])) [] ≡ lines_of log (map shown_at outs) [] = ap (λ
    (ss : List Shown). lines_of log ss []) same ∙ lines_at log (map shown_at outs) [] i closed nothing_shown
    (got_at log outs k (At i closed) r.count got) in
    let here : Run m start (lines_of log (map shown_at outs) []) new.scene = subst (λ (w : Scene). Run m start
    (lines_of log (map shown_at outs) []) w) (sym happens) r.run in
    record {
      facts = facts;
      count = let long = length-append outs (None ∷ []) in omega (arith, long, r.count);
      run = subst (λ (ls : List Line). Run m start ls new.scene) (sym lines) here;
      premises = subst (λ (ls : List Line). PremisesHold m.diagram start ls) (sym lines) r.premises;
      room = omega (arith, few, r.room);
      fits = subst (λ (ss : List Shown). All (ShownFits m.diagram) ss) (sym same) (all_more (ShownFits m.diagram)
          (map shown_at outs) nothing_shown r.fits (nothing_fits m.diagram));
      showable = subst (λ (ss : List Shown). All (IsShowable m.diagram) ss) (sym same) (all_more
          (IsShowable m.diagram) (map shown_at outs) nothing_shown r.showable (nothing_showable m.diagram));
    }
goes_on m log outs old new k (Step e) (Some o) station laws r got lt told happens fits numbers few facts none =
    let start = start_of m.diagram log in
    let before = lines_of log (map shown_at outs) [] in
    let same = shown_more outs (Some o) in
    let l : Line = record { event = e; shown = shown_of o } in
    let lines : lines_of log (map shown_at (outs ++ Some o ∷ [])) [] ≡ l ∷ before = ap (λ
    (ss : List Shown). lines_of log ss []) same ∙ lines_step log (map shown_at outs) [] e (shown_of o)
    (got_at log outs k (Step e) r.count got) in
    let no_one : (which : Which) → o ≢ Premise which = λ which is. none which (ap Some is) in
    let may : MayHappen m.diagram start before e = elim
    (premise_exact m start before old.scene new.scene e o station laws r.run told.0 happens) [
      | PremiseExact.keeps may never ↦ may
      | PremiseExact.breaks which is says ↦ absurd (no_one which says)
    ] in
    let leads : Leads m old.scene l new.scene = record {
      range = told.0;
      outcome = o;
      happens = happens;
      shows = shows_so o no_one;
    } in
    record {
      facts = facts;
      count = let long = length-append outs (Some o ∷ []) in omega (arith, long, r.count);
      run = subst (λ (ls : List Line). Run m start ls new.scene) (sym lines) (old.scene, r.run, leads);
      premises = subst (λ (ls : List Line). PremisesHold m.diagram start ls) (sym lines) (may, r.premises);
      room = omega (arith, few, r.room);
      fits = subst (λ (ss : List Shown). All (ShownFits m.diagram) ss) (sym same) (all_more (ShownFits m.diagram)
          (map shown_at outs) (shown_of o) r.fits
          (shown_of_fits m old.scene new.scene e o happens fits (omega (arith, few, r.room, lt))));
      showable = subst (λ (ss : List Shown). All (IsShowable m.diagram) ss) (sym same) (all_more
          (IsShowable m.diagram) (map shown_at outs) (shown_of o) r.showable
          (showable_of m old.scene new.scene e o station happens fits (omega (arith, few, r.room, lt)) numbers
          (own_at m old.scene new.scene l r.facts.facts.rounds.shape.named leads)));
    }

-- ---- the end

-- a report of these outcomes
pub report_is : (r : Replayed) (out : List Shown) (broken : Option (ℕ × Which)) → r.out ≡ out → r.broken ≡ broken
    → r ≡ record { out = out; broken = broken; count = r.count }
report_is r out broken first second = λ i. record { out = first i; broken = second i; count = r.count }

run_of : (m : Meaning) (log : List LogEvent) (outs : List (Option WorldOutcome)) (w : World) (k : ℕ)
    → HasStart m.diagram log → Replaying m log outs w k → IsRunOf m log (map shown_at outs) w.scene
run_of m log outs w k has r = record { start = has; run = r.run; premises = r.premises }

pub is_whole : (m : Meaning) (log : List LogEvent) (outs : List (Option WorldOutcome)) (w : World) (k : ℕ)
    (r : Replayed) → HasStart m.diagram log → Replaying m log outs w k → k ≡ length log → r.out ≡ map shown_at outs
    → r.broken ≡ None → IsReplay m log r
is_whole m log outs w k r has rs all first second =
    subst (IsReplay m log) (sym (report_is r (map shown_at outs) None first second))
    (IsReplay.whole w.scene (run_of m log outs w k has rs) (length-map outs shown_at ∙ rs.count ∙ all) refl)

pub is_stopped : (m : Meaning) (log : List LogEvent) (outs : List (Option WorldOutcome)) (old new : World) (k : ℕ)
    (x : LogEvent) (o : Option WorldOutcome) (which : Which) (r : Replayed) → IsStation m.diagram → Laws m
    → HasStart m.diagram log → Replaying m log outs old k → slice_get log k ≡ Some x → MayBeTold m.diagram x
    → LineHappens m old.scene x new.scene o → IsBroken o which → r.out ≡ map shown_at outs
    → r.broken ≡ Some (k + 1, which) → IsReplay m log r
is_stopped m log outs old new k (At i closed)
    (Some o) which r station laws has rs got told happens broken first second = absurd happens
is_stopped m log outs old new k (Step e) None which r station laws has rs got told happens broken first second =
    absurd happens
is_stopped m log outs old new k (At i closed) None which r station laws has rs got told happens broken first second =
    absurd (cc broken)
is_stopped m log outs old new k (Step e) (Some o) which r station laws has rs got told happens broken first second =
    let start = start_of m.diagram log in
    let before = lines_of log (map shown_at outs) [] in
    let is : o ≡ Premise which = cc broken in
    let breaks : IsBrokenBy m.diagram start before e which = elim
    (premise_exact m start before old.scene new.scene e o station laws rs.run told.0 happens) [
      | PremiseExact.keeps may never ↦ absurd (never which is)
      | PremiseExact.breaks other by says ↦ let same : other ≡ which = cc (is, says) in
          subst (IsBrokenBy m.diagram start before e) same by
    ] in
    let long : length (map shown_at outs) ≡ k = length-map outs shown_at ∙ rs.count in
    subst (IsReplay m log) (sym (report_is r (map shown_at outs) (Some (k + 1, which)) first second))
    (IsReplay.stops old.scene e which (run_of m log outs old k has rs) (got_at log outs k
    (Step e) rs.count got) breaks (ap (λ (n : ℕ). let b : Option (ℕ × Which) = Some (n + 1, which) in
    b) (sym long)))
