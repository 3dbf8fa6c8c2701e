-- The text of a report and its end decide the report.
use Rattle.std.proofs.Common.{◌≡◌, ◌≢◌, ◌⊎◌, ◌+◌, ◌-◌, ◌≤◌, ◌==◌, ◌∙◌, refl, sym, ap, subst, ℕ, zero, suc, Bool, false}
use Rattle.std.proofs.Common.{List, [], ◌∷◌, length, Option, Some, Contains, Result, Ok, Err, inl, inr, arith}
use Rattle.std.specs.Prelude.{All, IfOk, cond}
use Rattle.std.proofs.lemmas.Option.{slice_get_within}
use Rattle.std.proofs.lemmas.Bool.{cases_eq}
use Rattle.station_graph.specs.Diagram.{Diagram, IsStation}
use Rattle.central_rules.specs.Meaning.{Meaning}
use Rattle.bay_protocol.specs.declared.values.Outcome.{Outcome}
use Rattle.bay_protocol.specs.declared.values.Outcome.TheVariants.{Quiet}
use Rattle.reservation_core.specs.Lines.{Message, Shown}
use Rattle.reservation_core.specs.Premises.{number}
use Rattle.reservation_core.specs.Runs.{IsPremiseOf}
use Rattle.reservation_core.specs.declared.values.Which.{Which}
use Rattle.reservation_core.specs.declared.values.Which.TheVariants.{Start}
use Rattle.reservation_core.specs.declared.values.WorldEvent.{WorldEvent}
use Rattle.reservation_core.specs.declared.values.WorldEvent.TheVariants.{Command, Sense, Deliver, Tick, Withdraw}
use Rattle.reservation_core.specs.declared.values.WorldEvent.TheVariants.{Restart, Begin, End, Part, Cut}
use Rattle.reservation_core.specs.declared.values.LogEvent.{LogEvent}
use Rattle.log_replay.specs.Replay.{Replayed, IsReplay, report_text}
use Rattle.log_replay.specs.Telling.{PathsAreLines, IsShowable, ShowSame, shown_after, lines_shown, IsWholeReport}
use Rattle.log_replay.specs.declared.limits.TheConstants.{MOST_RECORDS}
use Rattle.log_replay.proofs.Basic.{of_own, of_other, of_quiet}
use Rattle.log_replay.proofs.Telling.{tells_all}

-- ---- what shows the same is the same

quiet_or : (o : Outcome) → (o ≡ Quiet) ⊎ (o ≢ Quiet)
quiet_or Quiet = inl refl
quiet_or o = inr (λ e. cc e)

some_or : {X : Type 0} (xs : List X) → (xs ≡ []) ⊎ ((x : X) × Contains xs x)
some_or [] = inl refl
some_or (x ∷ xs) = inr (x, (zero, omega arith, refl))

module _ (d : Diagram) (s t : Shown) (is : IsShowable d s) (it : IsShowable d t) (same : ShowSame s t) where
  -- where there is an outcome, the bay is told by it
  bay_of_outcome : s.outcome ≢ Quiet → s.bay ≡ t.bay
  bay_of_outcome some = elim (cases_eq s.bay t.bay) [
    | inl e ↦ e
    | inr differ ↦ absurd (some (sym (of_own s s.bay refl) ∙ same.outcome s.bay
        ∙ of_other t s.bay (λ e. differ (sym e))))
  ]

  also_quiet : s.outcome ≡ Quiet → t.outcome ≡ Quiet
  also_quiet quiet = sym (of_own t t.bay refl) ∙ sym (same.outcome t.bay) ∙ of_quiet s t.bay quiet

  same_bay : s.bay ≡ t.bay
  same_bay = elim (quiet_or s.outcome) [
    | inr some ↦ bay_of_outcome some
    | inl quiet ↦ elim (some_or s.messages) [
      | inl none ↦ is.silent quiet none ∙ sym (it.silent (also_quiet quiet) (sym same.messages ∙ none))
      | inr found ↦ sym (is.own found.0 found.1)
          ∙ it.own found.0 (subst (λ (xs : List Message). Contains xs found.0) same.messages found.1)
    ]
  ]

  same_outcome : s.outcome ≡ t.outcome
  same_outcome = sym (of_own s s.bay refl) ∙ same.outcome s.bay ∙ of_own t s.bay (sym same_bay)

  same_shown : s ≡ t
  same_shown = λ i. record { bay = same_bay i; outcome = same_outcome i; messages = same.messages i }

same_out : (d : Diagram) (xs ys : List Shown) → length xs ≡ length ys → All (IsShowable d) xs → All (IsShowable d) ys →
    ((i : ℕ) → ShowSame (shown_after xs i) (shown_after ys i)) → xs ≡ ys
same_out d [] [] long all each same = refl
same_out d [] (y ∷ ys) long all each same = absurd (omega (arith, long))
same_out d (x ∷ xs) [] long all each same = absurd (omega (arith, long))
same_out d (x ∷ xs) (y ∷ ys) long all each same =
    ap (λ (z : Shown). z ∷ xs) (same_shown d x y (all 0 x (omega arith)) (each 0 y (omega arith)) (same 0))
    ∙ ap (λ (zs : List Shown). y ∷ zs) (same_out d xs ys (omega (arith, long))
    (λ k c less. all (suc k) c (omega (arith, less))) (λ k c less. each (suc k) c (omega (arith, less)))
    (λ i. same (suc i)))

-- ---- one text, one report

pub one_report : (d : Diagram) → IsStation d → (count : ℕ) (r t : Replayed) → PathsAreLines d →
    IsWholeReport d count r → IsWholeReport d count t → r.broken ≡ t.broken → report_text d r ≡ report_text d t → r ≡ t
one_report d station count r t paths is it end text =
    let long : length r.out ≡ length t.out =
    is.lines ∙ ap (λ (b : Option (ℕ × Which)). lines_shown b count) end ∙ sym it.lines in
    let few = is.few in
    let first = is.within in
    let other = it.within in
    let is_count = is.count_is in
    let it_count = it.count_is in
    let same = tells_all d station r t paths (omega (arith, first, few)) (omega (arith, other, few)) is.showable it.showable
    (omega (arith, is_count, few)) (omega (arith, it_count, few)) text in
    let out : r.out ≡ t.out = same_out d r.out t.out long is.showable it.showable same.lines in
    let counts : r.count ≡ t.count = is.count_is ∙ sym it.count_is in
    λ i. record { out = out i; broken = end i; count = counts i }

-- ---- a replay's report is whole

-- what happens breaks no premise of the start
no_start_broken : (event : WorldEvent) (which : Which) → IsPremiseOf event which → (number which == 1) ≡ false
no_start_broken (Command op) which is = absurd is
no_start_broken (Sense i word) which is = ap (λ (w : Which). number w == 1) is
no_start_broken (Deliver k) which is = ap (λ (w : Which). number w == 1) is
no_start_broken (Tick b) which is = absurd is
no_start_broken (Withdraw b) which is = ap (λ (w : Which). number w == 1) is
no_start_broken (Restart b) which is = absurd is
no_start_broken (Begin i) which is = ap (λ (w : Which). number w == 1) is
no_start_broken (End i) which is = ap (λ (w : Which). number w == 1) is
no_start_broken (Part k bytes) which is = ap (λ (w : Which). number w == 1) is
no_start_broken (Cut i) which is = ap (λ (w : Which). number w == 1) is

pub stopped_lines : (event : WorldEvent) (which : Which) (shown count : ℕ) → IsPremiseOf event which →
    shown ≡ lines_shown (Some (shown + 1, which)) count
stopped_lines event which shown count is =
    let less : shown ≡ (shown + 1) - 1 = omega arith in
    less ∙ sym (ap (λ (b : Bool). cond b 0 ((shown + 1) - 1)) (no_start_broken event which is))

-- ends where it says
pub record EndsSo (r : Replayed) (count : ℕ) : Type 0 where
  pub lines : length r.out ≡ lines_shown r.broken count
  pub within : length r.out ≤ count

pub ends_so : (m : Meaning) (log : List LogEvent) (r : Replayed) → IsReplay m log r → r.count ≡ length log →
    EndsSo r (length log)
ends_so m log r (IsReplay.whole w is all none) count = record {
  lines = all ∙ sym (ap (λ (b : Option (ℕ × Which)). lines_shown b (length log)) none);
  within = omega (arith, all);
}
ends_so m log r (IsReplay.stops w e which is got breaks broken) count =
    let lt = slice_get_within log (length r.out) _ got in
    record {
      lines = stopped_lines e which (length r.out) (length log) breaks.named
          ∙ sym (ap (λ (b : Option (ℕ × Which)). lines_shown b (length log)) broken);
      within = omega (arith, lt);
    }
ends_so m log r (IsReplay.no_start none empty broken) count =
    let no_line : length r.out ≡ 0 = ap (λ (xs : List Shown). length xs) empty in
    record {
      lines = no_line ∙ sym (ap (λ (b : Option (ℕ × Which)). lines_shown b (length log)) broken);
      within = omega (arith, no_line);
    }

pub whole_report : (d : Diagram) (r : Replayed) (count : ℕ) → EndsSo r count → All (IsShowable d) r.out →
    r.count ≡ count → count ≤ MOST_RECORDS → IsWholeReport d count r
whole_report d r count ends showable counted few =
    record { showable = showable; count_is = counted; few = few; lines = ends.lines; within = ends.within }

pub whole_if : {E : Type 0} (m : Meaning) (d : Diagram) (log : List LogEvent) (r : Result Replayed E) →
    IfOk r (IsReplay m log) → IfOk r (λ (x : Replayed). All (IsShowable d) x.out) →
    IfOk r (λ (x : Replayed). x.count ≡ length log) → length log ≤ MOST_RECORDS → IfOk r (IsWholeReport d (length log))
whole_if m d log (Ok x) replay showable counted few =
    whole_report d x (length log) (ends_so m log x replay counted) showable counted few
whole_if m d log (Err e) replay showable counted few = tt

-- a report of no line
pub empty_whole : (d : Diagram) (count line : ℕ) (r : Replayed) → r.out ≡ [] → r.broken ≡ Some (line, Start) →
    r.count ≡ count → count ≤ MOST_RECORDS → IsWholeReport d count r
empty_whole d count line r empty broken counted few =
    let no_line : length r.out ≡ 0 = ap (λ (xs : List Shown). length xs) empty in
    whole_report d r count (record {
      lines = no_line ∙ sym (ap (λ (b : Option (ℕ × Which)). lines_shown b count) broken);
      within = omega (arith, no_line);
    }) (subst (λ (xs : List Shown). All (IsShowable d) xs) (sym empty) (λ k x lt. absurd (omega (arith, lt))))
    counted few
