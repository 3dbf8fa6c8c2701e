-- Two reports of one text show the same.
use Rattle.std.proofs.Common.{◌≡◌, ◌≢◌, ◌+◌, ◌<◌, ◌≤◌, ◌^◌, ◌∙◌, sym, ap, refl, subst, ℕ, zero, suc, Bool, true, false}
use Rattle.std.proofs.Common.{List, [], ◌∷◌, ◌++◌, length, arith, inl, inr, append-nil, Option, Some, None}
use Rattle.std.specs.Prelude.{All, codes, decimal}
use Rattle.std.specs.Str.{bytes_eq}
use Rattle.std.proofs.lemmas.Bool.{cases_Bool, cases_lt}
use Rattle.std.proofs.lemmas.Fmt.{decimal_injective}
use Rattle.std.proofs.lemmas.List.{append_cancel_left}
use Rattle.std.proofs.lemmas.Slice.Eq.{bytes_eq-Decides}
use Rattle.station_graph.specs.Diagram.{Diagram, IsStation}
use Rattle.reservation_core.specs.Lines.{Shown}
use Rattle.reservation_core.specs.Runs.{nothing_shown}
use Rattle.reservation_core.specs.ReportLines.{bay_lines, line_prefix}
use Rattle.reservation_core.specs.declared.values.Which.{Which}
use Rattle.log_replay.specs.Replay.{Replayed, report_text}
use Rattle.log_replay.specs.Telling.{PathsAreLines, Is32Bits, IsNumbered, IsShowable, ShowSame, shown_after, TellSame}
use Rattle.log_replay.proofs.TextRows.{Each, each_append, free, NoDigit, decimal_free, closed, rows_of, rows_closed}
use Rattle.log_replay.proofs.TextRows.{IsRow, kept, kept_append, all_kept, none_kept}
use Rattle.log_replay.proofs.ReportRows.{says, outcome_rows, message_rows, message_says, shown_rows, all_rows}
use Rattle.log_replay.proofs.ReportRows.{last_rows, report_rows, report_closed}
use Rattle.log_replay.proofs.RowFacts.{wide, outcome_each, messages_each, all_row, last_row}
use Rattle.log_replay.proofs.RowReading.{first, behind, number_in, number_is, first_of_row}
use Rattle.log_replay.proofs.ShownReading.{tell, shown_read}
use Rattle.log_replay.proofs.ShownOutcomes.{nothing_showable}

-- ---- the rows of a line

-- the first word of each row of a line is its number
abbrev BeginsWith : List ℕ → List ℕ → Type 0
BeginsWith w r = first r ≡ w

shown_begins : (d : Diagram) (i : ℕ) (s : Shown) → Is32Bits i → IsShowable d s →
    Each (BeginsWith (decimal i)) (shown_rows d i s)
shown_begins d i s few is =
    let p = line_prefix i s.bay in
    each_append (BeginsWith (decimal i)) (outcome_rows p d s.outcome) (message_rows i s.messages)
    (outcome_each (BeginsWith (decimal i)) p d s.outcome (first_of_row i s.bay (says d s.outcome) few)
    (λ j. first_of_row i s.bay _ few))
    (messages_each (BeginsWith (decimal i)) IsNumbered i s.messages (λ x n. first_of_row i x.from (message_says x) few)
    is.messages)

-- the row begins with this word
abbrev begins : List ℕ → List ℕ → Bool
begins w r = bytes_eq (first r) w

words_kept : (w v : List ℕ) (rs : List (List ℕ)) → w ≡ v → Each (BeginsWith v) rs → kept (begins w) rs ≡ rs
words_kept w v rs same each = all_kept (begins w) rs (all_begin rs each)
  where
    all_begin : (xs : List (List ℕ)) → Each (BeginsWith v) xs → Each (λ (r : List ℕ). begins w r ≡ true) xs
    all_begin [] ys = tt
    all_begin (x ∷ xs) ys = ((bytes_eq-Decides (first x) w).1 (ys.0 ∙ sym same), all_begin xs ys.1)

words_dropped : (w v : List ℕ) (rs : List (List ℕ)) → w ≢ v → Each (BeginsWith v) rs → kept (begins w) rs ≡ []
words_dropped w v rs differ each = none_kept (begins w) rs (none_begin rs each)
  where
    none_begin : (xs : List (List ℕ)) → Each (BeginsWith v) xs → Each (λ (r : List ℕ). begins w r ≡ false) xs
    none_begin [] ys = tt
    none_begin (x ∷ xs) ys = (
      elim (cases_Bool (begins w x)) [
        | inl e ↦ absurd (differ (sym ((bytes_eq-Decides (first x) w).0 e) ∙ ys.0))
        | inr e ↦ e
      ],
      none_begin xs ys.1,
    )

-- another number is another word
others_differ : (i j : ℕ) → Is32Bits i → Is32Bits j → i ≢ j → decimal i ≢ decimal j
others_differ i j few less differ same = differ (decimal_injective i j (wide i few) (wide j less) same)

no_letter : NoDigit 100
no_letter k few is = omega (arith, few, is)

done_differs : (i : ℕ) → Is32Bits i → decimal i ≢ codes "done"
done_differs i few same = let is : free 100 (codes "done") ≡ true = sym (ap (free 100) same)
    ∙ decimal_free 100 i no_letter (wide i few) in absurd (cc is)

-- ---- the lines behind

rest_dropped : (d : Diagram) (i k : ℕ) (out : List Shown) → i < k → k + length out < 2 ^ 32 → All (IsShowable d) out →
    kept (begins (decimal i)) (all_rows d k out) ≡ []
rest_dropped d i k [] less few all = refl
rest_dropped d i k (s ∷ out) less few all =
    kept_append (begins (decimal i)) (shown_rows d k s) (all_rows d (k + 1) out)
    ∙ ap (λ (rs : List (List ℕ)). rs ++ kept (begins (decimal i)) (all_rows d (k + 1) out))
    (words_dropped (decimal i) (decimal k) (shown_rows d k s) (others_differ i k (omega (arith, less, few))
    (omega (arith, few)) (omega (arith, less))) (shown_begins d k s (omega (arith, few)) (all 0 s (omega arith))))
    ∙ rest_dropped d i (k + 1) out (omega (arith, less)) (omega (arith, few))
    (λ j x within. all (suc j) x (omega (arith, within)))

-- the rows of a line among those of all lines
line_kept : (d : Diagram) (i k : ℕ) (out : List Shown) → Is32Bits (k + i) → k + length out < 2 ^ 32 →
    All (IsShowable d) out →
    kept (begins (decimal (k + i))) (all_rows d k out) ≡ shown_rows d (k + i) (shown_after out i)
line_kept d zero k [] number few all = refl
line_kept d (suc i) k [] number few all = refl
line_kept d zero k (s ∷ out) number few all =
    let here : k + zero ≡ k = omega arith in
    let mine = words_kept (decimal (k + zero)) (decimal k) (shown_rows d k s) (ap decimal here)
    (shown_begins d k s (omega (arith, few)) (all 0 s (omega arith))) in
    kept_append (begins (decimal (k + zero))) (shown_rows d k s) (all_rows d (k + 1) out)
    ∙ ap (λ (rs : List (List ℕ)). rs ++ kept (begins (decimal (k + zero))) (all_rows d (k + 1) out)) mine
    ∙ ap (λ (rs : List (List ℕ)). shown_rows d k s ++ rs) (rest_dropped d (k + zero) (k + 1) out (omega arith)
    (omega (arith, few)) (λ j x within. all (suc j) x (omega (arith, within))))
    ∙ append-nil (shown_rows d k s)
    ∙ ap (λ (n : ℕ). shown_rows d n s) (sym here)
line_kept d (suc i) k (s ∷ out) number few all =
    let next : k + suc i ≡ (k + 1) + i = omega arith in
    let dropped = words_dropped (decimal (k + suc i)) (decimal k) (shown_rows d k s) (others_differ (k + suc i) k number
    (omega (arith, few)) (omega arith)) (shown_begins d k s (omega (arith, few)) (all 0 s (omega arith))) in
    kept_append (begins (decimal (k + suc i))) (shown_rows d k s) (all_rows d (k + 1) out)
    ∙ ap (λ (rs : List (List ℕ)). rs ++ kept (begins (decimal (k + suc i))) (all_rows d (k + 1) out)) dropped
    ∙ ap (λ (n : ℕ). kept (begins (decimal n)) (all_rows d (k + 1) out)) next
    ∙ line_kept d i (k + 1) out (omega (arith, number)) (omega (arith, few))
    (λ j x within. all (suc j) x (omega (arith, within)))
    ∙ ap (λ (n : ℕ). shown_rows d n (shown_after out i)) (sym next)

-- ---- the last row

last_dropped : (i : ℕ) (broken : Option (ℕ × Which)) (count : ℕ) → Is32Bits i →
    kept (begins (decimal i)) (last_rows broken count) ≡ []
last_dropped i None count few = words_dropped (decimal i) (codes "done") (last_rows None count)
    (done_differs i few) (refl, tt)
last_dropped i (Some broken) count few = refl

lines_dropped : (d : Diagram) (k : ℕ) (out : List Shown) → k + length out < 2 ^ 32 → All (IsShowable d) out →
    kept (begins (codes "done")) (all_rows d k out) ≡ []
lines_dropped d k [] few all = refl
lines_dropped d k (s ∷ out) few all =
    kept_append (begins (codes "done")) (shown_rows d k s) (all_rows d (k + 1) out)
    ∙ ap (λ (rs : List (List ℕ)). rs ++ kept (begins (codes "done")) (all_rows d (k + 1) out))
    (words_dropped (codes "done") (decimal k) (shown_rows d k s) (λ e. done_differs k (omega (arith, few)) (sym e))
    (shown_begins d k s (omega (arith, few)) (all 0 s (omega arith))))
    ∙ lines_dropped d (k + 1) out (omega (arith, few)) (λ j x within. all (suc j) x (omega (arith, within)))

last_kept : (broken : Option (ℕ × Which)) (count : ℕ) → kept (begins (codes "done")) (last_rows broken count)
    ≡ last_rows broken count
last_kept None count = refl
last_kept (Some broken) count = refl

abbrev count_in : List (List ℕ) → ℕ
count_in [] = 0
count_in (r ∷ rs) = number_in (behind r)

ended_same : (b c : Option (ℕ × Which)) (m n : ℕ) → Is32Bits m → Is32Bits n → last_rows b m ≡ last_rows c n → b ≡ None →
    (c ≡ None) × (n ≡ m)
ended_same None None m n few less same is = (refl, sym (number_is n less) ∙ sym (ap count_in same) ∙ number_is m few)
ended_same None (Some c) m n few less same is = absurd (cc same)
ended_same (Some b) c m n few less same is = absurd (cc is)

-- ---- all of it

-- what the text of a report tells of a line
report_tells : (d : Diagram) (r : Replayed) (i : ℕ) → length r.out < 2 ^ 31 → i < 2 ^ 31 → All (IsShowable d) r.out →
    kept (begins (decimal (1 + i))) (report_rows d r) ≡ shown_rows d (1 + i) (shown_after r.out i)
report_tells d r i few within all =
    kept_append (begins (decimal (1 + i))) (all_rows d 1 r.out) (last_rows r.broken r.count)
    ∙ ap (λ (rs : List (List ℕ)). kept (begins (decimal (1 + i))) (all_rows d 1 r.out) ++ rs)
    (last_dropped (1 + i) r.broken r.count (omega (arith, within)))
    ∙ append-nil (kept (begins (decimal (1 + i))) (all_rows d 1 r.out))
    ∙ line_kept d i 1 r.out (omega (arith, within)) (omega (arith, few)) all

report_ends : (d : Diagram) (r : Replayed) → length r.out < 2 ^ 31 → All (IsShowable d) r.out →
    kept (begins (codes "done")) (report_rows d r) ≡ last_rows r.broken r.count
report_ends d r few all =
    kept_append (begins (codes "done")) (all_rows d 1 r.out) (last_rows r.broken r.count)
    ∙ ap (λ (rs : List (List ℕ)). rs ++ kept (begins (codes "done")) (last_rows r.broken r.count))
    (lines_dropped d 1 r.out (omega (arith, few)) all)
    ∙ last_kept r.broken r.count

rows_are : (d : Diagram) (r : Replayed) → PathsAreLines d → length r.out < 2 ^ 31 → All (IsShowable d) r.out →
    Is32Bits r.count → rows_of (closed (report_rows d r)) ≡ report_rows d r
rows_are d r paths few all number = rows_closed (report_rows d r) (each_append IsRow (all_rows d 1 r.out)
    (last_rows r.broken r.count) (all_row d 1 r.out paths (omega (arith, few)) all) (last_row r.broken r.count number))

same_rows : (d : Diagram) (r t : Replayed) → PathsAreLines d → length r.out < 2 ^ 31 → length t.out < 2 ^ 31 →
    All (IsShowable d) r.out → All (IsShowable d) t.out → Is32Bits r.count → Is32Bits t.count →
    report_text d r ≡ report_text d t → report_rows d r ≡ report_rows d t
same_rows d r t paths few less all each one other same =
    let texts : closed (report_rows d r) ≡ closed (report_rows d t) = append_cancel_left (bay_lines d)
    (closed (report_rows d r)) (closed (report_rows d t)) (sym (report_closed d r) ∙ same ∙ report_closed d t) in
    sym (rows_are d r paths few all one) ∙ ap rows_of texts ∙ rows_are d t paths less each other

behind_all : (out : List Shown) (i : ℕ) → length out ≤ i → shown_after out i ≡ nothing_shown
behind_all [] zero few = refl
behind_all [] (suc i) few = refl
behind_all (s ∷ out) zero few = absurd (omega (arith, few))
behind_all (s ∷ out) (suc i) few = behind_all out i (omega (arith, few))

join_same : (s t u : Shown) → ShowSame s u → ShowSame t u → ShowSame s t
join_same s t u first second = record {
  outcome = λ b. first.outcome b ∙ sym (second.outcome b);
  messages = first.messages ∙ sym second.messages;
}

showable_after : (d : Diagram) (out : List Shown) (i : ℕ) → All (IsShowable d) out → IsShowable d (shown_after out i)
showable_after d [] zero all = nothing_showable d
showable_after d [] (suc i) all = nothing_showable d
showable_after d (s ∷ out) zero all = all 0 s (omega arith)
showable_after d (s ∷ out) (suc i) all = showable_after d out i (λ j x within. all (suc j) x (omega (arith, within)))

line_told : (d : Diagram) → IsStation d → (r : Replayed) (i : ℕ) → length r.out < 2 ^ 31 → i < 2 ^ 31 →
    All (IsShowable d) r.out →
    ShowSame (shown_after r.out i) (tell d (kept (begins (decimal (1 + i))) (report_rows d r)))
line_told d station r i few within all =
    subst (λ (rs : List (List ℕ)). ShowSame (shown_after r.out i) (tell d rs)) (sym (report_tells d r i few within all))
    (shown_read d station (1 + i) (shown_after r.out i) (omega (arith, within)) (showable_after d r.out i all))

pub tells_all : (d : Diagram) → IsStation d → (r t : Replayed) → PathsAreLines d → length r.out < 2 ^ 31 →
    length t.out < 2 ^ 31 → All (IsShowable d) r.out → All (IsShowable d) t.out → Is32Bits r.count → Is32Bits t.count →
    report_text d r ≡ report_text d t → TellSame r t
tells_all d station r t paths few less all each one other same =
    let rows = same_rows d r t paths few less all each one other same in
    record {
      lines = λ i. elim (cases_lt i (2 ^ 31)) [
        | inl within ↦ join_same (shown_after r.out i) (shown_after t.out i)
            (tell d (kept (begins (decimal (1 + i))) (report_rows d t)))
            (subst (λ (rs : List (List ℕ)). ShowSame (shown_after r.out i)
            (tell d (kept (begins (decimal (1 + i))) rs))) rows (line_told d station r i few within all))
            (line_told d station t i less within each)
        | inr beyond ↦ subst (ShowSame (shown_after r.out i)) (behind_all r.out i (omega (arith, few, beyond))
            ∙ sym (behind_all t.out i (omega (arith, less, beyond)))) (record { outcome = λ b. refl; messages = refl })
      ];
      ended = ended_same r.broken t.broken r.count t.count one other (sym (report_ends d r few all)
          ∙ ap (kept (begins (codes "done"))) rows ∙ report_ends d t less each);
    }
