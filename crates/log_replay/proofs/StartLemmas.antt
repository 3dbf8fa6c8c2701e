-- Where the switches stand at first, as a log tells it.
use Rattle.std.proofs.Common.{◌≡◌, ◌≢◌, ◌+◌, ◌<◌, ◌∙◌, sym, ap, refl, ℕ, zero, suc, Bool, true, false, List, [], ◌∷◌}
use Rattle.std.proofs.Common.{◌++◌, length, take, Option, Some, None, arith}
use Rattle.std.specs.Prelude.{slice_get, unwrap_or, is_some, cond}
use Rattle.std.proofs.lemmas.List.Sums.{fold-append}
use Rattle.station_graph.specs.Diagram.{Diagram}
use Rattle.reservation_core.specs.declared.values.LogEvent.{LogEvent}
use Rattle.reservation_core.specs.Hearing.{listed}
use Rattle.reservation_core.specs.LogLines.{told_by, told_at, start_of, HasStart, is_at, at_count}
use Rattle.reservation_core.specs.History.{or_else}
use Rattle.log_replay.proofs.ReportLemmas.{take_next}

-- ---- one switch

or_first : (first before whole rest : Option Bool) → (before ≡ None → whole ≡ rest) → or_else first before ≡ None →
    or_else first whole ≡ rest
or_first (Some closed) before whole rest tail is = absurd (cc is)
or_first None before whole rest tail is = tail is

told_after : (before : List LogEvent) (e : LogEvent) (rest : List LogEvent) (s : ℕ) → told_at before s ≡ None →
    told_at (before ++ e ∷ rest) s ≡ or_else (told_by e s) (told_at rest s)
told_after [] e rest s none = refl
told_after (x ∷ before) e rest s none = or_first (told_by x s) (told_at before s) (told_at (before ++ e ∷ rest) s)
    (or_else (told_by e s) (told_at rest s)) (told_after before e rest s) none

whole_at : {X : Type 0} (xs : List X) (k : ℕ) (x : X) → slice_get xs k ≡ Some x → (rest : List X)
    × (xs ≡ take k xs ++ x ∷ rest)
whole_at [] k x at = absurd (cc at)
whole_at {X} (y ∷ xs) zero x at = let same : y ≡ x = cc at in
    (xs, ap (λ (z : X). let list : List X = z ∷ xs in list) same)
whole_at {X} (y ∷ xs) (suc k) x at = let it = whole_at xs k x at in (it.0, ap (λ (zs : List X). y ∷ zs) it.1)

-- the first event that tells it
told_first : (log : List LogEvent) (k : ℕ) (e : LogEvent) (s : ℕ) (closed : Bool) → told_at (take k log) s ≡ None →
    slice_get log k ≡ Some e → told_by e s ≡ Some closed → told_at log s ≡ Some closed
told_first log k e s closed none at tells =
    let whole = whole_at log k e at in
    ap (λ (es : List LogEvent). told_at es s) whole.1 ∙ told_after (take k log) e whole.0 s none
    ∙ ap (λ (o : Option Bool). or_else o (told_at whole.0 s)) tells

-- an event that does not
told_not : (log : List LogEvent) (k : ℕ) (e : LogEvent) (s : ℕ) → told_at (take k log) s ≡ None →
    slice_get log k ≡ Some e → told_by e s ≡ None → told_at (take (k + 1) log) s ≡ None
told_not log k e s none at tells = ap (λ (es : List LogEvent). told_at es s) (take_next log k e at)
    ∙ told_after (take k log) e [] s none ∙ ap (λ (o : Option Bool). or_else o None) tells

-- what is told by an event at a place, if it is the first that tells it
pub told_found : (log : List LogEvent) (k : ℕ) (e : LogEvent) (s : ℕ) (o : Option Bool) →
    told_at (take k log) s ≡ None → slice_get log k ≡ Some e → o ≡ told_by e s → is_some o ≡ true → o ≡ told_at log s
told_found log k e s (Some closed) none at is some = sym (told_first log k e s closed none at (sym is))
told_found log k e s None none at is some = absurd (cc some)

pub told_missed : (log : List LogEvent) (k : ℕ) (e : LogEvent) (s : ℕ) (o : Option Bool) →
    told_at (take k log) s ≡ None → slice_get log k ≡ Some e → o ≡ told_by e s → is_some o ≡ false →
    told_at (take (k + 1) log) s ≡ None
told_missed log k e s (Some closed) none at is some = absurd (cc some)
told_missed log k e s None none at is some = told_not log k e s none at (sym is)

-- ---- how many tell it

count_more : (log : List LogEvent) (k : ℕ) (e : LogEvent) → slice_get log k ≡ Some e →
    at_count (take (k + 1) log) ≡ at_count (take k log) + cond (is_at e) 1 0
count_more log k e at = ap at_count (take_next log k e at)
    ∙ fold-append (λ (n : ℕ) (x : LogEvent). n + cond (is_at x) 1 0) 0 (take k log) (e ∷ [])

pub count_yes : (log : List LogEvent) (k : ℕ) (e : LogEvent) → slice_get log k ≡ Some e → is_at e ≡ true →
    at_count (take (k + 1) log) ≡ at_count (take k log) + 1
count_yes log k e at is = count_more log k e at ∙ ap (λ (b : Bool). at_count (take k log) + cond b 1 0) is

pub count_no : (log : List LogEvent) (k : ℕ) (e : LogEvent) → slice_get log k ≡ Some e → is_at e ≡ false →
    at_count (take (k + 1) log) ≡ at_count (take k log)
count_no log k e at is = let more = count_more log k e at ∙ ap (λ (b : Bool). at_count (take k log) + cond b 1 0) is in
    omega (arith, more)

-- ---- all switches

-- the first n places are as the log tells them
pub record TellsSoFar (d : Diagram) (log : List LogEvent) (v : List Bool) (n : ℕ) : Type 0 where
  pub long : length v ≡ length d.switches
  pub each : (s : ℕ) → s < n → slice_get v s ≡ Some (unwrap_or (told_at log s) false)
  pub some : (s : ℕ) → s < n → told_at log s ≢ None

same_list : (f : ℕ → Bool) (n : ℕ) (v : List Bool) → length v ≡ n → ((s : ℕ) → s < n → slice_get v s ≡ Some (f s)) →
    v ≡ listed f n
same_list f zero [] long each = refl
same_list f zero (x ∷ v) long each = absurd (omega (arith, long))
same_list f (suc n) [] long each = absurd (omega (arith, long))
same_list f (suc n) (x ∷ v) long each =
    let first : x ≡ f zero = cc (each zero (omega arith)) in
    let rest : v ≡ listed (λ i. f (suc i)) n = same_list (λ i. f (suc i)) n v (omega (arith, long))
    (λ s lt. each (suc s) (omega (arith, lt))) in
    λ i. first i ∷ rest i

pub all_told : (d : Diagram) (log : List LogEvent) (v : List Bool) (n : ℕ) → TellsSoFar d log v n →
    length d.switches ≡ n → (v ≡ start_of d log) × HasStart d log
all_told d log v n t all = (
  same_list (λ s. unwrap_or (told_at log s) false) (length d.switches) v t.long
      (λ s lt. t.each s (omega (arith, lt, all))),
  λ s lt. t.some s (omega (arith, lt, all)),
)
