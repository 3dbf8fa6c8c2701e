-- Vectors that are the same below a switch, and readings with one position settled.
use Rattle.std.proofs.Common.{◌≡◌, ◌≢◌, ◌⊎◌, ◌<◌, ◌+◌, ℕ, zero, suc, Bool, true, false, List, [], ◌∷◌, length, get_or}
use Rattle.std.proofs.Common.{set, Result, Ok, Err, Option, Some, None, refl, sym, ap, ◌∙◌, inl, inr, arith, subst}
use Rattle.std.specs.Prelude.{IfOk, IfSome, IfNone, slice_get}
use Rattle.std.proofs.Math.Nat.{eq-or-lt_of_le}
use Rattle.std.proofs.lemmas.Bool.{cases_Bool}
use Rattle.std.proofs.lemmas.Option.{slice_get-get_or}
use Rattle.ilk_base.specs.declared.words.Dbpos.{Dbpos}
use Rattle.ilk_base.specs.declared.words.Op.{Op}
use Rattle.ilk_base.specs.declared.words.Rule.{Rule}
use Rattle.double_points.specs.Words.{Agrees}
use Rattle.station_graph.specs.Diagram.{Diagram}
use Rattle.station_graph.specs.CentralRules.{Breaks}
use Rattle.central_rules.specs.Readings.{IsReadingFrom}
use Rattle.central_rules.specs.Trying.{SameBelow, NoneBreaks, NoneBreaksWith}

set_same : (v : List Bool) (at : ℕ) (b : Bool) → at < length v → slice_get (set v at b) at ≡ Some b
set_same [] at b lt = absurd (omega (arith, lt))
set_same (x ∷ v) zero b lt = refl
set_same (x ∷ v) (suc at) b lt = set_same v at b (omega (arith, lt))

set_other : (v : List Bool) (at i : ℕ) (b : Bool) → i ≢ at → slice_get (set v at b) i ≡ slice_get v i
set_other [] at i b ne = refl
set_other (x ∷ v) zero zero b ne = absurd (ne refl)
set_other (x ∷ v) zero (suc i) b ne = refl
set_other (x ∷ v) (suc at) zero b ne = refl
set_other (x ∷ v) (suc at) (suc i) b ne = set_other v at i b (λ e. ne (ap suc e))

same_all : (v w : List Bool) → length v ≡ length w → SameBelow (length v) v w → w ≡ v
same_all [] [] e h = refl
same_all [] (y ∷ w) e h = absurd (omega (arith, e))
same_all (x ∷ v) [] e h = absurd (omega (arith, e))
same_all (x ∷ v) (y ∷ w) e h =
    let head : Some y ≡ Some x = h 0 (omega arith) in
    let rest = same_all v w (omega (arith, e)) (λ i lt. h (suc i) (omega (arith, lt))) in
    cc (head, rest)

-- at the end there is one reading
pub at_end : {E : Type 0} (r : Result (Option Rule) E) (d : Diagram) (words : List Dbpos) (old : List Bool) (at : ℕ)
    (op : Op) → IfOk r (Breaks d old op) → length old ≡ length words → at ≡ length old
    → IfOk r (λ o. IfNone o (NoneBreaks d at words old op))
at_end (Ok None) d words old at op told whole end = λ v reading same.
    let e : v ≡ old = same_all old v (whole ∙ sym reading.whole) (λ i lt. same i (omega (arith, lt, end))) in
    subst (λ (x : List Bool). Breaks d x op None) (sym e) told
at_end (Ok (Some rule)) d words old at op told whole end = tt
at_end (Err e) d words old at op told whole end = tt

-- both positions of a switch
pub both : {E : Type 0} (r : Result (Option Rule) E) (d : Diagram) (words : List Dbpos) (old mid : List Bool) (at : ℕ)
    (op : Op) → at < length words → NoneBreaksWith false d at words old op → SameBelow at old mid
    → IfOk r (λ o. IfNone o (NoneBreaksWith true d at words mid op)) →
    IfOk r (λ o. IfNone o (NoneBreaks d at words old op))
both (Ok None) d words old mid at op lt off moved on = λ v reading same.
    let here : slice_get v at ≡ Some (get_or v at false) =
    slice_get-get_or v at false (omega (arith, lt, reading.whole)) in
    elim (cases_Bool (get_or v at false)) [
      | inl closed ↦ on v reading (λ i lt. same i lt ∙ sym (moved i lt)) (here ∙ ap Some closed)
      | inr open_ ↦ off v reading same (here ∙ ap Some open_)
    ]
both (Ok (Some rule)) d words old mid at op lt off moved on = tt
both (Err e) d words old mid at op lt off moved on = tt

-- what is the same below the next switch is the same below this one
pub below : (old new : List Bool) (at : ℕ) (closed : Bool) → SameBelow (at + 1) (set old at closed) new →
    SameBelow at old new
below old new at closed h = λ i lt. h i (omega (arith, lt)) ∙ set_other old at i closed (λ e. omega (arith, lt, e))

-- a reading from the next switch on whose position here agrees
reading_more : (words : List Dbpos) (v : List Bool) (at : ℕ) (word : Dbpos) (closed : Bool) →
    slice_get words at ≡ Some word → slice_get v at ≡ Some closed → Agrees word closed →
    IsReadingFrom (at + 1) words v →
    IsReadingFrom at words v
reading_more words v at word closed w here agrees r = record {
  whole = r.whole;
  agree = λ i x c le xs cs. by_place i x c xs cs (eq-or-lt_of_le le);
}
  where
    by_place : (i : ℕ) (x : Dbpos) (c : Bool) → slice_get words i ≡ Some x → slice_get v i ≡ Some c → (at ≡ i)
        ⊎ (at < i) → Agrees x c
    by_place i x c xs cs (inl e) =
        let same_word : word ≡ x = cc (w, xs, e) in
        let same_position : closed ≡ c = cc (here, cs, e) in
        subst (λ (y : Dbpos). Agrees y c) same_word (subst (λ (b : Bool). Agrees word b) same_position agrees)
    by_place i x c xs cs (inr lt) = r.agree i x c (omega (arith, lt)) xs cs

reading_less : (words : List Dbpos) (v : List Bool) (at : ℕ) → IsReadingFrom at words v → IsReadingFrom (at + 1) words v
reading_less words v at r = record {
  whole = r.whole;
  agree = λ i x c le xs cs. r.agree i x c (omega (arith, le)) xs cs;
}

pub found_with : {E : Type 0} (r : Result (Option Rule) E) (d : Diagram) (words : List Dbpos) (old new : List Bool)
    (at : ℕ) (word : Dbpos) (closed : Bool) (op : Op) → at < length old
    → slice_get words at ≡ Some word → Agrees word closed → SameBelow (at + 1) (set old at closed) new
    → IfOk r (λ o. IfSome o (λ rule. IsReadingFrom (at + 1) words new × Breaks d new op (Some rule))) →
    IfOk r (λ o. IfSome o (λ rule. IsReadingFrom at words new × Breaks d new op (Some rule)))
found_with (Ok None) d words old new at word closed op lt w agrees same h = tt
found_with (Ok (Some rule)) d words old new at word closed op lt w agrees same h =
    (reading_more words new at word closed w (same at (omega arith) ∙ set_same old at closed lt) agrees h.0, h.1)
found_with (Err e) d words old new at word closed op lt w agrees same h = tt

pub none_with : {E : Type 0} (r : Result (Option Rule) E) (d : Diagram) (words : List Dbpos) (old : List Bool) (at : ℕ)
    (closed : Bool) (op : Op) → at < length old
    → IfOk r (λ o. IfNone o (NoneBreaks d (at + 1) words (set old at closed) op)) →
    IfOk r (λ o. IfNone o (NoneBreaksWith closed d at words old op))
none_with (Ok None) d words old at closed op lt h = λ v reading same here.
    h v (reading_less words v at reading) (λ i less. by_place v i same here (eq-or-lt_of_le (omega (arith, less))))
  where
    by_place : (v : List Bool) (i : ℕ) → SameBelow at old v → slice_get v at ≡ Some closed → (i ≡ at) ⊎ (i < at) →
        slice_get v i ≡ slice_get (set old at closed) i
    by_place v i same here (inl e) = subst (λ (k : ℕ). slice_get v k ≡ slice_get (set old at closed) k) (sym e) (here
        ∙ sym (set_same old at closed lt))
    by_place v i same here (inr less) = same i less ∙ sym (set_other old at i closed (λ e. omega (arith, less, e)))
none_with (Ok (Some rule)) d words old at closed op lt h = tt
none_with (Err e) d words old at closed op lt h = tt
