-- Counts of a list that grows at its end.
use Rattle.std.proofs.Common.{◌≡◌, ◌∙◌, ap, sym, subst, ℕ, zero, suc, Bool, true, false, List, [], ◌∷◌, ◌++◌}
use Rattle.std.proofs.Common.{◌+◌, ◌*◌, ◌<◌, ◌≤◌, arith, add-one}
use Rattle.std.specs.Prelude.{count_by, cond, nat_lt}
use Rattle.std.specs.List.{AllZip, flat_map, range_with_len}
use Rattle.std.proofs.lemmas.Bool.{lt-ltb, le-ltb}
use Rattle.std.proofs.lemmas.Grind.{flat_map-append}
use Rattle.std.proofs.lemmas.List.Sums.{sum_by-append}
use Rattle.ilk_base.specs.declared.words.Dbpos.{Dbpos}
use Rattle.station_graph.specs.Diagram.{Diagram, switches_in}
use Rattle.central_rules.specs.declared.verdict.Verdict.{Verdict}
use Rattle.central_rules.specs.Readings.{Decides}
use Rattle.station_work.specs.declared.tally.Sight.{Sight}
use Rattle.station_work.specs.declared.tally.Tally.{Tally}
use Rattle.station_work.specs.Tallying.{operations_on, operations_below, Sees, AreSeenVerdicts, Tallies, is_release}
use Rattle.station_work.specs.Tallying.{is_denial}

range-suc : (first count next : ℕ) → next ≡ first + count
    → range_with_len first (suc count) ≡ range_with_len first count ++ next ∷ []
range-suc first zero next is = ap (λ n. n ∷ []) (omega arith)
range-suc first (suc count) next is =
    ap (λ (rest : List ℕ). first ∷ rest) (range-suc (first + 1) count next (omega arith))

-- one number more
range-more : (n : ℕ) → range_with_len 0 (n + 1) ≡ range_with_len 0 n ++ n ∷ []
range-more n = ap (range_with_len 0) (add-one n) ∙ range-suc 0 n n (omega arith)

count_by-append : {A : Type 0} (p : A → Bool) (xs ys : List A)
    → count_by p (xs ++ ys) ≡ count_by p xs + count_by p ys
count_by-append p xs ys = sum_by-append (λ x. cond (p x) 1 0) xs ys

-- so many of the numbers below n
count_more : (p : ℕ → Bool) (n : ℕ)
    → count_by p (range_with_len 0 (n + 1)) ≡ count_by p (range_with_len 0 n) + cond (p n) 1 0
count_more p n = ap (count_by p) (range-more n) ∙ count_by-append p (range_with_len 0 n) (n ∷ []) ∙ omega arith

-- the operations of one switch more
operations-more : (n : ℕ) → operations_below (n + 1) ≡ operations_below n ++ operations_on n
operations-more n =
    ap (λ ns. flat_map operations_on ns) (range-more n) ∙ flat_map-append operations_on (range_with_len 0 n) (n ∷ [])

zip-append : {A B : Type 0} (R : A → B → Type 0) (xs us : List A) (ys vs : List B) → AllZip R xs ys → AllZip R us vs
    → AllZip R (xs ++ us) (ys ++ vs)
zip-append R [] us [] vs a b = b
zip-append R (x ∷ xs) us (y ∷ ys) vs (r, a) b = (r, zip-append R xs us ys vs a b)
zip-append R [] us (y ∷ ys) vs a b = absurd a
zip-append R (x ∷ xs) us [] vs a b = absurd a

-- two elements more, counted one after the other
counted_two : {A : Type 0} (p : A → Bool) (x y : A) (xs : List A) (old between new : ℕ) → old ≡ count_by p xs
    → between ≡ old + count_by p (x ∷ []) → new ≡ between + count_by p (y ∷ []) → new ≡ count_by p (xs ++ x ∷ y ∷ [])
counted_two p x y xs old between new is first second =
    let all = count_by-append p xs (x ∷ y ∷ []) in
    let both = count_by-append p (x ∷ []) (y ∷ []) in
    omega (arith, is, first, second, all, both)

-- what is counted so far, and that it is no more than the operations
pub record SoFar (sight : Sight) (d : Diagram) (words : List Dbpos) (n : ℕ) (t : Tally) : Type 0 where
  pub tallies : Tallies sight d words (operations_below n) t
  pub sum : t.released + t.denied ≡ 2 * n

-- the verdict is counted
pub record Counted (old new : Tally) (verdict : Verdict) : Type 0 where
  pub released : new.released ≡ old.released + count_by is_release (verdict ∷ [])
  pub denied : new.denied ≡ old.denied + count_by is_denial (verdict ∷ [])
  pub sum : new.released + new.denied ≡ old.released + old.denied + 1

-- the verdicts on one switch more
pub so_far_more : (sight : Sight) (d : Diagram) (words : List Dbpos) (n : ℕ) (old between new : Tally)
    (opening closing : Verdict)
    → AreSeenVerdicts sight d words (operations_on n) (opening ∷ closing ∷ [])
    → Counted old between opening → Counted between new closing
    → SoFar sight d words n old → SoFar sight d words (n + 1) new
so_far_more sight d words n old between new opening closing both first second far =
    let t = far.tallies in
    let two = opening ∷ closing ∷ [] in
    record {
      tallies = record {
        verdicts = t.verdicts ++ two;
        are = subst (λ ops. AreSeenVerdicts sight d words ops (t.verdicts ++ two)) (sym (operations-more n))
            (zip-append (λ op verdict. Decides d (Sees sight d words op) op verdict) (operations_below n)
            (operations_on n) t.verdicts two t.are both);
        released = counted_two is_release opening closing t.verdicts old.released between.released new.released
            t.released first.released second.released;
        denied = counted_two is_denial opening closing t.verdicts old.denied between.denied new.denied t.denied
            first.denied second.denied;
      };
      sum = omega (arith, first.sum, second.sum, far.sum);
    }

-- the part has switches
abbrev has_switches : Diagram → ℕ → Bool
has_switches d part = nat_lt 0 (switches_in d part)

-- how many of the first n parts have switches, and that it is no more than the parts
pub record BaysSoFar (d : Diagram) (n count : ℕ) : Type 0 where
  pub is : count ≡ count_by (λ part. nat_lt 0 (switches_in d part)) (range_with_len 0 n)
  pub few : count ≤ n

step : (d : Diagram) (n : ℕ) (has : Bool) → has_switches d n ≡ has
    → count_by (has_switches d) (range_with_len 0 (n + 1))
    ≡ count_by (has_switches d) (range_with_len 0 n) + cond has 1 0
step d n has is =
    count_more (has_switches d) n ∙ ap (λ (b : Bool). count_by (has_switches d) (range_with_len 0 n) + cond b 1 0) is

-- a part with switches more, and one without
pub bay_more : (d : Diagram) (n count switches : ℕ) → switches ≡ switches_in d n → 0 < switches
    → BaysSoFar d n count → BaysSoFar d (n + 1) (count + 1)
bay_more d n count switches are some far =
    let more = step d n true (lt-ltb 0 (switches_in d n) (omega (arith, are, some))) in
    record { is = omega (arith, more, far.is); few = omega (arith, far.few) }

pub part_more : (d : Diagram) (n count switches : ℕ) → switches ≡ switches_in d n → switches ≤ 0
    → BaysSoFar d n count → BaysSoFar d (n + 1) count
part_more d n count switches are none far =
    let more = step d n false (le-ltb 0 (switches_in d n) (omega (arith, are, none))) in
    record { is = omega (arith, more, far.is); few = omega (arith, far.few) }
