-- Rows of words: the place of a switch in the row of its bay, and what is known by rows.
use Rattle.std.proofs.Common.{◌≡◌, ◌≢◌, ◌⊎◌, ◌↔◌, ◌+◌, ◌-◌, ◌<◌, ◌≤◌, ℕ, zero, suc, Bool, true, eqb, List, [], ◌∷◌}
use Rattle.std.proofs.Common.{length, take, get_or, slice_get, slice_set, Result, Ok, Err, Option, Some, None, refl}
use Rattle.std.proofs.Common.{sym, ap, ◌∙◌, subst, inl, inr, arith}
use Rattle.std.specs.Prelude.{IfOk, count_by, unwrap_or}
use Rattle.std.proofs.Math.Nat.{eq-or-lt_of_le}
use Rattle.std.proofs.lemmas.Bool.{cases_Bool, cases_eq, eq-eqb, ne_eqb}
use Rattle.std.proofs.lemmas.List.{length-take-le, get_or-take}
use Rattle.std.proofs.lemmas.Option.{same_Some, slice_get_within, slice_get_cases, slice_get-get_or}
use Rattle.std.proofs.lemmas.Option.{get_or_from_slice_get, unwrap_or-slice_get}
use Rattle.ilk_base.specs.declared.words.Dbpos.{Dbpos}
use Rattle.ilk_base.specs.declared.words.Dbpos.TheVariants.{Intermediate, Off, On, Bad, Lost}
use Rattle.ilk_base.specs.declared.words.Op.{Op}
use Rattle.double_points.specs.Words.{Agrees}
use Rattle.station_graph.specs.declared.items.Switch.{Switch}
use Rattle.station_graph.specs.Diagram.{Diagram, AreSwitchesOf, place_in}
use Rattle.station_graph.specs.Connection.{a_switch}
use Rattle.station_graph.specs.Sharing.{OfPart, IsShared}
use Rattle.station_graph.specs.Alike.{Alike}
use Rattle.station_graph.proofs.PlaceLemmas.{Placed, placed}
use Rattle.station_graph.proofs.PositionLemmas.{slice_get-set_other, SameGapView-positions, SameLoadView-positions}
use Rattle.central_rules.specs.declared.verdict.Verdict.{Verdict}
use Rattle.central_rules.specs.declared.verdict.Verdict.TheVariants.{Release, Denied}
use Rattle.central_rules.specs.Readings.{IsReading, Decides}
use Rattle.central_rules.specs.Meaning.{Summarises, CannotExclude, bay_of}
use Rattle.central_rules.specs.WordRows.{code_of_word, word_of_code, heard_word, known_word, FirstAre, IsRowOf}
use Rattle.central_rules.specs.WordRows.{RowAllows, by_rows}

-- ---- lists that are written from the first place on

set_same : {X : Type 0} (xs : List X) (n : ℕ) (x : X) → n < length xs → slice_get (slice_set xs n x) n ≡ Some x
set_same [] n x lt = absurd (omega (arith, lt))
set_same (y ∷ xs) zero x lt = refl
set_same (y ∷ xs) (suc n) x lt = set_same xs n x (omega (arith, lt))

pub first_more : {X : Type 0} (f : ℕ → X) (n : ℕ) (xs : List X) (x : X) → n < length xs → x ≡ f n → FirstAre f n xs →
    FirstAre f (n + 1) (slice_set xs n x)
first_more {X} f n xs x lt is h k less = by_place (eq-or-lt_of_le (omega (arith, less)))
  where
    by_place : (k ≡ n) ⊎ (k < n) → slice_get (slice_set xs n x) k ≡ Some (f k)
    by_place (inl e) = subst (λ j. slice_get (slice_set xs n x) j ≡ Some (f j)) (sym e) (set_same xs n x lt
        ∙ ap Some is)
    by_place (inr below) = slice_get-set_other xs n k x (λ e. omega (arith, below, e)) ∙ h k below

-- ---- codes

code_back : (word : Dbpos) → word_of_code (code_of_word word) ≡ word
code_back Intermediate = refl
code_back Off = refl
code_back On = refl
code_back Bad = refl
code_back Lost = refl

code_small : (word : Dbpos) → code_of_word word ≤ 4
code_small Intermediate = omega arith
code_small Off = omega arith
code_small On = omega arith
code_small Bad = omega arith
code_small Lost = omega arith

-- ---- a summary of words

-- the front of a list in which the codes of the bay's words were written
pub row_is : (d : Diagram) (b first count : ℕ) (words : List Dbpos) (row s : List ℕ) → AreSwitchesOf d b first count →
    count ≤ length row → FirstAre (λ k. code_of_word (get_or words (first + k) Lost)) count row → s ≡ take count row →
    IsRowOf d b words s
row_is d b first count words row s those fits each is =
    let whole : length s ≡ count = ap length is ∙ length-take-le count row fits in
    let at : (k : ℕ) → k < count → get_or s k 0 ≡ code_of_word (get_or words (first + k) Lost) =
    λ k lt. ap (λ xs. get_or xs k 0) is ∙ get_or-take count row k 0 lt ∙ get_or_from_slice_get row k
    (code_of_word (get_or words (first + k) Lost)) 0 (each k lt) in
    record {
      row = record {
        each_switch = whole ∙ those.counted;
        codes = λ k lt. let small = code_small (get_or words (first + k) Lost) in let e =
            at k (omega (arith, lt, whole)) in omega (arith, small, e);
      };
      each = λ i word of_b at_w.
          let p = placed d b first count i those of_b in
          let lt : i - first < count = omega (arith, p.from, p.below) in
          let back : first + (i - first) ≡ i = omega (arith, p.from) in
          let e : get_or s (i - first) 0 ≡ code_of_word word = at (i - first) lt
          ∙ ap (λ j. code_of_word (get_or words j Lost)) back
          ∙ ap code_of_word (get_or_from_slice_get words i word Lost at_w) in
          rw p.place (slice_get-get_or s (i - first) 0 (omega (arith, lt, whole)) ∙ ap Some e);
    }

-- a part stands alike to itself
alike_itself : (d : Diagram) (b : ℕ) (v : List Bool) → Alike d b v v
alike_itself d b v = record {
  gap = SameGapView-positions (IsShared d b) (OfPart d b) d v v (λ i of_b. refl);
  load = SameLoadView-positions (IsShared d b) (OfPart d b) d v v (λ i of_b. refl);
}

pub summarises : (d : Diagram) (b to : ℕ) (words : List Dbpos) (s : List ℕ) → length words ≡ length d.switches →
    IsRowOf d b words s → Summarises (by_rows d) b to words s
summarises d b to words s whole_words r = record {
  fits = r.row;
  each = λ v whole agrees i code closed of_b at_s at_v.
      let lt : i < length words = omega (arith, slice_get_within d.switches i of_b.0 of_b.1, whole_words) in
      let word : Dbpos = get_or words i Lost in
      let at_w : slice_get words i ≡ Some word = slice_get-get_or words i Lost lt in
      let same : code_of_word word ≡ code = same_Some (code_of_word word) code (sym (r.each i word of_b at_w) ∙ at_s) in
      let is : word ≡ word_of_code code = sym (code_back word) ∙ ap word_of_code same in
      subst (λ (x : Dbpos). Agrees x closed) is (agrees i word closed of_b at_w at_v);
  no_more = inr (λ v whole allows. record {
    position = v;
    whole = whole;
    agrees = λ i word closed of_b at_w at_v. subst (λ (x : Dbpos). Agrees x closed) (code_back word)
        (allows i (code_of_word word) closed of_b (r.each i word of_b at_w) at_v);
    alike = alike_itself d b v;
  });
}

-- ---- what is known by rows

bay_is : (d : Diagram) (i : ℕ) (x : Switch) → slice_get d.switches i ≡ Some x → bay_of d i ≡ x.bay.0
bay_is d i x at = rw at refl

module _ (d : Diagram) (bay : ℕ) (own : List Dbpos) (heard : List (Option (List ℕ))) where
  known_own : (i : ℕ) (x : Switch) → slice_get d.switches i ≡ Some x → x.bay.0 ≡ bay →
      known_word d bay own heard i ≡ get_or own i Lost
  known_own i x at e = rw at (rw (eq-eqb x.bay.0 bay e) refl)

  pub known_other : (i : ℕ) (x : Switch) → slice_get d.switches i ≡ Some x → x.bay.0 ≢ bay →
      known_word d bay own heard i ≡ heard_word (slice_get heard x.bay.0) (place_in d x.bay.0 i)
  known_other i x at ne = rw at (rw (ne_eqb x.bay.0 bay ne) refl)

  known_heard : (i b : ℕ) (x : Switch) (s : List ℕ) → slice_get d.switches i ≡ Some x → x.bay.0 ≡ b → b ≢ bay →
      slice_get heard b ≡ Some (Some s) → known_word d bay own heard i ≡ word_of_code (get_or s (place_in d b i) 4)
  known_heard i b x s at e ne told =
      known_other i x at (λ z. ne (sym e ∙ z)) ∙ ap (λ k. heard_word (slice_get heard k) (place_in d k i)) e
      ∙ ap (λ o. heard_word o (place_in d b i)) told

  module _ (own_whole : length own ≡ length d.switches) (words : List Dbpos) (count : length words ≡ length d.switches)
      (each : FirstAre (known_word d bay own heard) (length words) words) where
    -- the word of a switch
    word_at : (i : ℕ) (x : Switch) → slice_get d.switches i ≡ Some x →
        slice_get words i ≡ Some (known_word d bay own heard i)
    word_at i x at = each i (omega (arith, slice_get_within d.switches i x at, count))

    cannot_exclude_from : (v : List Bool) → IsReading words v → CannotExclude (by_rows d) bay own heard v
    cannot_exclude_from v r = record {
      whole = r.whole ∙ count;
      own_agree = λ i word closed of_b at_o at_v.
          let is : known_word d bay own heard i ≡ word = known_own i of_b.0 of_b.1 of_b.2
          ∙ get_or_from_slice_get own i word Lost at_o in
          subst (λ (w : Dbpos). Agrees w closed) is (r.agree i (known_word d bay own heard i) closed (omega arith)
          (word_at i of_b.0 of_b.1) at_v);
      heard_allow = λ b s ne told i code closed of_b at_s at_v.
          let is : known_word d bay own heard i ≡ word_of_code code = known_heard i b of_b.0 s of_b.1 of_b.2 ne told
          ∙ ap word_of_code (get_or_from_slice_get s (place_in d b i) code 4 at_s) in
          subst (λ (w : Dbpos). Agrees w closed) is (r.agree i (known_word d bay own heard i) closed (omega arith)
          (word_at i of_b.0 of_b.1) at_v);
    }

    module _ (v : List Bool) (k : CannotExclude (by_rows d) bay own heard v) (i : ℕ) (x : Switch) (closed : Bool)
        (at : slice_get d.switches i ≡ Some x) (at_v : slice_get v i ≡ Some closed) where
      in_place : (s : List ℕ) → RowAllows d x.bay.0 s v → (o : Option ℕ) → slice_get s (place_in d x.bay.0 i) ≡ o →
          Agrees (word_of_code (unwrap_or o 4)) closed
      in_place s allows None e = tt
      in_place s allows (Some code) e = allows i code closed (x, at, refl) e at_v

      heard_agrees : x.bay.0 ≢ bay → (o : Option (Option (List ℕ))) → slice_get heard x.bay.0 ≡ o →
          Agrees (heard_word o (place_in d x.bay.0 i)) closed
      heard_agrees ne None e = tt
      heard_agrees ne (Some None) e = tt
      heard_agrees ne (Some (Some s)) e =
          subst (λ c. Agrees (word_of_code c) closed) (unwrap_or-slice_get s (place_in d x.bay.0 i) 4)
          (in_place s (k.heard_allow x.bay.0 s ne e) (slice_get s (place_in d x.bay.0 i)) refl)

      known_agrees : Agrees (known_word d bay own heard i) closed
      known_agrees = elim (cases_eq x.bay.0 bay) [
        | inl e ↦
            let lt : i < length own = omega (arith, slice_get_within d.switches i x at, own_whole) in
            subst (λ (w : Dbpos). Agrees w closed) (sym (known_own i x at e)) (k.own_agree i (get_or own i Lost) closed
            (x, at, e) (slice_get-get_or own i Lost lt) at_v)
        | inr ne ↦ subst (λ (w : Dbpos). Agrees w closed) (sym (known_other i x at ne))
            (heard_agrees ne (slice_get heard x.bay.0) refl)
      ]

    reading_from : (v : List Bool) → CannotExclude (by_rows d) bay own heard v → IsReading words v
    reading_from v k = record {
      whole = k.whole ∙ sym count;
      agree = λ i word closed le at_w at_v. elim (slice_get_cases d.switches i).1 [
        | inl p ↦
            let is : known_word d bay own heard i ≡ word = same_Some (known_word d bay own heard i) word
            (sym (word_at i p.0 p.2) ∙ at_w) in
            subst (λ (w : Dbpos). Agrees w closed) is (known_agrees v k i p.0 closed p.2 at_v)
        | inr past ↦ absurd (omega (arith, slice_get_within words i word at_w, count, past.0))
      ];
    }

    -- the verdict over the readings of the known words is that over what is known
    decides_known : {E : Type 0} (r : Result Verdict E) (op : Op) → IfOk r (Decides d (IsReading words) op) →
        IfOk r (Decides d (CannotExclude (by_rows d) bay own heard) op)
    decides_known (Ok Release) op h = λ v k. h v (reading_from v k)
    decides_known (Ok (Denied rule v)) op h = (cannot_exclude_from v h.0, h.1)
    decides_known (Err e) op h = tt

-- the same for an operation of a switch of the bay
pub decides_op : {E : Type 0} (r : Result Verdict E) (d : Diagram) (own : List Dbpos) (heard : List (Option (List ℕ)))
    (words : List Dbpos) (op : Op) (x : Switch) → slice_get d.switches op.switch.0 ≡ Some x →
    length own ≡ length d.switches → length words ≡ length d.switches
    → FirstAre (known_word d x.bay.0 own heard) (length words) words → IfOk r (Decides d (IsReading words) op) →
    IfOk r (Decides d (CannotExclude (by_rows d) (bay_of d op.switch.0) own heard) op)
decides_op r d own heard words op x at own_whole count each h =
    subst (λ b. IfOk r (Decides d (CannotExclude (by_rows d) b own heard) op)) (sym (bay_is d op.switch.0 x at))
    (decides_known d x.bay.0 own heard own_whole words count each r op h)
