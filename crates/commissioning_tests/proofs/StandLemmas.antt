-- Switches that stand for others.
use Rattle.std.proofs.Common.{◌≡◌, ℕ, ◌+◌, ◌-◌, ◌<◌, ◌≤◌, ◌⊎◌, zero, suc, Bool, false, List, [], ◌∷◌, ◌++◌, length, get_or, map, slice_get, slice_set}
use Rattle.std.proofs.Common.{Some, None, refl, sym, ap, ◌∙◌, subst, inl, inr, arith}
use Rattle.std.specs.List.{range_with_len}
use Rattle.std.proofs.lemmas.List.{length-map}
use Rattle.std.proofs.lemmas.List.FromFn.{get_or-map-range_with_len}
use Rattle.std.proofs.lemmas.Option.{slice_get_within, same_Some, slice_get-get_or, get_or_from_slice_get}
use Rattle.station_graph.specs.Diagram.{Diagram}
use Rattle.station_graph.specs.Alike.{IsVector}
use Rattle.station_graph.proofs.PathLemmas.{slice_get-push}
use Rattle.judge_intake.proofs.OtherLemmas.{element}
use Rattle.ilk_base.specs.declared.words.Op.{Op}
use Rattle.release_dependence.specs.Depends.{DependsOn}
use Rattle.release_dependence.specs.Exchange.{Exchange, IsExchanged, IsExchangedOp}
use Rattle.release_dependence.proofs.ExchangeLemmas.{turns_to, differ_to}
use Rattle.like_bays.specs.Like.{led_by, IsExchangeBy}
use Rattle.commissioning_tests.specs.Standing.{StandsFor, AreStanding, AreStands, IsSettled, LeavesBay}

below : (a b : ℕ) → (a < b) ⊎ (b ≤ a)
below a b = grind arith

-- ---- an exchanged vector

past_end : {X : Type 0} (xs : List X) (i : ℕ) → length xs ≤ i → slice_get xs i ≡ None
past_end [] i le = refl
past_end (x ∷ xs) zero le = absurd (omega (arith, le))
past_end (x ∷ xs) (suc i) le = past_end xs i (omega (arith, le))

range_long : (a n : ℕ) → length (range_with_len a n) ≡ n
range_long a zero = refl
range_long a (suc n) = ap suc (range_long (a + 1) n)

module _ (d : Diagram) (h : Exchange d) where
  inside : (i : ℕ) → i < length d.switches → h.switch_to i < length d.switches
  inside i lt =
      let (x, at) = element d.switches i lt in
      let there = h.switches i x at in
      slice_get_within d.switches (h.switch_to i) there.switch there.listed

  outside : (i : ℕ) → length d.switches ≤ i → length d.switches ≤ h.switch_to i
  outside i le = elim (below (h.switch_to i) (length d.switches)) [
    | inl lt ↦ absurd (omega (arith, inside (h.switch_to i) lt, h.switch_back i, le))
    | inr out ↦ out
  ]

  pub exchanged : List Bool → List Bool
  exchanged v = map (λ j. get_or v (h.switch_to j) false) (range_with_len 0 (length d.switches))

  pub exchanged_long : (v : List Bool) → IsVector d (exchanged v)
  unfolding exchanged
  exchanged_long v =
      length-map (range_with_len 0 (length d.switches)) (λ j. get_or v (h.switch_to j) false)
      ∙ range_long 0 (length d.switches)

  pub is_exchanged : (v : List Bool) → IsVector d v → IsExchanged h.switch_to v (exchanged v)
  unfolding exchanged
  is_exchanged v vector i = elim (below i (length d.switches)) [
    | inl lt ↦
        let j_in : h.switch_to i < length d.switches = inside i lt in
        let read : get_or (exchanged v) (h.switch_to i) false ≡ get_or v (h.switch_to (h.switch_to i)) false =
        get_or-map-range_with_len (λ j. get_or v (h.switch_to j) false) 0 (length d.switches) (h.switch_to i)
        (h.switch_to i) false j_in (omega arith) in
        slice_get-get_or v i false (omega (arith, lt, vector))
        ∙ (ap (λ j. Some (get_or v j false)) (sym (h.switch_back i))
        ∙ (ap Some (sym read)
        ∙ sym (slice_get-get_or (exchanged v) (h.switch_to i) false (omega (arith, j_in, exchanged_long v)))))
    | inr le ↦
        past_end v i (omega (arith, le, vector))
        ∙ sym (past_end (exchanged v) (h.switch_to i) (omega (arith, outside i le, exchanged_long v)))
  ]

  -- the release of the exchanged operation depends on the exchanged switch
  pub depends_over : (op other : Op) (s : ℕ) → IsExchangedOp h.switch_to op other → DependsOn d op s →
      DependsOn d other (h.switch_to s)
  depends_over op other s over dep = record {
    v = exchanged dep.v;
    w = exchanged dep.w;
    rule = dep.rule;
    differ =
        differ_to d h s dep.v dep.w (exchanged dep.v) (exchanged dep.w) (exchanged_long dep.v) (exchanged_long dep.w)
        (is_exchanged dep.v dep.differ.first) (is_exchanged dep.w dep.differ.second) dep.differ;
    turns =
        turns_to d h op other over dep.rule dep.v dep.w (exchanged dep.v) (exchanged dep.w)
        (is_exchanged dep.v dep.differ.first) (is_exchanged dep.w dep.differ.second) dep.turns;
  }

  -- that of an operation that stays depends on the exchanged switch too
  pub depends_to : (op : Op) (s : ℕ) → h.switch_to op.switch.0 ≡ op.switch.0 → DependsOn d op s →
      DependsOn d op (h.switch_to s)
  depends_to op s stays dep = depends_over op op s (record { switch = sym stays; direction = refl }) dep

-- ---- a switch that stands for another

pub stand_depends : (d : Diagram) (first count s t : ℕ) (op : Op) → StandsFor d first count s t → first ≤ op.switch.0 →
    op.switch.0 < first + count → DependsOn d op s → DependsOn d op t
stand_depends d first count s t op (inl same) from to dep = subst (λ x. DependsOn d op x) same dep
stand_depends d first count s t op (inr e) from to dep =
    subst (λ x. DependsOn d op x) e.carries (depends_to d e.exchange op s (e.leaves op.switch.0 from to) dep)

pub stand_back : (d : Diagram) (first count s t : ℕ) → StandsFor d first count s t → StandsFor d first count t s
stand_back d first count s t (inl same) = inl (sym same)
stand_back d first count s t (inr e) = inr (record {
  exchange = e.exchange;
  carries = ap e.exchange.switch_to (sym e.carries) ∙ e.exchange.switch_back s;
  leaves = e.leaves;
})

-- ---- the lists

set_read : (xs : List ℕ) (i x j y : ℕ) → slice_get (slice_set xs i x) j ≡ Some y →
    ((i ≡ j) × (x ≡ y)) ⊎ (slice_get xs j ≡ Some y)
set_read [] i x j y at = inr at
set_read (z ∷ xs) zero x zero y at = inl (refl, same_Some x y at)
set_read (z ∷ xs) zero x (suc j) y at = inr at
set_read (z ∷ xs) (suc i) x zero y at = inr at
set_read (z ∷ xs) (suc i) x (suc j) y at = elim (set_read xs i x j y at) [
  | inl here ↦ inl (ap suc here.0, here.1)
  | inr there ↦ inr there
]

pub standing_set : (d : Diagram) (first count : ℕ) (table stands : List ℕ) (s t : ℕ) → AreStanding d first count stands →
    IsExchangeBy d table → LeavesBay table first count → slice_get table s ≡ Some t →
    AreStanding d first count (slice_set stands s t)
standing_set d first count table stands s t standing by leaves at a b read = elim (set_read stands s t a b read) [
  | inl here ↦ inr (record {
    exchange = by.exchange;
    carries =
        by.leads a
        ∙ (ap (led_by table) (sym here.0) ∙ (get_or_from_slice_get table s t s at ∙ here.1));
    leaves = λ i from to. by.leads i ∙ leaves i from to;
  })
  | inr there ↦ standing a b there
]

pub all_leave : (table : List ℕ) (first count : ℕ) → ((i : ℕ) → i < count → led_by table (first + i) ≡ first + i) →
    LeavesBay table first count
all_leave table first count each i from to =
    let is : first + (i - first) ≡ i = omega (arith, from) in
    subst (λ k. led_by table k ≡ k) is (each (i - first) (omega (arith, from, to)))

-- so far as the first n
pub record SettledUpto (stands settled : List ℕ) (n : ℕ) : Type 0 where
  pub len : length settled ≡ n
  pub each : (s t : ℕ) → slice_get settled s ≡ Some t → IsSettled stands s t

pub settled_more : (stands settled : List ℕ) (n t : ℕ) → SettledUpto stands settled n → IsSettled stands n t →
    SettledUpto stands (settled ++ t ∷ []) (n + 1)
settled_more stands settled n t so is = record {
  len = omega (arith, long settled t, so.len);
  each = λ s u at. elim (slice_get-push settled t u s at) [
    | inl before ↦ so.each s u before
    | inr here ↦
        subst (λ x. IsSettled stands s x) here.1
        (subst (λ x. IsSettled stands x t) (sym so.len ∙ sym here.0) is)
  ];
}
  where
    long : (xs : List ℕ) (x : ℕ) → length (xs ++ x ∷ []) ≡ length xs + 1
    long [] x = refl
    long (y ∷ xs) x = omega (arith, long xs x)

pub settled_stands : (d : Diagram) (first count : ℕ) (stands settled : List ℕ) (n : ℕ) → SettledUpto stands settled n →
    n ≡ length d.switches → length stands ≡ length d.switches → AreStanding d first count stands →
    AreStands d first count settled
settled_stands d first count stands settled n so all long standing = record {
  len = so.len ∙ all;
  standing = λ s t at. stand s t (so.each s t at);
  moved = λ s t at. move s t at (so.each s t at);
}
  where
    stand : (s t : ℕ) → IsSettled stands s t → StandsFor d first count s t
    stand s t (inl is) = standing s t is.0
    stand s t (inr same) = inl same

    unique : (t u : ℕ) → slice_get stands t ≡ Some t → IsSettled stands t u → u ≡ t
    unique t u at (inl is) = same_Some u t (sym is.0 ∙ at)
    unique t u at (inr same) = sym same

    move : (s t : ℕ) → slice_get settled s ≡ Some t → IsSettled stands s t → slice_get settled t ≡ Some t
    move s t at (inl is) =
        let lt : t < length settled =
        omega (arith, slice_get_within stands t t is.1, long, so.len, all) in
        let read : slice_get settled t ≡ Some (get_or settled t t) = slice_get-get_or settled t t lt in
        read ∙ ap Some (unique t (get_or settled t t) is.1 (so.each t (get_or settled t t) read))
    move s t at (inr same) = subst (λ x. slice_get settled x ≡ Some t) same at
