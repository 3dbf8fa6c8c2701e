-- The edges of a layer, state by state.
use Rattle.std.proofs.Common.{◌≡◌, ℕ, ◌+◌, ◌-◌, ◌*◌, ◌/◌, ◌%◌, ◌<◌, ◌⊎◌, suc, List, [], ◌∷◌, ◌++◌, length}
use Rattle.std.proofs.Common.{get_or, slice_get, Some, refl, sym, ap, ◌∙◌, subst, inl, inr, arith}
use Rattle.std.proofs.lemmas.Bool.{cases_lt}
use Rattle.std.proofs.lemmas.List.{append-nil, append_assoc, length-append, length_push, get_or_append_left}
use Rattle.std.proofs.lemmas.List.{get_or-append-add, get_or_push}
use Rattle.std.proofs.lemmas.Nat.{div-mul-add, mod-mul-add}
use Rattle.std.proofs.lemmas.Option.{slice_get_within, slice_get-get_or, same_Some}
use Rattle.std.proofs.Math.Nat.{suc-mul}
use Rattle.decision_graphs.specs.Label.{Layer}
use Rattle.graph_products.specs.declared.pair.Pair.{Pair}
use Rattle.graph_products.specs.declared.row.Row.{Row}
use Rattle.graph_products.specs.Products.{no_pair, LeadsJointly, row_at}
use Rattle.graph_products.specs.Layering.{IsPlaced, AreAdded, AreLed, AreEdges}
use Rattle.graph_products.proofs.ListLemmas.{get_front, get_last, slice_get-push}

-- ---- edges that are added one by one

pub added_none : (old : List Pair) (edges : List ℕ) (pairs : List Pair) → pairs ≡ [] → AreAdded old edges pairs old edges
added_none old edges pairs e = record {
  to = [];
  behind = sym (append-nil edges);
  len = sym (ap length e);
  at = λ c x at. absurd (let h : slice_get {X = Pair} [] c ≡ Some x = ap (λ l. slice_get l c) (sym e) ∙ at in cc);
  stays = λ i x at. at;
  only = λ b x at. inl at;
  none_twice = λ twice. twice;
  grown = omega arith;
}

module _ (old : List Pair) (edges : List ℕ) (pairs next : List Pair) (edges' : List ℕ) (next' : List Pair)
    (pair : Pair) (place : ℕ) (added : AreAdded old edges pairs next edges') (pl : IsPlaced next next' pair place) where
  to_before : (c : ℕ) → c < length pairs → get_or (added.to ++ place ∷ []) c 0 ≡ get_or added.to c 0
  to_before c lt = get_or_append_left added.to (place ∷ []) 0 c (omega (arith, lt, added.len))

  to_here : (c : ℕ) → c ≡ length pairs → get_or (added.to ++ place ∷ []) c 0 ≡ place
  to_here c is = get_or_push added.to place 0 c (added.len ∙ sym is)

  at_one : (c : ℕ) (x : Pair) → slice_get (pairs ++ pair ∷ []) c ≡ Some x →
      slice_get next' (get_or (added.to ++ place ∷ []) c 0) ≡ Some x
  at_one c x at = elim (slice_get-push pairs pair x c at) [
    | inl before ↦
        ap (slice_get next') (to_before c (slice_get_within pairs c x before))
        ∙ pl.stays (get_or added.to c 0) x (added.at c x before)
    | inr here ↦ ap (slice_get next') (to_here c here.0) ∙ (pl.at ∙ ap Some here.1)
  ]

  only_one : (b : ℕ) (x : Pair) → slice_get next' b ≡ Some x → (slice_get old b ≡ Some x)
      ⊎ ((c : ℕ) × (slice_get (pairs ++ pair ∷ []) c ≡ Some x) × (get_or (added.to ++ place ∷ []) c 0 ≡ b))
  only_one b x at = elim (pl.only b x at) [
    | inl was ↦ elim (added.only b x was) [
      | inl first ↦ inl first
      | inr h ↦
          inr (h.0, get_front pairs (pair ∷ []) h.0 x h.1, to_before h.0 (slice_get_within pairs h.0 x h.1) ∙ h.2)
    ]
    | inr new ↦ inr (length pairs, get_last pairs pair ∙ ap Some (sym new.1), to_here (length pairs) refl ∙ sym new.0)
  ]

  pub added_one : AreAdded old edges (pairs ++ pair ∷ []) next' (edges' ++ place ∷ [])
  added_one = record {
    to = added.to ++ place ∷ [];
    behind = ap (λ l. l ++ place ∷ []) added.behind ∙ append_assoc edges added.to (place ∷ []);
    len = omega (arith, length_push added.to place, length_push pairs pair, added.len);
    at = at_one;
    stays = λ i x at. pl.stays i x (added.stays i x at);
    only = only_one;
    none_twice = λ twice. pl.none_twice (added.none_twice twice);
    grown = omega (arith, length_push pairs pair, added.grown, pl.grown);
  }

-- ---- edges of a pair

module _ (l m : Layer) (x : Pair) (rows : List Row) where
  pub led_none : (old : List Pair) (edges : List ℕ) → AreLed l m x rows 0 old edges old edges
  led_none old edges = record {
    pairs = [];
    len = refl;
    each = λ c y at. absurd (let h : slice_get {X = Pair} [] c ≡ Some y = at in cc);
    added = added_none old edges [] refl;
  }

  pub led_one : (n : ℕ) (old : List Pair) (edges : List ℕ) (next : List Pair) (edges' : List ℕ) (next' : List Pair)
      (pair : Pair) (place : ℕ) → AreLed l m x rows n old edges next edges' →
      IsPlaced next next' pair place → LeadsJointly l m x (row_at rows n) pair →
      AreLed l m x rows (n + 1) old edges next' (edges' ++ place ∷ [])
  led_one n old edges next edges' next' pair place led pl leads = record {
    pairs = led.pairs ++ pair ∷ [];
    len = omega (arith, length_push led.pairs pair, led.len);
    each = λ c y at. elim (slice_get-push led.pairs pair y c at) [
      | inl before ↦ led.each c y before
      | inr here ↦
          subst (λ z. LeadsJointly l m x (row_at rows c) z) here.1
          (subst (λ k. LeadsJointly l m x (row_at rows k) pair) (sym (here.0 ∙ led.len)) leads)
    ];
    added = added_one old edges led.pairs next edges' next' pair place led.added pl;
  }

-- ---- edges of a layer

pub edges_none : (l m : Layer) (states : List Pair) (rows : List Row) (next : List Pair) (edges : List ℕ) → next ≡ [] →
    edges ≡ [] → AreEdges l m states rows next edges 0
edges_none l m states rows next edges e f = record {
  len = ap length f;
  made = λ p x lt. absurd (omega (arith, lt));
  none_twice =
      λ a b x at_a. absurd (let h : slice_get {X = Pair} [] a ≡ Some x = ap (λ l. slice_get l a) (sym e) ∙ at_a in cc);
  hit = λ b x at. absurd (let h : slice_get {X = Pair} [] b ≡ Some x = ap (λ l. slice_get l b) (sym e) ∙ at in cc);
}

-- the edges of one state more
module _ (l m : Layer) (states : List Pair) (rows : List Row) (next next' : List Pair) (edges edges' : List ℕ)
    (pairs : List Pair) (k : ℕ) (i : Pair)
    (old : AreEdges l m states rows next edges (k * length rows))
    (added : AreAdded next edges pairs next' edges') (at_i : slice_get states k ≡ Some i)
    (count : length pairs ≡ length rows)
    (made : (c : ℕ) (y : Pair) → slice_get pairs c ≡ Some y → LeadsJointly l m i (row_at rows c) y) where
  edge_before : (p : ℕ) → p < k * length rows → get_or edges' p 0 ≡ get_or edges p 0
  edge_before p lt =
      ap (λ l. get_or l p 0) added.behind ∙ get_or_append_left edges added.to 0 p (omega (arith, lt, old.len))

  edge_new : (c : ℕ) → get_or edges' (k * length rows + c) 0 ≡ get_or added.to c 0
  edge_new c =
      ap (λ l. get_or l (k * length rows + c) 0) added.behind
      ∙ (ap (λ n. get_or (edges ++ added.to) (n + c) 0) (sym old.len) ∙ get_or-append-add edges added.to c 0)

  -- Where the edge at place p leads, from the pair x.
  abbrev Goes : ℕ → Pair → ℕ → Type 0
  Goes p x to = (y : Pair) × (slice_get next' to ≡ Some y) × LeadsJointly l m x (row_at rows (p % length rows)) y

  lead_new : (c : ℕ) (x : Pair) → c < length rows → slice_get states ((k * length rows + c) / length rows) ≡ Some x →
      Goes (k * length rows + c) x (get_or edges' (k * length rows + c) 0)
  lead_new c x lt at_x =
      let here_x : slice_get states k ≡ Some x =
      ap (slice_get states) (sym (div-mul-add k (length rows) c lt)) ∙ at_x in
      let y = get_or pairs c no_pair in
      let at_y : slice_get pairs c ≡ Some y = slice_get-get_or pairs c no_pair (omega (arith, lt, count)) in
      let there : slice_get next' (get_or edges' (k * length rows + c) 0) ≡ Some y =
      ap (slice_get next') (edge_new c) ∙ added.at c y at_y in
      let leads : LeadsJointly l m x (row_at rows c) y =
      subst (λ n. LeadsJointly l m n (row_at rows c) y) (same_Some i x (sym at_i ∙ here_x)) (made c y at_y) in (
        y,
        there,
        subst (λ n. LeadsJointly l m x (row_at rows n) y) (sym (mod-mul-add k (length rows) c lt)) leads,
      )

  lead_before : (p : ℕ) (x : Pair) → p < k * length rows → slice_get states (p / length rows) ≡ Some x →
      Goes p x (get_or edges' p 0)
  lead_before p x lt at_x =
      let h = old.made p x lt at_x in
      (h.0, ap (slice_get next') (edge_before p lt) ∙ added.stays (get_or edges p 0) h.0 h.1, h.2)

  lead_at : (p : ℕ) (x : Pair) → p < k * length rows + length rows → slice_get states (p / length rows) ≡ Some x →
      Goes p x (get_or edges' p 0)
  lead_at p x lt at_x = elim (cases_lt p (k * length rows)) [
    | inl less ↦ lead_before p x less at_x
    | inr past ↦
        let c = p - k * length rows in
        let is : p ≡ k * length rows + c = omega (arith, past) in
        subst (λ n. Goes n x (get_or edges' n 0)) (sym is)
        (lead_new c x (omega (arith, past, lt)) (ap (λ n. slice_get states (n / length rows)) (sym is) ∙ at_x))
  ]

  hit_at : (b : ℕ) (x : Pair) → slice_get next' b ≡ Some x →
      (p : ℕ) × (p < k * length rows + length rows) × (get_or edges' p 0 ≡ b)
  hit_at b x at = elim (added.only b x at) [
    | inl before ↦
        (let h = old.hit b x before in (h.0, omega (arith, h.1), edge_before h.0 h.1 ∙ h.2))
    | inr new ↦
        let lt : new.0 < length rows = omega (arith, slice_get_within pairs new.0 x new.1, count) in
        (k * length rows + new.0, omega (arith, lt), edge_new new.0 ∙ new.2)
  ]

  edges_sum : AreEdges l m states rows next' edges' (k * length rows + length rows)
  edges_sum = record {
    len = ap length added.behind ∙ (length-append edges added.to ∙ omega (arith, old.len, added.len, count));
    made = lead_at;
    none_twice = added.none_twice old.none_twice;
    hit = hit_at;
  }

  pub edges_more : AreEdges l m states rows next' edges' ((k + 1) * length rows)
  edges_more =
      subst (λ n. AreEdges l m states rows next' edges' n)
      (sym (ap (λ n. n * length rows) (let e : k + 1 ≡ suc k = omega arith in e) ∙ suc-mul k (length rows)))
      edges_sum
