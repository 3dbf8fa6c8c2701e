-- The edges of a layer, state by state.
use Rattle.std.proofs.Common.{◌≡◌, ℕ, ◌+◌, ◌-◌, ◌*◌, ◌/◌, ◌%◌, ◌<◌, ◌⊎◌, suc, List, [], ◌∷◌, ◌++◌, length}
use Rattle.std.proofs.Common.{get_or, slice_get, Some, refl, sym, ap, ◌∙◌, subst, inl, inr, arith}
use Rattle.std.proofs.lemmas.Bool.{cases_lt}
use Rattle.std.proofs.lemmas.List.{append-nil, append_assoc, length-append, length_push, get_or_append_left}
use Rattle.std.proofs.lemmas.List.{get_or-append-add, get_or_push}
use Rattle.std.proofs.lemmas.Nat.{div-mul-add, mod-mul-add}
use Rattle.std.proofs.lemmas.Option.{slice_get_within, slice_get-get_or, same_Some}
use Rattle.std.proofs.Math.Nat.{suc-mul}
use Rattle.station_graph.proofs.PathLemmas.{slice_get-push}
use Rattle.contraction.specs.Answers.{Answers}
use Rattle.judge_pool.specs.declared.view.View.{View}
use Rattle.judge_pool.specs.Pooling.{Extends, IsMadeOf, WasMade}
use Rattle.judge_pool.specs.Layering.{IsPlaced, AreAdded}
use Rattle.judge_pool.specs.Pooling.{LeadsToMade, AreEdges}
use Rattle.judge_pool.proofs.LayerLemmas.{get_front, get_last}

-- ---- edges that are added one by one

pub added_none : (old edges ids : List ℕ) → ids ≡ [] → AreAdded old edges ids old edges
added_none old edges ids e = record {
  to = [];
  behind = sym (append-nil edges);
  len = sym (ap length e);
  at = λ c id at. absurd (let h : slice_get {X = ℕ} [] c ≡ Some id = ap (λ l. slice_get l c) (sym e) ∙ at in cc);
  stays = λ i x at. at;
  only = λ b t at. inl at;
  none_twice = λ twice. twice;
  grown = omega arith;
}

module _ (old edges ids next edges' next' : List ℕ) (id place : ℕ) (added : AreAdded old edges ids next edges')
    (pl : IsPlaced next next' id place) where
  to_before : (c : ℕ) → c < length ids → get_or (added.to ++ place ∷ []) c 0 ≡ get_or added.to c 0
  to_before c lt = get_or_append_left added.to (place ∷ []) 0 c (omega (arith, lt, added.len))

  to_here : (c : ℕ) → c ≡ length ids → get_or (added.to ++ place ∷ []) c 0 ≡ place
  to_here c is = get_or_push added.to place 0 c (added.len ∙ sym is)

  at_one : (c x : ℕ) → slice_get (ids ++ id ∷ []) c ≡ Some x →
      slice_get next' (get_or (added.to ++ place ∷ []) c 0) ≡ Some x
  at_one c x at = elim (slice_get-push ids id x c at) [
    | inl before ↦
        ap (slice_get next') (to_before c (slice_get_within ids c x before))
        ∙ pl.stays (get_or added.to c 0) x (added.at c x before)
    | inr here ↦ ap (slice_get next') (to_here c here.0) ∙ (pl.at ∙ ap Some here.1)
  ]

  only_one : (b t : ℕ) → slice_get next' b ≡ Some t → (slice_get old b ≡ Some t)
      ⊎ ((c : ℕ) × (slice_get (ids ++ id ∷ []) c ≡ Some t) × (get_or (added.to ++ place ∷ []) c 0 ≡ b))
  only_one b t at = elim (pl.only b t at) [
    | inl was ↦ elim (added.only b t was) [
      | inl first ↦ inl first
      | inr h ↦
          inr (h.0, get_front ids (id ∷ []) h.0 t h.1, to_before h.0 (slice_get_within ids h.0 t h.1) ∙ h.2)
    ]
    | inr new ↦ inr (length ids, get_last ids id ∙ ap Some (sym new.1), to_here (length ids) refl ∙ sym new.0)
  ]

  pub added_one : AreAdded old edges (ids ++ id ∷ []) next' (edges' ++ place ∷ [])
  added_one = record {
    to = added.to ++ place ∷ [];
    behind = ap (λ l. l ++ place ∷ []) added.behind ∙ append_assoc edges added.to (place ∷ []);
    len = omega (arith, length_push added.to place, length_push ids id, added.len);
    at = at_one;
    stays = λ i x at. pl.stays i x (added.stays i x at);
    only = only_one;
    none_twice = λ twice. pl.none_twice (added.none_twice twice);
    grown = omega (arith, length_push ids id, added.grown, pl.grown);
  }

-- ---- edges of a layer

pub edges_none : (view : View) (values : List Answers) (keep states letters next edges : List ℕ) → next ≡ [] →
    edges ≡ [] → AreEdges view values keep states letters next edges 0
edges_none view values keep states letters next edges e f = record {
  len = ap length f;
  made = λ p i j lt. absurd (omega (arith, lt));
  none_twice =
      λ a b id at_a. absurd (let h : slice_get {X = ℕ} [] a ≡ Some id = ap (λ l. slice_get l a) (sym e) ∙ at_a in cc);
  hit = λ b id at. absurd (let h : slice_get {X = ℕ} [] b ≡ Some id = ap (λ l. slice_get l b) (sym e) ∙ at in cc);
}

made_more : (view : View) (x y : Answers) (keep : List ℕ) (values values' : List Answers) (t : ℕ) →
    Extends values values' → IsMadeOf view x y keep values t → IsMadeOf view x y keep values' t
made_more view x y keep values values' t more m = record {
  value = m.value;
  listed = more t m.value m.listed;
  composes = m.composes;
  kept = m.kept;
}

-- what was made as the key says is where the edge leads
lead_here : (view : View) (values : List Answers) (keeps : List (List ℕ)) (keep next : List ℕ) (i j k id to : ℕ) →
    WasMade view values keeps (record { first = i; second = j; keep = k }) id → slice_get keeps k ≡ Some keep →
    slice_get next to ≡ Some id → LeadsToMade view values keep next i j to
lead_here view values keeps keep next i j k id to w at at_id = record {
  id = id;
  at = at_id;
  x = w.x;
  y = w.y;
  first = w.first;
  second = w.second;
  made = subst (λ l. IsMadeOf view w.x w.y l values id) (same_Some w.keep keep (sym w.nodes ∙ at)) w.made;
}

-- the edges of one state more
module _ (view : View) (values values' : List Answers) (keeps : List (List ℕ)) (keep states letters next next' : List ℕ)
    (edges edges' ids : List ℕ) (k i m : ℕ) (more : Extends values values')
    (old : AreEdges view values keep states letters next edges (k * length letters))
    (added : AreAdded next edges ids next' edges') (at_i : slice_get states k ≡ Some i)
    (at_m : slice_get keeps m ≡ Some keep) (count : length ids ≡ length letters)
    (made : (c j t : ℕ) → slice_get letters c ≡ Some j → slice_get ids c ≡ Some t →
    WasMade view values' keeps (record { first = i; second = j; keep = m }) t) where
  edge_before : (p : ℕ) → p < k * length letters → get_or edges' p 0 ≡ get_or edges p 0
  edge_before p lt =
      ap (λ l. get_or l p 0) added.behind ∙ get_or_append_left edges added.to 0 p (omega (arith, lt, old.len))

  edge_new : (c : ℕ) → get_or edges' (k * length letters + c) 0 ≡ get_or added.to c 0
  edge_new c =
      ap (λ l. get_or l (k * length letters + c) 0) added.behind
      ∙ (ap (λ n. get_or (edges ++ added.to) (n + c) 0) (sym old.len) ∙ get_or-append-add edges added.to c 0)

  lead_more : (a b place : ℕ) → LeadsToMade view values keep next a b place →
      LeadsToMade view values' keep next' a b place
  lead_more a b place l = record {
    id = l.id;
    at = added.stays place l.id l.at;
    x = l.x;
    y = l.y;
    first = more a l.x l.first;
    second = more b l.y l.second;
    made = made_more view l.x l.y keep values values' l.id more l.made;
  }

  lead_new : (c a b : ℕ) → c < length letters →
      slice_get states ((k * length letters + c) / length letters) ≡ Some a →
      slice_get letters ((k * length letters + c) % length letters) ≡ Some b →
      LeadsToMade view values' keep next' a b (get_or edges' (k * length letters + c) 0)
  lead_new c a b lt at_a at_b =
      let here_a : slice_get states k ≡ Some a =
      ap (slice_get states) (sym (div-mul-add k (length letters) c lt)) ∙ at_a in
      let here_b : slice_get letters c ≡ Some b =
      ap (slice_get letters) (sym (mod-mul-add k (length letters) c lt)) ∙ at_b in
      let id = get_or ids c 0 in
      let at_id : slice_get ids c ≡ Some id = slice_get-get_or ids c 0 (omega (arith, lt, count)) in
      subst (λ n. LeadsToMade view values' keep next' n b (get_or edges' (k * length letters + c) 0))
      (same_Some i a (sym at_i ∙ here_a))
      (subst (λ n. LeadsToMade view values' keep next' i b n) (sym (edge_new c))
      (lead_here view values' keeps keep next' i b m id (get_or added.to c 0) (made c b id here_b at_id) at_m
      (added.at c id at_id)))

  lead_at : (p a b : ℕ) → p < k * length letters + length letters → slice_get states (p / length letters) ≡ Some a →
      slice_get letters (p % length letters) ≡ Some b → LeadsToMade view values' keep next' a b (get_or edges' p 0)
  lead_at p a b lt at_a at_b = elim (cases_lt p (k * length letters)) [
    | inl less ↦
        subst (λ n. LeadsToMade view values' keep next' a b n) (sym (edge_before p less))
        (lead_more a b (get_or edges p 0) (old.made p a b less at_a at_b))
    | inr past ↦
        let c = p - k * length letters in
        let is : p ≡ k * length letters + c = omega (arith, past) in
        subst (λ n. LeadsToMade view values' keep next' a b (get_or edges' n 0)) (sym is)
        (lead_new c a b (omega (arith, past, lt))
        (ap (λ n. slice_get states (n / length letters)) (sym is) ∙ at_a)
        (ap (λ n. slice_get letters (n % length letters)) (sym is) ∙ at_b))
  ]

  hit_new : (b t c : ℕ) → slice_get ids c ≡ Some t → get_or added.to c 0 ≡ b →
      (p a j : ℕ) × (p < k * length letters + length letters) × (slice_get states (p / length letters) ≡ Some a)
      × (slice_get letters (p % length letters) ≡ Some j) × (get_or edges' p 0 ≡ b)
  hit_new b t c at is =
      let lt : c < length letters = omega (arith, slice_get_within ids c t at, count) in (
        k * length letters + c,
        i,
        get_or letters c 0,
        omega (arith, lt),
        ap (slice_get states) (div-mul-add k (length letters) c lt) ∙ at_i,
        ap (slice_get letters) (mod-mul-add k (length letters) c lt) ∙ slice_get-get_or letters c 0 lt,
        edge_new c ∙ is,
      )

  edges_sum : AreEdges view values' keep states letters next' edges' (k * length letters + length letters)
  edges_sum = record {
    len = ap length added.behind ∙ (length-append edges added.to ∙ omega (arith, old.len, added.len, count));
    made = lead_at;
    none_twice = added.none_twice old.none_twice;
    hit = λ b t at. elim (added.only b t at) [
      | inl before ↦
          (let h = old.hit b t before in
          (h.0, h.1, h.2, omega (arith, h.3), h.4, h.5, edge_before h.0 h.3 ∙ h.6))
      | inr new ↦ hit_new b t new.0 new.1 new.2
    ];
  }

  pub edges_more : AreEdges view values' keep states letters next' edges' ((k + 1) * length letters)
  edges_more =
      subst (λ n. AreEdges view values' keep states letters next' edges' n)
      (sym (ap (λ n. n * length letters) (let e : k + 1 ≡ suc k = omega arith in e) ∙ suc-mul k (length letters)))
      edges_sum
