-- What the layers take in stays so where a pool grows, and comes one by one.
use Rattle.std.proofs.Common.{◌≡◌, ℕ, ◌+◌, ◌-◌, ◌<◌, ◌≤◌, ◌↔◌, zero, suc, Bool, true, false, eqb, List, [], ◌∷◌, ◌++◌}
use Rattle.std.proofs.Common.{length, map, slice_get, Some, Vec, Global, refl, sym, ap, ◌∙◌, subst, inl, inr, arith}
use Rattle.std.specs.Prelude.{Contains}
use borrow.Author.Tests.{eqb-true}
use Rattle.std.proofs.lemmas.Bool.{eq-eqb}
use Rattle.std.proofs.lemmas.List.{length_push}
use Rattle.std.proofs.lemmas.Option.{slice_get_within, same_Some}
use Rattle.station_graph.specs.declared.items.Link.{Link}
use Rattle.station_graph.specs.declared.items.Tap.{Tap}
use Rattle.station_graph.specs.Diagram.{Diagram}
use Rattle.station_graph.specs.Connection.{Item, a_switch, a_link, a_tap}
use Rattle.station_graph.specs.Sharing.{Touches}
use Rattle.station_graph.proofs.PathLemmas.{slice_get-push}
use Rattle.contraction.specs.Answers.{Answers, Keeps}
use Rattle.contraction.specs.Stands.{Among, StandsFor}
use Rattle.contraction.proofs.ItemSets.{among_first, among_second, among_both}
use Rattle.part_alphabets.specs.Layers.{IsBase}
use Rattle.judge_pool.specs.declared.pool.Pool.{Pool}
use Rattle.judge_pool.specs.Lettered.{Lettered, letters_in}
use Rattle.judge_pool.specs.Seen.{SeenFor}
use Rattle.judge_pool.specs.Pooling.{HasSame, HasCopy}
use Rattle.judge_pool.specs.Layering.{values_at, no_answers}
use Rattle.judge_pool.specs.Folding.{AreViews}
use Rattle.judge_pool.specs.Graphs.{other_of, OfOthers}
use Rattle.judge_pool.specs.Listing.{own_links, listed}
use Rattle.judge_intake.specs.Inputs.{HasNodes, AreKeeps, HasCopyAt, AreCopies, AreLetters, AreOtherRows, AreRows}
use Rattle.judge_intake.specs.Inputs.{HasNothing, HasLinks, HasSwitch, HasPair, ArePairs, AreInnerRows, AreNames}
use Rattle.judge_intake.specs.Inputs.{IsBayIntake}
use Rattle.judge_pool.specs.Needing.{BayNeeds}
use Rattle.judge_intake.specs.declared.own.BayIntake.{BayIntake}
use Rattle.judge_pool.proofs.LayerLemmas.{get_front, get_last}
use Rattle.judge_intake.proofs.OuterLemmas.{among_from, among_to}
use Rattle.judge_intake.proofs.OtherLemmas.{other_cases}
use Rattle.judge_intake.proofs.OuterFits.{seen_over, seen_of}
use Rattle.judge_pool.proofs.MappedViews.{seen_same, kept_of_same}
use Rattle.judge_pool.proofs.LayeringLemmas.{Grows, value_in}
use Rattle.judge_pool.proofs.PlanLemmas.{values_more}
use Rattle.std.proofs.lemmas.Bool.{cases_lt}

-- ---- growing

module _ (p q : Pool) (g : Grows p q) where
  pub nodes_stay : (Kind : ℕ → Type 0) (k : ℕ) → HasNodes Kind p k → HasNodes Kind q k
  nodes_stay Kind k h = record { nodes = h.nodes; listed = g.keeps k h.nodes h.listed; exact = h.exact }

  pub keeps_stay : (Needed : ℕ → ℕ → Type 0) (keeps : List ℕ) (n : ℕ) → AreKeeps Needed p keeps n →
      AreKeeps Needed q keeps n
  keeps_stay Needed keeps n h = record { len = h.len; each = λ j k at. nodes_stay (Needed j) k (h.each j k at) }

  seen_stays : (These : Item → Type 0) (d : Diagram) (v : List Bool) (x : Answers) → SeenFor p.view These d v x →
      SeenFor q.view These d v x
  seen_stays These d v x s = subst (λ w. SeenFor w These d v x) (sym g.view) s

  seen_was : (These : Item → Type 0) (d : Diagram) (v : List Bool) (x : Answers) → SeenFor q.view These d v x →
      SeenFor p.view These d v x
  seen_was These d v x s = subst (λ w. SeenFor w These d v x) g.view s

  pub copy_stays : (x : Answers) (t : ℕ) → HasCopy p x t → HasCopy q x t
  copy_stays x t h = record {
    value = h.value;
    listed = g.values t h.value h.listed;
    kept = h.kept;
    stands = λ items d v s. seen_stays (Among items) d v h.value (h.stands items d v (seen_was (Among items) d v x s));
  }

  pub copy_at_stays : (ids : List ℕ) (c : ℕ) (x : Answers) → HasCopyAt p ids c x → HasCopyAt q ids c x
  copy_at_stays ids c x h = record { id = h.id; at = h.at; copy = copy_stays x h.id h.copy }

  pub copies_stay : (values : List Answers) (ids : List ℕ) → AreCopies p values ids → AreCopies q values ids
  copies_stay values ids h = record { len = h.len; each = λ c x at. copy_at_stays ids c x (h.each c x at) }

  pub rows_stay : (a : Lettered) (b : ℕ) (rows : List (List ℕ)) (n : ℕ) → AreRows a b p rows n → AreRows a b q rows n
  rows_stay a b rows n h = record {
    len = h.len;
    each = λ j ids at. copies_stay (letters_in a (other_of 0 b j)) ids (h.each j ids at);
  }

  pub letters_stay : (a : Lettered) (rows : List (List ℕ)) (n : ℕ) → AreLetters a p rows n → AreLetters a q rows n
  letters_stay a rows n h = record {
    len = h.len;
    each = λ part ids at. copies_stay (letters_in a part) ids (h.each part ids at);
  }

  pub links_stay : (d : Diagram) (b : ℕ) (Kind : ℕ → Type 0) (id : ℕ) → HasLinks p d b Kind id → HasLinks q d b Kind id
  links_stay d b Kind id h = record {
    value = h.value;
    listed = g.values id h.value h.listed;
    kept = h.kept;
    stands = λ v. seen_stays (Among (own_links d b)) d v h.value (h.stands v);
  }

  pub switch_stays : (d : Diagram) (i : ℕ) (closed : Bool) (id : ℕ) → HasSwitch p d i closed id →
      HasSwitch q d i closed id
  switch_stays d i closed id h = record {
    value = h.value;
    listed = g.values id h.value h.listed;
    kept = h.kept;
    stands = λ v at. seen_stays (Among (a_switch i ∷ [])) d v h.value (h.stands v at);
  }

  pub pair_stays : (d : Diagram) (i : ℕ) (ids : List ℕ) → HasPair p d i ids → HasPair q d i ids
  pair_stays d i ids h = record {
    off = h.off;
    on = h.on;
    two = h.two;
    off_has = switch_stays d i false h.off h.off_has;
    on_has = switch_stays d i true h.on h.on_has;
  }

  pub pairs_stay : (d : Diagram) (first : ℕ) (pairs : List (List ℕ)) (n : ℕ) → ArePairs p d first pairs n →
      ArePairs q d first pairs n
  pairs_stay d first pairs n h = record {
    len = h.len;
    each = λ i ids at. pair_stays d (first + i) ids (h.each i ids at);
  }

  pub names_stay : (d : Diagram) (b : ℕ) (names : List ℕ) → AreNames p d b names → AreNames q d b names
  names_stay d b names h = record {
    some = h.some;
    within = λ t i at. value_in p q i no_answers g (h.within t i at);
    kept =
        λ t x at. h.kept t x
        (ap (λ l. slice_get l t) (sym (values_more p.values.items q.values.items names g.values h.within)) ∙ at);
    views = subst (λ w. AreViews w (OfOthers d b) d (values_at q.values.items names)) (sym g.view)
        (subst (λ xs. AreViews p.view (OfOthers d b) d xs)
        (sym (values_more p.values.items q.values.items names g.values h.within)) h.views);
  }

  pub bay_intake_stays : (d : Diagram) (b first count : ℕ) (i : BayIntake) → IsBayIntake p d b first count i →
      IsBayIntake q d b first count i
  bay_intake_stays d b first count i h = record {
    links = links_stay d b (BayNeeds d b first count) i.start h.links;
    keep = nodes_stay (BayNeeds d b first count) i.keep h.keep;
    named = names_stay d b i.names.items h.named;
    pairs = pairs_stay d first (map (λ (v : Vec ℕ Global). v.items) i.pairs.items) count h.pairs;
  }

-- ---- one by one

pub keeps_none : (Needed : ℕ → ℕ → Type 0) (p : Pool) → AreKeeps Needed p [] 0
keeps_none Needed p = record { len = refl; each = λ j k at. absurd (no_entry j k at) }
  where
    no_entry : (j k : ℕ) → slice_get {X = ℕ} [] j ≡ Some k → ⊥
    no_entry zero k at = cc
    no_entry (suc j) k at = cc

pub keeps_more : (Needed : ℕ → ℕ → Type 0) (p q : Pool) (keeps : List ℕ) (n id : ℕ) → Grows p q →
    AreKeeps Needed p keeps n → HasNodes (Needed n) q id → AreKeeps Needed q (keeps ++ id ∷ []) (n + 1)
keeps_more Needed p q keeps n id g h new = record {
  len = omega (arith, length_push keeps id, h.len);
  each = λ j k at. elim (slice_get-push keeps id k j at) [
    | inl before ↦ nodes_stay p q g (Needed j) k (h.each j k before)
    | inr here ↦
        (let e : n ≡ j = sym (here.0 ∙ h.len) in
        subst (λ i. HasNodes (Needed j) q i) here.1 (subst (λ i. HasNodes (Needed i) q id) e new))
  ];
}

-- The first n of the values have their copies.
pub record CopiesBelow (p : Pool) (values : List Answers) (ids : List ℕ) (n : ℕ) : Type 0 where
  pub len : length ids ≡ n
  pub each : (c : ℕ) (x : Answers) → c < n → slice_get values c ≡ Some x → HasCopyAt p ids c x

pub copies_none : (p : Pool) (values : List Answers) → CopiesBelow p values [] 0
copies_none p values = record { len = refl; each = λ c x lt at. absurd (omega (arith, lt)) }

pub copies_more : (p q : Pool) (values : List Answers) (ids : List ℕ) (n id : ℕ) (y : Answers) → Grows p q →
    CopiesBelow p values ids n → slice_get values n ≡ Some y → HasCopy q y id →
    CopiesBelow q values (ids ++ id ∷ []) (n + 1)
copies_more p q values ids n id y g h at_n copy = record {
  len = omega (arith, length_push ids id, h.len);
  each = λ c x lt at. by c x lt at;
}
  where
    by : (c : ℕ) (x : Answers) → c < n + 1 → slice_get values c ≡ Some x → HasCopyAt q (ids ++ id ∷ []) c x
    by c x lt at = elim (cases_lt c n) [
      | inl less ↦
          (let w = h.each c x less at in
          record { id = w.id; at = get_front ids (id ∷ []) c w.id w.at; copy = copy_stays p q g x w.id w.copy })
      | inr more ↦
          let e : n ≡ c = omega (arith, lt, more) in
          let same : y ≡ x = same_Some y x (sym at_n ∙ (ap (slice_get values) e ∙ at)) in
          record {
            id = id;
            at = ap (slice_get (ids ++ id ∷ [])) (sym e ∙ sym h.len) ∙ get_last ids id;
            copy = subst (λ z. HasCopy q z id) same copy;
          }
    ]

pub copies_all : (p : Pool) (values : List Answers) (ids : List ℕ) (n : ℕ) → CopiesBelow p values ids n →
    length values ≡ n → AreCopies p values ids
copies_all p values ids n h len = record {
  len = h.len ∙ sym len;
  each = λ c x at. h.each c x (omega (arith, slice_get_within values c x at, len)) at;
}

pub letters_none : (a : Lettered) (p : Pool) → AreLetters a p [] 0
letters_none a p = record { len = refl; each = λ part ids at. absurd (no_row part ids at) }
  where
    no_row : (j : ℕ) (ids : List ℕ) → slice_get {X = List ℕ} [] j ≡ Some ids → ⊥
    no_row zero ids at = cc
    no_row (suc j) ids at = cc

pub letters_more : (a : Lettered) (p q : Pool) (rows : List (List ℕ)) (n : ℕ) (row : List ℕ) → Grows p q →
    AreLetters a p rows n → AreCopies q (letters_in a n) row → AreLetters a q (rows ++ row ∷ []) (n + 1)
letters_more a p q rows n row g h new = record {
  len = omega (arith, length_push rows row, h.len);
  each = λ j ids at. elim (slice_get-push rows row ids j at) [
    | inl before ↦ copies_stay p q g (letters_in a j) ids (h.each j ids before)
    | inr here ↦
        (let e : n ≡ j = sym (here.0 ∙ h.len) in
        subst (λ i. AreCopies q (letters_in a j) i) here.1 (subst (λ i. AreCopies q (letters_in a i) row) e new))
  ];
}

pub other_none : (this : ℕ) (all : List (List ℕ)) → AreOtherRows this all [] 0
other_none this all = record { len = refl; each = λ i ids at. absurd (no_row i ids at) }
  where
    no_row : (j : ℕ) (ids : List ℕ) → slice_get {X = List ℕ} [] j ≡ Some ids → ⊥
    no_row zero ids at = cc
    no_row (suc j) ids at = cc

pub other_more : (this : ℕ) (all rows : List (List ℕ)) (n : ℕ) (row : List ℕ) → AreOtherRows this all rows n →
    slice_get all (other_of 0 this n) ≡ Some row → AreOtherRows this all (rows ++ row ∷ []) (n + 1)
other_more this all rows n row h new = record {
  len = omega (arith, length_push rows row, h.len);
  each = λ j ids at. elim (slice_get-push rows row ids j at) [
    | inl before ↦ h.each j ids before
    | inr here ↦
        (let e : n ≡ j = sym (here.0 ∙ h.len) in
        ap (λ k. slice_get all (other_of 0 this k)) (sym e) ∙ (new ∙ ap Some here.1))
  ];
}

-- the letters of all parts but one
pub rows_of_letters : (a : Lettered) (b : ℕ) (p : Pool) (all rows : List (List ℕ)) (m n : ℕ) → AreLetters a p all m →
    AreOtherRows b all rows n → AreRows a b p rows n
rows_of_letters a b p all rows m n letters others = record {
  len = others.len;
  each = λ j ids at. letters.each (other_of 0 b j) ids (others.each j ids at);
}

pub pairs_none : (p : Pool) (d : Diagram) (first : ℕ) → ArePairs p d first [] 0
pairs_none p d first = record { len = refl; each = λ i ids at. absurd (no_row i ids at) }
  where
    no_row : (j : ℕ) (ids : List ℕ) → slice_get {X = List ℕ} [] j ≡ Some ids → ⊥
    no_row zero ids at = cc
    no_row (suc j) ids at = cc

pub pairs_more : (p q : Pool) (d : Diagram) (first : ℕ) (pairs : List (List ℕ)) (n : ℕ) (row : List ℕ) → Grows p q →
    ArePairs p d first pairs n → HasPair q d (first + n) row → ArePairs q d first (pairs ++ row ∷ []) (n + 1)
pairs_more p q d first pairs n row g h new = record {
  len = omega (arith, length_push pairs row, h.len);
  each = λ i ids at. elim (slice_get-push pairs row ids i at) [
    | inl before ↦ pair_stays p q g d (first + i) ids (h.each i ids before)
    | inr here ↦
        (let e : n ≡ i = sym (here.0 ∙ h.len) in
        subst (λ r. HasPair q d (first + i) r) here.1 (subst (λ k. HasPair q d (first + k) row) e new))
  ];
}

-- the numbers that are not this one, counted from the first
other_from : (first m i : ℕ) → first ≤ m → first + other_of 0 (m - first) i ≡ other_of first m i
other_from first m i from = elim (other_cases 0 (m - first) i) [
  | inl x ↦ elim (other_cases first m i) [
    | inl y ↦ omega (arith, x.1, y.1)
    | inr y ↦ absurd (omega (arith, x.0, y.0, from))
  ]
  | inr x ↦ elim (other_cases first m i) [
    | inl y ↦ absurd (omega (arith, x.0, y.0, from))
    | inr y ↦ omega (arith, x.1, y.1)
  ]
]

-- the names, and the pairs of the switches that are not moved
pub inner_rows_of : (d : Diagram) (m first : ℕ) (p : Pool) (names : List ℕ) (pairs rows : List (List ℕ)) (n : ℕ) →
    first ≤ m → ArePairs p d first pairs (suc n) → AreOtherRows (m - first) pairs rows n →
    AreInnerRows d m first p names (names ∷ rows) n
inner_rows_of d m first p names pairs rows n from are others = record {
  len = ap suc others.len;
  first_row = refl;
  pairs = λ i ids at.
      subst (λ k. HasPair p d k ids) (other_from first m i from)
      (are.each (other_of 0 (m - first) i) ids (others.each i ids at));
}

-- ---- what is interned

pub nothing_of : (q : Pool) (value : Answers) (id : ℕ) → HasSame q value id → value.kept ≡ [] →
    ((d : Diagram) (v : List Bool) → StandsFor (Among []) d v value) → HasNothing q id
nothing_of q value id h bare stands = record {
  value = h.same;
  listed = h.listed;
  bare = sym (kept_of_same q.view value h.same h.is_same) ∙ bare;
  stands =
      λ d v. seen_same q.view (Among []) d v value h.same h.well h.well_same h.is_same
      (seen_of q.view (Among []) d v value (stands d v));
}

pub switch_of : (q : Pool) (d : Diagram) (i : ℕ) (closed : Bool) (value : Answers) (id : ℕ) → HasSame q value id →
    ((n : ℕ) → Keeps value.kept n ↔ Touches d (a_switch i) n) →
    ((v : List Bool) → slice_get v i ≡ Some closed → StandsFor (Among (a_switch i ∷ [])) d v value) →
    HasSwitch q d i closed id
switch_of q d i closed value id h kept stands = record {
  value = h.same;
  listed = h.listed;
  kept = λ n. subst (λ ks. Keeps ks n ↔ Touches d (a_switch i) n) (kept_of_same q.view value h.same h.is_same) (kept n);
  stands =
      λ v at. seen_same q.view (Among (a_switch i ∷ [])) d v value h.same h.well h.well_same h.is_same
      (seen_of q.view (Among (a_switch i ∷ [])) d v value (stands v at));
}

sum_zero : (i : ℕ) → 0 + i ≡ i
sum_zero i = omega arith

-- the links and taps of a part, as a list
pub base_listed : (d : Diagram) (b : ℕ) (it : Item) → IsBase d b it → Among (own_links d b) it
base_listed d b (a_switch i) h = absurd h
base_listed d b (a_link i) (x, at, of_b) =
    among_first (listed a_link (λ (y : Link). eqb y.part.0 b) 0 d.links)
    (listed a_tap (λ (y : Tap). eqb y.part.0 b) 0 d.taps) (a_link i) (subst
    (λ n. Among (listed a_link (λ (y : Link). eqb y.part.0 b) 0 d.links) (a_link n)) (sum_zero i)
    (among_to a_link (λ (y : Link). eqb y.part.0 b) 0 d.links i x at (eq-eqb x.part.0 b of_b)))
base_listed d b (a_tap i) (x, at, of_b) =
    among_second (listed a_link (λ (y : Link). eqb y.part.0 b) 0 d.links)
    (listed a_tap (λ (y : Tap). eqb y.part.0 b) 0 d.taps) (a_tap i) (subst
    (λ n. Among (listed a_tap (λ (y : Tap). eqb y.part.0 b) 0 d.taps) (a_tap n)) (sum_zero i)
    (among_to a_tap (λ (y : Tap). eqb y.part.0 b) 0 d.taps i x at (eq-eqb x.part.0 b of_b)))

pub listed_base : (d : Diagram) (b : ℕ) (it : Item) → Among (own_links d b) it → IsBase d b it
listed_base d b it h = elim ((among_both _ _ it).1 h) [
  | inl l ↦
      let r = among_from a_link (λ (y : Link). eqb y.part.0 b) 0 d.links it l in
      let is : a_link r.0 ≡ it = ap a_link (omega arith) ∙ sym r.4 in
      subst (λ i. IsBase d b i) is (r.1, r.2, eqb-true r.1.part.0 b r.3)
  | inr t ↦
      let r = among_from a_tap (λ (y : Tap). eqb y.part.0 b) 0 d.taps it t in
      let is : a_tap r.0 ≡ it = ap a_tap (omega arith) ∙ sym r.4 in
      subst (λ i. IsBase d b i) is (r.1, r.2, eqb-true r.1.part.0 b r.3)
]

pub links_of : (q : Pool) (d : Diagram) (b : ℕ) (nodes : List ℕ) (value : Answers) (id : ℕ) → HasSame q value id →
    ((n : ℕ) → Keeps value.kept n ↔ Contains nodes n) → ((v : List Bool) → StandsFor (IsBase d b) d v value) →
    HasLinks q d b (Contains nodes) id
links_of q d b nodes value id h kept stands = record {
  value = h.same;
  listed = h.listed;
  kept = λ n. subst (λ ks. Keeps ks n ↔ Contains nodes n) (kept_of_same q.view value h.same h.is_same) (kept n);
  stands = λ v. seen_same q.view (Among (own_links d b)) d v value h.same h.well h.well_same h.is_same
      (seen_over q.view (IsBase d b) (Among (own_links d b)) d v value
      (λ it is. (base_listed d b it, listed_base d b it)) (seen_of q.view (IsBase d b) d v value (stands v)));
}
