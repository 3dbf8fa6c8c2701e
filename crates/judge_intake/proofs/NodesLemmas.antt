-- Lists of the nodes of a kind, found one after another.
use Rattle.std.proofs.Common.{◌≡◌, ℕ, ◌+◌, ◌-◌, ◌<◌, ◌≤◌, ◌⊎◌, ◌↔◌, suc, List, [], ◌∷◌, ◌++◌, length}
use Rattle.std.proofs.Common.{get_or}
use Rattle.std.proofs.Common.{slice_get, slice_index, Contains, Some, refl, sym, subst, inl, inr, arith}
use Rattle.std.proofs.lemmas.Bool.{cases_lt, cases_eq}
use Rattle.std.proofs.lemmas.Option.{slice_get-get_or}
use Rattle.std.proofs.lemmas.List.{length_push, get_or_append_left, get_or_push}
use Rattle.std.proofs.lemmas.List.Elements.{Contains-push, Contains-push_cases, Contains-append_left}
use Rattle.station_graph.specs.Diagram.{Diagram, IsStation, node_count, part_count}
use Rattle.station_graph.specs.Connection.{Item, a_switch, a_link, a_tap}
use Rattle.station_graph.specs.Sharing.{OfPart, Touches, TouchedBy, IsShared}
use Rattle.station_graph.specs.Nodes.{Rises}
use Rattle.station_graph.proofs.PartialEdges.{second_fits}
use Rattle.contraction.specs.Answers.{AreNodes}
use Rattle.contraction.specs.Stands.{Among}
use Rattle.judge_pool.specs.Graphs.{other_of, IsOwn}
use Rattle.judge_pool.specs.Listing.{part_items}
use Rattle.judge_intake.specs.SharedNodes.{AreShared, IsSharedBySome, SharesFrom}
use Rattle.judge_pool.specs.Needing.{IsNeededOuter, IsNeededInner, InnerNeeds, TouchesOwn, BayNeeds}
use Rattle.judge_intake.proofs.OtherLemmas.{other_cases, other_in, own_place}
use Rattle.judge_intake.proofs.OuterLemmas.{part_has, has_part, before_has, others_apart, other_not}
use Rattle.judge_intake.proofs.OuterFits.{before_to, part_in, place_of_part}

-- what is touched is a node of the station
pub touched_node : (d : Diagram) → IsStation d → (item : Item) (n : ℕ) → Touches d item n → n < node_count d
touched_node d s (a_switch i) n (x, at, inl e) = subst (λ k. k < node_count d) e (s.items.switches_fit i x at).first_in
touched_node d s (a_switch i) n (x, at, inr (m, has, e)) =
    subst (λ k. k < node_count d) e (second_fits d x m (s.items.switches_fit i x at) has).1
touched_node d s (a_link i) n (x, at, inl e) = subst (λ k. k < node_count d) e (s.items.links_fit i x at).first_in
touched_node d s (a_link i) n (x, at, inr e) = subst (λ k. k < node_count d) e (s.items.links_fit i x at).second_in
touched_node d s (a_tap i) n (x, at, e) = subst (λ k. k < node_count d) e (s.items.taps_fit i x at).node_in

pub bay_node : (d : Diagram) → IsStation d → (b first count n : ℕ) → BayNeeds d b first count n → n < node_count d
bay_node d s b first count n (inl h) = touched_node d s h.here.item n h.here.touches
bay_node d s b first count n (inr (i, lt, t)) = touched_node d s (a_switch (first + i)) n t

pub shared_node : (d : Diagram) → IsStation d → (n : ℕ) → IsSharedBySome d n → n < node_count d
shared_node d s n (part, h) = touched_node d s h.here.item n h.here.touches

-- The list has exactly the nodes of the kind below the limit, rising.
pub record NodesBelow (Kind : ℕ → Type 0) (limit : ℕ) (nodes : List ℕ) : Type 0 where
  pub rises : Rises nodes
  pub below : (k : ℕ) → k < length nodes → slice_index nodes k < limit
  pub exact : (n : ℕ) → Contains nodes n ↔ (Kind n × (n < limit))

pub nodes_none : (Kind : ℕ → Type 0) → NodesBelow Kind 0 []
nodes_none Kind = record {
  rises = λ j k lt in_k. absurd (omega arith);
  below = λ k in_k. absurd (omega arith);
  exact = λ n. (λ h. absurd (omega (arith, h.1)), λ h. absurd (omega (arith, h.1)));
}

pub nodes_skip : (Kind : ℕ → Type 0) (node : ℕ) (nodes : List ℕ) → NodesBelow Kind node nodes → ¬ Kind node →
    NodesBelow Kind (node + 1) nodes
nodes_skip Kind node nodes h not = record {
  rises = h.rises;
  below = λ k in_k. omega (arith, h.below k in_k);
  exact = λ n. (
    λ e. (let w = (h.exact n).0 e in (w.0, omega (arith, w.1))),
    λ w. elim (cases_lt n node) [
      | inl less ↦ (h.exact n).1 (w.0, less)
      | inr more ↦ absurd (not (subst (λ k. Kind k) (let e : n ≡ node = omega (arith, w.1) in e) w.0))
    ],
  );
}

rises_push : (nodes : List ℕ) (x : ℕ) → Rises nodes → ((k : ℕ) → k < length nodes → slice_index nodes k < x) →
    Rises (nodes ++ x ∷ [])
rises_push nodes x rises below j k lt in_k =
    let len = length_push nodes x in
    elim (cases_lt k (length nodes)) [
      | inl less ↦
          let at_j = get_or_append_left nodes (x ∷ []) 0 j (omega arith) in
          let at_k = get_or_append_left nodes (x ∷ []) 0 k less in
          omega (arith, rises j k lt less)
      | inr more ↦
          let here : k ≡ length nodes = omega arith in
          let at_j = get_or_append_left nodes (x ∷ []) 0 j (omega arith) in
          let at_k : slice_index (nodes ++ x ∷ []) k ≡ x =
          subst (λ i. slice_index (nodes ++ x ∷ []) i ≡ x) (sym here) (get_or_push nodes x 0 (length nodes) refl) in
          omega (arith, below j (omega arith))
    ]

below_push : (nodes : List ℕ) (x limit : ℕ) → ((k : ℕ) → k < length nodes → slice_index nodes k < x) → x < limit →
    (k : ℕ) → k < length (nodes ++ x ∷ []) → slice_index (nodes ++ x ∷ []) k < limit
below_push nodes x limit below lt k in_k =
    let len = length_push nodes x in
    elim (cases_lt k (length nodes)) [
      | inl less ↦
          let at_k = get_or_append_left nodes (x ∷ []) 0 k less in
          omega (arith, below k less)
      | inr more ↦
          let here : k ≡ length nodes = omega arith in
          let at_k : slice_index (nodes ++ x ∷ []) k ≡ x =
          subst (λ i. slice_index (nodes ++ x ∷ []) i ≡ x) (sym here) (get_or_push nodes x 0 (length nodes) refl) in
          omega arith
    ]

pub nodes_push : (Kind : ℕ → Type 0) (node : ℕ) (nodes more : List ℕ) → NodesBelow Kind node nodes → Kind node →
    more ≡ nodes ++ node ∷ [] → NodesBelow Kind (node + 1) more
nodes_push Kind node nodes more h here e = subst (λ l. NodesBelow Kind (node + 1) l) (sym e) (record {
  rises = rises_push nodes node h.rises h.below;
  below = below_push nodes node (node + 1) h.below (omega arith);
  exact = λ n. (
    λ p. elim (Contains-push_cases nodes node n p) [
      | inl old ↦ (let w = (h.exact n).0 old in (w.0, omega (arith, w.1)))
      | inr same ↦ (subst (λ k. Kind k) same here, omega arith)
    ],
    λ w. elim (cases_lt n node) [
      | inl less ↦ Contains-append_left nodes (node ∷ []) n ((h.exact n).1 (w.0, less))
      | inr more' ↦
          subst (λ k. Contains (nodes ++ node ∷ []) k) (let e' : node ≡ n = omega (arith, w.1) in e')
          (Contains-push nodes node)
    ],
  );
})

pub nodes_exact : (Kind : ℕ → Type 0) (limit : ℕ) (nodes : List ℕ) → NodesBelow Kind limit nodes →
    ((n : ℕ) → Kind n → n < limit) → (n : ℕ) → Contains nodes n ↔ Kind n
nodes_exact Kind limit nodes h within n = (λ e. ((h.exact n).0 e).0, λ k. (h.exact n).1 (k, within n k))

pub are_nodes : (Kind : ℕ → Type 0) (d : Diagram) (nodes : List ℕ) → IsStation d →
    NodesBelow Kind (node_count d) nodes → AreNodes nodes
are_nodes Kind d nodes s h = record {
  rises = h.rises;
  small = λ k in_k. (let few = s.items.nodes_few in omega (arith, h.below k in_k));
}

-- The list has exactly those of these nodes that are of the kind.
pub record NodesAmong (Kind : ℕ → Type 0) (all nodes : List ℕ) : Type 0 where
  pub exact : (n : ℕ) → Contains nodes n ↔ (Kind n × Contains all n)

pub among_none : (Kind : ℕ → Type 0) → NodesAmong Kind [] []
among_none Kind = record {
  exact = λ n. (λ h. absurd (omega (arith, h.1)), λ w. (let h = w.1 in absurd (omega (arith, h.1))));
}

pub among_skip : (Kind : ℕ → Type 0) (all nodes : List ℕ) (x : ℕ) → NodesAmong Kind all nodes → ¬ Kind x →
    NodesAmong Kind (all ++ x ∷ []) nodes
among_skip Kind all nodes x h not = record {
  exact = λ n. (
    λ e. (let w = (h.exact n).0 e in (w.0, Contains-append_left all (x ∷ []) n w.1)),
    λ w. elim (Contains-push_cases all x n w.1) [
      | inl old ↦ (h.exact n).1 (w.0, old)
      | inr same ↦ absurd (not (subst (λ k. Kind k) (sym same) w.0))
    ],
  );
}

pub among_push : (Kind : ℕ → Type 0) (all nodes more : List ℕ) (x : ℕ) → NodesAmong Kind all nodes → Kind x →
    more ≡ nodes ++ x ∷ [] → NodesAmong Kind (all ++ x ∷ []) more
among_push Kind all nodes more x h here e = subst (λ l. NodesAmong Kind (all ++ x ∷ []) l) (sym e) (record {
  exact = λ n. (
    λ p. elim (Contains-push_cases nodes x n p) [
      | inl old ↦ (let w = (h.exact n).0 old in (w.0, Contains-append_left all (x ∷ []) n w.1))
      | inr same ↦
          (subst (λ k. Kind k) same here, subst (λ k. Contains (all ++ x ∷ []) k) same (Contains-push all x))
    ],
    λ w. elim (Contains-push_cases all x n w.1) [
      | inl old ↦ Contains-append_left nodes (x ∷ []) n ((h.exact n).1 (w.0, old))
      | inr same ↦ subst (λ k. Contains (nodes ++ x ∷ []) k) same (Contains-push nodes x)
    ],
  );
})

pub among_exact : (Kind : ℕ → Type 0) (all nodes : List ℕ) → NodesAmong Kind all nodes →
    ((n : ℕ) → Kind n → Contains all n) → (n : ℕ) → Contains nodes n ↔ Kind n
among_exact Kind all nodes h within n = (λ e. ((h.exact n).0 e).0, λ k. (h.exact n).1 (k, within n k))

-- ---- what a bay needs

module _ (d : Diagram) (b m first others : ℕ) (own : IsOwn d b m first others) (n : ℕ) where
  at_own : (i : ℕ) → first ≤ i → i < first + suc others → Touches d (a_switch i) n → TouchesOwn d first (suc others) n
  at_own i from below t =
      let e : i ≡ first + (i - first) = omega (arith, from) in
      (i - first, omega (arith, from, below), subst (λ k. Touches d (a_switch k) n) e t)

  own_of_inner : IsNeededInner d m first others 0 n → TouchesOwn d first (suc others) n
  own_of_inner (inl t) = at_own m own.from own.below t
  own_of_inner (inr (i, le, lt, t)) =
      (let r = other_in first m others i lt in at_own (other_of first m i) r.0 r.1 t)

  inner_of_own : TouchesOwn d first (suc others) n → IsNeededInner d m first others 0 n
  inner_of_own (i, lt, t) = elim (cases_eq (first + i) m) [
    | inl e ↦ inl (subst (λ k. Touches d (a_switch k) n) e t)
    | inr ne ↦
        let k = own_place first m others (first + i) own.from own.below (omega arith) (omega (arith, lt)) ne in
        inr (k.0, omega arith, k.1, subst (λ j. Touches d (a_switch j) n) (sym k.2) t)
  ]

  -- whichever of its switches is moved
  pub bay_inner : BayNeeds d b first (suc others) n ↔ InnerNeeds d b m first others 0 n
  bay_inner = (there, back)
    where
      there : BayNeeds d b first (suc others) n → InnerNeeds d b m first others 0 n
      there (inl h) = inl h
      there (inr t) = inr (inner_of_own t)

      back : InnerNeeds d b m first others 0 n → BayNeeds d b first (suc others) n
      back (inl h) = inl h
      back (inr t) = inr (own_of_inner t)

-- ---- shared nodes

touched_of : (d : Diagram) (p n : ℕ) → TouchedBy (Among (part_items d p)) d n → TouchedBy (OfPart d p) d n
touched_of d p n t = record { item = t.item; among = part_has d p t.item t.among; touches = t.touches }

of_touched : (d : Diagram) (p n : ℕ) → TouchedBy (OfPart d p) d n → TouchedBy (Among (part_items d p)) d n
of_touched d p n t = record { item = t.item; among = has_part d p t.item t.among; touches = t.touches }

-- one of the first parts and the bay or a later part share the node
pub needed_by_shares : (d : Diagram) (shared : List (List ℕ)) (b j n : ℕ) → AreShared d shared →
    SharesFrom shared b 0 j n → IsShared d b n ⊎ ((to : ℕ) × SharesFrom shared b j to n) → IsNeededOuter d b j n
needed_by_shares d shared b j n are first rest = record {
  before = record {
    item = here.here.item;
    among = before_to d b j first.place here.here.item first.before here.here.among;
    touches = here.here.touches;
  };
  after = elim rest [
    | inl own ↦ inl own.here
    | inr later ↦
        let s = later.1 in
        inr (
          s.place,
          s.after,
          of_touched d (other_of 0 b s.place) n ((are.each (other_of 0 b s.place) s.nodes s.listed n).0 s.has).here,
        )
  ];
}
  where
    here : IsShared d (other_of 0 b first.place) n
    here = (are.each (other_of 0 b first.place) first.nodes first.listed n).0 first.has

-- a node that two parts touch is shared by each
two_parts : (d : Diagram) (p q n : ℕ) → ((e : p ≡ q) → ⊥) → TouchedBy (OfPart d p) d n → TouchedBy (OfPart d q) d n →
    IsShared d p n
two_parts d p q n ne t u = record { here = t; other = q; apart = λ e. ne (sym e); there = u }

module _ (d : Diagram) (shared : List (List ℕ)) (b others j n : ℕ) (station : IsStation d) (are : AreShared d shared)
    (count : suc others ≡ part_count d) (b_in : b < part_count d) (need : IsNeededOuter d b j n) where
  first_part : (i : ℕ) × (i < j) × OfPart d (other_of 0 b i) need.before.item
  first_part = before_has d b j need.before.item need.before.among

  first_touched : TouchedBy (OfPart d (other_of 0 b first_part.0)) d n
  first_touched = record { item = need.before.item; among = first_part.2; touches = need.before.touches }

  listed_at : (p : ℕ) → p < part_count d → (nodes : List ℕ) × (slice_get shared p ≡ Some nodes)
  listed_at p lt = (get_or shared p [], slice_get-get_or shared p [] (omega (arith, lt, are.count)))

  has_of : (p : ℕ) (lt : p < part_count d) → IsShared d p n → Contains (listed_at p lt).0 n
  has_of p lt s = (are.each p (listed_at p lt).0 (listed_at p lt).1 n).1 s

  -- the first part shares it
  pub first_shares : SharesFrom shared b 0 j n
  first_shares =
      let p_in = part_in d (other_of 0 b first_part.0) need.before.item station first_part.2 in
      let is : IsShared d (other_of 0 b first_part.0) n = elim need.after [
        | inl own ↦ two_parts d (other_of 0 b first_part.0) b n (other_not b first_part.0) first_touched own
        | inr later ↦
            two_parts d (other_of 0 b first_part.0) (other_of 0 b later.0) n
            (others_apart b first_part.0 later.0 (omega (arith, first_part.1, later.1))) first_touched
            (touched_of d (other_of 0 b later.0) n later.2)
      ] in
      record {
        place = first_part.0;
        nodes = (listed_at (other_of 0 b first_part.0) p_in).0;
        after = omega arith;
        before = first_part.1;
        listed = (listed_at (other_of 0 b first_part.0) p_in).1;
        has = has_of (other_of 0 b first_part.0) p_in is;
      }

  pub shared_by_first : IsSharedBySome d n
  shared_by_first = (
    other_of 0 b first_shares.place,
    (are.each (other_of 0 b first_shares.place) first_shares.nodes first_shares.listed n).0 first_shares.has,
  )

  -- and the bay or a later part does
  pub rest_shares : IsShared d b n ⊎ SharesFrom shared b j others n
  rest_shares = elim need.after [
    | inl own ↦
        inl (two_parts d b (other_of 0 b first_part.0) n (λ e. other_not b first_part.0 (sym e)) own first_touched)
    | inr later ↦
        let t = touched_of d (other_of 0 b later.0) n later.2 in
        let p_in = part_in d (other_of 0 b later.0) t.item station t.among in
        let r = place_of_part b (other_of 0 b later.0) others (omega (arith, b_in, count)) (other_not b later.0)
        (omega (arith, p_in, count)) in
        let is = two_parts d (other_of 0 b later.0) (other_of 0 b first_part.0) n
        (λ e. others_apart b first_part.0 later.0 (omega (arith, first_part.1, later.1)) (sym e)) t first_touched in
        inr (record {
          place = later.0;
          nodes = (listed_at (other_of 0 b later.0) p_in).0;
          after = later.1;
          before = other_below b later.0 others (omega (arith, p_in, count)) (omega (arith, b_in, count));
          listed = (listed_at (other_of 0 b later.0) p_in).1;
          has = has_of (other_of 0 b later.0) p_in is;
        })
  ]
    where
      other_below : (b' i k : ℕ) → other_of 0 b' i < suc k → b' < suc k → i < k
      other_below b' i k lt b_lt = elim (other_cases 0 b' i) [
        | inl x ↦ omega (arith, x.0, x.1, b_lt)
        | inr x ↦ omega (arith, x.0, x.1, lt)
      ]

-- the list of a part that shares a node
pub list_of_part : (d : Diagram) (shared : List (List ℕ)) (part n : ℕ) → IsStation d → AreShared d shared →
    IsShared d part n → (nodes : List ℕ) × (slice_get shared part ≡ Some nodes) × Contains nodes n
list_of_part d shared part n station are h =
    let p_in = part_in d part h.here.item station h.here.among in
    let at = slice_get-get_or shared part [] (omega (arith, p_in, are.count)) in
    (get_or shared part [], at, (are.each part (get_or shared part []) at n).1 h)
