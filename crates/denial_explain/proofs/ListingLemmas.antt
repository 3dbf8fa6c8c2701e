-- Lists of neighbours, edge by edge.
use Rattle.std.proofs.Common.{◌≡◌, ◌≢◌, ℕ, ◌<◌, ◌⊎◌, Bool, true, false, List, [], ◌∷◌, ◌++◌, ◌+◌, length, slice_get}
use Rattle.std.proofs.Common.{Contains, Some, None, sym, ◌∙◌, subst, inl, inr, arith, length-set}
use Rattle.std.proofs.Math.ListN.{replicate}
use Rattle.std.proofs.lemmas.Bool.{cases_eq, cases_lt}
use Rattle.std.proofs.lemmas.List.{get_or-set_same, get_or-set_other, get_or-replicate, get_or_past, length-replicate}
use Rattle.std.proofs.lemmas.List.Elements.{Contains-push, Contains-push_cases, Contains-append_left}
use Rattle.ilk_base.specs.declared.words.NodeId.{NodeId}
use Rattle.station_graph.specs.declared.items.Switch.{Switch}
use Rattle.station_graph.specs.declared.items.Link.{Link}
use Rattle.station_graph.specs.Diagram.{Diagram, IsStation, node_count}
use Rattle.station_graph.specs.Connection.{Item, a_switch, a_link, a_tap, ItemBetween, Touching, AreEnds}
use Rattle.station_graph.proofs.ClassesLemmas.{AddsEdge, SameEdges}
use Rattle.station_graph.proofs.PartialEdges.{TouchingBelow, below_all, touching_back, second_fits, switch_adds}
use Rattle.station_graph.proofs.PartialEdges.{switch_passed, open_joins_nothing, one_end_joins_nothing, link_adds}
use Rattle.denial_explain.specs.Listing.{list_at, Listed, with_neighbour, with_neighbours, AreLists, IsUndirected}

-- One more neighbour.
module _ (lists : List (List ℕ)) (a b : ℕ) where
  list_at-same : (x : ℕ) → a < length lists → x ≡ a → list_at (with_neighbour lists a b) x ≡ list_at lists a ++ b ∷ []
  list_at-same x a_in e = subst (λ y. list_at (with_neighbour lists a b) y ≡ list_at lists a ++ b ∷ []) (sym e)
      (get_or-set_same lists a (list_at lists a ++ b ∷ []) [] a_in)

  list_at-other : (x : ℕ) → x ≢ a → list_at (with_neighbour lists a b) x ≡ list_at lists x
  list_at-other x ne = get_or-set_other lists a x (list_at lists a ++ b ∷ []) [] ne

  Listed-kept : (x y : ℕ) → a < length lists → Listed lists x y → Listed (with_neighbour lists a b) x y
  Listed-kept x y a_in h = elim (cases_eq x a) [
    | inl e ↦
        let here : Contains (list_at lists a) y = subst (λ z. Contains (list_at lists z) y) e h in
        subst (λ (xs : List ℕ). Contains xs y) (sym (list_at-same x a_in e)) (Contains-append_left (list_at lists a)
        (b ∷ []) y here)
    | inr ne ↦ subst (λ (xs : List ℕ). Contains xs y) (sym (list_at-other x ne)) h
  ]

  Listed-new : (x y : ℕ) → a < length lists → x ≡ a → y ≡ b → Listed (with_neighbour lists a b) x y
  Listed-new x y a_in e f =
      subst (λ (xs : List ℕ). Contains xs y) (sym (list_at-same x a_in e))
      (subst (λ z. Contains (list_at lists a ++ b ∷ []) z) (sym f) (Contains-push (list_at lists a) b))

  Listed-only : (x y : ℕ) → a < length lists → Listed (with_neighbour lists a b) x y → Listed lists x y
      ⊎ ((x ≡ a) × (y ≡ b))
  Listed-only x y a_in h = elim (cases_eq x a) [
    | inl e ↦
        let here : Contains (list_at lists a ++ b ∷ []) y = subst (λ (xs : List ℕ). Contains xs y)
        (list_at-same x a_in e) h in
        elim (Contains-push_cases (list_at lists a) b y here) [
          | inl old ↦ inl (subst (λ z. Contains (list_at lists z) y) (sym e) old)
          | inr new ↦ inr (e, sym new)
        ]
    | inr ne ↦ inl (subst (λ (xs : List ℕ). Contains xs y) (list_at-other x ne) h)
  ]

-- One more edge.
module _ (R Q : ℕ → ℕ → Type 0) (count : ℕ) (lists : List (List ℕ)) (p q : ℕ) (adds : AddsEdge R Q p q)
    (p_in : p < count) (q_in : q < count) (h : AreLists R count lists) where
  one : List (List ℕ)
  one = with_neighbour lists p q

  p_listed : p < length lists
  p_listed = omega (arith, h.len)

  q_listed : q < length one
  unfolding one
  q_listed = omega (arith, h.len, length-set lists p (list_at lists p ++ q ∷ []))

  edge_only : (a b : ℕ) → Listed (with_neighbours lists p q) a b → Q a b
  unfolding one
  edge_only a b l = elim (Listed-only one q p a b q_listed l) [
    | inl before ↦ elim (Listed-only lists p q a b p_listed before) [
      | inl old ↦ adds.kept a b ((h.exact a b).0 old)
      | inr there ↦ adds.added a b (inl there)
    ]
    | inr back ↦ adds.added a b (inr back)
  ]

  edge_listed : (a b : ℕ) → Q a b → Listed (with_neighbours lists p q) a b
  unfolding one
  edge_listed a b e = elim (adds.only a b e) [
    | inl old ↦ Listed-kept one q p a b q_listed (Listed-kept lists p q a b p_listed ((h.exact a b).1 old))
    | inr (inl there) ↦ Listed-kept one q p a b q_listed (Listed-new lists p q a b p_listed there.0 there.1)
    | inr (inr back) ↦ Listed-new one q p a b q_listed back.0 back.1
  ]

  edge_len : length (with_neighbours lists p q) ≡ count
  unfolding one
  edge_len = length-set one q (list_at one q ++ p ∷ []) ∙ (length-set lists p (list_at lists p ++ q ∷ []) ∙ h.len)

  AreLists-edge : AreLists Q count (with_neighbours lists p q)
  AreLists-edge = record { len = edge_len; exact = λ a b. (edge_only a b, edge_listed a b) }

AreLists-same : (R Q : ℕ → ℕ → Type 0) (count : ℕ) (lists : List (List ℕ)) → SameEdges R Q →
    AreLists R count lists → AreLists Q count lists
AreLists-same R Q count lists same h = record {
  len = h.len;
  exact = λ a b. (λ l. same.kept a b ((h.exact a b).0 l), λ e. (h.exact a b).1 (same.only a b e));
}

none_at : (count a : ℕ) → list_at (replicate count []) a ≡ []
none_at count a = elim (cases_lt a count) [
  | inl less ↦ get_or-replicate count a [] [] less
  | inr more ↦ get_or_past (replicate count []) a [] (omega (arith, length-replicate {A = List ℕ} count []))
]

none_listed : (count a b : ℕ) → Listed (replicate count []) a b → ⊥
none_listed count a b h = let here = subst (λ (xs : List ℕ). Contains xs b) (none_at count a) h in omega (arith, here.1)

-- a relation without edges has empty lists
pub AreLists-none : (R : ℕ → ℕ → Type 0) (count : ℕ) → ((a b : ℕ) → R a b → ⊥) → AreLists R count (replicate count [])
AreLists-none R count none = record {
  len = length-replicate count [];
  exact = λ a b. (λ l. absurd (none_listed count a b l), λ e. absurd (none a b e));
}

-- The steps of the two loops, over plain lists.
module _ (d : Diagram) (station : IsStation d) (v : List Bool) (lists : List (List ℕ)) where
  pub lists_after_closed : (i : ℕ) (x : Switch) (n : NodeId) → slice_get d.switches i ≡ Some x → x.second ≡ Some n →
      slice_get v i ≡ Some true → AreLists (TouchingBelow false d v i 0) (node_count d) lists →
      AreLists (TouchingBelow false d v (i + 1) 0) (node_count d) (with_neighbours lists x.first.0 n.0)
  lists_after_closed i x n listed second closed h =
      let fits = station.items.switches_fit i x listed in
      AreLists-edge (TouchingBelow false d v i 0) (TouchingBelow false d v (i + 1) 0) (node_count d) lists x.first.0 n.0
      (switch_adds false d v i 0 x n listed fits second closed) fits.first_in (second_fits d x n fits second).1 h

  pub lists_after_one_ended : (i : ℕ) (x : Switch) → slice_get d.switches i ≡ Some x → x.second ≡ None →
      AreLists (TouchingBelow false d v i 0) (node_count d) lists → AreLists (TouchingBelow false d v (i + 1) 0)
      (node_count d) lists
  lists_after_one_ended i x listed none h =
      AreLists-same (TouchingBelow false d v i 0) (TouchingBelow false d v (i + 1) 0) (node_count d) lists
      (switch_passed false d v i 0 (λ a b. one_end_joins_nothing d v i a b x listed none)) h

  pub lists_after_open : (i : ℕ) → slice_get v i ≡ Some false → AreLists (TouchingBelow false d v i 0) (node_count d)
      lists → AreLists (TouchingBelow false d v (i + 1) 0) (node_count d) lists
  lists_after_open i is_open h =
      AreLists-same (TouchingBelow false d v i 0) (TouchingBelow false d v (i + 1) 0) (node_count d) lists
      (switch_passed false d v i 0 (λ a b. open_joins_nothing d v i a b is_open)) h

  pub lists_after_link : (i j : ℕ) (x : Link) → slice_get d.links j ≡ Some x →
      AreLists (TouchingBelow false d v i j) (node_count d) lists → AreLists (TouchingBelow false d v i (j + 1))
      (node_count d) (with_neighbours lists x.first.0 x.second.0)
  lists_after_link i j x listed h =
      let fits = station.items.links_fit j x listed in
      AreLists-edge (TouchingBelow false d v i j) (TouchingBelow false d v i (j + 1)) (node_count d) lists
      x.first.0 x.second.0
      (link_adds false d v i j x listed (λ e. absurd (cc))) fits.first_in fits.second_in h

  pub lists_at_end : (i j : ℕ) → i ≡ length d.switches → j ≡ length d.links →
      AreLists (TouchingBelow false d v i j) (node_count d) lists → AreLists (Touching false d v) (node_count d) lists
  lists_at_end i j at_i at_j h =
      AreLists-same (TouchingBelow false d v (length d.switches) (length d.links)) (Touching false d v) (node_count d)
      lists (below_all false d v)
      (subst (λ m. AreLists (TouchingBelow false d v m (length d.links)) (node_count d) lists) at_i
      (subst (λ m. AreLists (TouchingBelow false d v i m) (node_count d) lists) at_j h))

-- the ends of an item are nodes of the station
ends_in : (p q count a b : ℕ) → p < count → q < count → AreEnds p q a b → a < count
ends_in p q count a b p_in q_in (inl h) = subst (λ n. n < count) (sym h.0) p_in
ends_in p q count a b p_in q_in (inr h) = subst (λ n. n < count) (sym h.0) q_in

module _ (d : Diagram) (station : IsStation d) (v : List Bool) where
  between_in : (bonds_only : Bool) (item : Item) (a b : ℕ) → ItemBetween bonds_only d v item a b → a < node_count d
  between_in bonds_only (a_switch i) a b h =
      let fits = station.items.switches_fit i h.switch h.listed in
      ends_in h.switch.first.0 h.second.0 (node_count d) a b fits.first_in (second_fits d h.switch h.second fits
      h.has_second).1 h.ends
  between_in bonds_only (a_link i) a b h =
      let fits = station.items.links_fit i h.link h.listed in
      ends_in h.link.first.0 h.link.second.0 (node_count d) a b fits.first_in fits.second_in h.ends
  between_in bonds_only (a_tap i) a b h = absurd h

  touching_in : (a b : ℕ) → Touching false d v a b → a < node_count d
  touching_in a b h = between_in false h.item a b h.between

  -- the neighbours in a station are undirected
  pub IsUndirected-station : (lists : List (List ℕ)) → AreLists (Touching false d v) (node_count d) lists →
      IsUndirected lists
  IsUndirected-station lists h = record {
    within = λ a b l. subst (λ n. b < n) (sym h.len)
        (touching_in b a (touching_back false d v a b ((h.exact a b).0 l)));
    back = λ a b l. (h.exact b a).1 (touching_back false d v a b ((h.exact a b).0 l));
  }
