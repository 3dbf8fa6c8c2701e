-- Values by places of a list of nodes.
use Rattle.std.proofs.Common.{◌≡◌, ℕ, ◌+◌, ◌-◌, ◌<◌, ◌↔◌, suc, Bool, List, [], ◌∷◌, ◌++◌, map, take, length}
use Rattle.std.proofs.Common.{get_or, slice_get, slice_index, Some, sym, ap, ◌∙◌, subst, inl, inr, arith}
use Rattle.std.specs.Prelude.{Contains}
use Rattle.std.proofs.lemmas.List.{length-map, map-append, take_more}
use Rattle.std.proofs.lemmas.Option.{slice_get_within, slice_get-get_or, get_or_from_slice_get, same_Some}
use Rattle.std.proofs.lemmas.Bool.{cases_lt, cases_eq}
use Rattle.station_graph.specs.Diagram.{Diagram, IsStation, part_count}
use Rattle.station_graph.specs.Sharing.{OfPart, TouchedBy, IsShared}
use Rattle.station_graph.specs.Nodes.{Rises}
use Rattle.contraction.specs.Answers.{Answers, Keeps, AreNodes, IsContraction}
use Rattle.contraction.specs.Renaming.{KeepsOrder, mapped}
use Rattle.contraction.specs.Stands.{Among}
use Rattle.contraction.proofs.MappedLemmas.{rises_map, mapped_well}
use Rattle.contraction.proofs.MergeLemmas.{few_nodes}
use Rattle.contraction.proofs.PlaceLemmas.{keeps_from_has}
use Rattle.decision_graphs.specs.Label.{Layered}
use Rattle.judge_pool.specs.declared.pool.Pool.{Pool}
use Rattle.judge_pool.specs.Lettered.{Lettered}
use Rattle.judge_pool.specs.Seen.{SeenFor, SameSeen}
use Rattle.judge_pool.specs.Pooling.{HasSame}
use Rattle.judge_pool.specs.Places.{node_listed, pool_on}
use Rattle.judge_pool.specs.Layering.{values_at, no_answers}
use Rattle.judge_pool.specs.Folding.{StandsIn}
use Rattle.judge_pool.specs.Graphs.{other_of, OfOthers, IsInner}
use Rattle.judge_pool.specs.Listing.{parts_before}
use Rattle.judge_pool.specs.Needing.{IsNeededOuter, IsNeededInner}
use Rattle.judge_intake.specs.Inputs.{AreCopies, HasCopyAt, AreNames}
use Rattle.judge_pool.proofs.BridgeLemmas.{at_number, number_at}
use Rattle.judge_pool.proofs.NodeLemmas.{node_at, node_small, node_past, places_rise}
pub use Rattle.judge_pool.proofs.NodeLemmas.{node_at, places_rise}
use Rattle.judge_pool.proofs.MappedPools.{at_mapped}
use Rattle.judge_pool.proofs.MappedViews.{same_map, kept_of_same}
use Rattle.judge_intake.proofs.OuterFits.{seen_over, others_all, part_in}
use Rattle.judge_intake.proofs.OuterLemmas.{part_has, before_has, other_not}
use Rattle.judge_intake.proofs.OtherLemmas.{other_cases}

-- ---- places and nodes

module _ (list : List ℕ) (nodes : AreNodes list) where
  -- a place whose node is in the list is one of its places
  pub place_inside : (place : ℕ) → Contains list (node_listed list place) → place < length list
  place_inside place has = elim (cases_lt place (length list)) [
    | inl inside ↦ inside
    | inr out ↦
        let k = keeps_from_has list (node_listed list place) has in
        absurd (omega (
          arith,
          node_small list nodes k.place (node_listed list place) k.at,
          node_past list nodes place (omega (arith, out)),
        ))
  ]

  -- places of nodes are nodes, and so are nodes at places
  pub places_are_nodes : (places nodes' : List ℕ) → map (node_listed list) places ≡ nodes' → Rises nodes' →
      ((n : ℕ) → Keeps nodes' n → Contains list n) → AreNodes places
  places_are_nodes places nodes' is rises has = record {
    rises = λ j k less k_in.
        let up = subst (λ l. Rises l) (sym is) rises in
        let count = length-map places (node_listed list) in
        let at_j = slice_get-get_or places j 0 (omega (arith, less, k_in)) in
        let at_k = slice_get-get_or places k 0 k_in in
        let one = get_or_from_slice_get (map (node_listed list) places) j (node_listed list (slice_index places j)) 0
        (at_mapped (node_listed list) places j (slice_index places j) at_j) in
        let two = get_or_from_slice_get (map (node_listed list) places) k (node_listed list (slice_index places k)) 0
        (at_mapped (node_listed list) places k (slice_index places k) at_k) in
        let later = up j k less (omega (arith, k_in, count)) in
        elim (cases_lt (slice_index places j) (slice_index places k)) [
          | inl lt ↦ lt
          | inr ge ↦ elim (cases_eq (slice_index places j) (slice_index places k)) [
            | inl e ↦ absurd (omega (arith, later, one, two, ap (node_listed list) e))
            | inr ne ↦
                absurd (omega (
                  arith,
                  later,
                  one,
                  two,
                  places_rise list nodes (slice_index places k) (slice_index places j) (omega (arith, ge, ne)),
                ))
          ]
        ];
    small = λ k k_in.
        let at = slice_get-get_or places k 0 k_in in
        let kept : Keeps nodes' (node_listed list (slice_index places k)) = record {
          place = k;
          at = ap (λ l. slice_get l k) (sym is) ∙ at_mapped (node_listed list) places k (slice_index places k) at;
        } in
        omega (
          arith,
          place_inside (slice_index places k) (has (node_listed list (slice_index places k)) kept),
          few_nodes list nodes,
        );
  }

  pub nodes_are_nodes : (places : List ℕ) → AreNodes places → ((p : ℕ) → Keeps places p → p < length list) →
      AreNodes (map (node_listed list) places)
  nodes_are_nodes places are inside = record {
    rises = rises_map (node_listed list) (places_rise list nodes) places are.rises;
    small = λ k k_in.
        let count = length-map places (node_listed list) in
        let at = slice_get-get_or places k 0 (omega (arith, k_in, count)) in
        let p_in = inside (slice_index places k) (record { place = k; at = at }) in
        let at_p = slice_get-get_or list (slice_index places k) 0 p_in in
        let here = get_or_from_slice_get (map (node_listed list) places) k (node_listed list (slice_index places k)) 0
        (at_mapped (node_listed list) places k (slice_index places k) at) in
        omega (
          arith,
          here,
          node_at list (slice_index places k) (slice_index list (slice_index places k)) at_p,
          node_small list nodes (slice_index places k) (slice_index list (slice_index places k)) at_p,
        );
  }

-- one place more
pub places_more : (list places nodes : List ℕ) (k place n : ℕ) → map (node_listed list) places ≡ take k nodes →
    slice_get list place ≡ Some n → slice_get nodes k ≡ Some n →
    map (node_listed list) (places ++ place ∷ []) ≡ take (k + 1) nodes
places_more list places nodes k place n is at at_k =
    map-append (node_listed list) places (place ∷ [])
    ∙ (ap (λ xs. xs ++ node_listed list place ∷ []) is
    ∙ (ap (λ m. take k nodes ++ m ∷ []) (node_at list place n at ∙ sym (get_or_from_slice_get nodes k n 0 at_k))
    ∙ sym (take_more nodes k 0 (slice_get_within nodes k n at_k))))

-- and one node more
pub nodes_more : (list places nodes : List ℕ) (k p n : ℕ) → nodes ≡ map (node_listed list) (take k places) →
    slice_get places k ≡ Some p → p < length list → n ≡ slice_index list p →
    nodes ++ n ∷ [] ≡ map (node_listed list) (take (k + 1) places)
nodes_more list places nodes k p n is at p_in here =
    ap (λ xs. xs ++ n ∷ []) is
    ∙ (ap (λ m. map (node_listed list) (take k places) ++ m ∷ []) (here
    ∙ (sym (node_at list p (slice_index list p) (slice_get-get_or list p 0 p_in))
    ∙ ap (node_listed list) (sym (get_or_from_slice_get places k p 0 at))))
    ∙ (sym (map-append (node_listed list) (take k places) (slice_index places k ∷ []))
    ∙ ap (map (node_listed list)) (sym (take_more places k 0 (slice_get_within places k p at)))))

-- ---- what is interned by places

pub same_on : (f : ℕ → ℕ) (q : Pool) (moved value : Answers) (id : ℕ) → KeepsOrder f → mapped f moved ≡ value →
    IsContraction value → HasSame q moved id → HasSame (pool_on f q) value id
same_on f q moved value id order is well h =
    let kept : map f h.same.kept ≡ value.kept =
    ap (map f) (sym (kept_of_same q.view moved h.same h.is_same)) ∙ ap (λ (z : Answers). z.kept) is in
    record {
      same = mapped f h.same;
      listed = at_mapped (mapped f) q.values.items id h.same h.listed;
      is_same = subst (λ z. SameSeen q.view z (mapped f h.same)) is (same_map f order q.view moved h.same h.is_same);
      well = well;
      well_same = mapped_well f h.same h.well_same (subst AreNodes (sym kept) well.nodes);
    }

-- ---- names

-- a node of which the names speak is shared
pub named_shared : (a : Lettered) (b n : ℕ) → IsStation a.diagram → b < part_count a.diagram →
    IsNeededOuter a.diagram b (part_count a.diagram - 1) n → IsShared a.diagram b n
named_shared a b n station b_in need =
    let d = a.diagram in
    let first = before_has d b (part_count d - 1) need.before.item need.before.among in
    let there : TouchedBy (OfPart d (other_of 0 b first.0)) d n = record {
      item = need.before.item;
      among = first.2;
      touches = need.before.touches;
    } in
    record {
      here = elim need.after [
        | inl own ↦ own
        | inr later ↦
            let of_part = part_has d (other_of 0 b later.0) later.2.item later.2.among in
            let p_in = part_in d (other_of 0 b later.0) later.2.item station of_part in
            absurd (elim (other_cases 0 b later.0) [
              | inl x ↦ omega (arith, x.0, later.1, b_in)
              | inr x ↦ omega (arith, x.1, later.1, b_in, p_in)
            ])
      ];
      other = other_of 0 b first.0;
      apart = other_not b first.0;
      there = there;
    }

module _ (a : Lettered) (b : ℕ) (station : IsStation a.diagram) (b_in : b < part_count a.diagram) (q : Pool)
    (values : List Answers) (ids : List ℕ) (copies : AreCopies q values ids) where
  count_is : suc (part_count a.diagram - 1) ≡ part_count a.diagram
  count_is = omega (arith, b_in)

  copy_stands : (v : List Bool) (c : ℕ) (x : Answers) → slice_get values c ≡ Some x →
      SeenFor q.view (OfOthers a.diagram b) a.diagram v x →
      StandsIn q.view (OfOthers a.diagram b) a.diagram v (values_at q.values.items ids) c
  copy_stands v c x at seen =
      let h = copies.each c x at in
      let others = parts_before a.diagram b (part_count a.diagram - 1) in
      let all = others_all a b (part_count a.diagram - 1) station count_is b_in in
      record {
        value = h.copy.value;
        listed = number_at q.values.items ids c h.id h.copy.value h.at h.copy.listed;
        stands = seen_over q.view (Among others) (OfOthers a.diagram b) a.diagram v h.copy.value all
            (h.copy.stands others a.diagram v (seen_over q.view (OfOthers a.diagram b) (Among others) a.diagram v x
            (λ it is. (let s = all it is in (s.1, s.0))) seen));
      }

  pub copies_stand : (v : List Bool) (c : ℕ) → StandsIn q.view (OfOthers a.diagram b) a.diagram v values c →
      StandsIn q.view (OfOthers a.diagram b) a.diagram v (values_at q.values.items ids) c
  copies_stand v c s = copy_stands v c s.value s.listed s.stands

  -- what a place of the copies has
  original : (c : ℕ) (y : Answers) → slice_get (values_at q.values.items ids) c ≡ Some y →
      (x : Answers) × (slice_get values c ≡ Some x) × (h : HasCopyAt q ids c x) × (h.copy.value ≡ y)
  original c y at =
      let i = at_number q.values.items ids c y at in
      let c_in : c < length values = omega (arith, slice_get_within ids c i.0 i.1, copies.len) in
      let x : Answers = get_or values c no_answers in
      let at_x : slice_get values c ≡ Some x = slice_get-get_or values c no_answers c_in in
      let h = copies.each c x at_x in
      let listed = number_at q.values.items ids c h.id h.copy.value h.at h.copy.listed in
      (x, at_x, h, same_Some h.copy.value y (sym listed ∙ at))

  pub names_copied : (p : Pool) (names : List ℕ) → q.view ≡ p.view → values ≡ values_at p.values.items names →
      AreNames p a.diagram b names → AreNames q a.diagram b ids
  names_copied p names view is named =
      let at_p : (t : ℕ) (x : Answers) → slice_get values t ≡ Some x →
      slice_get (values_at p.values.items names) t ≡ Some x = λ t x at. ap (λ xs. slice_get xs t) (sym is) ∙ at in
      record {
        some = omega (
          arith,
          named.some,
          copies.len,
          ap length is,
          length-map names (λ i. get_or p.values.items i no_answers),
        );
        within = λ t i at.
            let t_in : t < length values = omega (arith, slice_get_within ids t i at, copies.len) in
            let h = copies.each t (get_or values t no_answers) (slice_get-get_or values t no_answers t_in) in
            subst (λ k. k < length q.values.items) (same_Some h.id i (sym h.at ∙ at))
            (slice_get_within q.values.items h.id h.copy.value h.copy.listed);
        kept = λ t y at n.
            let (x, at_x, h, e) = original t y at in
            let one = subst (λ (z : Answers). Keeps z.kept n ↔ Keeps x.kept n) e (h.copy.kept n) in
            let two = named.kept t x (at_p t x at_x) n in
            (λ k. two.0 (one.0 k), λ k. one.1 (two.1 k));
        views = record {
          made = λ t y at.
              let (x, at_x, h, e) = original t y at in
              let (v, whole, seen) = named.views.made t x (at_p t x at_x) in
              let s = copy_stands v t x at_x
              (subst (λ w. SeenFor w (OfOthers a.diagram b) a.diagram v x) (sym view) seen) in (
                v,
                whole,
                subst (λ z. SeenFor q.view (OfOthers a.diagram b) a.diagram v z)
                    (same_Some s.value y (sym s.listed ∙ at)) s.stands,
              );
          cover = λ v whole.
              let (t, s) = named.views.cover v whole in (
                t,
                copy_stands v t s.value (ap (λ xs. slice_get xs t) is ∙ s.listed)
                    (subst (λ w. SeenFor w (OfOthers a.diagram b) a.diagram v s.value) (sym view) s.stands),
              );
        };
      }

  -- a graph of the copies is one of the values
  pub inner_for : (m first others : ℕ) (g : Layered) →
      IsInner q.view a b m first others (values_at q.values.items ids) g → IsInner q.view a b m first others values g
  inner_for m first others g h = record {
    fits = h.fits;
    count = h.count;
    outer = omega (arith, h.outer, length-map ids (λ i. get_or q.values.items i no_answers), copies.len);
    choices = h.choices;
    says = λ v name ds whole s count own. h.says v name ds whole (copies_stand v name s) count own;
  }

-- ---- the nodes of an inner graph's layers

pub needed_later : (d : Diagram) (m first others j n : ℕ) → IsNeededInner d m first others j n →
    IsNeededInner d m first others 0 n
needed_later d m first others j n (inl t) = inl t
needed_later d m first others j n (inr (i, le, lt, t)) = inr (i, omega arith, lt, t)
