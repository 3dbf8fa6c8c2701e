-- The graphs of a bay have no more nodes than counted edges.
use Rattle.std.proofs.Common.{◌≡◌, ◌∙◌, ℕ, ◌+◌, ◌-◌, ◌<◌, ◌≤◌, suc, Bool, false, List, [], ◌∷◌, length, take, get_or}
use Rattle.std.proofs.Common.{refl, sym, ap, subst, arith, Some}
use Rattle.std.specs.Prelude.{slice_get}
use Rattle.std.specs.List.{sum, sum_by}
use Rattle.std.proofs.Math.ListN.{replicate}
use Rattle.std.proofs.lemmas.List.{length-replicate}
use Rattle.std.proofs.lemmas.List.Sums.{sum_by-cons}
use Rattle.std.proofs.lemmas.Nat.{mul-le}
use Rattle.std.proofs.lemmas.Option.{slice_get_within, get_or_from_slice_get}
use Rattle.station_graph.specs.Diagram.{Diagram}
use Rattle.station_graph.specs.Connection.{Item}
use Rattle.station_graph.specs.Alike.{Alike}
use Rattle.station_graph.proofs.Decided.{element}
use Rattle.station_graph.proofs.PositionLemmas.{SameGapView-sym, SameLoadView-sym, SameGapView-trans}
use Rattle.station_graph.proofs.PositionLemmas.{SameLoadView-trans}
use Rattle.contraction.specs.Stands.{Among}
use Rattle.part_alphabets.specs.Counting.{AreSoMany}
use Rattle.bay_contract.proofs.CountingLemmas.{not_longer}
use Rattle.decision_graphs.specs.Label.{Layer, Layered, layer_at, first_at}
use Rattle.decision_graphs.specs.Reaching.{node_total}
use Rattle.judge_pool.specs.declared.view.View.{View}
use Rattle.judge_pool.specs.declared.view.View.TheVariants.{Gap, Load}
use Rattle.judge_pool.specs.Lettered.{Lettered}
use Rattle.judge_pool.specs.Seen.{SameView}
use Rattle.judge_pool.specs.Listing.{parts_before}
use Rattle.judge_pool.specs.Needing.{IsNeededOuter, IsNeededInner}
use Rattle.judge_pool.specs.Graphs.{other_of}
use Rattle.judge_pool.specs.Counted.{Size, edges_in, before_switch, HasFewNodes, SwitchHas, ViewHas as ViewIsCounted}
use Rattle.judge_graphs.specs.Built.{ViewOf, BayOf, AreViewGraphs}
use Rattle.release_compile.specs.Judging.{no_graph, inner_at as graph_of}
use Rattle.station_equations.specs.Compiling.{inner_total, view_nodes}

view_back : (view : View) (Kept : ℕ → Type 0) (These : Item → Type 0) (d : Diagram) (v w : List Bool) →
    SameView view Kept These d v w → SameView view Kept These d w v
view_back Gap Kept These d v w h = SameGapView-sym Kept These d v w h
view_back Load Kept These d v w h = SameLoadView-sym Kept These d v w h

view_on : (view : View) (Kept : ℕ → Type 0) (These : Item → Type 0) (d : Diagram) (u v w : List Bool) →
    SameView view Kept These d u v → SameView view Kept These d v w → SameView view Kept These d u w
view_on Gap Kept These d u v w h k = SameGapView-trans Kept These d u v w h k
view_on Load Kept These d u v w h k = SameLoadView-trans Kept These d u v w h k

-- a layer has no more nodes than there are distinct views
small_layer : (view : View) (Kept : ℕ → Type 0) (These : Item → Type 0) (d : Diagram) (l : Layer) (n : ℕ) →
    HasFewNodes d (λ v w. SameView view Kept These d v w) l → AreSoMany d (λ v w. SameView view Kept These d v w) n →
    length l.rows ≤ n
small_layer view Kept These d l n small many =
    let le = not_longer d (λ v w. SameView view Kept These d v w) (view_back view Kept These d)
    (view_on view Kept These d) small.counted.list many.list small.counted.distinct many.all in
    omega (arith, le, small.few, small.counted.count, many.count)

-- a part has an index
some_index : (d : Diagram) (part n : ℕ) → AreSoMany d (Alike d part) n → 0 < n
some_index d part n many =
    let has = many.all (replicate (length d.switches) false) (length-replicate (length d.switches) false) in
    omega (arith, slice_get_within many.list has.place has.entry has.listed, many.count)

edges_of : (s : Size) → 0 < s.choices → s.views ≤ edges_in s
edges_of s some = let le = mul-le s.views 1 s.views s.choices (omega arith) (omega (arith, some)) in omega (arith, le)

-- sums over layers
outer_sum : (ls : List Layer) (sizes : List Size) → length ls ≡ length sizes →
    ((j : ℕ) (s : Size) → slice_get sizes j ≡ Some s → length (layer_at ls j).rows ≤ edges_in s) →
    first_at ls (length ls) ≤ sum_by edges_in sizes
outer_sum [] sizes len few = omega arith
outer_sum (l ∷ ls) [] len few = absurd (omega (arith, len))
outer_sum (l ∷ ls) (s ∷ sizes) len few =
    let here = few 0 s refl in
    let rest = outer_sum ls sizes (omega (arith, len)) (λ j x at. few (suc j) x at) in
    omega (
      arith,
      here,
      rest,
      sum_by-cons (λ (x : Layer). length x.rows) l (take (length ls) ls),
      sum_by-cons edges_in s sizes,
    )

inner_sum : (ls : List Layer) (sizes : List ℕ) → length ls ≡ length sizes →
    ((j n : ℕ) → slice_get sizes j ≡ Some n → length (layer_at ls j).rows ≤ n) → first_at ls (length ls) ≤ sum sizes
inner_sum [] sizes len few = omega arith
inner_sum (l ∷ ls) [] len few = absurd (omega (arith, len))
inner_sum (l ∷ ls) (n ∷ sizes) len few =
    let here = few 0 n refl in
    let rest = inner_sum ls sizes (omega (arith, len)) (λ j x at. few (suc j) x at) in
    omega (
      arith,
      here,
      rest,
      sum_by-cons (λ (x : Layer). length x.rows) l (take (length ls) ls),
      sum_by-cons (λ (k : ℕ). k) n sizes,
    )

behind_first : (ls : List Layer) (sizes : List ℕ) → length ls ≡ suc (length sizes) →
    ((j n : ℕ) → slice_get sizes j ≡ Some n → length (layer_at ls (suc j)).rows ≤ n) →
    first_at ls (length ls) - first_at ls 1 ≤ sum sizes
behind_first [] sizes len few = absurd (omega (arith, len))
behind_first (l ∷ ls) sizes len few =
    let rest = inner_sum ls sizes (omega (arith, len)) (λ j x at. few j x at) in
    omega (
      arith,
      rest,
      sum_by-cons (λ (x : Layer). length x.rows) l (take (length ls) ls),
      sum_by-cons (λ (x : Layer). length x.rows) l [],
    )

module _ (view : View) (a : Lettered) (b first count : ℕ) (g : ViewOf) (gs : AreViewGraphs view a b first count g)
    (edges : ℕ) (h : ViewIsCounted view a.diagram b first count (AreSoMany a.diagram) edges) where
  -- the outer graph
  pub outer_few : node_total g.outer ≤ h.outer_edges
  outer_few =
      let len : length g.outer.layers ≡ length h.outer.sizes = omega (arith, gs.unmerged.outer.count, h.one_more, h.outer.len) in
      let le = outer_sum g.outer.layers h.outer.sizes len (λ j s at.
      let lt : j < length g.outer.layers = omega (arith, slice_get_within h.outer.sizes j s at, len) in
      let small = small_layer view (IsNeededOuter a.diagram b j) (Among (parts_before a.diagram b j)) a.diagram
      (layer_at g.outer.layers j) s.views (gs.unmerged.outer_small j lt) (h.outer.views j s at) in
      omega (arith, small, edges_of s (some_index a.diagram (other_of 0 b j) s.choices (h.outer.indices j s at)))) in
      omega (arith, le, h.outer.all)

  inner_is : (i size : ℕ) (k : Layered) → slice_get g.inner i ≡ Some k →
      SwitchHas view a.diagram b (first + i) first count (AreSoMany a.diagram) size → inner_total k ≤ size
  inner_is i size k at has =
      let is = gs.unmerged.inner.each i k at in
      let others : is.others ≡ has.others = omega (arith, is.one_more, has.one_more) in
      let le = behind_first k.layers has.inner.sizes (omega (arith, is.graph.count, has.inner.len, others)) (λ j n here.
      let lt : j < is.others = omega (arith, slice_get_within has.inner.sizes j n here, has.inner.len, others) in
      let counted = subst (λ o. AreSoMany a.diagram
      (λ v w. SameView view (IsNeededInner a.diagram (first + i) first o j)
      (Among (before_switch a.diagram b (first + i) first j)) a.diagram v w) n) (sym others)
      (has.inner.views j n here) in
      small_layer view (IsNeededInner a.diagram (first + i) first is.others j)
      (Among (before_switch a.diagram b (first + i) first j)) a.diagram (layer_at k.layers (suc j)) n
      (is.small j lt) counted) in
      omega (arith, le, has.inner.all)

  -- the graphs of the view for one switch
  pub view_few : (bay : BayOf) (m i size : ℕ) → bay.first ≡ first → m ≡ first + i →
      slice_get h.inner.each i ≡ Some size → view_nodes bay g m ≤ size + h.outer_edges
  view_few bay m i size begins is at =
      let lt : i < length g.inner = omega (arith, slice_get_within h.inner.each i size at, h.inner.len, gs.unmerged.inner.len) in
      let k = element g.inner i lt in
      let place : m - bay.first ≡ i = omega (arith, begins, is) in
      let same : graph_of bay g m ≡ k.0 = ap (λ n. get_or g.inner n no_graph) place ∙ found i k.0 k.1 in
      let inner = inner_is i size k.0 k.1 (h.inner.graphs i size at) in
      omega (arith, outer_few, inner, ap inner_total same)
    where
      found : (i : ℕ) (k : Layered) → slice_get g.inner i ≡ Some k → get_or g.inner i no_graph ≡ k
      found i k at = get_or_from_slice_get g.inner i k no_graph at
