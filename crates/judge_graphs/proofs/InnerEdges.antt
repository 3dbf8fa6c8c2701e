-- The edges of an inner graph's layers behind the first are those that its plan has there.
use Rattle.std.proofs.Common.{◌≡◌, ℕ, ◌+◌, ◌-◌, ◌*◌, ◌<◌, ◌≤◌, zero, suc, Bool, false, List, [], ◌∷◌, ◌++◌, replicate}
use Rattle.std.proofs.Common.{length, map, get_or, slice_get, Some, refl, sym, ap, ◌∙◌, subst, arith}
use Rattle.std.specs.List.{sum, sum_by}
use Rattle.std.proofs.lemmas.List.{length-map, length-replicate}
use Rattle.std.proofs.lemmas.List.Sums.{sum_by-cons}
use Rattle.std.proofs.lemmas.Option.{slice_get_within, slice_get-get_or, slice_get-map}
use Rattle.station_graph.specs.Connection.{a_switch}
use Rattle.contraction.specs.Answers.{Answers}
use Rattle.contraction.specs.Stands.{Among}
use Rattle.part_alphabets.specs.Counting.{AreSoMany}
use Rattle.judge_pool.specs.declared.view.View.{View}
use Rattle.judge_pool.specs.declared.pool.Pool.{Pool}
use Rattle.judge_pool.specs.Lettered.{Lettered}
use Rattle.judge_pool.specs.Seen.{SameView}
use Rattle.judge_pool.specs.Graphs.{other_of}
use Rattle.judge_pool.specs.Listing.{own_links}
use Rattle.judge_pool.specs.Layering.{values_at}
use Rattle.judge_pool.specs.Needing.{IsNeededInner, InnerNeeds}
use Rattle.judge_pool.specs.Counted.{Size, edges_in, AreAtLeast, before_switch, InnerHas, Spends, Passes}
use Rattle.judge_pool.specs.Plans.{Plan, inner_plan, items_of, SameBefore, PlanHas, PlanPasses}
use Rattle.judge_intake.specs.Ready.{IsInnerReady}
use Rattle.judge_pool.proofs.BridgeLemmas.{from_map}
use Rattle.judge_pool.proofs.CountLemmas.{at_least_of, at_most_one, some_vector, view_one}
use Rattle.judge_graphs.proofs.EdgesLemmas.{inner_all}

abbrev views_of : List Size → List ℕ
views_of sizes = map (λ (s : Size). s.views) sizes

-- two edges for each view
doubled : (sizes : List Size) → ((i : ℕ) (s : Size) → slice_get sizes i ≡ Some s → s.choices ≡ 2) →
    2 * sum (views_of sizes) ≡ sum_by edges_in sizes
doubled [] two = refl
doubled (s ∷ ss) two =
    let e : s.choices ≡ 2 = two 0 s refl in
    let here : s.views * s.choices ≡ s.views * 2 = ap (λ n. s.views * n) e in
    omega (
      arith,
      here,
      doubled ss (λ i t at. two (suc i) t at),
      sum_by-cons edges_in s ss,
      sum_by-cons (λ (x : ℕ). x) s.views (views_of ss),
    )

pub before_items : (view : View) (a : Lettered) (b m first others : ℕ) (names : List Answers) (i : ℕ) →
    items_of (inner_plan view a b m first others names) (suc i) ≡ before_switch a.diagram b m first i
before_items view a b m first others names zero = refl
before_items view a b m first others names (suc i) =
    ap (λ xs. xs ++ a_switch (other_of first m i) ∷ []) (before_items view a b m first others names i)

module _ (a : Lettered) (b m first others : ℕ) (p : Pool) (start : ℕ) (names : List ℕ) (letters : List (List ℕ))
    (keeps : List ℕ) (ready : IsInnerReady a b m first others p start names letters keeps) where
  abbrev plan : Plan
  plan = inner_plan p.view a b m first others (values_at p.values.items names)

  -- before the first layer all vectors have one view
  all_same : (v w : List Bool) → SameBefore p.view plan 0 v w
  all_same v w =
      view_one p.view (Among (own_links a.diagram b)) a.diagram v w ready.begins.value
      (InnerNeeds a.diagram b m first others 0) (λ n need. (ready.begins.kept n).1 need) (ready.begins.stands v)
      (ready.begins.stands w)

  -- behind the first layer
  behind : (Many : (List Bool → List Bool → Type 0) → ℕ → Type 0) (n : ℕ) (rest : List Size) → length rest ≡ n →
      n ≤ others → ((i : ℕ) (s : Size) → slice_get rest i ≡ Some s → Many (SameBefore p.view plan (suc i)) s.views) →
      ((i : ℕ) (s : Size) (ids : List ℕ) → slice_get rest i ≡ Some s → slice_get letters (suc i) ≡ Some ids →
      s.choices ≡ length ids) → InnerHas p.view a.diagram b m first others n Many (sum_by edges_in rest)
  behind Many n rest len few views choices = record {
    sizes = views_of rest;
    len = length-map rest (λ (s : Size). s.views) ∙ len;
    views = λ i size at.
        let (s, at_s, is) = from_map (λ (x : Size). x.views) (slice_get rest i) size
        (sym (slice_get-map (λ (x : Size). x.views) rest i) ∙ at) in
        let here = subst
        (λ xs. Many (λ v w. SameView p.view (IsNeededInner a.diagram m first others i) (Among xs) a.diagram v w)
        s.views) (before_items p.view a b m first others (values_at p.values.items names) i) (views i s at_s) in
        subst
        (λ k. Many (λ v w. SameView p.view (IsNeededInner a.diagram m first others i)
        (Among (before_switch a.diagram b m first i)) a.diagram v w) k) is here;
    all = doubled rest (λ i s at.
        (let lt : suc i < length letters = omega (arith, slice_get_within rest i s at, len, few, ready.rows.len) in
        let ids : List ℕ = get_or letters (suc i) [] in
        let at_i : slice_get letters (suc i) ≡ Some ids = slice_get-get_or letters (suc i) [] lt in
        choices i s ids at at_i ∙ ap length (ready.rows.pairs i ids at_i).two));
  }

  first_choices : (Many : (List Bool → List Bool → Type 0) → ℕ → Type 0) (n edges : ℕ)
      (h : PlanHas p.view plan letters n Many edges) (s : Size) → slice_get h.sizes 0 ≡ Some s →
      s.choices ≡ length names
  first_choices Many n edges h s at = h.choices 0 s names at ready.rows.first_row

  pub inner_spends : (limit left : ℕ) →
      Spends (PlanHas p.view plan letters (suc others)) a.diagram (limit + length names) left →
      Spends (InnerHas p.view a.diagram b m first others others) a.diagram limit left
  inner_spends limit left h = by h.has.sizes refl
    where
      by : (sizes : List Size) → sizes ≡ h.has.sizes →
          Spends (InnerHas p.view a.diagram b m first others others) a.diagram limit left
      by [] e = absurd (omega (arith, ap length e, h.has.len))
      by (s ∷ rest) e =
          let at : (i : ℕ) (t : Size) → slice_get rest i ≡ Some t → slice_get h.has.sizes (suc i) ≡ Some t =
          λ i t at_i. ap (λ l. slice_get l (suc i)) (sym e) ∙ at_i in
          let at_0 : slice_get h.has.sizes 0 ≡ Some s = ap (λ l. slice_get l 0) (sym e) in
          let many = h.has.views 0 s at_0 in
          let none : List Bool = replicate (length a.diagram.switches) false in
          let one : s.views ≡ 1 = omega (
            arith,
            at_most_one a.diagram (SameBefore p.view plan 0) s.views (λ v w whole_v whole_w. all_same v w)
                (at_least_of a.diagram (SameBefore p.view plan 0) s.views many),
            some_vector a.diagram (SameBefore p.view plan 0) s.views none
                (length-replicate (length a.diagram.switches) false) many,
          ) in
          let first_edges : s.views * s.choices ≡ length names =
          ap (λ n. n * s.choices) one
          ∙ (omega (arith, first_choices (AreSoMany a.diagram) (suc others) h.edges h.has s at_0)) in
          record {
            edges = sum_by edges_in rest;
            has =
                behind (AreSoMany a.diagram) others rest (omega (arith, ap length e, h.has.len)) (omega arith)
                (λ i t at_i. h.has.views (suc i) t (at i t at_i))
                (λ i t ids at_i at_j. h.has.choices (suc i) t ids (at i t at_i) at_j);
            all = omega (arith, first_edges, sum_by-cons edges_in s rest, ap (sum_by edges_in) e, h.has.all, h.all);
          }

  pub inner_passes : (limit : ℕ) → PlanPasses p.view plan letters (limit + length names) →
      Passes (InnerHas p.view a.diagram b m first others others) a.diagram limit
  inner_passes limit h = by h.first.has.sizes refl
    where
      by : (sizes : List Size) → sizes ≡ h.first.has.sizes →
          Passes (InnerHas p.view a.diagram b m first others others) a.diagram limit
      by [] e = absurd (omega (arith, ap (sum_by edges_in) e, h.first.has.all, h.first.past))
      by (s ∷ rest) e =
          let n : ℕ = length rest in
          let at : (i : ℕ) (t : Size) → slice_get rest i ≡ Some t → slice_get h.first.has.sizes (suc i) ≡ Some t =
          λ i t at_i. ap (λ l. slice_get l (suc i)) (sym e) ∙ at_i in
          let at_0 : slice_get h.first.has.sizes 0 ≡ Some s = ap (λ l. slice_get l 0) (sym e) in
          let many = h.first.has.views 0 s at_0 in
          let one : s.views ≤ 1 =
          at_most_one a.diagram (SameBefore p.view plan 0) s.views (λ v w whole_v whole_w. all_same v w) many in
          let few : n ≤ others = omega (arith, ap length e, h.first.has.len, h.within, ready.rows.len) in
          let first_edges : s.views * s.choices ≤ length names =
          at_most s.views s.choices (length names) one
          (first_choices (AreAtLeast a.diagram) h.layers h.first.edges h.first.has s at_0) in
          let here = behind (AreAtLeast a.diagram) n rest refl few
          (λ i t at_i. h.first.has.views (suc i) t (at i t at_i))
          (λ i t ids at_i at_j. h.first.has.choices (suc i) t ids (at i t at_i) at_j) in
          let all : n + (others - n) ≡ others = omega (arith, few) in
          record {
            edges = sum_by edges_in rest;
            has =
                subst (λ k. InnerHas p.view a.diagram b m first others k (AreAtLeast a.diagram) (sum_by edges_in rest))
                all (inner_all p.view a.diagram b m first others (others - n) n (sum_by edges_in rest) here);
            past = omega (
              arith,
              first_edges,
              sum_by-cons edges_in s rest,
              ap (sum_by edges_in) e,
              h.first.has.all,
              h.first.past,
            );
          }
        where
          at_most : (k c n : ℕ) → k ≤ 1 → c ≡ n → k * c ≤ n
          at_most zero c n le is = omega arith
          at_most (suc zero) c n le is = omega (arith, is)
          at_most (suc (suc k)) c n le is = absurd (omega (arith, le))
