-- A layer whose states and letters were put on other nodes is a layer on their own.
use Rattle.std.proofs.Common.{◌≡◌, ℕ, ◌*◌, ◌/◌, ◌%◌, ◌<◌, ◌↔◌, List, [], ◌∷◌, length, map, get_or, slice_get, Some, refl, sym, ap}
use Rattle.std.proofs.Common.{◌∙◌, subst, arith}
use Rattle.std.specs.Prelude.{Contains}
use Rattle.std.proofs.lemmas.List.{length-map}
use Rattle.std.proofs.lemmas.Option.{slice_get_within, slice_get-get_or, get_or_from_slice_get, same_Some}
use Rattle.station_graph.specs.Nodes.{Rises}
use Rattle.contraction.specs.Answers.{Answers, Keeps}
use Rattle.contraction.specs.Renaming.{renamed, mapped}
use Rattle.contraction.proofs.MappedLemmas.{same_nodes_map}
use Rattle.decision_graphs.proofs.RowLemmas.{row_end}
use Rattle.judge_pool.specs.declared.lying.Lying.{Lying}
use Rattle.judge_pool.specs.declared.pool.Pool.{Pool}
use Rattle.judge_pool.specs.Folding.{IsStep, ReachesMore}
use Rattle.judge_pool.specs.Layering.{no_answers, values_at}
use Rattle.judge_pool.specs.Lying.{IsLying, AreMapped}
use Rattle.judge_pool.specs.Pooling.{AreEdges}
use Rattle.judge_pool.specs.Shapes.{SameAs, AllAs}
use Rattle.judge_pool.proofs.AsLemmas.{as_back}
use Rattle.judge_pool.proofs.BridgeLemmas.{at_number, next_listed, step_of_edges}
use Rattle.judge_pool.proofs.LayeringLemmas.{AreSound, Grows, grows_same, state_in}
use Rattle.judge_pool.proofs.MappedPools.{of_mapped, reaches_more_on}
use Rattle.judge_pool.proofs.ShapeLemmas.{shape_own, shape_back, shape_on, renamed_as}
use Rattle.judge_pool.proofs.StepAsLemmas.{step_as, step_on, reaches_more_as}

-- The values of these numbers, seen on these nodes.
abbrev pub seen_on : List ℕ → List Answers → List ℕ → List Answers
seen_on kept values ids = map (renamed kept) (values_at values ids)

module _ (q r : Pool) (grew : Grows q r) where
  -- a value that was there
  value_there : (i : ℕ) (x : Answers) → i < length q.values.items → get_or r.values.items i no_answers ≡ x →
      slice_get q.values.items i ≡ Some x
  value_there i x i_in is =
      let at = slice_get-get_or q.values.items i no_answers i_in in
      let on = grew.values i (get_or q.values.items i no_answers) at in
      at
      ∙ ap Some (sym (get_or_from_slice_get r.values.items i (get_or q.values.items i no_answers) no_answers on) ∙ is)

  -- values that are mapped are those that they stand for
  pub mapped_all : (to : ℕ → ℕ) (On : Answers → Answers) (ids placed : List ℕ) →
      ((k i : ℕ) → slice_get ids k ≡ Some i → i < length q.values.items) → AreMapped q to On ids placed →
      AllAs q.view (map (mapped to) (values_at r.values.items placed)) (map On (values_at q.values.items ids))
  mapped_all to On ids placed ids_in m = record {
    len =
        length-map (values_at r.values.items placed) (mapped to)
        ∙ (length-map placed (λ i. get_or r.values.items i no_answers)
        ∙ (m.len
        ∙ (sym (length-map ids (λ i. get_or q.values.items i no_answers))
        ∙ sym (length-map (values_at q.values.items ids) On))));
    same = λ k v w at_v at_w.
        let (y, at_y, is_v) = of_mapped (mapped to) (values_at r.values.items placed) k v at_v in
        let (t, at_t, is_y) = at_number r.values.items placed k y at_y in
        let (x, at_x, is_w) = of_mapped On (values_at q.values.items ids) k w at_w in
        let (i, at_i, is_x) = at_number q.values.items ids k x at_x in
        let x_there : slice_get q.values.items i ≡ Some x =
        slice_get-get_or q.values.items i no_answers (ids_in k i at_i) ∙ ap Some is_x in
        let h = m.same k i t x y at_i at_t x_there (value_there t y (m.listed k t at_t) is_y) in
        subst (λ a. SameAs q.view v a) is_w
        (subst (λ a. SameAs q.view a (On x)) is_v (as_back q.view (On x) (mapped to y) h));
  }

module _ (q r : Pool) (grew : Grows q r) (states kept row nodes : List ℕ) (l : Lying)
    (lies : IsLying q states kept row nodes l)
    (states_in : (k i : ℕ) → slice_get states k ≡ Some i → i < length q.values.items)
    (row_in : (k i : ℕ) → slice_get row k ≡ Some i → i < length q.values.items) where
  states_as : AllAs q.view (map (mapped lies.to) (values_at r.values.items l.states.items))
      (seen_on kept q.values.items states)
  states_as = mapped_all q r grew lies.to (renamed kept) states l.states.items states_in lies.states_lie

  map_own : (xs : List Answers) → map (λ x. x) xs ≡ xs
  map_own [] = refl
  map_own (x ∷ xs) = ap (λ ys. x ∷ ys) (map_own xs)

  letters_as : AllAs q.view (map (mapped lies.to) (values_at r.values.items l.letters.items))
      (values_at q.values.items row)
  letters_as =
      subst (λ xs. AllAs q.view (map (mapped lies.to) (values_at r.values.items l.letters.items)) xs)
      (map_own (values_at q.values.items row)) (mapped_all q r grew lies.to (λ x. x) row l.letters.items row_in
      lies.letters_lie)

  -- where a value rises on the nodes behind, these are mapped to those that are kept
  behind_as : (y : Answers) → Rises y.kept → ((n : ℕ) → Keeps y.kept n ↔ Contains lies.after n) → (n : ℕ) →
      Contains (map lies.to lies.after) n ↔ Contains nodes n
  behind_as y rises keeps n =
      let a = same_nodes_map lies.to y.kept lies.after keeps n in
      let is = lies.behind y.kept rises keeps in
      let b = lies.kept_is n in (
        λ h. b.0 (subst (λ ks. Keeps ks n) is (a.1 h)),
        λ h. a.0 (subst (λ ks. Keeps ks n) (sym is) (b.1 h)),
      )

  -- more values are reached than the limit, on their own nodes
  pub laid_reaches : (limit : ℕ) →
      ReachesMore q.view lies.after (values_at q.values.items l.states.items)
      (values_at q.values.items l.letters.items) limit →
      ReachesMore q.view nodes (seen_on kept q.values.items states) (values_at q.values.items row) limit
  laid_reaches limit h =
      let y : Answers = get_or h.next 0 no_answers in
      let at = slice_get-get_or h.next 0 no_answers (omega (arith, h.past)) in
      reaches_more_as q.view (map lies.to lies.after) nodes
      (map (mapped lies.to) (values_at q.values.items l.states.items)) (seen_on kept q.values.items states)
      (map (mapped lies.to) (values_at q.values.items l.letters.items)) (values_at q.values.items row) limit
      (mapped_all q q (grows_same q) lies.to (renamed kept) states l.states.items states_in lies.states_lie)
      (subst (λ xs. AllAs q.view (map (mapped lies.to) (values_at q.values.items l.letters.items)) xs)
      (map_own (values_at q.values.items row)) (mapped_all q q (grows_same q) lies.to (λ x. x) row l.letters.items
      row_in lies.letters_lie)) (behind_as y (h.reached.rising 0 y at) (h.reached.kept 0 y at))
      (reaches_more_on lies.to lies.order q.view lies.after (values_at q.values.items l.states.items)
      (values_at q.values.items l.letters.items) limit h)

  module _ (holds : AreSound r) (next edges : List ℕ) (some_state : 0 < length l.states.items)
      (some_letter : 0 < length l.letters.items)
      (e : AreEdges r.view r.values.items lies.after l.states.items l.letters.items next edges
      (length l.states.items * length l.letters.items)) where
    pub next_there : (t i : ℕ) → slice_get next t ≡ Some i →
        (x : Answers) × (slice_get r.values.items i ≡ Some x) × ((n : ℕ) → Keeps x.kept n ↔ Contains lies.after n)
    next_there =
        next_listed r.view r.values.items lies.after l.states.items l.letters.items next edges
        (length l.states.items * length l.letters.items) e holds.apart holds.rising

    pub next_within : (t i : ℕ) → slice_get next t ≡ Some i → i < length r.values.items
    next_within t i at = let (x, here, keeps) = next_there t i at in slice_get_within r.values.items i x here

    -- the nodes of a value of the next layer are mapped to those that are kept
    next_nodes : (t i : ℕ) (x : Answers) → slice_get next t ≡ Some i → slice_get r.values.items i ≡ Some x →
        map lies.to x.kept ≡ l.kept.items
    next_nodes t i x at listed =
        let (y, here, keeps) = next_there t i at in
        let same : y ≡ x = same_Some y x (sym here ∙ listed) in
        lies.behind x.kept (holds.rising i x listed)
        (subst (λ (z : Answers). (n : ℕ) → Keeps z.kept n ↔ Contains lies.after n) same keeps)

    pub next_count : (t i : ℕ) (x : Answers) → slice_get next t ≡ Some i → slice_get r.values.items i ≡ Some x →
        length l.kept.items ≡ length x.kept
    next_count t i x at listed = sym (ap length (next_nodes t i x at listed)) ∙ length-map x.kept lies.to

    -- each edge leads to a value of the next layer
    pub edges_within : (t : ℕ) → t < length l.states.items * length l.letters.items → get_or edges t 0 < length next
    edges_within t lt =
        let w = length l.letters.items in
        let s_in = state_in t (length l.states.items) w lt in
        let any : 0 < w = some_letter in
        let c_in : t % w < w = omega arith in
        let h = e.made t (get_or l.states.items (t / w) 0) (get_or l.letters.items (t % w) 0) lt
        (slice_get-get_or l.states.items (t / w) 0 s_in) (slice_get-get_or l.letters.items (t % w) 0 c_in) in
        slice_get_within next (get_or edges t 0) h.id h.at

    any_edge : 0 < length l.states.items * length l.letters.items
    any_edge = omega (arith, row_end (length l.letters.items) (length l.states.items) 0 0 some_state some_letter)

    pub next_some : 0 < length next
    next_some = omega (arith, edges_within 0 any_edge)

    next_as : AllAs q.view (map (mapped lies.to) (values_at r.values.items next))
        (seen_on l.kept.items r.values.items next)
    next_as = record {
      len =
          length-map (values_at r.values.items next) (mapped lies.to)
          ∙ sym (length-map (values_at r.values.items next) (renamed l.kept.items));
      same = λ k v w at_v at_w.
          let (y, at_y, is_v) = of_mapped (mapped lies.to) (values_at r.values.items next) k v at_v in
          let (x, at_x, is_w) = of_mapped (renamed l.kept.items) (values_at r.values.items next) k w at_w in
          let one : x ≡ y = same_Some x y (sym at_x ∙ at_y) in
          let (t, at_t, is_y) = at_number r.values.items next k y at_y in
          let there : slice_get r.values.items t ≡ Some y =
          slice_get-get_or r.values.items t no_answers (next_within k t at_t) ∙ ap Some is_y in
          let here : SameAs q.view (mapped lies.to y) (renamed l.kept.items y) = record {
            kept = next_nodes k t y at_t there;
            shape =
                shape_on q.view (mapped lies.to y) y (renamed l.kept.items y) (shape_back q.view y (mapped lies.to y)
                (renamed_as q.view y y (map lies.to y.kept) (shape_own q.view y)))
                (renamed_as q.view y y l.kept.items (shape_own q.view y));
          } in
          subst (λ a. SameAs q.view v a) (ap (renamed l.kept.items) (sym one) ∙ is_w)
          (subst (λ a. SameAs q.view a (renamed l.kept.items y)) is_v here);
    }

    -- THE EDGES ARE A STEP ON THE NODES THEMSELVES
    pub laid_step : IsStep q.view nodes (seen_on kept q.values.items states) (values_at q.values.items row)
        (seen_on l.kept.items r.values.items next) edges
    laid_step =
        let (x, here, keeps) = next_there 0 (get_or next 0 0) (slice_get-get_or next 0 0 next_some) in
        step_as q.view (map lies.to lies.after) nodes (map (mapped lies.to) (values_at r.values.items l.states.items))
        (seen_on kept q.values.items states) (map (mapped lies.to) (values_at r.values.items l.letters.items))
        (values_at q.values.items row) (map (mapped lies.to) (values_at r.values.items next))
        (seen_on l.kept.items r.values.items next) edges states_as letters_as next_as
        (behind_as x (holds.rising (get_or next 0 0) x here) keeps)
        (step_on lies.to lies.order q.view lies.after (values_at r.values.items l.states.items)
        (values_at r.values.items l.letters.items) (values_at r.values.items next) edges
        (subst (λ v. IsStep v lies.after (values_at r.values.items l.states.items)
        (values_at r.values.items l.letters.items) (values_at r.values.items next) edges) grew.view
        (step_of_edges r.view r.values.items lies.after l.states.items l.letters.items next edges
        (length l.states.items * length l.letters.items) e holds.apart holds.rising refl)))
