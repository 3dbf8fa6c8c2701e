use Rattle.std.proofs.Common.{◌≡◌, ℕ, ◌+◌, ◌-◌, ◌*◌, ◌<◌, ◌≤◌, suc, List, [], ◌∷◌, ◌++◌, length, map, take, get_or}
use Rattle.std.proofs.Common.{slice_get, Some, Vec, Global, refl, sym, ap, ◌∙◌, subst, arith, add-one, inl, inr}
use Rattle.std.specs.Prelude.{option_map, Contains, ◌↔◌}
use Rattle.contraction.specs.Answers.{Answers, Keeps, AreNodes}
use Rattle.part_alphabets.specs.Counting.{AreSoMany}
use Rattle.std.proofs.lemmas.List.{map-append, length-map, length_push, take_more}
use Rattle.std.proofs.lemmas.Option.{slice_get-get_or, slice_get_read, slice_get-map, same_Some, get_or_from_slice_get}
use Rattle.std.proofs.lemmas.Option.{slice_get_within}
use Rattle.decision_graphs.specs.declared.finished.FinishedLayer.{FinishedLayer}
use Rattle.decision_graphs.specs.Finished.{finished, AreFinished, IsFinished}
use Rattle.decision_graphs.proofs.FinishedLemmas.{AreFinished-push}
use Rattle.std.specs.List.{sum_by}
use Rattle.std.proofs.lemmas.List.Sums.{sum_by_push}
use Rattle.contraction.specs.Renaming.{renamed, mapped}
use Rattle.judge_pool.specs.Places.{pool_on}
use Rattle.judge_pool.specs.Layering.{values_at, no_answers}
use Rattle.judge_pool.specs.Lying.{IsLying, StatesFit}
use Rattle.judge_pool.specs.Shapes.{AllAs}
use Rattle.judge_pool.specs.Standing.{AreOn}
use Rattle.judge_pool.specs.Pooling.{AreEdges}
use Rattle.judge_pool.specs.Counted.{Spends, AreAtLeast}
use Rattle.judge_pool.specs.Folding.{IsExact, IsStep, ReachesMore}
use Rattle.decision_graphs.specs.Finished.{layer_with}
use Rattle.judge_pool.specs.Plans.{PlanHas, SameBefore, plan_diagram, ChosenBy, items_of, NeededBy, layers_of}
use Rattle.judge_pool.proofs.LayeringLemmas.{grows_same, grew_more, grew_in, keep_in, keep_was, value_was, at_least, grows, sound}
use Rattle.judge_pool.proofs.MappedPools.{at_mapped, linked_on, sound_on, values_on, reaches_more_on}
use Rattle.judge_pool.proofs.PlanLemmas.{start_exact, values_more, one_in}
use Rattle.judge_pool.proofs.AsLemmas.{all_mapped}
use Rattle.judge_pool.proofs.StepAsLemmas.{step_on, exact_as}
use Rattle.judge_pool.proofs.ExactLemmas.{exact_more, reached_more}
use Rattle.judge_pool.proofs.LaidLemmas as laid
use Rattle.judge_pool.proofs.LaidLemmas.{seen_on}
use Rattle.judge_pool.proofs.BackLemmas.{start_is, seen_self, placed_as, placed_in, states_fit}
use Rattle.judge_pool.proofs.CountLemmas.{at_least_of}
use Rattle.judge_pool.proofs.PassLemmas.{plan_none, plan_spends, plan_passes, states_count}
use Rattle.judge_pool.proofs.PassLemmas.{passes_next}
use Rattle.judge_pool.proofs.ErrorLemmas.{passed_on}
use Rattle.judge_pool.proofs.fold.fold_layers.Goals as goal

pub layers-init : goal.layers-init
layers-init c =
    let p = c.args.pool.now in
    let q = c.note_letters.new.self in
    let h = c.in_ok-number.ensures.grew in
    let pq = grows p q h in
    let letters : List (List ℕ) = map (λ (v : Vec ℕ Global). v.items) c.args.letters.now in
    let states : List ℕ = c.in_ok-states.states.items in
    let is : states ≡ c.args.start ∷ [] = c.in_ok-states.ensures in
    let x : Answers = c.index.result.now in
    let at_x : slice_get p.values.items c.args.start ≡ Some x =
    slice_get_read p.values.items _ c.args.start x refl c.requires.linked.start_in c.index.ensures in
    let kept : List ℕ = c.in_ok-kept.kept.items in
    let is_kept : kept ≡ x.kept = c.in_ok-kept.ensures.items ∙ c.nodes.ensures.nodes in
    let own : (t i : ℕ) (y : Answers) → slice_get states t ≡ Some i → slice_get p.values.items i ≡ Some y →
    y.kept ≡ kept =
    λ t i y at at_y.
    (let one : c.args.start ≡ i = start_is c.args.start t i (ap (λ xs. slice_get xs t) (sym is) ∙ at) in
    let same : x ≡ y = same_Some x y (sym at_x ∙ (ap (slice_get p.values.items) one ∙ at_y)) in
    sym (ap (λ (a : Answers). a.kept) same) ∙ sym is_kept) in
    let within : (t i : ℕ) → slice_get states t ≡ Some i → i < length p.values.items =
    λ t i at. one_in p.values.items c.args.start c.requires.linked.start_in t i
    (ap (λ xs. slice_get xs t) (sym is) ∙ at) in
    let same_values : values_at q.values.items states ≡ values_at p.values.items states =
    values_more p.values.items q.values.items states h.values within in
    record {
      grew = h;
      listed = c.in_ok-number.ensures.noted ∙ ap Some c.deref.ensures.value;
      states_in = λ t i at. grew_in p q i no_answers h (within t i at);
      some = omega (arith, ap length is);
      few = omega (arith, ap length is);
      nodes = omega (arith, ap (sum_by (λ (l : FinishedLayer). l.nodes)) c.new-layers.ensures.items);
      spends = λ f plan order fits. record {
        edges = 0;
        has = plan_none (AreSoMany (plan_diagram plan)) p.view plan letters;
        all = omega arith;
      };
      choices = ap (map (λ (l : FinishedLayer). l.choices)) c.new-layers.ensures.items;
      finished =
          subst (λ ls. AreFinished (length states) ls) (sym c.new-layers.ensures.items) (omega (arith, ap length is));
      made = omega (arith, ap length c.new-layers.ensures.items);
      are = subst (λ l. AreNodes l) (sym is_kept) (c.requires.pool.well c.args.start x at_x).nodes;
      counts = λ t i y at at_y. sym (ap length (own t i y at (value_was p q i y pq (within t i at) at_y)));
      kept =
          λ m nodes at_m at_nodes n. subst (λ l. Keeps l n ↔ Contains nodes n) (sym is_kept)
          (c.requires.linked.start_kept x m nodes at_x at_m at_nodes n);
      exact = λ f plan order fits.
          subst (λ ds. IsExact p.view (plan_diagram plan) (ChosenBy plan) (items_of plan) (NeededBy plan) 0
          (layers_of ds)
          (map (mapped f) (seen_on kept q.values.items states))) (sym c.new-layers.ensures.items)
          (subst (λ xs. IsExact p.view (plan_diagram plan) (ChosenBy plan) (items_of plan) (NeededBy plan) 0 []
          (map (mapped f) (map (renamed kept) xs))) (sym same_values)
          (exact_as p.view (plan_diagram plan) (ChosenBy plan) (items_of plan) (NeededBy plan) 0 []
          (map (mapped f) (values_at p.values.items states))
          (map (mapped f) (seen_on kept p.values.items states))
          (all_mapped f p.view (values_at p.values.items states) (seen_on kept p.values.items states)
          (seen_self p.view kept p.values.items states within own))
          (subst (λ xs. IsExact p.view (plan_diagram plan) (ChosenBy plan) (items_of plan) (NeededBy plan) 0 [] xs)
          (values_on f p.values.items states)
          (subst (λ xs. IsExact p.view (plan_diagram plan) (ChosenBy plan) (items_of plan) (NeededBy plan) 0 []
          (values_at (map (mapped f) p.values.items) xs)) (sym is)
          (start_exact plan (pool_on f p) c.args.start letters c.args.keeps.now
          (sound_on f order p (sound p c.requires.pool))
          (linked_on f p c.args.start letters c.args.keeps.now c.requires.linked) fits)))));
    }

pub lie-requires-clause-listed : goal.lie-requires-clause-listed
lie-requires-clause-listed c = c.layers.invariant.listed ∙ ap Some (sym c.as_slice-held.ensures.value)

pub step_from-requires-clause-key : goal.step_from-requires-clause-key
step_from-requires-clause-key c =
    let numbers = c.in_ok-lying.ensures.numbers in
    record {
      before = numbers.states ∙ ap Some (sym c.deref-in-layers-2.ensures.value);
      by = numbers.letters ∙ ap Some (sym c.deref-in-layers-3.ensures.value);
      behind = refl;
    }

pub lie-requires-clause-pool : goal.lie-requires-clause-pool
lie-requires-clause-pool c = c.layers.invariant.grew.is_pool

pub lie-requires-clause-kept : goal.lie-requires-clause-kept
lie-requires-clause-kept c = subst (λ l. AreNodes l) (sym c.deref-in-layers.ensures.value) c.layers.invariant.are

pub lie-requires-clause-states : goal.lie-requires-clause-states
lie-requires-clause-states c =
    subst (λ (xs : List ℕ). StatesFit c.layers.pool xs c.deref-in-layers.result.now) (sym c.as_slice-held.ensures.value)
    (subst (λ (xs : List ℕ). StatesFit c.layers.pool c.layers.states.items xs) (sym c.deref-in-layers.ensures.value)
    (states_fit c.layers.pool c.layers.states.items c.layers.kept.items c.layers.invariant.states_in
    c.layers.invariant.counts))

pub lie-requires-clause-row_in : goal.lie-requires-clause-row_in
lie-requires-clause-row_in c t i at =
    let p = c.args.pool.now in
    let o = c.layers.pool in
    let letters : List (List ℕ) = map (λ (v : Vec ℕ Global). v.items) c.args.letters.now in
    let row : List ℕ = c.as_slice-row.result.now in
    let at0 : slice_get c.args.letters.now c.layers.j ≡ Some c.index-letters-j.result =
    slice_get_read c.args.letters.now _ c.layers.j c.index-letters-j.result refl c.layers-test.true
    c.index-letters-j.is in
    let at_j : slice_get letters c.layers.j ≡ Some row =
    slice_get-map (λ (v : Vec ℕ Global). v.items) c.args.letters.now c.layers.j
    ∙ (ap (option_map (λ (v : Vec ℕ Global). v.items)) at0 ∙ ap Some (sym c.as_slice-row.ensures.value)) in
    grew_in p o i no_answers c.layers.invariant.grew (c.requires.linked.letters_in c.layers.j t i row at_j at)

pub lie-requires-clause-some : goal.lie-requires-clause-some
lie-requires-clause-some c =
    let letters : List (List ℕ) = map (λ (v : Vec ℕ Global). v.items) c.args.letters.now in
    let row : List ℕ = c.as_slice-row.result.now in
    let at0 : slice_get c.args.letters.now c.layers.j ≡ Some c.index-letters-j.result =
    slice_get_read c.args.letters.now _ c.layers.j c.index-letters-j.result refl c.layers-test.true
    c.index-letters-j.is in
    let at_j : slice_get letters c.layers.j ≡ Some row =
    slice_get-map (λ (v : Vec ℕ Global). v.items) c.args.letters.now c.layers.j
    ∙ (ap (option_map (λ (v : Vec ℕ Global). v.items)) at0 ∙ ap Some (sym c.as_slice-row.ensures.value)) in
    c.requires.linked.some c.layers.j row at_j

pub lie-requires-clause-keep : goal.lie-requires-clause-keep
lie-requires-clause-keep c =
    let p = c.args.pool.now in
    let o = c.layers.pool in
    let keeps = c.args.keeps.now in
    let k : ℕ = get_or keeps (c.layers.j + 1) 0 in
    let at_k1 : slice_get keeps (c.layers.j + 1) ≡ Some k =
    slice_get-get_or keeps (c.layers.j + 1) 0
    (omega (
      arith,
      c.requires.linked.count,
      length-map c.args.letters.now (λ (v : Vec ℕ Global). v.items),
      c.layers-test.true,
    )) in
    let at_k : slice_get keeps (suc c.layers.j) ≡ Some k = ap (slice_get keeps) (sym (add-one c.layers.j)) ∙ at_k1 in
    keep_in p o k c.layers.invariant.grew (c.requires.linked.keeps_in (suc c.layers.j) k at_k)

pub lie-requires-clause-reach : goal.lie-requires-clause-reach
lie-requires-clause-reach c after at_after t i y at_i at_y n has =
    let p = c.args.pool.now in
    let o = c.layers.pool in
    let letters : List (List ℕ) = map (λ (v : Vec ℕ Global). v.items) c.args.letters.now in
    let row : List ℕ = c.as_slice-row.result.now in
    let at0 : slice_get c.args.letters.now c.layers.j ≡ Some c.index-letters-j.result =
    slice_get_read c.args.letters.now _ c.layers.j c.index-letters-j.result refl c.layers-test.true
    c.index-letters-j.is in
    let at_j : slice_get letters c.layers.j ≡ Some row =
    slice_get-map (λ (v : Vec ℕ Global). v.items) c.args.letters.now c.layers.j
    ∙ (ap (option_map (λ (v : Vec ℕ Global). v.items)) at0 ∙ ap Some (sym c.as_slice-row.ensures.value)) in
    let keeps = c.args.keeps.now in
    let k : ℕ = get_or keeps (c.layers.j + 1) 0 in
    let at_k1 : slice_get keeps (c.layers.j + 1) ≡ Some k =
    slice_get-get_or keeps (c.layers.j + 1) 0
    (omega (
      arith,
      c.requires.linked.count,
      length-map c.args.letters.now (λ (v : Vec ℕ Global). v.items),
      c.layers-test.true,
    )) in
    let at_k : slice_get keeps (suc c.layers.j) ≡ Some k = ap (slice_get keeps) (sym (add-one c.layers.j)) ∙ at_k1 in
    let g = c.layers.invariant.grew in
    let m : ℕ = get_or keeps c.layers.j 0 in
    let at_m : slice_get keeps c.layers.j ≡ Some m =
    slice_get-get_or keeps c.layers.j 0
    (omega (
      arith,
      c.requires.linked.count,
      length-map c.args.letters.now (λ (v : Vec ℕ Global). v.items),
      c.layers-test.true,
    )) in
    let before : List ℕ = get_or p.keeps.items m [] in
    let at_before : slice_get p.keeps.items m ≡ Some before =
    slice_get-get_or p.keeps.items m [] (c.requires.linked.keeps_in c.layers.j m at_m) in
    let i_in = c.requires.linked.letters_in c.layers.j t i row at_j at_i in
    let y_was = value_was p o i y (grows p o g) i_in at_y in
    let after_was = keep_was p o k after g (c.requires.linked.keeps_in (suc c.layers.j) k at_k) at_after in
    elim (c.requires.linked.chain c.layers.j m k t i row before after y at_j at_m at_k at_before after_was at_i y_was n
    has) [
      | inl here ↦
          inl (subst (λ xs. Keeps xs n) (sym c.deref-in-layers.ensures.value)
          ((c.layers.invariant.kept m before at_m at_before n).1 here))
      | inr by_letter ↦ inr by_letter
    ]

pub step_from-requires-clause-states : goal.step_from-requires-clause-states
step_from-requires-clause-states c t i at =
    let p = c.args.pool.now in
    let o = c.layers.pool in
    let letters : List (List ℕ) = map (λ (v : Vec ℕ Global). v.items) c.args.letters.now in
    let row : List ℕ = c.as_slice-row.result.now in
    let at0 : slice_get c.args.letters.now c.layers.j ≡ Some c.index-letters-j.result =
    slice_get_read c.args.letters.now _ c.layers.j c.index-letters-j.result refl c.layers-test.true
    c.index-letters-j.is in
    let at_j : slice_get letters c.layers.j ≡ Some row =
    slice_get-map (λ (v : Vec ℕ Global). v.items) c.args.letters.now c.layers.j
    ∙ (ap (option_map (λ (v : Vec ℕ Global). v.items)) at0 ∙ ap Some (sym c.as_slice-row.ensures.value)) in
    let keeps = c.args.keeps.now in
    let k : ℕ = get_or keeps (c.layers.j + 1) 0 in
    let at_k1 : slice_get keeps (c.layers.j + 1) ≡ Some k =
    slice_get-get_or keeps (c.layers.j + 1) 0
    (omega (
      arith,
      c.requires.linked.count,
      length-map c.args.letters.now (λ (v : Vec ℕ Global). v.items),
      c.layers-test.true,
    )) in
    let at_k : slice_get keeps (suc c.layers.j) ≡ Some k = ap (slice_get keeps) (sym (add-one c.layers.j)) ∙ at_k1 in
    let q = c.lie.new.self in
    let l = c.in_ok-lying.lying in
    let g = c.layers.invariant.grew in
    let nodes : List ℕ = get_or p.keeps.items k [] in
    let at_nodes : slice_get p.keeps.items k ≡ Some nodes =
    slice_get-get_or p.keeps.items k [] (c.requires.linked.keeps_in (suc c.layers.j) k at_k) in
    let kept : List ℕ = c.layers.kept.items in
    let lies : IsLying q c.layers.states.items kept row nodes l =
    subst (λ (xs : List ℕ). IsLying q xs kept row nodes l) c.as_slice-held.ensures.value
    (subst (λ (xs : List ℕ). IsLying q c.as_slice-held.result.now xs row nodes l) c.deref-in-layers.ensures.value
    (c.in_ok-lying.ensures.lies nodes (g.keeps k nodes at_nodes))) in
    lies.states_lie.listed t i (ap (λ xs. slice_get xs t) (sym c.deref-in-layers-2.ensures.value) ∙ at)

pub step_from-requires-clause-letters : goal.step_from-requires-clause-letters
step_from-requires-clause-letters c t i at =
    let p = c.args.pool.now in
    let o = c.layers.pool in
    let letters : List (List ℕ) = map (λ (v : Vec ℕ Global). v.items) c.args.letters.now in
    let row : List ℕ = c.as_slice-row.result.now in
    let at0 : slice_get c.args.letters.now c.layers.j ≡ Some c.index-letters-j.result =
    slice_get_read c.args.letters.now _ c.layers.j c.index-letters-j.result refl c.layers-test.true
    c.index-letters-j.is in
    let at_j : slice_get letters c.layers.j ≡ Some row =
    slice_get-map (λ (v : Vec ℕ Global). v.items) c.args.letters.now c.layers.j
    ∙ (ap (option_map (λ (v : Vec ℕ Global). v.items)) at0 ∙ ap Some (sym c.as_slice-row.ensures.value)) in
    let keeps = c.args.keeps.now in
    let k : ℕ = get_or keeps (c.layers.j + 1) 0 in
    let at_k1 : slice_get keeps (c.layers.j + 1) ≡ Some k =
    slice_get-get_or keeps (c.layers.j + 1) 0
    (omega (
      arith,
      c.requires.linked.count,
      length-map c.args.letters.now (λ (v : Vec ℕ Global). v.items),
      c.layers-test.true,
    )) in
    let at_k : slice_get keeps (suc c.layers.j) ≡ Some k = ap (slice_get keeps) (sym (add-one c.layers.j)) ∙ at_k1 in
    let q = c.lie.new.self in
    let l = c.in_ok-lying.lying in
    let g = c.layers.invariant.grew in
    let nodes : List ℕ = get_or p.keeps.items k [] in
    let at_nodes : slice_get p.keeps.items k ≡ Some nodes =
    slice_get-get_or p.keeps.items k [] (c.requires.linked.keeps_in (suc c.layers.j) k at_k) in
    let kept : List ℕ = c.layers.kept.items in
    let lies : IsLying q c.layers.states.items kept row nodes l =
    subst (λ (xs : List ℕ). IsLying q xs kept row nodes l) c.as_slice-held.ensures.value
    (subst (λ (xs : List ℕ). IsLying q c.as_slice-held.result.now xs row nodes l) c.deref-in-layers.ensures.value
    (c.in_ok-lying.ensures.lies nodes (g.keeps k nodes at_nodes))) in
    lies.letters_lie.listed t i (ap (λ xs. slice_get xs t) (sym c.deref-in-layers-3.ensures.value) ∙ at)

pub step_from-requires-clause-some : goal.step_from-requires-clause-some
step_from-requires-clause-some c =
    let p = c.args.pool.now in
    let o = c.layers.pool in
    let letters : List (List ℕ) = map (λ (v : Vec ℕ Global). v.items) c.args.letters.now in
    let row : List ℕ = c.as_slice-row.result.now in
    let at0 : slice_get c.args.letters.now c.layers.j ≡ Some c.index-letters-j.result =
    slice_get_read c.args.letters.now _ c.layers.j c.index-letters-j.result refl c.layers-test.true
    c.index-letters-j.is in
    let at_j : slice_get letters c.layers.j ≡ Some row =
    slice_get-map (λ (v : Vec ℕ Global). v.items) c.args.letters.now c.layers.j
    ∙ (ap (option_map (λ (v : Vec ℕ Global). v.items)) at0 ∙ ap Some (sym c.as_slice-row.ensures.value)) in
    let keeps = c.args.keeps.now in
    let k : ℕ = get_or keeps (c.layers.j + 1) 0 in
    let at_k1 : slice_get keeps (c.layers.j + 1) ≡ Some k =
    slice_get-get_or keeps (c.layers.j + 1) 0
    (omega (
      arith,
      c.requires.linked.count,
      length-map c.args.letters.now (λ (v : Vec ℕ Global). v.items),
      c.layers-test.true,
    )) in
    let at_k : slice_get keeps (suc c.layers.j) ≡ Some k = ap (slice_get keeps) (sym (add-one c.layers.j)) ∙ at_k1 in
    let q = c.lie.new.self in
    let l = c.in_ok-lying.lying in
    let g = c.layers.invariant.grew in
    let nodes : List ℕ = get_or p.keeps.items k [] in
    let at_nodes : slice_get p.keeps.items k ≡ Some nodes =
    slice_get-get_or p.keeps.items k [] (c.requires.linked.keeps_in (suc c.layers.j) k at_k) in
    let kept : List ℕ = c.layers.kept.items in
    let lies : IsLying q c.layers.states.items kept row nodes l =
    subst (λ (xs : List ℕ). IsLying q xs kept row nodes l) c.as_slice-held.ensures.value
    (subst (λ (xs : List ℕ). IsLying q c.as_slice-held.result.now xs row nodes l) c.deref-in-layers.ensures.value
    (c.in_ok-lying.ensures.lies nodes (g.keeps k nodes at_nodes))) in
    omega (
      arith,
      ap length c.deref-in-layers-3.ensures.value,
      lies.letters_lie.len,
      c.requires.linked.some c.layers.j row at_j,
    )

pub step_from-requires-clause-few : goal.step_from-requires-clause-few
step_from-requires-clause-few c =
    let p = c.args.pool.now in
    let o = c.layers.pool in
    let letters : List (List ℕ) = map (λ (v : Vec ℕ Global). v.items) c.args.letters.now in
    let row : List ℕ = c.as_slice-row.result.now in
    let at0 : slice_get c.args.letters.now c.layers.j ≡ Some c.index-letters-j.result =
    slice_get_read c.args.letters.now _ c.layers.j c.index-letters-j.result refl c.layers-test.true
    c.index-letters-j.is in
    let at_j : slice_get letters c.layers.j ≡ Some row =
    slice_get-map (λ (v : Vec ℕ Global). v.items) c.args.letters.now c.layers.j
    ∙ (ap (option_map (λ (v : Vec ℕ Global). v.items)) at0 ∙ ap Some (sym c.as_slice-row.ensures.value)) in
    let keeps = c.args.keeps.now in
    let k : ℕ = get_or keeps (c.layers.j + 1) 0 in
    let at_k1 : slice_get keeps (c.layers.j + 1) ≡ Some k =
    slice_get-get_or keeps (c.layers.j + 1) 0
    (omega (
      arith,
      c.requires.linked.count,
      length-map c.args.letters.now (λ (v : Vec ℕ Global). v.items),
      c.layers-test.true,
    )) in
    let at_k : slice_get keeps (suc c.layers.j) ≡ Some k = ap (slice_get keeps) (sym (add-one c.layers.j)) ∙ at_k1 in
    let q = c.lie.new.self in
    let l = c.in_ok-lying.lying in
    let g = c.layers.invariant.grew in
    let nodes : List ℕ = get_or p.keeps.items k [] in
    let at_nodes : slice_get p.keeps.items k ≡ Some nodes =
    slice_get-get_or p.keeps.items k [] (c.requires.linked.keeps_in (suc c.layers.j) k at_k) in
    let kept : List ℕ = c.layers.kept.items in
    let lies : IsLying q c.layers.states.items kept row nodes l =
    subst (λ (xs : List ℕ). IsLying q xs kept row nodes l) c.as_slice-held.ensures.value
    (subst (λ (xs : List ℕ). IsLying q c.as_slice-held.result.now xs row nodes l) c.deref-in-layers.ensures.value
    (c.in_ok-lying.ensures.lies nodes (g.keeps k nodes at_nodes))) in
    let tall : length c.deref-in-layers-2.result.now ≡ length c.as_slice-held.result.now =
    ap length c.deref-in-layers-2.ensures.value ∙ (lies.states_lie.len ∙ sym (ap length c.as_slice-held.ensures.value)) in
    let wide : length c.deref-in-layers-3.result.now ≡ length row =
    ap length c.deref-in-layers-3.ensures.value ∙ lies.letters_lie.len in
    let all : length c.deref-in-layers-2.result.now * length c.deref-in-layers-3.result.now
    ≡ length c.as_slice-held.result.now * length row =
    ap (λ n. n * length c.deref-in-layers-3.result.now) tall
    ∙ ap (λ n. length c.as_slice-held.result.now * n) wide in
    omega (
      arith,
      all,
      c.too_many.ensures.few c.if-too_many.false,
      c.layers.invariant.nodes,
      c.requires.budget,
    )

pub step_from-requires-clause-keep : goal.step_from-requires-clause-keep
step_from-requires-clause-keep c =
    let p = c.args.pool.now in
    let o = c.layers.pool in
    let letters : List (List ℕ) = map (λ (v : Vec ℕ Global). v.items) c.args.letters.now in
    let row : List ℕ = c.as_slice-row.result.now in
    let at0 : slice_get c.args.letters.now c.layers.j ≡ Some c.index-letters-j.result =
    slice_get_read c.args.letters.now _ c.layers.j c.index-letters-j.result refl c.layers-test.true
    c.index-letters-j.is in
    let at_j : slice_get letters c.layers.j ≡ Some row =
    slice_get-map (λ (v : Vec ℕ Global). v.items) c.args.letters.now c.layers.j
    ∙ (ap (option_map (λ (v : Vec ℕ Global). v.items)) at0 ∙ ap Some (sym c.as_slice-row.ensures.value)) in
    let keeps = c.args.keeps.now in
    let k : ℕ = get_or keeps (c.layers.j + 1) 0 in
    let at_k1 : slice_get keeps (c.layers.j + 1) ≡ Some k =
    slice_get-get_or keeps (c.layers.j + 1) 0
    (omega (
      arith,
      c.requires.linked.count,
      length-map c.args.letters.now (λ (v : Vec ℕ Global). v.items),
      c.layers-test.true,
    )) in
    let at_k : slice_get keeps (suc c.layers.j) ≡ Some k = ap (slice_get keeps) (sym (add-one c.layers.j)) ∙ at_k1 in
    let q = c.lie.new.self in
    let l = c.in_ok-lying.lying in
    let g = c.layers.invariant.grew in
    let nodes : List ℕ = get_or p.keeps.items k [] in
    let at_nodes : slice_get p.keeps.items k ≡ Some nodes =
    slice_get-get_or p.keeps.items k [] (c.requires.linked.keeps_in (suc c.layers.j) k at_k) in
    let kept : List ℕ = c.layers.kept.items in
    let lies : IsLying q c.layers.states.items kept row nodes l =
    subst (λ (xs : List ℕ). IsLying q xs kept row nodes l) c.as_slice-held.ensures.value
    (subst (λ (xs : List ℕ). IsLying q c.as_slice-held.result.now xs row nodes l) c.deref-in-layers.ensures.value
    (c.in_ok-lying.ensures.lies nodes (g.keeps k nodes at_nodes))) in
    slice_get_within q.keeps.items l.keep lies.after lies.at_after

pub step_from-requires-clause-nodes : goal.step_from-requires-clause-nodes
step_from-requires-clause-nodes c a b t m at_t at_m =
    let p = c.args.pool.now in
    let o = c.layers.pool in
    let letters : List (List ℕ) = map (λ (v : Vec ℕ Global). v.items) c.args.letters.now in
    let row : List ℕ = c.as_slice-row.result.now in
    let at0 : slice_get c.args.letters.now c.layers.j ≡ Some c.index-letters-j.result =
    slice_get_read c.args.letters.now _ c.layers.j c.index-letters-j.result refl c.layers-test.true
    c.index-letters-j.is in
    let at_j : slice_get letters c.layers.j ≡ Some row =
    slice_get-map (λ (v : Vec ℕ Global). v.items) c.args.letters.now c.layers.j
    ∙ (ap (option_map (λ (v : Vec ℕ Global). v.items)) at0 ∙ ap Some (sym c.as_slice-row.ensures.value)) in
    let keeps = c.args.keeps.now in
    let k : ℕ = get_or keeps (c.layers.j + 1) 0 in
    let at_k1 : slice_get keeps (c.layers.j + 1) ≡ Some k =
    slice_get-get_or keeps (c.layers.j + 1) 0
    (omega (
      arith,
      c.requires.linked.count,
      length-map c.args.letters.now (λ (v : Vec ℕ Global). v.items),
      c.layers-test.true,
    )) in
    let at_k : slice_get keeps (suc c.layers.j) ≡ Some k = ap (slice_get keeps) (sym (add-one c.layers.j)) ∙ at_k1 in
    let q = c.lie.new.self in
    let l = c.in_ok-lying.lying in
    let g = c.layers.invariant.grew in
    let nodes : List ℕ = get_or p.keeps.items k [] in
    let at_nodes : slice_get p.keeps.items k ≡ Some nodes =
    slice_get-get_or p.keeps.items k [] (c.requires.linked.keeps_in (suc c.layers.j) k at_k) in
    let kept : List ℕ = c.layers.kept.items in
    let lies : IsLying q c.layers.states.items kept row nodes l =
    subst (λ (xs : List ℕ). IsLying q xs kept row nodes l) c.as_slice-held.ensures.value
    (subst (λ (xs : List ℕ). IsLying q c.as_slice-held.result.now xs row nodes l) c.deref-in-layers.ensures.value
    (c.in_ok-lying.ensures.lies nodes (g.keeps k nodes at_nodes))) in
    let here = ap (λ xs. slice_get xs a) (sym c.deref-in-layers-2.ensures.value) ∙ at_t in
    let there = ap (λ xs. slice_get xs b) (sym c.deref-in-layers-3.ensures.value) ∙ at_m in
    lies.either t m (lies.states_lie.listed a t here) (lies.letters_lie.listed b m there) a b here there

pub layers-preserved : goal.layers-preserved
layers-preserved c =
    let p = c.args.pool.now in
    let o = c.layers.pool in
    let letters : List (List ℕ) = map (λ (v : Vec ℕ Global). v.items) c.args.letters.now in
    let row : List ℕ = c.as_slice-row.result.now in
    let at0 : slice_get c.args.letters.now c.layers.j ≡ Some c.index-letters-j.result =
    slice_get_read c.args.letters.now _ c.layers.j c.index-letters-j.result refl c.layers-test.true
    c.index-letters-j.is in
    let at_j : slice_get letters c.layers.j ≡ Some row =
    slice_get-map (λ (v : Vec ℕ Global). v.items) c.args.letters.now c.layers.j
    ∙ (ap (option_map (λ (v : Vec ℕ Global). v.items)) at0 ∙ ap Some (sym c.as_slice-row.ensures.value)) in
    let keeps = c.args.keeps.now in
    let k : ℕ = get_or keeps (c.layers.j + 1) 0 in
    let at_k1 : slice_get keeps (c.layers.j + 1) ≡ Some k =
    slice_get-get_or keeps (c.layers.j + 1) 0
    (omega (
      arith,
      c.requires.linked.count,
      length-map c.args.letters.now (λ (v : Vec ℕ Global). v.items),
      c.layers-test.true,
    )) in
    let at_k : slice_get keeps (suc c.layers.j) ≡ Some k = ap (slice_get keeps) (sym (add-one c.layers.j)) ∙ at_k1 in
    let q = c.lie.new.self in
    let l = c.in_ok-lying.lying in
    let g = c.layers.invariant.grew in
    let nodes : List ℕ = get_or p.keeps.items k [] in
    let at_nodes : slice_get p.keeps.items k ≡ Some nodes =
    slice_get-get_or p.keeps.items k [] (c.requires.linked.keeps_in (suc c.layers.j) k at_k) in
    let kept : List ℕ = c.layers.kept.items in
    let lies : IsLying q c.layers.states.items kept row nodes l =
    subst (λ (xs : List ℕ). IsLying q xs kept row nodes l) c.as_slice-held.ensures.value
    (subst (λ (xs : List ℕ). IsLying q c.as_slice-held.result.now xs row nodes l) c.deref-in-layers.ensures.value
    (c.in_ok-lying.ensures.lies nodes (g.keeps k nodes at_nodes))) in
    let r = c.step_from.new.pool in
    let j = c.layers.j in
    let inv = c.layers.invariant in
    let states : List ℕ = c.layers.states.items in
    let next : List ℕ = c.in_ok-step.step.next.items in
    let edges : List ℕ = c.in_ok-step.step.edges in
    let len : length letters ≡ length c.args.letters.now =
    length-map c.args.letters.now (λ (v : Vec ℕ Global). v.items) in
    let h = c.in_ok-lying.ensures.grew in
    let m = c.in_ok-step.ensures.grew in
    let oq = grows o q h in
    let qr = grows q r m in
    let holds = sound r m.is_pool in
    let e : AreEdges r.view r.values.items lies.after l.states.items l.letters.items next edges
    (length l.states.items * length l.letters.items) =
    subst (λ (ys : List ℕ). AreEdges r.view r.values.items lies.after l.states.items ys next edges
    (length l.states.items * length ys)) c.deref-in-layers-3.ensures.value
    (subst (λ (xs : List ℕ). AreEdges r.view r.values.items lies.after xs c.deref-in-layers-3.result.now next edges
    (length xs * length c.deref-in-layers-3.result.now)) c.deref-in-layers-2.ensures.value
    (c.in_ok-step.ensures.edges lies.after lies.at_after)) in
    let tall : length l.states.items ≡ length states = lies.states_lie.len in
    let wide : length l.letters.items ≡ length row = lies.letters_lie.len in
    let some_row : 0 < length row = c.requires.linked.some j row at_j in
    let some_letter : 0 < length l.letters.items = omega (arith, wide, some_row) in
    let some_state : 0 < length l.states.items = omega (arith, tall, inv.some) in
    let states_in : (t i : ℕ) → slice_get states t ≡ Some i → i < length q.values.items =
    λ t i at. grew_in o q i no_answers h (inv.states_in t i at) in
    let row_in : (t i : ℕ) → slice_get row t ≡ Some i → i < length q.values.items =
    λ t i at. grew_in o q i no_answers h
    (grew_in p o i no_answers g (c.requires.linked.letters_in j t i row at_j at)) in
    let count : length c.as_slice-held.result.now ≡ length states = ap length c.as_slice-held.ensures.value in
    let drafts : layers_of c.push.new.self.items
    ≡ layers_of c.layers.layers.items ++ layer_with (length row) (length c.as_slice-held.result.now) edges ∷ [] =
    ap layers_of c.in_ok-push.ensures.items ∙ map-append finished c.layers.layers.items _ in
    let layer : FinishedLayer = record {
      choices = (length row);
      nodes = (length c.as_slice-held.result.now);
      edges = c.in_ok-step.step.edges;
    } in
    let product : (length c.as_slice-held.result.now) * (length row) ≡ length states * length row =
    ap (λ n. n * (length row)) count in
    let laid_product : length l.states.items * length l.letters.items ≡ length states * length row =
    ap (λ n. n * length l.letters.items) tall ∙ ap (λ n. length states * n) wide in
    let room : (length c.as_slice-held.result.now) * (length row) ≤ c.layers.left =
    c.too_many.ensures.few c.if-too_many.false in
    let few_next : length next ≤ length l.states.items * length l.letters.items =
    subst (λ (ys : List ℕ). length next ≤ length l.states.items * length ys) c.deref-in-layers-3.ensures.value
    (subst (λ (xs : List ℕ). length next ≤ length xs * length c.deref-in-layers-3.result.now)
    c.deref-in-layers-2.ensures.value c.in_ok-step.ensures.few) in
    let nodes_few : length states ≤ length states * length row = at_least (length states) (length row) some_row in
    let next_some = laid.next_some q r qr states kept row nodes l lies states_in row_in holds next edges some_state
    some_letter e in
    let fits_layer : IsFinished (length next) layer = record {
      choice = omega (arith, some_row);
      node = omega (arith, count, inv.some);
      counted = e.len ∙ (laid_product ∙ sym product);
      leads =
          λ t lt. laid.edges_within q r qr states kept row nodes l lies states_in row_in holds next edges some_state
          some_letter e t (omega (arith, lt, e.len));
    } in
    record {
      grew = grew_more p q r (grew_more p o q g h) m;
      listed = c.in_ok-step.ensures.noted;
      states_in =
          laid.next_within q r qr states kept row nodes l lies states_in row_in holds next edges some_state some_letter e;
      some = next_some;
      few = omega (arith, few_next, laid_product, room, product, inv.nodes);
      nodes = omega (
        arith,
        ap (sum_by (λ (l : FinishedLayer). l.nodes)) c.in_ok-push.ensures.items,
        sum_by_push (λ (l : FinishedLayer). l.nodes) c.layers.layers.items layer,
        count,
        inv.nodes,
        nodes_few,
        product,
        room,
      );
      spends = λ f plan order fits.
          let values : List Answers = map (mapped f) (seen_on kept o.values.items states) in
          let long : length values ≡ length states =
          length-map (seen_on kept o.values.items states) (mapped f)
          ∙ (length-map (values_at o.values.items states) (renamed kept)
          ∙ length-map states (λ i. get_or o.values.items i no_answers)) in
          let made : length values * length row ≡ length c.as_slice-held.result.now * length row =
          ap (λ n. n * length row) (long ∙ sym count) in
          subst (λ n. Spends (PlanHas p.view plan letters (j + 1)) (plan_diagram plan) c.args.budget
          (c.layers.left - n))
          made
          (plan_spends p.view plan letters j c.args.budget c.layers.left (length values) row
          (inv.spends f plan order fits) at_j (states_count p.view plan j
          (layers_of c.layers.layers.items) values (inv.exact f plan order fits))
          (omega (arith, made, room)));
      choices =
          ap (map (λ (l : FinishedLayer). l.choices)) c.in_ok-push.ensures.items
          ∙ (map-append (λ (l : FinishedLayer). l.choices) c.layers.layers.items (layer ∷ [])
          ∙ (ap (λ xs. xs ++ (length row) ∷ []) inv.choices
          ∙ (ap (λ n. map length (take j letters) ++ n ∷ [])
          (ap length (sym (get_or_from_slice_get letters j row [] at_j)))
          ∙ (sym (map-append length (take j letters) (get_or letters j [] ∷ []))
          ∙ ap (map length) (sym (take_more letters j [] (omega (arith, len, c.layers-test.true))))))));
      finished = subst (λ ls. AreFinished (length next) ls) (sym c.in_ok-push.ensures.items)
          (AreFinished-push (length states) (length next) c.layers.layers.items layer inv.finished count
          fits_layer next_some);
      made = omega (
        arith,
        ap length c.in_ok-push.ensures.items,
        length_push c.layers.layers.items layer,
        inv.made,
      );
      are = lies.are;
      counts =
          laid.next_count q r qr states kept row nodes l lies states_in row_in holds next edges some_state some_letter e;
      kept = λ m ns at_m at_ns n.
          let same_k : k ≡ m = same_Some k m (sym at_k1 ∙ at_m) in
          let same_nodes : nodes ≡ ns =
          same_Some nodes ns (sym at_nodes ∙ (ap (slice_get p.keeps.items) same_k ∙ at_ns)) in
          subst (λ xs. Keeps l.kept.items n ↔ Contains xs n) same_nodes (lies.kept_is n);
      exact = λ f plan order fits.
          let step = laid.laid_step q r qr states kept row nodes l lies states_in row_in holds next edges some_state
          some_letter e in
          let on = step_on f order q.view nodes (seen_on kept q.values.items states) (values_at q.values.items row)
          (seen_on l.kept.items r.values.items next) edges step in
          let states_same : values_at q.values.items states ≡ values_at o.values.items states =
          values_more o.values.items q.values.items states oq.values inv.states_in in
          let row_same : values_at q.values.items row ≡ values_at p.values.items row =
          values_more p.values.items q.values.items row (λ i x at. oq.values i x (g.values i x at))
          (λ t i at. c.requires.linked.letters_in j t i row at_j at) in
          let view_same : q.view ≡ p.view = oq.view ∙ g.view in
          let here : IsStep p.view (map f nodes) (map (mapped f) (seen_on kept o.values.items states))
          (values_at (map (mapped f) p.values.items) row) (map (mapped f) (seen_on l.kept.items r.values.items next))
          edges =
          subst (λ v. IsStep v (map f nodes) (map (mapped f) (seen_on kept o.values.items states))
          (values_at (map (mapped f) p.values.items) row) (map (mapped f) (seen_on l.kept.items r.values.items next))
          edges) view_same
          (subst (λ xs. IsStep q.view (map f nodes) (map (mapped f) (seen_on kept o.values.items states)) xs
          (map (mapped f) (seen_on l.kept.items r.values.items next)) edges) (sym (values_on f p.values.items row))
          (subst (λ xs. IsStep q.view (map f nodes) (map (mapped f) (seen_on kept o.values.items states))
          (map (mapped f) xs) (map (mapped f) (seen_on l.kept.items r.values.items next)) edges) row_same
          (subst (λ xs. IsStep q.view (map f nodes) (map (mapped f) (map (renamed kept) xs))
          (map (mapped f) (values_at q.values.items row)) (map (mapped f) (seen_on l.kept.items r.values.items next))
          edges) states_same on))) in
          let long : length (map (mapped f) (seen_on kept o.values.items states))
          ≡ length c.as_slice-held.result.now =
          length-map (seen_on kept o.values.items states) (mapped f)
          ∙ (length-map (values_at o.values.items states) (renamed kept)
          ∙ (length-map states (λ i. get_or o.values.items i no_answers) ∙ sym count)) in
          let done = exact_more plan (pool_on f p) c.args.start letters keeps
          (linked_on f p c.args.start letters keeps c.requires.linked) j k row (map f nodes) at_j at_k
          (at_mapped (map f) p.keeps.items k nodes at_nodes) fits
          (map (mapped f) (seen_on kept o.values.items states)) (layers_of c.layers.layers.items)
          (inv.exact f plan order fits) (map (mapped f) (seen_on l.kept.items r.values.items next)) edges
          (omega (arith, long, count, inv.some)) here in
          let with_count = subst (λ n. IsExact p.view (plan_diagram plan) (ChosenBy plan) (items_of plan)
          (NeededBy plan)
          (suc j) (layers_of c.layers.layers.items ++ layer_with (length row) n edges ∷ [])
          (map (mapped f) (seen_on l.kept.items r.values.items next))) long done in
          let with_drafts = subst (λ ls. IsExact p.view (plan_diagram plan) (ChosenBy plan) (items_of plan)
          (NeededBy plan) (suc j) ls (map (mapped f) (seen_on l.kept.items r.values.items next))) (sym drafts)
          with_count in
          subst (λ n. IsExact p.view (plan_diagram plan) (ChosenBy plan) (items_of plan) (NeededBy plan) n
          (layers_of c.push.new.self.items) (map (mapped f) (seen_on l.kept.items r.values.items next)))
          (sym (add-one j)) with_drafts;
    }

pub all_back-requires-clause-states : goal.all_back-requires-clause-states
all_back-requires-clause-states c =
    subst (λ (xs : List ℕ). StatesFit c.layers.pool xs c.deref-3.result.now) (sym c.deref-2.ensures.value)
    (subst (λ (xs : List ℕ). StatesFit c.layers.pool c.layers.states.items xs) (sym c.deref-3.ensures.value)
    (states_fit c.layers.pool c.layers.states.items c.layers.kept.items c.layers.invariant.states_in
    c.layers.invariant.counts))

pub returns-clause-states_in : goal.returns-clause-states_in
returns-clause-states_in c t i at =
    let (k, at_k, on) = c.in_ok-states-2.ensures.back in
    placed_in c.all_back.new.self k c.deref-2.result.now c.in_ok-states-2.states.items on t i at

pub returns-clause-exact : goal.returns-clause-exact
returns-clause-exact c f plan order fits =
    let p = c.args.pool.now in
    let o = c.layers.pool in
    let r = c.all_back.new.self in
    let g = c.layers.invariant.grew in
    let states : List ℕ = c.layers.states.items in
    let kept : List ℕ = c.layers.kept.items in
    let placed : List ℕ = c.in_ok-states-2.states.items in
    let (k, at_k, on) = c.in_ok-states-2.ensures.back in
    let alike = placed_as o r (grows o r c.in_ok-states-2.ensures.grew) kept states placed k
    (at_k ∙ ap Some c.deref-3.ensures.value)
    (subst (λ (xs : List ℕ). AreOn r k xs placed) c.deref-2.ensures.value on) c.layers.invariant.states_in in
    let here : AllAs p.view (map (mapped f) (seen_on kept o.values.items states))
    (values_at (map (mapped f) r.values.items) placed) =
    subst (λ v. AllAs v (map (mapped f) (seen_on kept o.values.items states))
    (values_at (map (mapped f) r.values.items) placed)) g.view
    (subst (λ xs. AllAs o.view (map (mapped f) (seen_on kept o.values.items states)) xs)
    (sym (values_on f r.values.items placed)) (all_mapped f o.view (seen_on kept o.values.items states)
    (values_at r.values.items placed) alike)) in
    let done : c.layers.j ≡ length c.args.letters.now = omega (arith, c.layers.auto.j-end, c.layers-test.false) in
    subst (λ n. IsExact p.view (plan_diagram plan) (ChosenBy plan) (items_of plan) (NeededBy plan) n
    (layers_of c.layers.layers.items) (values_at (map (mapped f) r.values.items) placed)) done
    (exact_as p.view (plan_diagram plan) (ChosenBy plan) (items_of plan) (NeededBy plan) c.layers.j
    (layers_of c.layers.layers.items) (map (mapped f) (seen_on kept o.values.items states))
    (values_at (map (mapped f) r.values.items) placed) here (c.layers.invariant.exact f plan order fits))

pub returns-then-too_many-clause-wide : goal.returns-then-too_many-clause-wide
returns-then-too_many-clause-wide c e f plan order fits =
    let p = c.args.pool.now in
    let o = c.layers.pool in
    let letters : List (List ℕ) = map (λ (v : Vec ℕ Global). v.items) c.args.letters.now in
    let row : List ℕ = c.as_slice-row.result.now in
    let at0 : slice_get c.args.letters.now c.layers.j ≡ Some c.index-letters-j.result =
    slice_get_read c.args.letters.now _ c.layers.j c.index-letters-j.result refl c.layers-test.true
    c.index-letters-j.is in
    let at_j : slice_get letters c.layers.j ≡ Some row =
    slice_get-map (λ (v : Vec ℕ Global). v.items) c.args.letters.now c.layers.j
    ∙ (ap (option_map (λ (v : Vec ℕ Global). v.items)) at0 ∙ ap Some (sym c.as_slice-row.ensures.value)) in
    let j = c.layers.j in
    let states : List ℕ = c.layers.states.items in
    let kept : List ℕ = c.layers.kept.items in
    let count : length c.as_slice-held.result.now ≡ length states = ap length c.as_slice-held.ensures.value in
    let values : List Answers = map (mapped f) (seen_on kept o.values.items states) in
    let long : length values ≡ length states =
    length-map (seen_on kept o.values.items states) (mapped f)
    ∙ (length-map (values_at o.values.items states) (renamed kept)
    ∙ length-map states (λ i. get_or o.values.items i no_answers)) in
    let made : length values * length row ≡ length c.as_slice-held.result.now * length row =
    ap (λ n. n * length row) (long ∙ sym count) in
    let exact = c.layers.invariant.exact f plan order fits in
    let many = at_least_of (plan_diagram plan) (SameBefore p.view plan j) (length values) (states_count p.view plan j
    (layers_of c.layers.layers.items) values exact) in
    plan_passes p.view plan letters j c.args.budget c.layers.left (length values) row
    (c.layers.invariant.spends f plan order fits) at_j many
    (omega (arith, made, c.too_many.ensures.many c.if-too_many.true))

pub returns-in_err-step-clause-wide : goal.returns-in_err-step-clause-wide
returns-in_err-step-clause-wide c =
    passed_on _ _ c.from_residual-in_err-step.result c.from_residual-in_err-step.ensures.1
    (λ trouble same is f plan order fits.
    let p = c.args.pool.now in
    let o = c.layers.pool in
    let letters : List (List ℕ) = map (λ (v : Vec ℕ Global). v.items) c.args.letters.now in
    let row : List ℕ = c.as_slice-row.result.now in
    let at0 : slice_get c.args.letters.now c.layers.j ≡ Some c.index-letters-j.result =
    slice_get_read c.args.letters.now _ c.layers.j c.index-letters-j.result refl c.layers-test.true
    c.index-letters-j.is in
    let at_j : slice_get letters c.layers.j ≡ Some row =
    slice_get-map (λ (v : Vec ℕ Global). v.items) c.args.letters.now c.layers.j
    ∙ (ap (option_map (λ (v : Vec ℕ Global). v.items)) at0 ∙ ap Some (sym c.as_slice-row.ensures.value)) in
    let keeps = c.args.keeps.now in
    let k : ℕ = get_or keeps (c.layers.j + 1) 0 in
    let at_k1 : slice_get keeps (c.layers.j + 1) ≡ Some k =
    slice_get-get_or keeps (c.layers.j + 1) 0
    (omega (
      arith,
      c.requires.linked.count,
      length-map c.args.letters.now (λ (v : Vec ℕ Global). v.items),
      c.layers-test.true,
    )) in
    let at_k : slice_get keeps (suc c.layers.j) ≡ Some k = ap (slice_get keeps) (sym (add-one c.layers.j)) ∙ at_k1 in
    let q = c.lie.new.self in
    let l = c.in_ok-lying.lying in
    let g = c.layers.invariant.grew in
    let nodes : List ℕ = get_or p.keeps.items k [] in
    let at_nodes : slice_get p.keeps.items k ≡ Some nodes =
    slice_get-get_or p.keeps.items k [] (c.requires.linked.keeps_in (suc c.layers.j) k at_k) in
    let kept : List ℕ = c.layers.kept.items in
    let lies : IsLying q c.layers.states.items kept row nodes l =
    subst (λ (xs : List ℕ). IsLying q xs kept row nodes l) c.as_slice-held.ensures.value
    (subst (λ (xs : List ℕ). IsLying q c.as_slice-held.result.now xs row nodes l) c.deref-in-layers.ensures.value
    (c.in_ok-lying.ensures.lies nodes (g.keeps k nodes at_nodes))) in
    let j = c.layers.j in
    let states : List ℕ = c.layers.states.items in
    let len : length letters ≡ length c.args.letters.now =
    length-map c.args.letters.now (λ (v : Vec ℕ Global). v.items) in
    let count : length c.as_slice-held.result.now ≡ length states = ap length c.as_slice-held.ensures.value in
    let values : List Answers = map (mapped f) (seen_on kept o.values.items states) in
    let long : length values ≡ length states =
    length-map (seen_on kept o.values.items states) (mapped f)
    ∙ (length-map (values_at o.values.items states) (renamed kept)
    ∙ length-map states (λ i. get_or o.values.items i no_answers)) in
    let made : length values * length row ≡ length c.as_slice-held.result.now * length row =
    ap (λ n. n * length row) (long ∙ sym count) in
    let exact = c.layers.invariant.exact f plan order fits in
    let h = c.in_ok-lying.ensures.grew in
    let oq = grows o q h in
    let states_in : (t i : ℕ) → slice_get states t ≡ Some i → i < length q.values.items =
    λ t i at. grew_in o q i no_answers h (c.layers.invariant.states_in t i at) in
    let row_in : (t i : ℕ) → slice_get row t ≡ Some i → i < length q.values.items =
    λ t i at. grew_in o q i no_answers h
    (grew_in p o i no_answers g (c.requires.linked.letters_in j t i row at_j at)) in
    let most = c.most_nodes-most.result in
    let room = c.too_many.ensures.few c.if-too_many.false in
    let spent = plan_spends p.view plan letters j c.args.budget c.layers.left (length values) row
    (c.layers.invariant.spends f plan order fits) at_j
    (states_count p.view plan j (layers_of c.layers.layers.items) values exact) (omega (arith, made, room)) in
    let more : ReachesMore q.view lies.after (values_at q.values.items l.states.items)
    (values_at q.values.items l.letters.items) most =
    subst (λ (xs : List ℕ). ReachesMore q.view lies.after (values_at q.values.items l.states.items)
    (values_at q.values.items xs) most) c.deref-in-layers-3.ensures.value
    (subst (λ (xs : List ℕ). ReachesMore q.view lies.after (values_at q.values.items xs)
    (values_at q.values.items c.deref-in-layers-3.result.now) most) c.deref-in-layers-2.ensures.value
    (c.in_err-step.ensures.wide (sym same ∙ is) lies.after lies.at_after)) in
    let back = laid.laid_reaches q q (grows_same q) states kept row nodes l lies states_in row_in most more in
    let on = reaches_more_on f order q.view nodes (seen_on kept q.values.items states) (values_at q.values.items row)
    most back in
    let states_same : values_at q.values.items states ≡ values_at o.values.items states =
    values_more o.values.items q.values.items states oq.values c.layers.invariant.states_in in
    let row_same : values_at q.values.items row ≡ values_at p.values.items row =
    values_more p.values.items q.values.items row (λ i x at. oq.values i x (g.values i x at))
    (λ t i at. c.requires.linked.letters_in j t i row at_j at) in
    let here : ReachesMore p.view (map f nodes) values (values_at (map (mapped f) p.values.items) row) most =
    subst (λ v. ReachesMore v (map f nodes) values (values_at (map (mapped f) p.values.items) row) most)
    (oq.view ∙ g.view)
    (subst (λ xs. ReachesMore q.view (map f nodes) values xs most) (sym (values_on f p.values.items row))
    (subst (λ xs. ReachesMore q.view (map f nodes) values (map (mapped f) xs) most) row_same
    (subst (λ xs. ReachesMore q.view (map f nodes) (map (mapped f) (map (renamed kept) xs))
    (map (mapped f) (values_at q.values.items row)) most) states_same on))) in
    let reached = reached_more plan (pool_on f p) c.args.start letters keeps
    (linked_on f p c.args.start letters keeps c.requires.linked) j k row (map f nodes) at_j at_k
    (at_mapped (map f) p.keeps.items k nodes at_nodes) fits values (layers_of c.layers.layers.items) exact most here in
    passes_next p.view plan letters j c.args.budget (c.layers.left - length values * length row) reached.0
    most spent
    (subst (λ n. AreAtLeast (plan_diagram plan) (SameBefore p.view plan n) reached.0) (sym (add-one j)) reached.3)
    (λ ids at some. subst (λ n. c.layers.left - n < reached.0 * length ids) (sym made)
    (c.most_nodes-most.ensures.many reached.0 ids at some reached.1))
    c.requires.linked.some
    (λ last. omega (
      arith,
      c.most_nodes-most.ensures.last (omega (arith, last, len)),
      reached.1,
      reached.2,
      made,
      room,
      c.layers.invariant.nodes,
      c.requires.budget,
    )))
