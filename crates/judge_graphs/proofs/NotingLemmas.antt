-- What is noted of a graph goes on where the pool grows, and holds for all that takes in the same.
use Rattle.std.proofs.Common.{◌≡◌, ℕ, ◌-◌, ◌<◌, suc, List, [], ◌∷◌, ◌++◌, length, map, slice_get, Some}
use Rattle.std.proofs.Common.{refl, sym, ap, ◌∙◌, subst, inl, inr, arith}
use Rattle.std.proofs.lemmas.List.{length-map}
use Rattle.station_graph.proofs.PathLemmas.{slice_get-push}
use Rattle.contraction.specs.Renaming.{KeepsOrder, mapped}
use Rattle.contraction.specs.Stands.{Among}
use Rattle.part_alphabets.specs.Counting.{AreSoMany}
use Rattle.decision_graphs.specs.declared.finished.FinishedLayer.{FinishedLayer}
use Rattle.decision_graphs.specs.Label.{Layer}
use Rattle.judge_pool.specs.declared.pool.Pool.{Pool}
use Rattle.judge_graphs.specs.declared.noted.Intake.{Intake}
use Rattle.judge_graphs.specs.declared.noted.Noted.{Noted}
use Rattle.judge_pool.specs.Seen.{SeenFor}
use Rattle.judge_pool.specs.Places.{pool_on}
use Rattle.judge_pool.specs.Layering.{values_at, no_answers}
use Rattle.judge_pool.specs.Folding.{StandsIn, IsExact}
use Rattle.judge_pool.specs.Counted.{Spends}
use Rattle.judge_pool.specs.Plans.{Plan, PlanFits, PlanHas, PlanPasses, AreLinked, CanBoth, plan_diagram, ChosenBy}
use Rattle.judge_pool.specs.Plans.{items_before, new_of, items_of, NeededBy, layers_of}
use Rattle.judge_graphs.specs.Noting.{letter_rows, SameIntake, AreLaid, IsNoted, AreRight, AreOuter}
use Rattle.judge_pool.proofs.LayeringLemmas.{Grows, value_in, value_was, list_in, list_was}
use Rattle.judge_pool.proofs.MappedPools.{grows_on, linked_on, grows_self}
use Rattle.judge_pool.proofs.PlanLemmas.{values_more}
use Rattle.judge_pool.proofs.PassLemmas.{plan_at_least}

module _ (p q : Pool) (g : Grows p q) (start : ℕ) (letters : List (List ℕ)) (keeps : List ℕ)
    (linked : AreLinked p start letters keeps) where
  row_same : (j : ℕ) (ids : List ℕ) → slice_get letters j ≡ Some ids →
      values_at q.values.items ids ≡ values_at p.values.items ids
  row_same j ids at =
      values_more p.values.items q.values.items ids g.values (λ c i at_c. linked.letters_in j c i ids at at_c)

  pub linked_stays : AreLinked q start letters keeps
  linked_stays = record {
    start_in = value_in p q start no_answers g linked.start_in;
    count = linked.count;
    keeps_in = λ j k at. list_in p q k g (linked.keeps_in j k at);
    letters_in = λ j c i ids at at_c. value_in p q i no_answers g (linked.letters_in j c i ids at at_c);
    some = linked.some;
    start_kept =
        λ x k nodes at at_k at_nodes n. linked.start_kept x k nodes (value_was p q start x g linked.start_in at) at_k
        (list_was p q k nodes g (linked.keeps_in 0 k at_k) at_nodes) n;
    chain = λ j k h c i ids nodes after y at_j at_k at_h at_nodes at_after at_c at_y n.
        linked.chain j k h c i ids nodes after y at_j at_k at_h
        (list_was p q k nodes g (linked.keeps_in j k at_k) at_nodes)
        (list_was p q h after g (linked.keeps_in (suc j) h at_h) at_after) at_c
        (value_was p q i y g (linked.letters_in j c i ids at_j at_c) at_y) n;
  }

  -- a plan took in before what it takes in from the grown pool
  pub fits_was : (plan : Plan) → PlanFits plan q start letters keeps → PlanFits plan p start letters keeps
  fits_was plan fits = record {
    start_stands =
        λ x v at whole. subst (λ w. SeenFor w (Among (items_before plan)) (plan_diagram plan) v x) g.view
        (fits.start_stands x v (g.values start x at) whole);
    needed = λ j k nodes at_k at_nodes n. fits.needed j k nodes at_k (g.keeps k nodes at_nodes) n;
    letter = λ j c ids v at whole chosen.
        subst (λ w. StandsIn w (Among (new_of plan j)) (plan_diagram plan) v (values_at p.values.items ids) c) g.view
        (subst (λ xs. StandsIn q.view (Among (new_of plan j)) (plan_diagram plan) v xs c) (row_same j ids at)
        (fits.letter j c ids v at whole chosen));
    meets =
        λ j c ids x y at kept at_y. fits.meets j c ids x y at kept
        (ap (λ xs. slice_get xs c) (row_same j ids at) ∙ at_y);
    given = λ j c ids x y v at at_y whole seen.
        subst (λ w. CanBoth w (plan_diagram plan) (Among (items_of plan j)) (Among (new_of plan j)) x y) g.view
        (fits.given j c ids x y v at (ap (λ xs. slice_get xs c) (row_same j ids at) ∙ at_y) whole
        (subst (λ w. SeenFor w (Among (items_of plan j)) (plan_diagram plan) v x) (sym g.view) seen));
    cover = λ j ids v at whole. (let (c, s) = fits.cover j ids v at whole in (
      c,
      subst (λ w. StandsIn w (Among (new_of plan j)) (plan_diagram plan) v (values_at p.values.items ids) c) g.view
          (subst (λ xs. StandsIn q.view (Among (new_of plan j)) (plan_diagram plan) v xs c) (row_same j ids at) s),
    ));
  }

  -- and takes in from the grown pool what it took in before
  pub fits_stays : (plan : Plan) → PlanFits plan p start letters keeps → PlanFits plan q start letters keeps
  fits_stays plan fits = record {
    start_stands =
        λ x v at whole. subst (λ w. SeenFor w (Among (items_before plan)) (plan_diagram plan) v x) (sym g.view)
        (fits.start_stands x v (value_was p q start x g linked.start_in at) whole);
    needed =
        λ j k nodes at_k at_nodes n. fits.needed j k nodes at_k
        (list_was p q k nodes g (linked.keeps_in j k at_k) at_nodes) n;
    letter = λ j c ids v at whole chosen.
        subst (λ w. StandsIn w (Among (new_of plan j)) (plan_diagram plan) v (values_at q.values.items ids) c)
        (sym g.view)
        (subst (λ xs. StandsIn p.view (Among (new_of plan j)) (plan_diagram plan) v xs c) (sym (row_same j ids at))
        (fits.letter j c ids v at whole chosen));
    meets =
        λ j c ids x y at kept at_y. fits.meets j c ids x y at kept
        (ap (λ xs. slice_get xs c) (sym (row_same j ids at)) ∙ at_y);
    given = λ j c ids x y v at at_y whole seen.
        subst (λ w. CanBoth w (plan_diagram plan) (Among (items_of plan j)) (Among (new_of plan j)) x y) (sym g.view)
        (fits.given j c ids x y v at (ap (λ xs. slice_get xs c) (sym (row_same j ids at)) ∙ at_y) whole
        (subst (λ w. SeenFor w (Among (items_of plan j)) (plan_diagram plan) v x) g.view seen));
    cover = λ j ids v at whole. (let (c, s) = fits.cover j ids v at whole in (
      c,
      subst (λ w. StandsIn w (Among (new_of plan j)) (plan_diagram plan) v (values_at q.values.items ids) c)
          (sym g.view)
          (subst (λ xs. StandsIn p.view (Among (new_of plan j)) (plan_diagram plan) v xs c)
          (sym (row_same j ids at)) s),
    ));
  }

-- a plan takes in the same from a pool where each node stands for itself
pub fits_self : (p : Pool) (start : ℕ) (letters : List (List ℕ)) (keeps : List ℕ) → AreLinked p start letters keeps →
    (plan : Plan) → PlanFits plan p start letters keeps → PlanFits plan (pool_on (λ n. n) p) start letters keeps
fits_self p start letters keeps linked plan fits =
    fits_stays p (pool_on (λ n. n) p) (grows_self p) start letters keeps linked plan fits

-- layers that were laid by the pool before are so by the grown one
pub laid_stays : (p q : Pool) (g : Grows p q) (start : ℕ) (letters : List (List ℕ)) (keeps names : List ℕ) (edges : ℕ)
    (layers : List Layer) → AreLinked p start letters keeps →
    ((t i : ℕ) → slice_get names t ≡ Some i → i < length p.values.items) →
    AreLaid p start letters keeps names edges layers → AreLaid q start letters keeps names edges layers
laid_stays p q g start letters keeps names edges layers linked within laid = record {
  exact = λ f plan order fits.
      let was = fits_was (pool_on f p) (pool_on f q) (grows_on f p q g) start letters keeps
      (linked_on f p start letters keeps linked) plan fits in
      let same = values_more (map (mapped f) p.values.items) (map (mapped f) q.values.items) names
      (grows_on f p q g).values (λ t i at. omega (arith, within t i at, length-map p.values.items (mapped f))) in
      subst (λ w. IsExact w (plan_diagram plan) (ChosenBy plan) (items_of plan) (NeededBy plan) (length letters) layers
      (values_at (map (mapped f) q.values.items) names)) (sym g.view)
      (subst (λ xs. IsExact p.view (plan_diagram plan) (ChosenBy plan) (items_of plan) (NeededBy plan) (length letters)
      layers xs) (sym same) (laid.exact f plan order was));
  has = λ f plan order fits.
      let was = fits_was (pool_on f p) (pool_on f q) (grows_on f p q g) start letters keeps
      (linked_on f p start letters keeps linked) plan fits in
      subst (λ w. PlanHas w plan letters (length letters) (AreSoMany (plan_diagram plan)) edges) (sym g.view)
      (laid.has f plan order was);
  choices = laid.choices;
}

-- what is noted goes on
pub noted_stays : (p q : Pool) → Grows p q → (n : Noted) → IsNoted p n → IsNoted q n
noted_stays p q g n h = record {
  layers = h.layers;
  linked = linked_stays p q g n.intake.start (letter_rows n.intake) n.intake.keeps.items h.linked;
  laid =
      laid_stays p q g n.intake.start (letter_rows n.intake) n.intake.keeps.items n.names.items n.edges
      h.layers h.linked
      h.within h.laid;
  within = λ t i at. value_in p q i no_answers g (h.within t i at);
  labels = h.labels;
  same_choices = h.same_choices;
  label = h.label;
  reduced = h.reduced;
  sizes = h.sizes;
}

pub outer_stay : (p q : Pool) → Grows p q → (notes : List Noted) → AreOuter p notes → AreOuter q notes
outer_stay p q g notes h k n at = (noted_stays p q g n (h k n at).0, (h k n at).1)

pub all_right_stay : (p q : Pool) → Grows p q → (notes : List Noted) → AreRight p notes → AreRight q notes
all_right_stay p q g notes h k n at = noted_stays p q g n (h k n at)

pub all_right_more : (p : Pool) (notes : List Noted) (n : Noted) → AreRight p notes → IsNoted p n →
    AreRight p (notes ++ n ∷ [])
all_right_more p notes n h new k m at = elim (slice_get-push notes n m k at) [
  | inl before ↦ h k m before
  | inr here ↦ subst (IsNoted p) here.1 new
]

-- the same is laid for what is the same
pub laid_same : (p : Pool) (i j : Intake) (names names' : List ℕ) (edges : ℕ) (layers : List Layer) → SameIntake i j →
    names ≡ names' → AreLaid p i.start (letter_rows i) i.keeps.items names edges layers →
    AreLaid p j.start (letter_rows j) j.keeps.items names' edges layers
laid_same p i j names names' edges layers same e laid =
    subst (λ s. AreLaid p s (letter_rows j) j.keeps.items names' edges layers) same.start
    (subst (λ r. AreLaid p i.start r j.keeps.items names' edges layers) same.letters
    (subst (λ k. AreLaid p i.start (letter_rows i) k names' edges layers) same.keeps
    (subst (λ xs. AreLaid p i.start (letter_rows i) i.keeps.items xs edges layers) e laid)))

-- layers that were folded are laid
module _ (p q : Pool) (g : Grows p q) (start : ℕ) (letters : List (List ℕ)) (keeps : List ℕ)
    (linked : AreLinked p start letters keeps) (n budget left : ℕ) (names : List ℕ) (ds : List FinishedLayer)
    (count : n ≡ length letters) where
  finished_choices : (xs : List FinishedLayer) →
      map (λ (l : Layer). l.choices) (layers_of xs) ≡ map (λ (l : FinishedLayer). l.choices) xs
  finished_choices [] = refl
  finished_choices (x ∷ xs) = ap (λ ys. x.choices ∷ ys) (finished_choices xs)

  pub folded_laid : ((f : ℕ → ℕ) (plan : Plan) → KeepsOrder f → PlanFits plan (pool_on f p) start letters keeps →
      Spends (PlanHas p.view plan letters n) (plan_diagram plan) budget left)
      → ((f : ℕ → ℕ) (plan : Plan) → KeepsOrder f → PlanFits plan (pool_on f p) start letters keeps →
      IsExact p.view (plan_diagram plan) (ChosenBy plan) (items_of plan) (NeededBy plan) n (layers_of ds)
      (values_at (map (mapped f) q.values.items) names))
      → map (λ (l : FinishedLayer). l.choices) ds ≡ map length letters
      → AreLaid q start letters keeps names (budget - left) (layers_of ds)
  folded_laid spent exact choices = record {
    exact = λ f plan order fits.
        let was = fits_was (pool_on f p) (pool_on f q) (grows_on f p q g) start letters keeps
        (linked_on f p start letters keeps linked) plan fits in
        subst (λ w. IsExact w (plan_diagram plan) (ChosenBy plan) (items_of plan) (NeededBy plan) (length letters)
        (layers_of ds) (values_at (map (mapped f) q.values.items) names)) (sym g.view)
        (subst (λ k. IsExact p.view (plan_diagram plan) (ChosenBy plan) (items_of plan) (NeededBy plan) k (layers_of ds)
        (values_at (map (mapped f) q.values.items) names)) count (exact f plan order was));
    has = λ f plan order fits.
        let was = fits_was (pool_on f p) (pool_on f q) (grows_on f p q g) start letters keeps
        (linked_on f p start letters keeps linked) plan fits in
        let s = spent f plan order was in
        let e : s.edges ≡ budget - left = omega (arith, s.all) in
        subst (λ w. PlanHas w plan letters (length letters) (AreSoMany (plan_diagram plan)) (budget - left))
        (sym g.view)
        (subst (λ k. PlanHas p.view plan letters k (AreSoMany (plan_diagram plan)) (budget - left)) count
        (subst (λ k. PlanHas p.view plan letters n (AreSoMany (plan_diagram plan)) k) e s.has));
    choices = finished_choices ds ∙ choices;
  }

-- more edges than may be made are too many for every plan
pub laid_passes : (p q : Pool) (start : ℕ) (letters : List (List ℕ)) (keeps names : List ℕ) (edges budget : ℕ)
    (layers : List Layer) → Grows p q → AreLinked p start letters keeps →
    AreLaid q start letters keeps names edges layers → budget < edges → (f : ℕ → ℕ) (plan : Plan) → KeepsOrder f →
    PlanFits plan (pool_on f p) start letters keeps → PlanPasses p.view plan letters budget
laid_passes p q start letters keeps names edges budget layers g linked laid past f plan order fits =
    let on = fits_stays (pool_on f p) (pool_on f q) (grows_on f p q g) start letters keeps
    (linked_on f p start letters keeps linked) plan fits in
    record {
      layers = length letters;
      within = omega arith;
      first = record {
        edges = edges;
        has =
            plan_at_least p.view plan letters (length letters) edges (subst
            (λ w. PlanHas w plan letters (length letters) (AreSoMany (plan_diagram plan)) edges) g.view
            (laid.has f plan order on));
        past = past;
      };
    }
