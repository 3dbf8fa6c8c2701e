-- What is built of a course, one turn after another, for every part that is like it.
use Rattle.std.proofs.Common.{zero, suc, ◌≡◌, ◌≢◌, ℕ, ◌+◌, ◌*◌, ◌^◌, ◌<◌, ◌≤◌, List, [], ◌∷◌, ◌++◌, length, map}
use Rattle.std.proofs.Common.{slice_get}
use Rattle.std.proofs.Common.{slice_index, Some, Contains, refl, sym, ◌∙◌, ap, subst, inl, inr, arith}
use Rattle.std.proofs.lemmas.Option.{slice_get_within}
use Rattle.std.proofs.lemmas.List.{length-map}
use Rattle.station_graph.specs.declared.limits.TheConstants.{BAY_SWITCHES}
use Rattle.station_graph.specs.Diagram.{Diagram, IsStation}
use Rattle.station_graph.specs.Nodes.{Rises}
use Rattle.station_graph.proofs.PathLemmas.{slice_get-push}
use Rattle.contraction.specs.Answers.{Answers, Keeps}
use Rattle.contraction.specs.Renaming.{renamed}
use Rattle.part_alphabets.specs.declared.limits.TheConstants.{CONTRACTIONS, LETTERS}
use Rattle.bay_contract.specs.declared.course.Turn.{Turn}
use Rattle.bay_contract.specs.declared.course.Course.{Course}
use Rattle.part_alphabets.specs.declared.fork.Fork.{Fork}
use Rattle.bay_contract.specs.declared.pattern.Pattern.{Pattern}
use Rattle.bay_contract.specs.Sorting.{IsSorted}
use Rattle.bay_contract.specs.Shapes.{IsShaped}
use Rattle.part_alphabets.specs.Counting.{PartIsPast, AreStepSizes}
use Rattle.part_alphabets.specs.Diagrams.{ForksFit, AreStaged}
use Rattle.bay_contract.specs.Building.{Forked, AreReversed, IsBuilt}
use Rattle.bay_contract.proofs.Layers.{IsLayer}
use Rattle.bay_contract.specs.Turns.{KeepsThese, Turns, TurnsPast}
use Rattle.bay_contract.specs.Courses.{IsCourse, nodes_after, IsLikeCourse, shifted, IsBuiltOf, IsPattern, ArePatterns}
use Rattle.bay_contract.proofs.NextLemmas.{some_at, next_is_layer, ranks_small}
use Rattle.bay_contract.proofs.PastLemmas.{sorted_past}
use Rattle.bay_contract.proofs.LayerLemmas.{matters_before}
use Rattle.bay_contract.proofs.AlphabetLemmas.{SoFar, layer_zero, so_far_none, so_far_next, so_far_past}
use Rattle.bay_contract.proofs.AlphabetLemmas.{so_far_alphabet, so_far_fits, so_far_sizes, count_few, examples_small}
use Rattle.bay_contract.proofs.ShiftLemmas.{at_map, forked_shifted}
use Rattle.bay_contract.proofs.CourseLemmas.{nodes_turned, kept_after, own_turn, like_self, turned_sorted, sizes_like}

-- What is known after j turns: the values stand on the nodes that matter then, and serve every part that is
-- like this one.
pub record Follows (d : Diagram) (count : ℕ) (x : Course) (j : ℕ) (values : List Answers) (ranks : List ℕ)
    (forks : List Fork) : Type 0 where
  pub on : (i : ℕ) (c : Answers) → slice_get values i ≡ Some c → KeepsThese (nodes_after x j) c
  pub each : (part first : ℕ) (y : Course) → IsCourse d part first count y → IsLikeCourse x y
      → SoFar d part first count j (map (renamed (nodes_after y j)) values) ranks (map (shifted first) forks)

only : (c x : Answers) (i : ℕ) → slice_get (c ∷ []) i ≡ Some x → c ≡ x
only c x zero e = cc
only c x (suc i) e = cc

-- the base of a course is that of each that is like it
zero_each : (d : Diagram) (part first count : ℕ) (x y : Course) → IsCourse d part first count y → IsLikeCourse x y
    → SoFar d part first count 0 (renamed y.nodes x.base ∷ []) (0 ∷ []) []
zero_each d part first count x y is like =
    let same : y.base ≡ renamed y.nodes x.base = like.base ∙ ap (λ l. renamed l x.base) is.nodes in
    subst (λ (c : Answers). SoFar d part first count 0 (c ∷ []) (0 ∷ []) []) same
    (so_far_none d part first count (y.base ∷ []) (0 ∷ []) []
    (layer_zero d part first count y.base is.switches is.base.value is.base.kept is.stands) refl refl)

pub follows_none : (d : Diagram) (part first count : ℕ) (x : Course) (values : List Answers) (ranks : List ℕ)
    (forks : List Fork) → IsCourse d part first count x → values ≡ x.base ∷ [] → ranks ≡ 0 ∷ [] → forks ≡ []
    → Follows d count x 0 values ranks forks
follows_none d part first count x values ranks forks is ev er ef =
    subst (λ (l : List Answers). Follows d count x 0 l ranks forks) (sym ev)
    (subst (λ (l : List ℕ). Follows d count x 0 (x.base ∷ []) l forks) (sym er)
    (subst (λ (l : List Fork). Follows d count x 0 (x.base ∷ []) (0 ∷ []) l) (sym ef) (record {
      on = λ i c at. subst (λ (z : Answers). KeepsThese x.nodes z) (only x.base c i at) (record {
        value =
            is.base.value;
        kept = is.nodes;
      });
      each = λ p f y is_y like. zero_each d p f count x y is_y like;
    })))

module _ (d : Diagram) (count : ℕ) (x : Course) (rises : Rises x.nodes) (j : ℕ) (values : List Answers)
    (ranks : List ℕ) (forks : List Fork) (h : Follows d count x j values ranks forks) (s : Turn)
    (at_s : slice_get x.turns.items j ≡ Some s) (lt : j < count) where
  -- one turn more for one part
  next_each : (limit : ℕ) (news : List Answers) (newranks : List ℕ) (more : List Fork)
      → Turns j s values ranks forks news newranks more → length news ≤ limit → (j + 1 ≡ count → limit ≡ LETTERS)
      → limit ≤ CONTRACTIONS → (part first : ℕ) (y : Course) → IsCourse d part first count y → IsLikeCourse x y
      → SoFar d part first count (j + 1) (map (renamed (nodes_after y (j + 1))) news) newranks (map
      (shifted first) more)
  next_each limit news newranks more t few is_last most part first y is like =
      let (u, at_u) = some_at y.turns.items j (omega (arith, is.counted)) in
      let before = h.each part first y is like in
      let ev = length-map values (renamed (nodes_after y j)) in
      let en = length-map news (renamed u.kept) in
      let ef = length-map forks (shifted first) in
      let em = length-map more (shifted first) in
      let sorted0 = turned_sorted d part first count x y is like rises j s u at_s at_u values news t.targets t.origins
      (2 * length values) h.on t.sorted in
      let sorted : IsSorted d part (first + j) (map (renamed (nodes_after y j)) values) (map
      (renamed u.kept) news) t.targets t.origins (2 * length (map (renamed (nodes_after y j)) values)) =
      subst (λ n. IsSorted d part (first + j) (map (renamed (nodes_after y j)) values) (map
      (renamed u.kept) news) t.targets t.origins (2 * n)) (sym ev) sorted0 in
      let forked : Forked (first + j) (length (map (renamed (nodes_after y j)) values)) t.targets (map
      (shifted first) forks) (map (shifted first) more) =
      subst (λ n. Forked (first + j) n t.targets (map (shifted first) forks) (map (shifted first) more)) (sym ev)
      (forked_shifted first j (length values) t.targets forks more t.forked) in
      let layer : IsLayer d part first (j + 1) (map (renamed u.kept) news) newranks (map (shifted first) more) =
      next_is_layer d part first j (own_turn d part first count y is j lt) (map (renamed (nodes_after y j)) values)
      (map (renamed u.kept) news) ranks newranks t.targets t.origins (map (shifted first) forks) (map
      (shifted first) more) before.layer sorted forked t.ranked in
      subst (λ l. SoFar d part first count (j + 1) (map (renamed l) news) newranks (map (shifted first) more)) (sym
      (nodes_turned y j u at_u))
      (so_far_next d part first count j limit (map (renamed (nodes_after y j)) values) (map
      (renamed u.kept) news) ranks newranks (map (shifted first) forks) (map (shifted first) more) before layer
      (omega arith) (omega (arith, t.forked.len)) is_last most)

  -- ONE TURN MORE
  pub follows_next : (limit : ℕ) (news : List Answers) (newranks : List ℕ) (more : List Fork)
      → Turns j s values ranks forks news newranks more → length news ≤ limit → (j + 1 ≡ count → limit ≡ LETTERS)
      → limit ≤ CONTRACTIONS → Follows d count x (j + 1) news newranks more
  follows_next limit news newranks more t few is_last most = record {
    on = λ i c at. subst (λ l. KeepsThese l c) (sym (nodes_turned x j s at_s)) (t.sorted.keep i c at);
    each = next_each limit news newranks more t few is_last most;
  }

  -- too many for a part that is like it
  pub follows_past : (limit : ℕ) → TurnsPast s values limit → (j + 1 ≡ count → limit ≡ LETTERS) → (j + 1 ≢ count
      → limit ≡ CONTRACTIONS) → (part first : ℕ) (y : Course) → IsCourse d part first count y → IsLikeCourse x y
      → PartIsPast d part (j + 1)
  follows_past limit t is_last is_way part first y is like =
      let (u, at_u) = some_at y.turns.items j (omega (arith, is.counted)) in
      let before = h.each part first y is like in
      let ev = length-map values (renamed (nodes_after y j)) in
      let en = length-map t.news (renamed u.kept) in
      let sorted =
      turned_sorted d part first count x y is like rises j s u at_s at_u values t.news t.targets t.origins
      t.places h.on t.sorted in
      let past = sorted_past d part first j (own_turn d part first count y is j lt) (map (renamed
      (nodes_after y j)) values) (map (renamed u.kept) t.news) ranks t.targets t.origins (map
      (shifted first) forks) before.layer t.places (omega (arith, t.most)) sorted limit (omega (arith, t.past)) in
      so_far_past d part first count j limit (map (renamed (nodes_after y j)) values) ranks (map
      (shifted first) forks) is.switches before lt past is_last is_way

-- what the code of a turn needs to know
module _ (d : Diagram) (part first count : ℕ) (x : Course) (is : IsCourse d part first count x) (j : ℕ)
    (values : List Answers) (ranks : List ℕ) (forks : List Fork) (h : Follows d count x j values ranks forks) where
  own : SoFar d part first count j (map (renamed (nodes_after x j)) values) ranks (map (shifted first) forks)
  own = h.each part first x is (like_self d part first count x is)

  pub values_few : length values ≤ CONTRACTIONS
  values_few = omega (arith, own.few, length-map values (renamed (nodes_after x j)))

  pub forks_few : length forks ≤ CONTRACTIONS * j
  forks_few = omega (arith, own.steps, length-map forks (shifted first))

  pub ranks_each : length ranks ≡ length values
  ranks_each = own.layer.ranks_count ∙ length-map values (renamed (nodes_after x j))

  pub ranks_low : j < BAY_SWITCHES → (i : ℕ) → i < length ranks → slice_index ranks i < 2 ^ BAY_SWITCHES
  ranks_low low i lt = ranks_small d part first j (map (renamed (nodes_after x j)) values) ranks (map
      (shifted first) forks) own.layer low i (omega (arith, own.layer.ranks_count))

  pub turn_inside : (s : Turn) → slice_get x.turns.items j ≡ Some s → (i : ℕ) (c : Answers)
      → slice_get values i ≡ Some c → (n : ℕ) → Contains s.kept n → Keeps c.kept n
  turn_inside s at i c at_c n has =
      let lt : j < count = omega (arith, slice_get_within x.turns.items j s at, is.counted) in
      let k = ((is.turns j s at).kept n).0 has in
      let e : (first + j) + 1 ≡ first + (j + 1) = omega arith in
      subst (λ l. Keeps l n) (sym (h.on i c at_c).kept) ((kept_after d part first count x is j (omega arith) n).1
      (matters_before d part (first + j) (own_turn d part first count x is j lt) n k))

-- WHAT IS BUILT IS A FORM
pub follows_pattern : (d : Diagram) (part first count : ℕ) (f : Pattern) (ranks : List ℕ) → IsStation d
    → IsCourse d part first count f.course → Follows d count f.course count f.values.items ranks f.forks.items
    → AreReversed count ranks f.examples.items → IsPattern d f
follows_pattern d part first count f ranks station is h r = record {
  sized = λ i c at. ap length (h.on i c at).kept ∙ ap (λ n. length (nodes_after f.course n)) (sym is.counted);
  serves = λ p o n y is_y like.
      let e : count ≡ n = sym is.counted ∙ (like.count ∙ is_y.counted) in
      let is_here : IsCourse d p o count y = subst (λ m. IsCourse d p o m y) (sym e) is_y in
      let so = h.each p o y is_here like in
      let len = length-map f.forks.items (shifted o) in
      subst (λ m. IsBuiltOf d p o m y f) e (record {
        built = so_far_alphabet d p o count count (map (renamed
            (nodes_after y count)) f.values.items) ranks f.examples.items (map
            (shifted o) f.forks.items) is_here.switches refl so r;
        staged = so.layer.staged;
        steps = subst (λ m. AreStepSizes d p m) len (so_far_sizes d p o count count (map (renamed
            (nodes_after y count)) f.values.items) ranks (map (shifted o) f.forks.items) is_here.switches refl so);
        few_steps = omega (arith, so.steps, count_few d p o count station is_here.switches);
        fits = so_far_fits d p o count count (map (renamed (nodes_after y count)) f.values.items) ranks (map
            (shifted o) f.forks.items) is_here.switches refl so;
      });
}

pub patterns_none : (d : Diagram) (patterns : List Pattern) → patterns ≡ [] → ArePatterns d patterns
patterns_none d patterns e i f at = (let none : length patterns ≡ 0 = ap length e in
    absurd (omega (arith, slice_get_within patterns i f at)))

pub patterns_more : (d : Diagram) (patterns more : List Pattern) (f : Pattern) → ArePatterns d patterns
    → more ≡ patterns ++ f ∷ [] → IsPattern d f → ArePatterns d more
patterns_more d patterns more f are e is i g at = elim (slice_get-push patterns f g i (ap (λ
    (l : List Pattern). slice_get l i) (sym e) ∙ at)) [
      | inl old ↦ are i g old
      | inr new ↦ subst (λ (h : Pattern). IsPattern d h) new.1 is
    ]

-- what a pattern gives for a part that is like it
module _ (d : Diagram) (station : IsStation d) (part first count : ℕ) (y : Course) (f : Pattern)
    (is : IsCourse d part first count y) (like : IsLikeCourse f.course y) (pattern : IsPattern d f) where
  made : IsBuiltOf d part first count y f
  made = pattern.serves part first count y is like

  pub sized_like : (nodes : List ℕ) (values : List Answers) → nodes ≡ nodes_after y (length y.turns.items)
      → values ≡ f.values.items → (i : ℕ) (c : Answers) → slice_get values i ≡ Some c → length c.kept ≡ length nodes
  sized_like nodes values en ev i c at =
      pattern.sized i c (ap (λ (l : List Answers). slice_get l i) (sym ev) ∙ at)
      ∙ (ap (λ n. length (nodes_after f.course n)) like.count ∙ (sizes_like f.course y like (length y.turns.items)
      (omega arith) ∙ sym (ap length en)))

  pub switch_room : (forks : List Fork) → forks ≡ f.forks.items → (i : ℕ) (k : Fork) → slice_get forks i ≡ Some k
      → first + k.switch.0 < 2 ^ 16
  switch_room forks e i k at =
      let there = at_map (shifted first) f.forks.items i k (ap (λ (l : List Fork). slice_get l i) (sym e) ∙ at) in
      omega (arith, (made.staged.inside i (shifted first k) there).1, is.switches.within, station.items.switches_few)

  module _ (switches : ℕ) (letters : List Answers) (examples : List ℕ) (forks : List Fork)
      (es : switches ≡ length d.switches) (el : letters ≡ map (renamed (nodes_after y count)) f.values.items)
      (ee : examples ≡ f.examples.items) (ef : forks ≡ map (shifted first) f.forks.items) where
    pub built_like : IsBuilt d part first count letters examples forks
    built_like =
        subst (λ (l : List Answers). IsBuilt d part first count l examples forks) (sym el)
        (subst (λ (l : List ℕ). IsBuilt d part first count (map (renamed
        (nodes_after y count)) f.values.items) l forks) (sym ee)
        (subst (λ (l : List Fork). IsBuilt d part first count (map (renamed
        (nodes_after y count)) f.values.items) f.examples.items l) (sym ef) made.built))

    pub steps_like : AreStepSizes d part (length forks)
    steps_like = subst (λ n. AreStepSizes d part n) (sym (ap length ef ∙ length-map f.forks.items
        (shifted first))) made.steps

    pub shaped_like : IsShaped (record {
      switches = switches;
      first = first;
      count = count;
      letters = letters;
      examples = examples;
      forks = forks;
    })
    shaped_like = record {
      some = built_like.size.0;
      few = built_like.size.1;
      examples = built_like.examples_count;
      small = examples_small d part first count letters examples forks built_like;
      few_switches = count_few d part first count station is.switches;
      within = omega (arith, is.switches.within);
      numbered = omega (arith, station.items.switches_few);
      few_steps = omega (arith, made.few_steps, ap length ef, length-map f.forks.items (shifted first));
      fit = subst (λ n. ForksFit n (length letters) forks) (sym es) built_like.fit;
      staged = subst (λ (l : List Fork). AreStaged first count l) (sym ef) made.staged;
    }
