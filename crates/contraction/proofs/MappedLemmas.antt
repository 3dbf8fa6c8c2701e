-- What two values together say goes over along a map of their nodes that keeps the order.
use Rattle.std.proofs.Common.{◌≡◌, ℕ, ◌⊎◌, ◌↔◌, Bool, List, [], ◌∷◌, map, length, slice_get, slice_index, Option, Some}
use Rattle.std.proofs.Common.{None, refl, sym, ap, ◌∙◌, subst, inl, inr, arith}
use Rattle.std.specs.Prelude.{option_map, Contains}
use Rattle.std.proofs.lemmas.Bool.{cases_eq, cases_lt}
use Rattle.std.proofs.lemmas.List.{length-map}
use Rattle.std.proofs.lemmas.Option.{slice_get-map, slice_get-get_or, get_or_from_slice_get, same_Some, none-some}
use Rattle.station_graph.specs.Connection.{LeadsTo, Linked}
use Rattle.station_graph.specs.Nodes.{Rises}
use Rattle.contraction.specs.Answers.{Answers, IsAt, Keeps, SameAt, MarkedAt, SaysFed, SaysLoaded, SaysSupply, AreNodes}
use Rattle.contraction.specs.Answers.{IsContraction, SameGap, SameLoad}
use Rattle.contraction.specs.Composing.{SameInEither, LabelsCompose, MarksCompose, ComposesGap, ComposesLoad}
use Rattle.contraction.specs.Renaming.{KeepsOrder, mapped}
use Rattle.contraction.proofs.PlaceLemmas.{keeps_from_has, has_from_keeps}
use Rattle.contraction.proofs.ViewLemmas.{loaded_same, supplies_say}
use Rattle.station_graph.specs.Views.{Supply, fed}

-- ---- values of which one stands in place of another

labels_as : (k1 l1 k2 l2 ka la kb lb : List ℕ) → ka ≡ kb →
    ((a b : ℕ) → Keeps ka a → Keeps ka b → SameAt ka la a b ↔ SameAt kb lb a b) → LabelsCompose k1 l1 k2 l2 ka la →
    LabelsCompose k1 l1 k2 l2 kb lb
labels_as k1 l1 k2 l2 ka la kb lb e same h a b kept_a kept_b =
    let a_in : Keeps ka a = subst (λ k. Keeps k a) (sym e) kept_a in
    let b_in : Keeps ka b = subst (λ k. Keeps k b) (sym e) kept_b in
    let s = same a b a_in b_in in
    let c = h a b a_in b_in in
    (λ x. c.0 (s.1 x), λ x. s.0 (c.1 x))

marks_as : (k1 l1 : List ℕ) (m1 : List Bool) (k2 l2 : List ℕ) (m2 : List Bool) (ka : List ℕ) (ma : List Bool)
    (kb : List ℕ) (mb : List Bool) → ka ≡ kb → ((a : ℕ) → Keeps ka a → MarkedAt ka ma a ↔ MarkedAt kb mb a) →
    MarksCompose k1 l1 m1 k2 l2 m2 ka ma → MarksCompose k1 l1 m1 k2 l2 m2 kb mb
marks_as k1 l1 m1 k2 l2 m2 ka ma kb mb e same h a kept_a =
    let a_in : Keeps ka a = subst (λ k. Keeps k a) (sym e) kept_a in
    let s = same a a_in in
    let c = h a a_in in
    (λ x. c.0 (s.1 x), λ x. s.0 (c.1 x))

pub gap_as : (x y c r : Answers) → SameGap c r → ComposesGap x y c → ComposesGap x y r
gap_as x y c r same h = record {
  kept = λ n k. h.kept n (subst (λ l. Keeps l n) (sym same.kept) k);
  coupled =
      labels_as x.kept x.coupled y.kept y.coupled c.kept c.coupled r.kept r.coupled same.kept same.coupled h.coupled;
  energisable =
      marks_as x.kept x.coupled x.energisable y.kept y.coupled y.energisable c.kept c.energisable r.kept r.energisable
      same.kept same.energisable h.energisable;
  earthable =
      marks_as x.kept x.coupled x.earthable y.kept y.coupled y.earthable c.kept c.earthable r.kept r.earthable same.kept
      same.earthable h.earthable;
}

pub load_as : (x y c r : Answers) → IsContraction c → IsContraction r → SameLoad c r → ComposesLoad x y c →
    ComposesLoad x y r
load_as x y c r wc wr same h = record {
  kept = λ n k. h.kept n (subst (λ l. Keeps l n) (sym same.kept) k);
  joined = labels_as x.kept x.joined y.kept y.joined c.kept c.joined r.kept r.joined same.kept same.joined h.joined;
  bonded = labels_as x.kept x.bonded y.kept y.bonded c.kept c.bonded r.kept r.bonded same.kept same.bonded h.bonded;
  fed =
      marks_as x.kept x.joined x.fed y.kept y.joined y.fed c.kept c.fed r.kept r.fed same.kept
      (λ a ka. same.supply a ka fed) h.fed;
  loaded =
      marks_as x.kept x.joined x.loaded y.kept y.joined y.loaded c.kept c.loaded r.kept r.loaded same.kept
      (loaded_same c r wc wr same) h.loaded;
}

-- ---- lists that are mapped

-- A node of a mapped list is that of a node of the list.
record IsOf (f : ℕ → ℕ) (kept : List ℕ) (place m : ℕ) : Type 0 where
  pub node : ℕ
  pub at : IsAt kept place node
  pub is : f node ≡ m

from_map : (f : ℕ → ℕ) (o : Option ℕ) (y : ℕ) → option_map f o ≡ Some y → (x : ℕ) × (o ≡ Some x) × (f x ≡ y)
from_map f None y e = absurd (none-some y e)
from_map f (Some x) y e = (x, refl, same_Some (f x) y e)

module _ (f : ℕ → ℕ) where
  at_map : (kept : List ℕ) (place n : ℕ) → IsAt kept place n → IsAt (map f kept) place (f n)
  at_map kept place n at = slice_get-map f kept place ∙ ap (option_map f) at

  of_map : (kept : List ℕ) (place m : ℕ) → IsAt (map f kept) place m → IsOf f kept place m
  of_map kept place m at =
      let h = from_map f (slice_get kept place) m (sym (slice_get-map f kept place) ∙ at) in
      record { node = h.0; at = h.1; is = h.2 }

  pub keeps_map : (kept : List ℕ) (n : ℕ) → Keeps kept n → Keeps (map f kept) (f n)
  keeps_map kept n k = record { place = k.place; at = at_map kept k.place n k.at }

  pub keeps_of : (kept : List ℕ) (m : ℕ) → Keeps (map f kept) m → (n : ℕ) × Keeps kept n × (f n ≡ m)
  keeps_of kept m k = let h = of_map kept k.place m k.at in (h.node, record { place = k.place; at = h.at }, h.is)

  same_map : (kept labels : List ℕ) (a b : ℕ) → SameAt kept labels a b → SameAt (map f kept) labels (f a) (f b)
  same_map kept labels a b s = record {
    first = s.first;
    second = s.second;
    at_first = at_map kept s.first a s.at_first;
    at_second = at_map kept s.second b s.at_second;
    same = s.same;
  }

  marked_map : (kept : List ℕ) (marks : List Bool) (a : ℕ) → MarkedAt kept marks a → MarkedAt (map f kept) marks (f a)
  marked_map kept marks a m = record { place = m.place; at = at_map kept m.place a m.at; marked = m.marked }

  -- two lists of the same nodes are so where they are mapped
  pub same_nodes_map : (kept nodes : List ℕ) → ((n : ℕ) → Keeps kept n ↔ Contains nodes n) → (n : ℕ) →
      Keeps (map f kept) n ↔ Contains (map f nodes) n
  same_nodes_map kept nodes same m = (
    λ k.
        let (n, here, is) = keeps_of kept m k in
        has_from_keeps (map f nodes) m
        (subst (λ i. Keeps (map f nodes) i) is (keeps_map nodes n (keeps_from_has nodes n ((same n).0 here)))),
    λ h.
        let (n, here, is) = keeps_of nodes m (keeps_from_has (map f nodes) m h) in
        subst (λ i. Keeps (map f kept) i) is (keeps_map kept n ((same n).1 (has_from_keeps nodes n here))),
  )

module _ (f : ℕ → ℕ) (order : KeepsOrder f) where
  pub one_node : (a b : ℕ) → f a ≡ f b → a ≡ b
  one_node a b e = elim (cases_lt a b) [
    | inl less ↦ absurd (omega (arith, order a b less, e))
    | inr more ↦ elim (cases_eq a b) [
      | inl same ↦ same
      | inr apart ↦ absurd (omega (arith, order b a (omega (arith, more, apart)), e))
    ]
  ]

  at_back : (kept : List ℕ) (place a : ℕ) → IsAt (map f kept) place (f a) → IsAt kept place a
  at_back kept place a at = let h = of_map f kept place (f a) at in h.at ∙ ap Some (one_node h.node a h.is)

  pub rises_map : (kept : List ℕ) → Rises kept → Rises (map f kept)
  rises_map kept rises j k less k_in =
      let count = length-map kept f in
      let at_j = slice_get-get_or kept j 0 (omega (arith, less, k_in, count)) in
      let at_k = slice_get-get_or kept k 0 (omega (arith, k_in, count)) in
      let one = get_or_from_slice_get (map f kept) j (f (slice_index kept j)) 0
      (at_map f kept j (slice_index kept j) at_j) in
      let two = get_or_from_slice_get (map f kept) k (f (slice_index kept k)) 0
      (at_map f kept k (slice_index kept k) at_k) in
      omega (
        arith,
        one,
        two,
        order (slice_index kept j) (slice_index kept k) (rises j k less (omega (arith, k_in, count))),
      )

  pub keeps_back : (kept : List ℕ) (n : ℕ) → Keeps (map f kept) (f n) → Keeps kept n
  keeps_back kept n k = record { place = k.place; at = at_back kept k.place n k.at }

  same_back : (kept labels : List ℕ) (a b : ℕ) → SameAt (map f kept) labels (f a) (f b) → SameAt kept labels a b
  same_back kept labels a b s = record {
    first = s.first;
    second = s.second;
    at_first = at_back kept s.first a s.at_first;
    at_second = at_back kept s.second b s.at_second;
    same = s.same;
  }

  marked_back : (kept : List ℕ) (marks : List Bool) (a : ℕ) → MarkedAt (map f kept) marks (f a) → MarkedAt kept marks a
  marked_back kept marks a m = record { place = m.place; at = at_back kept m.place a m.at; marked = m.marked }

  -- ---- lists that lead from node to node

  module _ (k1 l1 k2 l2 : List ℕ) where
    either_map : (a b : ℕ) → SameInEither k1 l1 k2 l2 a b → SameInEither (map f k1) l1 (map f k2) l2 (f a) (f b)
    either_map a b (inl s) = inl (same_map f k1 l1 a b s)
    either_map a b (inr s) = inr (same_map f k2 l2 a b s)

    -- a neighbour of a mapped node is a mapped node
    either_of : (a m : ℕ) → SameInEither (map f k1) l1 (map f k2) l2 (f a) m →
        (b : ℕ) × (f b ≡ m) × SameInEither k1 l1 k2 l2 a b
    either_of a m (inl s) =
        let h = of_map f k1 s.second m s.at_second in
        (h.node, h.is, inl (same_back k1 l1 a h.node (subst (λ i. SameAt (map f k1) l1 (f a) i) (sym h.is) s)))
    either_of a m (inr s) =
        let h = of_map f k2 s.second m s.at_second in
        (h.node, h.is, inr (same_back k2 l2 a h.node (subst (λ i. SameAt (map f k2) l2 (f a) i) (sym h.is) s)))

    leads_map : (a : ℕ) (after : List ℕ) (b : ℕ) → LeadsTo (SameInEither k1 l1 k2 l2) a after b →
        LeadsTo (SameInEither (map f k1) l1 (map f k2) l2) (f a) (map f after) (f b)
    leads_map a [] b e = ap f e
    leads_map a (c ∷ rest) b (s, more) = (either_map a c s, leads_map c rest b more)

    linked_map : (a b : ℕ) → Linked (SameInEither k1 l1 k2 l2) a b →
        Linked (SameInEither (map f k1) l1 (map f k2) l2) (f a) (f b)
    linked_map a b h = record { after = map f h.after; leads = leads_map a h.after b h.leads }

    leads_of : (a : ℕ) (after : List ℕ) (m : ℕ) → LeadsTo (SameInEither (map f k1) l1 (map f k2) l2) (f a) after m →
        (b : ℕ) × (f b ≡ m) × Linked (SameInEither k1 l1 k2 l2) a b
    leads_of a [] m e = (a, e, record { after = []; leads = refl })
    leads_of a (c ∷ rest) m (s, more) =
        let (d, is, here) = either_of a c s in
        let (b, is_b, on) = leads_of d rest m
        (subst (λ i. LeadsTo (SameInEither (map f k1) l1 (map f k2) l2) i rest m) (sym is) more) in
        (b, is_b, record { after = d ∷ on.after; leads = (here, on.leads) })

    linked_of : (a m : ℕ) → Linked (SameInEither (map f k1) l1 (map f k2) l2) (f a) m →
        (b : ℕ) × (f b ≡ m) × Linked (SameInEither k1 l1 k2 l2) a b
    linked_of a m h = leads_of a h.after m h.leads

    linked_back : (a b : ℕ) → Linked (SameInEither (map f k1) l1 (map f k2) l2) (f a) (f b) →
        Linked (SameInEither k1 l1 k2 l2) a b
    linked_back a b h =
        let (c, is, here) = linked_of a (f b) h in
        subst (λ i. Linked (SameInEither k1 l1 k2 l2) a i) (one_node c b is) here

    labels_map : (kept labels : List ℕ) → LabelsCompose k1 l1 k2 l2 kept labels →
        LabelsCompose (map f k1) l1 (map f k2) l2 (map f kept) labels
    labels_map kept labels h x y kept_x kept_y =
        let (a, a_in, is_a) = keeps_of f kept x kept_x in
        let (b, b_in, is_b) = keeps_of f kept y kept_y in
        let c = h a b a_in b_in in
        let here : SameAt (map f kept) labels (f a) (f b) ↔
        Linked (SameInEither (map f k1) l1 (map f k2) l2) (f a) (f b) = (
          λ s. linked_map a b (c.0 (same_back kept labels a b s)),
          λ l. same_map f kept labels a b (c.1 (linked_back a b l)),
        ) in
        subst (λ j. SameAt (map f kept) labels x j ↔ Linked (SameInEither (map f k1) l1 (map f k2) l2) x j) is_b
        (subst (λ i. SameAt (map f kept) labels i (f b) ↔ Linked (SameInEither (map f k1) l1 (map f k2) l2) i (f b))
        is_a here)

    module _ (m1 m2 : List Bool) where
      either_marked : (n : ℕ) → MarkedAt k1 m1 n ⊎ MarkedAt k2 m2 n →
          MarkedAt (map f k1) m1 (f n) ⊎ MarkedAt (map f k2) m2 (f n)
      either_marked n (inl m) = inl (marked_map f k1 m1 n m)
      either_marked n (inr m) = inr (marked_map f k2 m2 n m)

      marked_either : (n : ℕ) → MarkedAt (map f k1) m1 (f n) ⊎ MarkedAt (map f k2) m2 (f n) →
          MarkedAt k1 m1 n ⊎ MarkedAt k2 m2 n
      marked_either n (inl m) = inl (marked_back k1 m1 n m)
      marked_either n (inr m) = inr (marked_back k2 m2 n m)

      -- A list leads from the node to one that is marked.
      abbrev Reaches : ℕ → Type 0
      Reaches a = (m : ℕ) × Linked (SameInEither k1 l1 k2 l2) a m × (MarkedAt k1 m1 m ⊎ MarkedAt k2 m2 m)

      abbrev ReachesMapped : ℕ → Type 0
      ReachesMapped a =
          (m : ℕ) × Linked (SameInEither (map f k1) l1 (map f k2) l2) a m
          × (MarkedAt (map f k1) m1 m ⊎ MarkedAt (map f k2) m2 m)

      reaches_map : (a : ℕ) → Reaches a → ReachesMapped (f a)
      reaches_map a (n, l, m) = (f n, linked_map a n l, either_marked n m)

      reaches_back : (a : ℕ) → ReachesMapped (f a) → Reaches a
      reaches_back a (m, l, marked) =
          let (n, is, here) = linked_of a m l in
          (n, here, marked_either n (subst (λ i. MarkedAt (map f k1) m1 i ⊎ MarkedAt (map f k2) m2 i) (sym is) marked))

      marks_map : (kept : List ℕ) (marks : List Bool) → MarksCompose k1 l1 m1 k2 l2 m2 kept marks →
          MarksCompose (map f k1) l1 m1 (map f k2) l2 m2 (map f kept) marks
      marks_map kept marks h x kept_x =
          let (a, a_in, is) = keeps_of f kept x kept_x in
          let c = h a a_in in
          let here : MarkedAt (map f kept) marks (f a) ↔ ReachesMapped (f a) = (
            λ m. reaches_map a (c.0 (marked_back kept marks a m)),
            λ r. marked_map f kept marks a (c.1 (reaches_back a r)),
          ) in
          subst (λ i. MarkedAt (map f kept) marks i ↔ ReachesMapped i) is here

  kept_map : (k1 k2 kept : List ℕ) → ((n : ℕ) → Keeps kept n → Keeps k1 n ⊎ Keeps k2 n) → (n : ℕ) →
      Keeps (map f kept) n → Keeps (map f k1) n ⊎ Keeps (map f k2) n
  kept_map k1 k2 kept h m k =
      let (n, n_in, is) = keeps_of f kept m k in
      subst (λ i. Keeps (map f k1) i ⊎ Keeps (map f k2) i) is
      (elim (h n n_in) [ inl one ↦ inl (keeps_map f k1 n one) | inr two ↦ inr (keeps_map f k2 n two) ])

  -- WHAT TWO VALUES TOGETHER SAY, THEY SAY WHERE THEIR NODES ARE MAPPED
  pub gap_map : (x y c : Answers) → ComposesGap x y c → ComposesGap (mapped f x) (mapped f y) (mapped f c)
  gap_map x y c h = record {
    kept = kept_map x.kept y.kept c.kept h.kept;
    coupled = labels_map x.kept x.coupled y.kept y.coupled c.kept c.coupled h.coupled;
    energisable =
        marks_map x.kept x.coupled y.kept y.coupled x.energisable y.energisable c.kept c.energisable h.energisable;
    earthable = marks_map x.kept x.coupled y.kept y.coupled x.earthable y.earthable c.kept c.earthable h.earthable;
  }

  pub load_map : (x y c : Answers) → ComposesLoad x y c → ComposesLoad (mapped f x) (mapped f y) (mapped f c)
  load_map x y c h = record {
    kept = kept_map x.kept y.kept c.kept h.kept;
    joined = labels_map x.kept x.joined y.kept y.joined c.kept c.joined h.joined;
    bonded = labels_map x.kept x.bonded y.kept y.bonded c.kept c.bonded h.bonded;
    fed = marks_map x.kept x.joined y.kept y.joined x.fed y.fed c.kept c.fed h.fed;
    loaded = marks_map x.kept x.joined y.kept y.joined x.loaded y.loaded c.kept c.loaded h.loaded;
  }

  -- ---- and back

  module _ (k1 l1 k2 l2 : List ℕ) where
    labels_back : (kept labels : List ℕ) → LabelsCompose (map f k1) l1 (map f k2) l2 (map f kept) labels →
        LabelsCompose k1 l1 k2 l2 kept labels
    labels_back kept labels h a b a_in b_in =
        let c = h (f a) (f b) (keeps_map f kept a a_in) (keeps_map f kept b b_in) in (
          λ s. linked_back k1 l1 k2 l2 a b (c.0 (same_map f kept labels a b s)),
          λ l. same_back kept labels a b (c.1 (linked_map k1 l1 k2 l2 a b l)),
        )

    marks_back : (m1 m2 : List Bool) (kept : List ℕ) (marks : List Bool) →
        MarksCompose (map f k1) l1 m1 (map f k2) l2 m2 (map f kept) marks → MarksCompose k1 l1 m1 k2 l2 m2 kept marks
    marks_back m1 m2 kept marks h a a_in =
        let c = h (f a) (keeps_map f kept a a_in) in (
          λ m. reaches_back k1 l1 k2 l2 m1 m2 a (c.0 (marked_map f kept marks a m)),
          λ r. marked_back kept marks a (c.1 (reaches_map k1 l1 k2 l2 m1 m2 a r)),
        )

  kept_back : (k1 k2 kept : List ℕ) →
      ((n : ℕ) → Keeps (map f kept) n → Keeps (map f k1) n ⊎ Keeps (map f k2) n) → (n : ℕ) → Keeps kept n →
      Keeps k1 n ⊎ Keeps k2 n
  kept_back k1 k2 kept h n k =
      elim (h (f n) (keeps_map f kept n k)) [ inl one ↦ inl (keeps_back k1 n one) | inr two ↦ inr (keeps_back k2 n two) ]

  -- AND WHAT THEY SAY WHERE THEIR NODES ARE MAPPED, THEY SAY TOO
  pub gap_back : (x y c : Answers) → ComposesGap (mapped f x) (mapped f y) (mapped f c) → ComposesGap x y c
  gap_back x y c h = record {
    kept = kept_back x.kept y.kept c.kept h.kept;
    coupled = labels_back x.kept x.coupled y.kept y.coupled c.kept c.coupled h.coupled;
    energisable =
        marks_back x.kept x.coupled y.kept y.coupled x.energisable y.energisable c.kept c.energisable h.energisable;
    earthable = marks_back x.kept x.coupled y.kept y.coupled x.earthable y.earthable c.kept c.earthable h.earthable;
  }

  pub load_back : (x y c : Answers) → ComposesLoad (mapped f x) (mapped f y) (mapped f c) → ComposesLoad x y c
  load_back x y c h = record {
    kept = kept_back x.kept y.kept c.kept h.kept;
    joined = labels_back x.kept x.joined y.kept y.joined c.kept c.joined h.joined;
    bonded = labels_back x.kept x.bonded y.kept y.bonded c.kept c.bonded h.bonded;
    fed = marks_back x.kept x.joined y.kept y.joined x.fed y.fed c.kept c.fed h.fed;
    loaded = marks_back x.kept x.joined y.kept y.joined x.loaded y.loaded c.kept c.loaded h.loaded;
  }

  -- ---- and values are the same exactly where they are so with their nodes mapped

  map_apart : (xs ys : List ℕ) → map f xs ≡ map f ys → xs ≡ ys
  map_apart [] [] e = refl
  map_apart [] (y ∷ ys) e = cc
  map_apart (x ∷ xs) [] e = cc
  map_apart (x ∷ xs) (y ∷ ys) e =
      let here : x ≡ y = one_node x y (cc e) in
      let rest : xs ≡ ys = map_apart xs ys (cc e) in
      cc (here, rest)

  labels_same_map : (ka la kb lb : List ℕ) →
      ((a b : ℕ) → Keeps ka a → Keeps ka b → SameAt ka la a b ↔ SameAt kb lb a b) → (x y : ℕ) → Keeps (map f ka) x →
      Keeps (map f ka) y → SameAt (map f ka) la x y ↔ SameAt (map f kb) lb x y
  labels_same_map ka la kb lb h x y kept_x kept_y =
      let (a, a_in, is_a) = keeps_of f ka x kept_x in
      let (b, b_in, is_b) = keeps_of f ka y kept_y in
      let c = h a b a_in b_in in
      let here : SameAt (map f ka) la (f a) (f b) ↔ SameAt (map f kb) lb (f a) (f b) = (
        λ s. same_map f kb lb a b (c.0 (same_back ka la a b s)),
        λ s. same_map f ka la a b (c.1 (same_back kb lb a b s)),
      ) in
      subst (λ j. SameAt (map f ka) la x j ↔ SameAt (map f kb) lb x j) is_b
      (subst (λ i. SameAt (map f ka) la i (f b) ↔ SameAt (map f kb) lb i (f b)) is_a here)

  labels_same_back : (ka la kb lb : List ℕ) →
      ((a b : ℕ) → Keeps (map f ka) a → Keeps (map f ka) b → SameAt (map f ka) la a b ↔ SameAt (map f kb) lb a b) →
      (a b : ℕ) → Keeps ka a → Keeps ka b → SameAt ka la a b ↔ SameAt kb lb a b
  labels_same_back ka la kb lb h a b a_in b_in =
      let c = h (f a) (f b) (keeps_map f ka a a_in) (keeps_map f ka b b_in) in
      (λ s. same_back kb lb a b (c.0 (same_map f ka la a b s)), λ s. same_back ka la a b (c.1 (same_map f kb lb a b s)))

  marks_same_map : (ka : List ℕ) (ma : List Bool) (kb : List ℕ) (mb : List Bool) →
      ((a : ℕ) → Keeps ka a → MarkedAt ka ma a ↔ MarkedAt kb mb a) → (x : ℕ) → Keeps (map f ka) x →
      MarkedAt (map f ka) ma x ↔ MarkedAt (map f kb) mb x
  marks_same_map ka ma kb mb h x kept_x =
      let (a, a_in, is) = keeps_of f ka x kept_x in
      let c = h a a_in in
      let here : MarkedAt (map f ka) ma (f a) ↔ MarkedAt (map f kb) mb (f a) = (
        λ m. marked_map f kb mb a (c.0 (marked_back ka ma a m)),
        λ m. marked_map f ka ma a (c.1 (marked_back kb mb a m)),
      ) in
      subst (λ i. MarkedAt (map f ka) ma i ↔ MarkedAt (map f kb) mb i) is here

  marks_same_back : (ka : List ℕ) (ma : List Bool) (kb : List ℕ) (mb : List Bool) →
      ((a : ℕ) → Keeps (map f ka) a → MarkedAt (map f ka) ma a ↔ MarkedAt (map f kb) mb a) → (a : ℕ) → Keeps ka a →
      MarkedAt ka ma a ↔ MarkedAt kb mb a
  marks_same_back ka ma kb mb h a a_in =
      let c = h (f a) (keeps_map f ka a a_in) in
      (λ m. marked_back kb mb a (c.0 (marked_map f ka ma a m)), λ m. marked_back ka ma a (c.1 (marked_map f kb mb a m)))

  pub same_gap_map : (x y : Answers) → SameGap x y → SameGap (mapped f x) (mapped f y)
  same_gap_map x y h = record {
    kept = ap (map f) h.kept;
    coupled = labels_same_map x.kept x.coupled y.kept y.coupled h.coupled;
    energisable = marks_same_map x.kept x.energisable y.kept y.energisable h.energisable;
    earthable = marks_same_map x.kept x.earthable y.kept y.earthable h.earthable;
  }

  pub same_gap_back : (x y : Answers) → SameGap (mapped f x) (mapped f y) → SameGap x y
  same_gap_back x y h = record {
    kept = map_apart x.kept y.kept h.kept;
    coupled = labels_same_back x.kept x.coupled y.kept y.coupled h.coupled;
    energisable = marks_same_back x.kept x.energisable y.kept y.energisable h.energisable;
    earthable = marks_same_back x.kept x.earthable y.kept y.earthable h.earthable;
  }

  fed_map : (x : Answers) (a : ℕ) → SaysFed x a ↔ SaysFed (mapped f x) (f a)
  fed_map x a = (marked_map f x.kept x.fed a, marked_back x.kept x.fed a)

  loaded_map : (x : Answers) (a : ℕ) → SaysLoaded x a ↔ SaysLoaded (mapped f x) (f a)
  loaded_map x a = (marked_map f x.kept x.loaded a, marked_back x.kept x.loaded a)

  -- a supply is said of a node where it is said of the mapped node
  supply_map : (x : Answers) (a : ℕ) (s : Supply) → SaysSupply x a s ↔ SaysSupply (mapped f x) (f a) s
  supply_map x a s = supplies_say x (mapped f x) a (f a) (fed_map x a) (loaded_map x a) s

  pub same_load_map : (x y : Answers) → SameLoad x y → SameLoad (mapped f x) (mapped f y)
  same_load_map x y h = record {
    kept = ap (map f) h.kept;
    joined = labels_same_map x.kept x.joined y.kept y.joined h.joined;
    bonded = labels_same_map x.kept x.bonded y.kept y.bonded h.bonded;
    supply = λ m k s.
        let (a, a_in, is) = keeps_of f x.kept m k in
        let c = h.supply a a_in s in
        let one = supply_map x a s in
        let two = supply_map y a s in
        let here : SaysSupply (mapped f x) (f a) s ↔ SaysSupply (mapped f y) (f a) s =
        (λ t. two.0 (c.0 (one.1 t)), λ t. one.0 (c.1 (two.1 t))) in
        subst (λ i. SaysSupply (mapped f x) i s ↔ SaysSupply (mapped f y) i s) is here;
  }

  pub same_load_back : (x y : Answers) → SameLoad (mapped f x) (mapped f y) → SameLoad x y
  same_load_back x y h = record {
    kept = map_apart x.kept y.kept h.kept;
    joined = labels_same_back x.kept x.joined y.kept y.joined h.joined;
    bonded = labels_same_back x.kept x.bonded y.kept y.bonded h.bonded;
    supply = λ a a_in s.
        let c = h.supply (f a) (keeps_map f x.kept a a_in) s in
        let one = supply_map x a s in
        let two = supply_map y a s in
        (λ t. two.1 (c.0 (one.0 t)), λ t. one.1 (c.1 (two.0 t)));
  }

-- a mapped contraction is one where its nodes are nodes
pub mapped_well : (f : ℕ → ℕ) (x : Answers) → IsContraction x → AreNodes (map f x.kept) → IsContraction (mapped f x)
mapped_well f x w nodes =
    let count : length x.kept ≡ length (map f x.kept) = sym (length-map x.kept f) in
    record {
      nodes = nodes;
      coupled = rw (length-map x.kept f) w.coupled;
      joined = rw (length-map x.kept f) w.joined;
      bonded = rw (length-map x.kept f) w.bonded;
      energisable = w.energisable ∙ count;
      earthable = w.earthable ∙ count;
      fed = w.fed ∙ count;
      loaded = w.loaded ∙ count;
      fed_loaded = w.fed_loaded;
    }

-- each node for itself
pub map_self : (xs : List ℕ) → map (λ n. n) xs ≡ xs
map_self [] = refl
map_self (x ∷ xs) = ap (λ ys. x ∷ ys) (map_self xs)

pub mapped_self : (x : Answers) → mapped (λ n. n) x ≡ x
mapped_self x =
    ap (λ ks. record {
      kept = ks;
      coupled = x.coupled;
      joined = x.joined;
      bonded = x.bonded;
      energisable = x.energisable;
      earthable = x.earthable;
      fed = x.fed;
      loaded = x.loaded;
    }) (map_self x.kept)
