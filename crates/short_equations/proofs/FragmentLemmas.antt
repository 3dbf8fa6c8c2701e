-- Edges that stand for some items: those of a part, of two sets of parts together, and of a part beside others.
use Rattle.std.proofs.Common.{◌≡◌, ◌<◌, ◌⊎◌, ◌++◌, ℕ, zero, suc, List, [], ◌∷◌, length, slice_get, Some, refl}
use Rattle.std.proofs.Common.{sym, ◌∙◌, ap, inl, inr, arith}
use Rattle.std.proofs.lemmas.Option.{slice_get_within}
use Rattle.ilk_base.specs.declared.words.NodeId.{NodeId}
use Rattle.station_graph.specs.Diagram.{Diagram, IsStation, node_count}
use Rattle.station_graph.specs.Connection.{Item}
use Rattle.contraction.specs.Stands.{IsItem}
use Rattle.contraction.proofs.ItemSets.{Either}
use Rattle.interlock_terms.specs.declared.term.Term.{Term}
use Rattle.interlock_terms.specs.Terms.{Values, Grew}
use Rattle.interlock_terms.proofs.TermLemmas.{grew_solves}
use Rattle.short_equations.specs.declared.edge.TheConstants.{FIRST_MARK}
use Rattle.short_equations.specs.declared.edge.Edge.{Edge}
use Rattle.short_equations.specs.declared.view.View.{View}
use Rattle.short_equations.specs.declared.part_set.PartSet.{PartSet}
use Rattle.short_equations.specs.Edges.{Along, IsMark, IsOneBelow, StandsFor, AddsAll}
use Rattle.short_equations.specs.Standing.{Or, IsClear}
use Rattle.short_equations.specs.Sights.{SightBy}
use Rattle.short_equations.specs.ItemEdges.{AddsSight}
use Rattle.short_equations.specs.Fragments.{IsOneOf, InParts, AreInner, StandsForItems, ComposedOf}
use Rattle.short_equations.proofs.StandingLemmas.{replaces_itself, replaces_gone, replaces_same, replaces_as}
use Rattle.short_equations.proofs.StandingLemmas.{replaces_then, replaces_both, replaces_beside}
use Rattle.short_equations.proofs.ViewLemmas.{sight_fewer, sight_either}
use Rattle.short_equations.proofs.ComposeSights.{sight_clear}

-- ---- lists of nodes
pub one_of_first : (xs ys : List NodeId) (n : ℕ) → IsOneOf xs n → IsOneOf (xs ++ ys) n
one_of_first [] ys n h = absurd h
one_of_first (x ∷ xs) ys n (inl e) = inl e
one_of_first (x ∷ xs) ys n (inr h) = inr (one_of_first xs ys n h)

pub one_of_second : (xs ys : List NodeId) (n : ℕ) → IsOneOf ys n → IsOneOf (xs ++ ys) n
one_of_second [] ys n h = h
one_of_second (x ∷ xs) ys n h = inr (one_of_second xs ys n h)

pub one_of_cases : (xs ys : List NodeId) (n : ℕ) → IsOneOf (xs ++ ys) n → IsOneOf xs n ⊎ IsOneOf ys n
one_of_cases [] ys n h = inr h
one_of_cases (x ∷ xs) ys n (inl e) = inl (inl e)
one_of_cases (x ∷ xs) ys n (inr h) = elim (one_of_cases xs ys n h) [ inl a ↦ inl (inr a) | inr a ↦ inr a ]

one_at : (xs : List NodeId) (n i : ℕ) (m : NodeId) → slice_get xs i ≡ Some m → n ≡ m.0 → IsOneOf xs n
one_at [] n i m at e = cc
one_at (x ∷ xs) n zero m at e = inl (let same : x ≡ m = cc in e ∙ ap (λ (k : NodeId). k.0) (sym same))
one_at (x ∷ xs) n (suc i) m at e = inr (one_at xs n i m at e)

pub one_below : (xs : List NodeId) (n : ℕ) → IsOneBelow xs (length xs) n → IsOneOf xs n
one_below xs n h = one_at xs n h.place h.item h.listed h.holds

find : (xs : List NodeId) (n : ℕ) → IsOneOf xs n → (i : ℕ) × (m : NodeId) × (slice_get xs i ≡ Some m) × (n ≡ m.0)
find [] n h = absurd h
find (x ∷ xs) n (inl e) = (0, x, refl, e)
find (x ∷ xs) n (inr h) = let (i, m, at, e) = find xs n h in (suc i, m, at, e)

pub below_one : (xs : List NodeId) (n : ℕ) → IsOneOf xs n → IsOneBelow xs (length xs) n
below_one xs n h =
    let (i, m, at, e) = find xs n h in
    record { place = i; item = m; below = slice_get_within xs i m at; listed = at; holds = e }

pub one_of_pushed : (xs : List NodeId) (m : NodeId) (n : ℕ) → IsOneOf (xs ++ m ∷ []) n → IsOneOf xs n ⊎ (n ≡ m.0)
one_of_pushed xs m n h = elim (one_of_cases xs (m ∷ []) n h) [
  | inl a ↦ inl a
  | inr b ↦ inr (elim b [ inl e ↦ e | inr none ↦ absurd none ])
]

-- none of these nodes is a mark
pub low_nodes : (d : Diagram) → IsStation d → (Gone : ℕ → Type 0) → ((n : ℕ) → Gone n → n < node_count d) → (n : ℕ) →
    IsMark n → ¬ Gone n
low_nodes d station Gone within n mark g =
    let low = within n g in let few = station.items.nodes_few in omega (arith, low, few, mark)

pub inner_small : (d : Diagram) → IsStation d → (set : PartSet) (nodes : List NodeId) → AreInner d set nodes →
    (i : ℕ) (n : NodeId) → slice_get nodes i ≡ Some n → n.0 < FIRST_MARK
inner_small d station set nodes inner i n at =
    let low = (inner n.0 (one_at nodes n.0 i n at refl)).0 in
    let few = station.items.nodes_few in
    omega (arith, low, few)

-- ---- no edges
pub nothing_along : (v : Values) (a b : ℕ) → Along v [] a b → ⊥
nothing_along v a b s = let low = s.below in omega (arith, low)

-- edges that were put together, and then lost some nodes
pub composes : (d : Diagram) (set : PartSet) (one two : List Term) → Grew one two → (first second mid new : List Edge)
    (nodes : List NodeId) → AddsAll one first second (length second) mid → AreInner d set nodes →
    StandsFor two nodes (length nodes) mid new → ComposedOf d set two first second new
composes d set one two grew first second mid new nodes adds inner stands = record {
  gone = nodes;
  inner = inner;
  stands = λ v solves.
      replaces_gone (IsOneBelow nodes (length nodes)) (IsOneOf nodes) (Or (Along v first) (Along v second)) (Along v new)
      (one_below nodes) (below_one nodes)
      (replaces_as (IsOneBelow nodes (length nodes)) (Along v mid) (Or (Along v first) (Along v second)) (Along v new)
      (stands v solves) (λ a b. (adds v a b (grew_solves one two v grew solves)).0)
      (λ a b. (adds v a b (grew_solves one two v grew solves)).1));
}

-- the edges of some items stand for them
pub stands_plain : (view : View) (d : Diagram) (terms : List Term) (These Those : Item → Type 0) (edges : List Edge) →
    AddsSight view terms [] These d edges → ((item : Item) → These item → Those item) →
    ((item : Item) → Those item → These item) → StandsForItems view d terms Those edges
stands_plain view d terms These Those edges adds to from = record {
  gone = [];
  nodes = λ n h. absurd h;
  inner = λ n h. absurd h;
  stands = λ v fits solves.
      replaces_same (IsOneOf []) (SightBy view Those d v.closed) (SightBy view Those d v.closed) (Along v edges)
      (replaces_gone (λ n. ⊥) (IsOneOf []) (SightBy view Those d v.closed) (SightBy view Those d v.closed) (λ n h. absurd h)
      (λ n h. h) (replaces_itself (SightBy view Those d v.closed)))
      (λ a b h. (adds v a b fits solves).1 (inr (sight_fewer Those These d (λ x is. from x) view v.closed a b h)))
      (λ a b h. elim ((adds v a b fits solves).0 h) [
        | inl none ↦ absurd (nothing_along v a b none)
        | inr s ↦ sight_fewer These Those d (λ x is. to x) view v.closed a b s
      ]);
}

pub stands_grew : (view : View) (d : Diagram) (one two : List Term) (These : Item → Type 0) (edges : List Edge) →
    Grew one two → StandsForItems view d one These edges → StandsForItems view d two These edges
stands_grew view d one two These edges grew h = record {
  gone = h.gone;
  nodes = h.nodes;
  inner = h.inner;
  stands = λ v fits solves. h.stands v fits (grew_solves one two v grew solves);
}

module _ (view : View) (d : Diagram) (station : IsStation d) (terms : List Term) (These More Those : Item → Type 0)
    (to : (item : Item) → These item → Those item) (more_to : (item : Item) → More item → Those item)
    (cases : (item : Item) → IsItem d item → Those item → Either These More item)
    (apart : (item : Item) → These item → More item → ⊥) where
  either_sight : (v : Values) (a b : ℕ) → Or (SightBy view These d v.closed) (SightBy view More d v.closed) a b →
      SightBy view Those d v.closed a b
  either_sight v a b h =
      sight_fewer (Either These More) Those d (λ x is k. elim k [ inl m ↦ to x m | inr m ↦ more_to x m ]) view v.closed a b
      ((sight_either view These More d v.closed a b).1 h)

  sight_cases : (v : Values) (a b : ℕ) → SightBy view Those d v.closed a b →
      Or (SightBy view These d v.closed) (SightBy view More d v.closed) a b
  sight_cases v a b h =
      (sight_either view These More d v.closed a b).0
      (sight_fewer Those (Either These More) d cases view v.closed a b h)

  -- TWO SETS OF ITEMS TOGETHER
  pub stands_composed : (set : PartSet) (first second new : List Edge) → StandsForItems view d terms These first →
      StandsForItems view d terms More second → ComposedOf d set terms first second new →
      ((item : Item) → InParts d set item → Those item) → StandsForItems view d terms Those new
  stands_composed set first second new h k c within = record {
    gone = h.gone ++ (k.gone ++ c.gone);
    nodes = λ n g. elim (one_of_cases h.gone (k.gone ++ c.gone) n g) [
      | inl a ↦ h.nodes n a
      | inr b ↦ elim (one_of_cases k.gone c.gone n b) [
        | inl x ↦ k.nodes n x
        | inr x ↦ (c.inner n x).0
      ]
    ];
    inner = λ n g item t. elim (one_of_cases h.gone (k.gone ++ c.gone) n g) [
      | inl a ↦ to item (h.inner n a item t)
      | inr b ↦ elim (one_of_cases k.gone c.gone n b) [
        | inl x ↦ more_to item (k.inner n x item t)
        | inr x ↦ within item ((c.inner n x).1 item t)
      ]
    ];
    stands = λ v fits solves.
        let clear_more : IsClear (IsOneOf h.gone) (SightBy view More d v.closed) =
        sight_clear view (IsOneOf h.gone) More d (low_nodes d station (IsOneOf h.gone) h.nodes)
        (λ n t g. apart t.item (h.inner n g t.item t.touches) t.among) v.closed in
        let clear_these : IsClear (IsOneOf k.gone) (SightBy view These d v.closed) =
        sight_clear view (IsOneOf k.gone) These d (low_nodes d station (IsOneOf k.gone) k.nodes)
        (λ n t g. apart t.item t.among (k.inner n g t.item t.touches)) v.closed in
        let both = replaces_both (IsOneOf h.gone) (IsOneOf k.gone) (SightBy view These d v.closed) (Along v first)
        (SightBy view More d v.closed) (Along v second) (h.stands v fits solves) (k.stands v fits solves) clear_more
        clear_these in
        let all = replaces_as (λ n. IsOneOf h.gone n ⊎ IsOneOf k.gone n)
        (Or (SightBy view These d v.closed) (SightBy view More d v.closed)) (SightBy view Those d v.closed)
        (Or (Along v first) (Along v second)) both (either_sight v) (sight_cases v) in
        replaces_gone (λ n. (IsOneOf h.gone n ⊎ IsOneOf k.gone n) ⊎ IsOneOf c.gone n)
        (IsOneOf (h.gone ++ (k.gone ++ c.gone))) (SightBy view Those d v.closed) (Along v new)
        (λ n g. elim g [
          | inl e ↦ elim e [
            | inl a ↦ one_of_first h.gone (k.gone ++ c.gone) n a
            | inr b ↦ one_of_second h.gone (k.gone ++ c.gone) n (one_of_first k.gone c.gone n b)
          ]
          | inr x ↦ one_of_second h.gone (k.gone ++ c.gone) n (one_of_second k.gone c.gone n x)
        ])
        (λ n g. elim (one_of_cases h.gone (k.gone ++ c.gone) n g) [
          | inl a ↦ inl (inl a)
          | inr b ↦ elim (one_of_cases k.gone c.gone n b) [ inl x ↦ inl (inr x) | inr x ↦ inr x ]
        ])
        (replaces_then (λ n. IsOneOf h.gone n ⊎ IsOneOf k.gone n) (IsOneOf c.gone) (SightBy view Those d v.closed)
        (Or (Along v first) (Along v second)) (Along v new) all (c.stands v solves));
  }

  -- THE ITEMS THEMSELVES BESIDE EDGES THAT STAND FOR OTHERS
  pub stands_beside : (first new : List Edge) → StandsForItems view d terms These first →
      AddsSight view terms first More d new → StandsForItems view d terms Those new
  stands_beside first new h adds = record {
    gone = h.gone;
    nodes = h.nodes;
    inner = λ n g item t. to item (h.inner n g item t);
    stands = λ v fits solves.
        let clear_more : IsClear (IsOneOf h.gone) (SightBy view More d v.closed) =
        sight_clear view (IsOneOf h.gone) More d (low_nodes d station (IsOneOf h.gone) h.nodes)
        (λ n t g. apart t.item (h.inner n g t.item t.touches) t.among) v.closed in
        replaces_same (IsOneOf h.gone) (SightBy view Those d v.closed)
        (Or (Along v first) (SightBy view More d v.closed)) (Along v new)
        (replaces_as (IsOneOf h.gone) (Or (SightBy view These d v.closed) (SightBy view More d v.closed))
        (SightBy view Those d v.closed) (Or (Along v first) (SightBy view More d v.closed))
        (replaces_beside (IsOneOf h.gone) (SightBy view These d v.closed) (Along v first) (SightBy view More d v.closed)
        (h.stands v fits solves) clear_more) (either_sight v) (sight_cases v)) (λ a b. (adds v a b fits solves).1) (λ a b. (adds v a b fits solves).0);
  }
