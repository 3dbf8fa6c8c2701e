-- What holds of a pool holds of it where other nodes stand in place of those that its values keep.
use Rattle.std.proofs.Common.{◌≡◌, ℕ, ◌*◌, ◌⊎◌, ◌↔◌, zero, suc, List, [], ◌∷◌, map, length, get_or, slice_get, Some}
use Rattle.std.proofs.Common.{refl, sym, ap, ◌∙◌, subst, inl, inr, arith}
use Rattle.std.specs.Prelude.{option_map, Contains}
use Rattle.std.proofs.lemmas.List.{length-map}
use Rattle.std.proofs.lemmas.Option.{slice_get-map}
use Rattle.station_graph.specs.Nodes.{Rises}
use Rattle.contraction.specs.Answers.{Answers, Keeps}
use Rattle.contraction.specs.Renaming.{KeepsOrder, mapped}
use Rattle.contraction.proofs.MappedLemmas.{keeps_map, keeps_of, keeps_back, same_nodes_map, rises_map, mapped_self}
use Rattle.contraction.proofs.MappedLemmas.{map_self}
use Rattle.contraction.proofs.PlaceLemmas.{keeps_from_has, has_from_keeps}
use Rattle.judge_pool.specs.declared.view.View.{View}
use Rattle.judge_pool.specs.declared.pool.Pool.{Pool}
use Rattle.judge_pool.specs.Pooling.{Extends}
use Rattle.judge_pool.specs.Seen.{SameSeen}
use Rattle.judge_pool.specs.Places.{pool_on}
use Rattle.judge_pool.specs.Folding.{AllKeep, AreRising, AreApartIn, IsCarriedOn, AreReached, ReachesMore}
use Rattle.judge_pool.specs.Layering.{values_at, no_answers}
use Rattle.judge_pool.specs.Plans.{AreLinked}
use Rattle.judge_pool.proofs.BridgeLemmas.{from_map}
use Rattle.judge_pool.proofs.LayeringLemmas.{AreSound, Grows}
use Rattle.judge_pool.proofs.MappedViews.{composes_map, same_unmap}

-- ---- lists whose elements are mapped

pub at_mapped : {X Y : Type 0} (g : X → Y) (xs : List X) (i : ℕ) (x : X) → slice_get xs i ≡ Some x →
    slice_get (map g xs) i ≡ Some (g x)
at_mapped g xs i x at = slice_get-map g xs i ∙ ap (option_map g) at

pub of_mapped : {X Y : Type 0} (g : X → Y) (xs : List X) (i : ℕ) (y : Y) → slice_get (map g xs) i ≡ Some y →
    (x : X) × (slice_get xs i ≡ Some x) × (g x ≡ y)
of_mapped g xs i y at = from_map g (slice_get xs i) y (sym (slice_get-map g xs i) ∙ at)

extends_mapped : {X : Type 0} (g : X → X) (old new : List X) → Extends old new → Extends (map g old) (map g new)
extends_mapped g old new more i y at =
    let (x, here, is) = of_mapped g old i y at in
    at_mapped g new i x (more i x here) ∙ ap Some is

get_or_mapped : (g : Answers → Answers) (xs : List Answers) (i : ℕ) → g no_answers ≡ no_answers →
    get_or (map g xs) i no_answers ≡ g (get_or xs i no_answers)
get_or_mapped g [] i e = sym e
get_or_mapped g (x ∷ xs) zero e = refl
get_or_mapped g (x ∷ xs) (suc i) e = get_or_mapped g xs i e

-- the values of numbers where all values are mapped
pub values_on : (f : ℕ → ℕ) (values : List Answers) (ids : List ℕ) →
    values_at (map (mapped f) values) ids ≡ map (mapped f) (values_at values ids)
values_on f values [] = refl
values_on f values (i ∷ is) =
    ap (λ x. x ∷ values_at (map (mapped f) values) is) (get_or_mapped (mapped f) values i refl)
    ∙ ap (λ xs. mapped f (get_or values i no_answers) ∷ xs) (values_on f values is)

-- each node for itself
values_self : (values : List Answers) → map (mapped (λ n. n)) values ≡ values
values_self [] = refl
values_self (x ∷ xs) = ap (λ y. y ∷ map (mapped (λ n. n)) xs) (mapped_self x) ∙ ap (λ ys. x ∷ ys) (values_self xs)

pub values_at_self : (values : List Answers) (ids : List ℕ) →
    values_at (map (mapped (λ n. n)) values) ids ≡ values_at values ids
values_at_self values ids = ap (λ vs. values_at vs ids) (values_self values)

lists_self : (lists : List (List ℕ)) → map (map (λ n. n)) lists ≡ lists
lists_self [] = refl
lists_self (x ∷ xs) = ap (λ y. y ∷ map (map (λ n. n)) xs) (map_self x) ∙ ap (λ ys. x ∷ ys) (lists_self xs)

pub grows_self : (p : Pool) → Grows p (pool_on (λ n. n) p)
grows_self p = record {
  view = refl;
  keeps = λ k ns at. ap (λ xs. slice_get xs k) (lists_self p.keeps.items) ∙ at;
  values = λ i x at. ap (λ xs. slice_get xs i) (values_self p.values.items) ∙ at;
  letters = λ l ids at. at;
}

pub order_self : KeepsOrder (λ n. n)
order_self a b less = less

-- ---- a pool

module _ (f : ℕ → ℕ) where
  pub grows_on : (p q : Pool) → Grows p q → Grows (pool_on f p) (pool_on f q)
  grows_on p q g = record {
    view = g.view;
    keeps = extends_mapped (map f) p.keeps.items q.keeps.items g.keeps;
    values = extends_mapped (mapped f) p.values.items q.values.items g.values;
    letters = g.letters;
  }

  pub linked_on : (p : Pool) (start : ℕ) (letters : List (List ℕ)) (keeps : List ℕ) → AreLinked p start letters keeps →
      AreLinked (pool_on f p) start letters keeps
  linked_on p start letters keeps linked = record {
    start_in = omega (arith, linked.start_in, length-map p.values.items (mapped f));
    count = linked.count;
    keeps_in = λ j k at. omega (arith, linked.keeps_in j k at, length-map p.keeps.items (map f));
    letters_in =
        λ j c i ids at at_c. omega (arith, linked.letters_in j c i ids at at_c, length-map p.values.items (mapped f));
    some = linked.some;
    start_kept = λ x k nodes at at_k at_nodes.
        let (y, here, is) = of_mapped (mapped f) p.values.items start x at in
        let (list, listed, is_list) = of_mapped (map f) p.keeps.items k nodes at_nodes in
        let same = same_nodes_map f y.kept list (linked.start_kept y k list here at_k listed) in
        subst (λ l. (n : ℕ) → Keeps x.kept n ↔ Contains l n) is_list
        (subst (λ (z : Answers). (n : ℕ) → Keeps z.kept n ↔ Contains (map f list) n) is same);
    chain = λ j k h c i ids nodes after y at_j at_k at_h at_nodes at_after at_c at_y m m_in.
        let (z, here, is) = of_mapped (mapped f) p.values.items i y at_y in
        let (before, listed, is_before) = of_mapped (map f) p.keeps.items k nodes at_nodes in
        let (later, listed_later, is_later) = of_mapped (map f) p.keeps.items h after at_after in
        let (n, n_in, is_n) = keeps_of f later m
        (keeps_from_has (map f later) m (subst (λ l. Contains l m) (sym is_later) m_in)) in
        let one : Contains nodes m ⊎ Keeps y.kept m =
        elim (linked.chain j k h c i ids before later z at_j at_k at_h listed listed_later at_c here n
        (has_from_keeps later n n_in)) [
          | inl has ↦
              inl (subst (λ l. Contains l m) is_before
              (has_from_keeps (map f before) m
              (subst (λ q. Keeps (map f before) q) is_n (keeps_map f before n (keeps_from_has before n has)))))
          | inr kept ↦
              inr (subst (λ (v : Answers). Keeps v.kept m) is
              (subst (λ q. Keeps (map f z.kept) q) is_n (keeps_map f z.kept n kept)))
        ] in
        one;
  }

module _ (f : ℕ → ℕ) (order : KeepsOrder f) where
  pub sound_on : (p : Pool) → AreSound p → AreSound (pool_on f p)
  sound_on p h = record {
    apart = λ t u x y at_t at_u same.
        let (a, at_a, is_a) = of_mapped (mapped f) p.values.items t x at_t in
        let (b, at_b, is_b) = of_mapped (mapped f) p.values.items u y at_u in
        h.apart t u a b at_a at_b (same_unmap f order p.view a b
        (subst (λ z. SameSeen p.view z (mapped f b)) (sym is_a) (subst (λ z. SameSeen p.view x z) (sym is_b) same)));
    rising = λ t r at.
        let (x, here, is) = of_mapped (mapped f) p.values.items t r at in
        subst (λ (z : Answers). Rises z.kept) is (rises_map f order x.kept (h.rising t x here));
  }

  -- and what is linked there is linked
  pub linked_off : (p : Pool) (start : ℕ) (letters : List (List ℕ)) (keeps : List ℕ) →
      AreLinked (pool_on f p) start letters keeps → AreLinked p start letters keeps
  linked_off p start letters keeps linked = record {
    start_in = omega (arith, linked.start_in, length-map p.values.items (mapped f));
    count = linked.count;
    keeps_in = λ j k at. omega (arith, linked.keeps_in j k at, length-map p.keeps.items (map f));
    letters_in =
        λ j c i ids at at_c. omega (arith, linked.letters_in j c i ids at at_c, length-map p.values.items (mapped f));
    some = linked.some;
    start_kept = λ x k nodes at at_k at_nodes n.
        let same = linked.start_kept (mapped f x) k (map f nodes) (at_mapped (mapped f) p.values.items start x at) at_k
        (at_mapped (map f) p.keeps.items k nodes at_nodes) (f n) in (
          λ kept. has_from_keeps nodes n
              (keeps_back f order nodes n (keeps_from_has (map f nodes) (f n) (same.0 (keeps_map f x.kept n kept)))),
          λ has. keeps_back f order x.kept n
              (same.1 (has_from_keeps (map f nodes) (f n) (keeps_map f nodes n (keeps_from_has nodes n has)))),
        );
    chain = λ j k h c i ids nodes after y at_j at_k at_h at_nodes at_after at_c at_y n n_in.
        elim (linked.chain j k h c i ids (map f nodes) (map f after) (mapped f y) at_j at_k at_h
        (at_mapped (map f) p.keeps.items k nodes at_nodes) (at_mapped (map f) p.keeps.items h after at_after) at_c
        (at_mapped (mapped f) p.values.items i y at_y) (f n)
        (has_from_keeps (map f after) (f n) (keeps_map f after n (keeps_from_has after n n_in)))) [
          | inl has ↦ inl (has_from_keeps nodes n (keeps_back f order nodes n (keeps_from_has (map f nodes) (f n) has)))
          | inr kept ↦ inr (keeps_back f order y.kept n kept)
        ];
  }

  -- ---- edges

  -- ---- what is reached

  carried_on : (view : View) (states letters : List Answers) (x : Answers) → IsCarriedOn view states letters x →
      IsCarriedOn view (map (mapped f) states) (map (mapped f) letters) (mapped f x)
  carried_on view states letters x c = record {
    state = c.state;
    letter = c.letter;
    x = mapped f c.x;
    y = mapped f c.y;
    first = at_mapped (mapped f) states c.state c.x c.first;
    second = at_mapped (mapped f) letters c.letter c.y c.second;
    composes = composes_map f order view c.x c.y x c.composes;
  }

  pub kept_on : (keep : List ℕ) (next : List Answers) → AllKeep next keep → AllKeep (map (mapped f) next) (map f keep)
  kept_on keep next h t r at =
      let (x, here, is) = of_mapped (mapped f) next t r at in
      subst (λ (z : Answers). (n : ℕ) → Keeps z.kept n ↔ Contains (map f keep) n) is
      (same_nodes_map f x.kept keep (h t x here))

  pub rising_on : (next : List Answers) → AreRising next → AreRising (map (mapped f) next)
  rising_on next h t r at =
      let (x, here, is) = of_mapped (mapped f) next t r at in
      subst (λ (z : Answers). Rises z.kept) is (rises_map f order x.kept (h t x here))

  pub apart_on : (view : View) (next : List Answers) → AreApartIn view next → AreApartIn view (map (mapped f) next)
  apart_on view next h t u x y at_t at_u same =
      let (a, at_a, is_a) = of_mapped (mapped f) next t x at_t in
      let (b, at_b, is_b) = of_mapped (mapped f) next u y at_u in
      h t u a b at_a at_b (same_unmap f order view a b
      (subst (λ z. SameSeen view z (mapped f b)) (sym is_a) (subst (λ z. SameSeen view x z) (sym is_b) same)))

  reached_on : (view : View) (keep : List ℕ) (states letters next : List Answers) →
      AreReached view keep states letters next →
      AreReached view (map f keep) (map (mapped f) states) (map (mapped f) letters) (map (mapped f) next)
  reached_on view keep states letters next h = record {
    kept = kept_on keep next h.kept;
    rising = rising_on next h.rising;
    apart = apart_on view next h.apart;
    carried = λ t r at.
        let (x, here, is) = of_mapped (mapped f) next t r at in
        subst (IsCarriedOn view (map (mapped f) states) (map (mapped f) letters)) is
        (carried_on view states letters x (h.carried t x here));
  }

  pub reaches_more_on : (view : View) (keep : List ℕ) (states letters : List Answers) (limit : ℕ) →
      ReachesMore view keep states letters limit →
      ReachesMore view (map f keep) (map (mapped f) states) (map (mapped f) letters) limit
  reaches_more_on view keep states letters limit h = record {
    next = map (mapped f) h.next;
    reached = reached_on view keep states letters h.next h.reached;
    past = omega (arith, h.past, length-map h.next (mapped f));
    few = omega (
      arith,
      h.few,
      length-map h.next (mapped f),
      ap (λ n. n * length (map (mapped f) letters)) (length-map states (mapped f)),
      ap (λ n. length states * n) (length-map letters (mapped f)),
    );
  }
