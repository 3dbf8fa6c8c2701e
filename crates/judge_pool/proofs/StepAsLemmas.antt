-- Steps and layers of values, each of them as another, and steps where other nodes stand.
use Rattle.std.proofs.Common.{◌≡◌, ℕ, ◌*◌, ◌/◌, ◌%◌, ◌↔◌, Bool, List, map, length, slice_get, slice_index, Some}
use Rattle.std.proofs.Common.{sym, ap, ◌∙◌, subst, arith}
use Rattle.std.specs.Prelude.{Contains}
use Rattle.std.proofs.lemmas.List.{length-map}
use Rattle.station_graph.specs.Diagram.{Diagram}
use Rattle.station_graph.specs.Connection.{Item}
use Rattle.station_graph.specs.Nodes.{Rises}
use Rattle.contraction.specs.Answers.{Answers, Keeps}
use Rattle.contraction.specs.Renaming.{KeepsOrder, mapped}
use Rattle.contraction.specs.Stands.{Among}
use Rattle.decision_graphs.specs.Label.{Layer, leads, AreLayers}
use Rattle.judge_pool.specs.declared.view.View.{View}
use Rattle.judge_pool.specs.Folding.{Carried, AreRising, AreApartIn, IsStep, IsCarriedOn, AreReached, ReachesMore}
use Rattle.judge_pool.specs.Folding.{StandsIn, AreViews, IsExact}
use Rattle.judge_pool.specs.Seen.{ComposesIn}
use Rattle.judge_pool.specs.Shapes.{SameAs, AllAs}
use Rattle.judge_pool.proofs.AsLemmas.{as_back, seen_as, stands_as, beside, all_as_own, all_as_back}
use Rattle.judge_pool.proofs.MappedPools.{at_mapped, of_mapped, kept_on, rising_on, apart_on}
use Rattle.judge_pool.proofs.MappedViews.{composes_map}
use Rattle.judge_pool.proofs.ShapeLemmas.{composes_as}

-- ---- what is said of the values of a list

module _ (view : View) (xs ys : List Answers) (same : AllAs view xs ys) where
  -- each of the others has one of these beside it
  from : (t : ℕ) (y : Answers) → slice_get ys t ≡ Some y → (x : Answers) × (slice_get xs t ≡ Some x) × SameAs view y x
  from t y at = beside view ys xs (all_as_back view xs ys same) t y at

  kept_as : (Kept : ℕ → Type 0) →
      ((t : ℕ) (x : Answers) → slice_get xs t ≡ Some x → (n : ℕ) → Keeps x.kept n ↔ Kept n) → (t : ℕ) (y : Answers) →
      slice_get ys t ≡ Some y → (n : ℕ) → Keeps y.kept n ↔ Kept n
  kept_as Kept h t y at n =
      let (x, here, as_x) = from t y at in
      subst (λ ks. Keeps ks n ↔ Kept n) (sym as_x.kept) (h t x here n)

  rising_as : AreRising xs → AreRising ys
  rising_as h t y at =
      let (x, here, as_x) = from t y at in
      subst Rises (sym as_x.kept) (h t x here)

  apart_as : AreApartIn view xs → AreApartIn view ys
  apart_as h t u y z at_t at_u seen =
      let (a, at_a, as_a) = from t y at_t in
      let (b, at_b, as_b) = from u z at_u in
      h t u a b at_a at_b (seen_as view y a z b as_a as_b seen)

-- what keeps these nodes keeps those, of which there are the same
kept_those : (keep keep' ks : List ℕ) → ((n : ℕ) → Contains keep n ↔ Contains keep' n) →
    ((n : ℕ) → Keeps ks n ↔ Contains keep n) → (n : ℕ) → Keeps ks n ↔ Contains keep' n
kept_those keep keep' ks those h n = (λ k. (those n).0 ((h n).0 k), λ c. (h n).1 ((those n).1 c))

-- ---- steps of values that are as others

carried_as : (view : View) (next next' : List Answers) → AllAs view next next' → (x x' y y' : Answers) (t : ℕ) →
    SameAs view x x' → SameAs view y y' → Carried view x y next t → Carried view x' y' next' t
carried_as view next next' as_next x x' y y' t one two c =
    let (r, at_r, both) = beside view next next' as_next t c.value c.listed in
    record { value = r; listed = at_r; composes = composes_as view x x' y y' c.value r one two both c.composes }

-- WHERE ALL ARE AS OTHERS, A STEP IS ONE OF THOSE
pub step_as : (view : View) (keep keep' : List ℕ) (states states' letters letters' next next' : List Answers)
    (edges : List ℕ) → AllAs view states states' → AllAs view letters letters' → AllAs view next next' →
    ((n : ℕ) → Contains keep n ↔ Contains keep' n) → IsStep view keep states letters next edges →
    IsStep view keep' states' letters' next' edges
step_as view keep keep' states states' letters letters' next next' edges as_states as_letters as_next those s = record {
  len = s.len ∙ (ap (λ n. n * length letters) as_states.len ∙ ap (λ n. length states' * n) as_letters.len);
  carried = λ p x' y' p_in at_x at_y.
      let w = as_letters.len in
      let (x, here_x, as_x) = from view states states' as_states (p / length letters) x'
      (ap (λ n. slice_get states' (p / n)) w ∙ at_x) in
      let (y, here_y, as_y) = from view letters letters' as_letters (p % length letters) y'
      (ap (λ n. slice_get letters' (p % n)) w ∙ at_y) in
      carried_as view next next' as_next x x' y y' (slice_index edges p) (as_back view x' x as_x)
      (as_back view y' y as_y) (s.carried p x y p_in here_x here_y);
  kept = λ t r at.
      kept_those keep keep' r.kept those (kept_as view next next' as_next (Contains keep) s.kept t r at);
  rising = rising_as view next next' as_next s.rising;
  apart = apart_as view next next' as_next s.apart;
  hit = λ t r at. let (x, here, as_x) = from view next next' as_next t r at in s.hit t x here;
}

carried_on_as : (view : View) (states states' letters letters' : List Answers) → AllAs view states states' →
    AllAs view letters letters' → (r r' : Answers) → SameAs view r r' → IsCarriedOn view states letters r →
    IsCarriedOn view states' letters' r'
carried_on_as view states states' letters letters' as_states as_letters r r' both c =
    let (x, at_x, one) = beside view states states' as_states c.state c.x c.first in
    let (y, at_y, two) = beside view letters letters' as_letters c.letter c.y c.second in
    record {
      state = c.state;
      letter = c.letter;
      x = x;
      y = y;
      first = at_x;
      second = at_y;
      composes = composes_as view c.x x c.y y r r' one two both c.composes;
    }

-- AND WHAT IS REACHED IS REACHED FROM THOSE
pub reached_as : (view : View) (keep keep' : List ℕ) (states states' letters letters' next next' : List Answers) →
    AllAs view states states' → AllAs view letters letters' → AllAs view next next' →
    ((n : ℕ) → Contains keep n ↔ Contains keep' n) → AreReached view keep states letters next →
    AreReached view keep' states' letters' next'
reached_as view keep keep' states states' letters letters' next next' as_states as_letters as_next those h = record {
  kept = λ t r at.
      kept_those keep keep' r.kept those (kept_as view next next' as_next (Contains keep) h.kept t r at);
  rising = rising_as view next next' as_next h.rising;
  apart = apart_as view next next' as_next h.apart;
  carried = λ t r' at.
      let (r, here, as_r) = from view next next' as_next t r' at in
      carried_on_as view states states' letters letters' as_states as_letters r r' (as_back view r' r as_r)
      (h.carried t r here);
}

pub reaches_more_as : (view : View) (keep keep' : List ℕ) (states states' letters letters' : List Answers) (limit : ℕ) →
    AllAs view states states' → AllAs view letters letters' → ((n : ℕ) → Contains keep n ↔ Contains keep' n) →
    ReachesMore view keep states letters limit → ReachesMore view keep' states' letters' limit
reaches_more_as view keep keep' states states' letters letters' limit as_states as_letters those h = record {
  next = h.next;
  reached =
      reached_as view keep keep' states states' letters letters' h.next h.next as_states as_letters
      (all_as_own view h.next) those h.reached;
  past = h.past;
  few = omega (
    arith,
    h.few,
    ap (λ n. n * length letters) as_states.len,
    ap (λ n. length states' * n) as_letters.len,
  );
}

-- ---- an exact layer

module _ (view : View) (d : Diagram) (These : Item → Type 0) (states states' : List Answers)
    (same : AllAs view states states') where
  stands_in_as : (v : List Bool) (t : ℕ) → StandsIn view These d v states t → StandsIn view These d v states' t
  stands_in_as v t s =
      let (x, at, as_x) = beside view states states' same t s.value s.listed in
      record { value = x; listed = at; stands = stands_as view These d v s.value x as_x s.stands }

  views_as : AreViews view These d states → AreViews view These d states'
  views_as h = record {
    made = λ t r at.
        let (x, here, as_x) = from view states states' same t r at in
        let (v, is, seen) = h.made t x here in
        (v, is, stands_as view These d v x r (as_back view r x as_x) seen);
    cover = λ v is. let (t, s) = h.cover v is in (t, stands_in_as v t s);
  }

pub exact_as : (view : View) (d : Diagram) (Chosen : ℕ → ℕ → List Bool → Type 0) (items : ℕ → List Item)
    (Needed : ℕ → ℕ → Type 0) (j : ℕ) (ls : List Layer) (states states' : List Answers) → AllAs view states states' →
    IsExact view d Chosen items Needed j ls states → IsExact view d Chosen items Needed j ls states'
exact_as view d Chosen items Needed j ls states states' same h = record {
  count = h.count;
  fits = subst (λ n. AreLayers n ls) same.len h.fits;
  kept = kept_as view states states' same (Needed j) h.kept;
  rising = rising_as view states states' same h.rising;
  apart = apart_as view states states' same h.apart;
  stands = λ v cs is count chosen.
      stands_in_as view d (Among (items j)) states states' same v (leads ls 0 cs) (h.stands v cs is count chosen);
  views = views_as view d (Among (items j)) states states' same h.views;
  counted = h.counted;
}

-- ---- steps where other nodes stand

-- A STEP IS ONE WHERE ITS NODES ARE MAPPED
pub step_on : (f : ℕ → ℕ) → KeepsOrder f → (view : View) (keep : List ℕ) (states letters next : List Answers)
    (edges : List ℕ) → IsStep view keep states letters next edges →
    IsStep view (map f keep) (map (mapped f) states) (map (mapped f) letters) (map (mapped f) next) edges
step_on f order view keep states letters next edges s =
    let w : length (map (mapped f) letters) ≡ length letters = length-map letters (mapped f) in
    let tall : length (map (mapped f) states) ≡ length states = length-map states (mapped f) in
    record {
      len = cc (s.len, w, tall);
      carried = λ p x y p_in at_x at_y.
          let (a, at_a, is_a) = of_mapped (mapped f) states (p / length letters) x
          (ap (λ n. slice_get (map (mapped f) states) (p / n)) (sym w) ∙ at_x) in
          let (b, at_b, is_b) = of_mapped (mapped f) letters (p % length letters) y
          (ap (λ n. slice_get (map (mapped f) letters) (p % n)) (sym w) ∙ at_y) in
          let c = s.carried p a b p_in at_a at_b in
          record {
            value = mapped f c.value;
            listed = at_mapped (mapped f) next (slice_index edges p) c.value c.listed;
            composes =
                subst (λ z. ComposesIn view x z (mapped f c.value)) is_b
                (subst (λ z. ComposesIn view z (mapped f b) (mapped f c.value)) is_a
                (composes_map f order view a b c.value c.composes));
          };
      kept = kept_on f order keep next s.kept;
      rising = rising_on f order next s.rising;
      apart = apart_on f order view next s.apart;
      hit = λ t r at. let (x, here, is) = of_mapped (mapped f) next t r at in s.hit t x here;
    }
