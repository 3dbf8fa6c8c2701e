-- The edges of a moved switch's graph are those of the layers that it is folded of.
use Rattle.std.proofs.Common.{◌≡◌, ℕ, ◌*◌, ◌<◌, zero, suc, Bool, List, [], ◌∷◌, length, map, slice_get}
use Rattle.std.proofs.Common.{Some, sum, sym, ap, ◌∙◌, refl, subst, arith}
use Rattle.std.specs.Prelude.{sum_by}
use Rattle.std.proofs.lemmas.List.{length-map}
use Rattle.std.proofs.lemmas.List.Sums.{sum_by-cons, sum-map}
use Rattle.std.proofs.lemmas.Option.{slice_get_within, same_Some}
use Rattle.station_graph.specs.Diagram.{Diagram}
use Rattle.contraction.specs.Stands.{Among}
use Rattle.part_alphabets.specs.Counting.{AreDistinct, AreSoMany}
use Rattle.judge_pool.specs.declared.pool.Pool.{Pool}
use Rattle.judge_pool.specs.declared.view.View.{View}
use Rattle.judge_pool.specs.Seen.{SameView}
use Rattle.judge_pool.specs.Graphs.{other_of}
use Rattle.judge_pool.specs.Listing.{parts_before}
use Rattle.judge_pool.specs.Needing.{IsNeededOuter}
use Rattle.judge_pool.specs.Counted.{AreAtLeast, Size, edges_in, Spends}
use Rattle.judge_pool.specs.Plans.{outer_plan, SameBefore, PlanHas, PlanPasses}
use Rattle.judge_intake.proofs.OtherLemmas.{element}
use Rattle.judge_intake.proofs.OuterLemmas.{before_has}
use Rattle.judge_intake.proofs.OuterFits.{before_to, outer_items}
use Rattle.step_graphs.specs.declared.step.Step.{Step}
use Rattle.step_graphs.specs.Steps.{AreSteps}
use Rattle.step_graphs.specs.Needing.{IsNeeded}
use Rattle.step_graphs.specs.Edges.{TakenBefore, SameSteps, StepsHave, StepsPass, StepsKeep}
use Rattle.step_graphs.specs.Ready.{IsStepReady}
use Rattle.step_graphs.proofs.Spread.{spread, spread_has, has_spread, spread_switches}
use Rattle.step_graphs.proofs.SpreadParts.{place_has, has_place, needed_same}
use Rattle.step_graphs.proofs.ViewTransfer.{view_to}
use Rattle.step_graphs.proofs.StepFits.{step_letters, two_each}

-- what stands in a list that is mapped
mapped_from : {X Y : Type 0} (f : X → Y) (xs : List X) (i : ℕ) (y : Y) → slice_get (map f xs) i ≡ Some y →
    (x : X) × (slice_get xs i ≡ Some x) × (f x ≡ y)
mapped_from f [] i y e = cc
mapped_from f (x ∷ xs) zero y e = (x, refl, same_Some (f x) y e)
mapped_from f (x ∷ xs) (suc i) y e = mapped_from f xs i y e

views_of : List Size → List ℕ
views_of sizes = map (λ (s : Size). s.views) sizes

-- two edges for each view
doubled : (sizes : List Size) → ((j : ℕ) (s : Size) → slice_get sizes j ≡ Some s → s.choices ≡ 2) →
    2 * sum_by (λ (s : Size). s.views) sizes ≡ sum_by edges_in sizes
doubled [] two = refl
doubled (s ∷ ss) two =
    let rest = doubled ss (λ j x at. two (suc j) x at) in
    let here : s.views * s.choices ≡ s.views * 2 = ap (λ n. s.views * n) (two 0 s refl) in
    omega (arith, rest, here, sum_by-cons (λ (x : Size). x.views) s ss, sum_by-cons edges_in s ss)

twice : (sizes : List Size) → ((j : ℕ) (s : Size) → slice_get sizes j ≡ Some s → s.choices ≡ 2) →
    2 * sum (views_of sizes) ≡ sum_by edges_in sizes
unfolding views_of
twice sizes two = ap (λ n. 2 * n) (sum-map (λ (s : Size). s.views) sizes) ∙ doubled sizes two

module _ (d : Diagram) (steps : List Step) (are : AreSteps d steps) (b others : ℕ) (p : Pool) (start : ℕ)
    (letters : List (List ℕ)) (keeps : List ℕ) (ready : IsStepReady p d steps b others start letters keeps) where
  same_before : (view : View) (j : ℕ) (v w : List Bool) → SameSteps view d steps b j v w →
      SameBefore view (outer_plan (step_letters d steps are b others p start letters keeps ready) b) j v w
  same_before view j v w s =
      subst (λ xs. SameView view (IsNeededOuter (spread d steps) b j) (Among xs) (spread d steps) v w)
      (sym (outer_items (step_letters d steps are b others p start letters keeps ready) b j))
      (view_to d (spread d steps) (spread_has d steps) (has_spread d steps) (TakenBefore steps b j)
      (Among (parts_before (spread d steps) b j))
      (λ it t. before_to (spread d steps) b j t.0 it t.1 (has_place d steps are (other_of 0 b t.0) it t.2))
      (λ it among.
      let r = before_has (spread d steps) b j it among in
      (r.0, r.1, place_has d steps are (other_of 0 b r.0) it r.2))
      (IsNeeded d steps b j) (IsNeededOuter (spread d steps) b j) (λ n. (needed_same d steps are b j n).1) v w view s)

  before_same : (view : View) (j : ℕ) (v w : List Bool) →
      SameBefore view (outer_plan (step_letters d steps are b others p start letters keeps ready) b) j v w →
      SameSteps view d steps b j v w
  before_same view j v w s =
      view_to (spread d steps) d (has_spread d steps) (spread_has d steps) (Among (parts_before (spread d steps) b j))
      (TakenBefore steps b j)
      (λ it among.
      let r = before_has (spread d steps) b j it among in
      (r.0, r.1, place_has d steps are (other_of 0 b r.0) it r.2))
      (λ it t. before_to (spread d steps) b j t.0 it t.1 (has_place d steps are (other_of 0 b t.0) it t.2))
      (IsNeededOuter (spread d steps) b j) (IsNeeded d steps b j) (λ n. (needed_same d steps are b j n).0) v w view
      (subst (λ xs. SameView view (IsNeededOuter (spread d steps) b j) (Among xs) (spread d steps) v w)
      (outer_items (step_letters d steps are b others p start letters keeps ready) b j) s)

  distinct_here : (view : View) (j : ℕ) (list : List (List Bool)) →
      AreDistinct (spread d steps)
      (SameBefore view (outer_plan (step_letters d steps are b others p start letters keeps ready) b) j) list →
      AreDistinct d (SameSteps view d steps b j) list
  distinct_here view j list h = record {
    vectors = λ i v at. h.vectors i v at ∙ spread_switches d steps;
    apart = λ i k v w at_i at_k s. h.apart i k v w at_i at_k (same_before view j v w s);
  }

  at_least : (view : View) (j n : ℕ) →
      AreAtLeast (spread d steps)
      (SameBefore view (outer_plan (step_letters d steps are b others p start letters keeps ready) b) j) n →
      AreAtLeast d (SameSteps view d steps b j) n
  at_least view j n h = record {
    list = h.list;
    distinct = distinct_here view j h.list h.distinct;
    count = h.count;
  }

  so_many : (view : View) (j n : ℕ) →
      AreSoMany (spread d steps)
      (SameBefore view (outer_plan (step_letters d steps are b others p start letters keeps ready) b) j) n →
      AreSoMany d (SameSteps view d steps b j) n
  so_many view j n h = record {
    list = h.list;
    distinct = distinct_here view j h.list h.distinct;
    all = λ v whole.
        let e = h.all v (whole ∙ sym (spread_switches d steps)) in
        record {
          place = e.place;
          entry = e.entry;
          listed = e.listed;
          same = before_same view j v e.entry e.same;
        };
    count = h.count;
  }

  module _ (held : List (List ℕ)) (same : held ≡ letters) (view : View)
      (There Here : (List Bool → List Bool → Type 0) → ℕ → Type 0)
      (so : (j n : ℕ) →
      There (SameBefore view (outer_plan (step_letters d steps are b others p start letters keeps ready) b) j) n →
      Here (SameSteps view d steps b j) n) where
    two_choices : (n edges : ℕ) → n < suc (length held) →
        (h : PlanHas view (outer_plan (step_letters d steps are b others p start letters keeps ready) b) held n There
        edges) → (j : ℕ) (s : Size) → slice_get h.sizes j ≡ Some s → s.choices ≡ 2
    two_choices n edges few h j s at =
        let lt : j < length held = omega (arith, slice_get_within h.sizes j s at, h.len, few) in
        let (ids, at_ids) = element held j lt in
        h.choices j s ids at at_ids
        ∙ two_each d steps are b others p start letters keeps ready j ids
        (ap (λ (ls : List (List ℕ)). slice_get ls j) (sym same) ∙ at_ids)

    have : (n edges : ℕ) → n < suc (length held) →
        PlanHas view (outer_plan (step_letters d steps are b others p start letters keeps ready) b) held n There edges →
        StepsHave view d steps b n Here edges
    unfolding views_of
    have n edges few h = record {
      sizes = views_of h.sizes;
      len = length-map h.sizes (λ (s : Size). s.views) ∙ h.len;
      views = λ j size at.
          let (s, at_s, is) = mapped_from (λ (x : Size). x.views) h.sizes j size at in
          so j size
          (subst (λ k. There
          (SameBefore view (outer_plan (step_letters d steps are b others p start letters keeps ready) b) j) k) is
          (h.views j s at_s));
      all = twice h.sizes (two_choices n edges few h) ∙ h.all;
    }

  module _ (held : List (List ℕ)) (same : held ≡ letters) (view : View) where
    pub steps_pass : (limit : ℕ) →
        PlanPasses view (outer_plan (step_letters d steps are b others p start letters keeps ready) b) held limit →
        StepsPass view d steps b limit
    steps_pass limit h =
        let few : h.layers < suc (length held) = omega (arith, h.within) in
        record {
          others = h.layers;
          within = omega (arith, h.within, ap length same, ready.letters_of.len, ready.count);
          first = record {
            edges = h.first.edges;
            has =
                have held same view (AreAtLeast (spread d steps)) (AreAtLeast d) (at_least view) h.layers h.first.edges
                few h.first.has;
            past = h.first.past;
          };
        }

    pub steps_keep : (limit left : ℕ) →
        Spends
        (PlanHas view (outer_plan (step_letters d steps are b others p start letters keeps ready) b) held (length held))
        (spread d steps) limit left → StepsKeep view d steps b limit
    steps_keep limit left h = record {
      others = length held;
      count = omega (arith, ap length same, ready.letters_of.len, ready.count);
      edges = h.edges;
      has =
          have held same view (AreSoMany (spread d steps)) (AreSoMany d) (so_many view) (length held) h.edges
          (omega arith) h.has;
      few = omega (arith, h.all);
    }
