-- The edges of a plan's layers, one layer after another, and when they pass a limit.
use Rattle.std.proofs.Common.{◌≡◌, ℕ, ◌+◌, ◌-◌, ◌*◌, ◌<◌, ◌≤◌, Bool, List, [], ◌∷◌, ◌++◌, length, slice_get, Some}
use Rattle.std.proofs.Common.{refl, sym, ap, ◌∙◌, subst, inl, inr, arith}
use Rattle.std.proofs.lemmas.List.{length-map, length_push}
use Rattle.std.proofs.lemmas.List.Sums.{sum_by_push}
use Rattle.std.proofs.lemmas.Option.{slice_get_within, slice_get_cases, same_Some}
use Rattle.station_graph.proofs.PathLemmas.{slice_get-push}
use Rattle.contraction.specs.Answers.{Answers}
use Rattle.contraction.specs.Stands.{Among}
use Rattle.part_alphabets.specs.Counting.{AreSoMany}
use Rattle.decision_graphs.specs.Label.{Layer}
use Rattle.judge_pool.specs.declared.view.View.{View}
use Rattle.judge_pool.specs.declared.pool.Pool.{Pool}
use Rattle.judge_pool.specs.Counted.{Size, edges_in, AreAtLeast, Spends}
use Rattle.judge_pool.specs.Pooling.{GrewTo}
use Rattle.judge_pool.specs.Folding.{IsExact, ReachesMore}
use Rattle.judge_pool.specs.Layering.{values_at}
use Rattle.judge_pool.specs.Pooling.{AreEdges}
use Rattle.judge_pool.specs.Plans.{Plan, PlanHas, PlanPasses, SameBefore, plan_diagram}
use Rattle.judge_pool.specs.Plans.{ChosenBy, items_of, NeededBy}
use Rattle.judge_pool.proofs.BridgeLemmas.{reached_by_edges}
use Rattle.judge_pool.proofs.CountLemmas.{at_least_of, views_so_many}
use Rattle.judge_pool.proofs.LayeringLemmas.{sound}
use Rattle.judge_pool.proofs.PlanLemmas.{values_more}

module _ (Many : (List Bool → List Bool → Type 0) → ℕ → Type 0) (view : View) (plan : Plan)
    (letters : List (List ℕ)) where
  pub plan_none : PlanHas view plan letters 0 Many 0
  plan_none = record { sizes = []; len = refl; views = λ j s at. cc; choices = λ j s ids at. cc; all = refl }

  pub plan_more : (n edges count : ℕ) (ids : List ℕ) → PlanHas view plan letters n Many edges →
      slice_get letters n ≡ Some ids → Many (SameBefore view plan n) count →
      PlanHas view plan letters (n + 1) Many (edges + count * length ids)
  plan_more n edges count ids h at_n many =
      let new : Size = record { views = count; choices = length ids } in
      record {
        sizes = h.sizes ++ new ∷ [];
        len = omega (arith, length_push h.sizes new, h.len);
        views = λ j s at. elim (slice_get-push h.sizes new s j at) [
          | inl before ↦ h.views j s before
          | inr here ↦
              subst (λ (z : Size). Many (SameBefore view plan j) z.views) here.1
              (subst (λ k. Many (SameBefore view plan k) count) (sym (here.0 ∙ h.len)) many)
        ];
        choices = λ j s xs at at_j. elim (slice_get-push h.sizes new s j at) [
          | inl before ↦ h.choices j s xs before at_j
          | inr here ↦
              sym (ap (λ (z : Size). z.choices) here.1)
              ∙ ap length (same_Some ids xs (sym at_n ∙ (ap (slice_get letters) (sym (here.0 ∙ h.len)) ∙ at_j)))
        ];
        all = omega (arith, sum_by_push edges_in h.sizes new, h.all);
      }

pub plan_at_least : (view : View) (plan : Plan) (letters : List (List ℕ)) (n edges : ℕ) →
    PlanHas view plan letters n (AreSoMany (plan_diagram plan)) edges →
    PlanHas view plan letters n (AreAtLeast (plan_diagram plan)) edges
plan_at_least view plan letters n edges h = record {
  sizes = h.sizes;
  len = h.len;
  views = λ j s at. at_least_of (plan_diagram plan) (SameBefore view plan j) s.views (h.views j s at);
  choices = h.choices;
  all = h.all;
}

module _ (view : View) (plan : Plan) (letters : List (List ℕ)) (j limit left count : ℕ) (ids : List ℕ)
    (h : Spends (PlanHas view plan letters j) (plan_diagram plan) limit left)
    (at_j : slice_get letters j ≡ Some ids) where
  -- one layer more is spent
  pub plan_spends : AreSoMany (plan_diagram plan) (SameBefore view plan j) count → count * length ids ≤ left →
      Spends (PlanHas view plan letters (j + 1)) (plan_diagram plan) limit (left - count * length ids)
  plan_spends many few = record {
    edges = h.edges + count * length ids;
    has = plan_more (AreSoMany (plan_diagram plan)) view plan letters j h.edges count ids h.has at_j many;
    all = omega (arith, h.all, few);
  }

  -- one layer more is too much
  pub plan_passes : AreAtLeast (plan_diagram plan) (SameBefore view plan j) count → left < count * length ids →
      PlanPasses view plan letters limit
  plan_passes many past = record {
    layers = j + 1;
    within = omega (arith, slice_get_within letters j ids at_j);
    first = record {
      edges = h.edges + count * length ids;
      has =
          plan_more (AreAtLeast (plan_diagram plan)) view plan letters j h.edges count ids
          (plan_at_least view plan letters j h.edges h.has) at_j many;
      past = omega (arith, h.all, past);
    };
  }

-- at least so many views before the next layer are too many for its choices
pub passes_next : (view : View) (plan : Plan) (letters : List (List ℕ)) (j limit left count most : ℕ) →
    Spends (PlanHas view plan letters (j + 1)) (plan_diagram plan) limit left →
    AreAtLeast (plan_diagram plan) (SameBefore view plan (j + 1)) count →
    ((ids : List ℕ) → slice_get letters (j + 1) ≡ Some ids → 0 < length ids → left < count * length ids) →
    ((i : ℕ) (ids : List ℕ) → slice_get letters i ≡ Some ids → 0 < length ids) → (length letters ≤ j + 1 → ⊥) →
    PlanPasses view plan letters limit
passes_next view plan letters j limit left count most spent many past some not_last =
    elim ((slice_get_cases letters (j + 1)).1) [
      | inl w ↦
          plan_passes view plan letters (j + 1) limit left count w.0 spent w.2 many
          (past w.0 w.2 (some (j + 1) w.0 w.2))
      | inr w ↦ absurd (not_last (omega (arith, w.0)))
    ]

-- the states are as many as the distinct views
pub states_count : (view : View) (plan : Plan) (j : ℕ) (ls : List Layer) (states : List Answers) →
    IsExact view (plan_diagram plan) (ChosenBy plan) (items_of plan) (NeededBy plan) j ls states →
    AreSoMany (plan_diagram plan) (SameBefore view plan j) (length states)
states_count view plan j ls states e =
    views_so_many view (Among (items_of plan j)) (plan_diagram plan) (NeededBy plan j) states e.kept e.rising e.apart
    e.views.made e.views.cover

-- edges that lead to more values than a limit
pub more_reached : (p q : Pool) → GrewTo p q → (nodes states letters next edges : List ℕ) (n most : ℕ) →
    ((k i : ℕ) → slice_get states k ≡ Some i → i < length p.values.items) →
    ((c i : ℕ) → slice_get letters c ≡ Some i → i < length p.values.items) →
    AreEdges q.view q.values.items nodes states letters next edges n → length next ≤ n →
    n ≤ length states * length letters → most < length next →
    ReachesMore p.view nodes (values_at p.values.items states) (values_at p.values.items letters) most
more_reached p q g nodes states letters next edges n most states_in letters_in e few_next few past =
    let reached = reached_by_edges q.view q.values.items nodes states letters next edges n e g.is_pool.apart
    (sound q g.is_pool).rising in
    let states_same = values_more p.values.items q.values.items states g.values states_in in
    let letters_same = values_more p.values.items q.values.items letters g.values letters_in in
    let all : ReachesMore q.view nodes (values_at q.values.items states) (values_at q.values.items letters) most =
    record {
      next = values_at q.values.items next;
      reached = reached;
      past = omega (arith, past, len q next);
      few = omega (
        arith,
        few_next,
        few,
        len q next,
        ap (λ k. k * length (values_at q.values.items letters)) (len q states),
        ap (λ k. length states * k) (len q letters),
      );
    } in
    subst (λ w. ReachesMore w nodes (values_at p.values.items states) (values_at p.values.items letters) most) g.view
    (subst (λ xs. ReachesMore q.view nodes xs (values_at p.values.items letters) most) states_same
    (subst (λ xs. ReachesMore q.view nodes (values_at q.values.items states) xs most) letters_same all))
  where
    len : (r : Pool) (ids : List ℕ) → length (values_at r.values.items ids) ≡ length ids
    len r ids = length-map ids _
