-- What an inner graph that was noted is for a switch that takes in the same by places.
use Rattle.std.proofs.Common.{◌≡◌, ℕ, ◌+◌, ◌<◌, ◌∙◌, suc, List, [], length, map, get_or, slice_get, Some, sym, ap}
use Rattle.std.proofs.Common.{subst, arith}
use Rattle.std.proofs.lemmas.Option.{slice_get-get_or}
use Rattle.contraction.specs.Renaming.{KeepsOrder, mapped}
use Rattle.part_alphabets.specs.Counting.{AreSoMany}
use Rattle.decision_graphs.specs.Label.{Layer, Layered, layer_at}
use Rattle.judge_pool.specs.declared.pool.Pool.{Pool}
use Rattle.judge_graphs.specs.declared.noted.Intake.{Intake}
use Rattle.judge_graphs.specs.declared.noted.TakenGraph.{TakenGraph}
use Rattle.judge_pool.specs.Lettered.{Lettered}
use Rattle.judge_pool.specs.Places.{pool_on}
use Rattle.judge_pool.specs.Layering.{values_at}
use Rattle.judge_pool.specs.Folding.{IsExact}
use Rattle.judge_pool.specs.Counted.{InnerHas, Spends, Passes}
use Rattle.judge_pool.specs.Plans.{Plan, inner_plan, ChosenBy, items_of, NeededBy, PlanHas, PlanPasses, PlanFits}
use Rattle.judge_pool.specs.Plans.{AreLinked}
use Rattle.judge_intake.specs.Ready.{IsInnerReady}
use Rattle.judge_graphs.specs.Noting.{letter_rows, AreLaid, IsTaken}
use Rattle.judge_pool.proofs.LayeringLemmas.{Grows}
use Rattle.judge_pool.proofs.MappedPools.{grows_on, linked_off}
use Rattle.judge_graphs.proofs.NotingLemmas.{laid_same, fits_stays}
use Rattle.judge_pool.proofs.ChoiceLemmas.{plain_choices}
use Rattle.judge_graphs.proofs.InnerFits.{inner_fits}
use Rattle.judge_graphs.proofs.InnerGraphs.{inner_linked}
use Rattle.judge_graphs.proofs.InnerEdges.{inner_spends, inner_passes}

module _ (a : Lettered) (b m first others : ℕ) (f : ℕ → ℕ) (order : KeepsOrder f) (p : Pool) (i : Intake)
    (names : List ℕ)
    (ready : IsInnerReady a b m first others (pool_on f p) i.start names (letter_rows i) i.keeps.items) where
  abbrev pub plan_on : Plan
  plan_on = inner_plan p.view a b m first others (values_at (map (mapped f) p.values.items) names)

  pub taken_linked : AreLinked p i.start (letter_rows i) i.keeps.items
  taken_linked =
      linked_off f order p i.start (letter_rows i) i.keeps.items
      (inner_linked a b m first others (pool_on f p) i.start names (letter_rows i) i.keeps.items ready)

  pub fits_on : PlanFits plan_on (pool_on f p) i.start (letter_rows i) i.keeps.items
  fits_on = inner_fits a b m first others (pool_on f p) i.start names (letter_rows i) i.keeps.items ready

  pub taken_passes : (limit : ℕ) → PlanPasses p.view plan_on (letter_rows i) (limit + length names) →
      Passes (InnerHas p.view a.diagram b m first others others) a.diagram limit
  taken_passes limit h =
      inner_passes a b m first others (pool_on f p) i.start names (letter_rows i) i.keeps.items ready limit h

  module _ (q : Pool) (budget : ℕ) (o : TakenGraph) (g : Grows p q) (t : IsTaken q i budget o) where
    laid : AreLaid q i.start (letter_rows i) i.keeps.items o.names.items t.note.edges t.right.layers
    laid =
        laid_same q t.note.intake i t.note.names.items o.names.items t.note.edges t.right.layers t.same
        (sym t.names) t.right.laid

    fits : PlanFits plan_on (pool_on f q) i.start (letter_rows i) i.keeps.items
    fits =
        fits_stays (pool_on f p) (pool_on f q) (grows_on f p q g) i.start (letter_rows i) i.keeps.items
        (inner_linked a b m first others (pool_on f p) i.start names (letter_rows i) i.keeps.items ready)
        plan_on fits_on

    pub taken_exact : IsExact p.view a.diagram (ChosenBy plan_on) (items_of plan_on) (NeededBy plan_on) (suc others)
        t.right.layers (values_at (map (mapped f) q.values.items) o.names.items)
    taken_exact =
        subst (λ w. IsExact w a.diagram (ChosenBy plan_on) (items_of plan_on) (NeededBy plan_on) (suc others)
        t.right.layers (values_at (map (mapped f) q.values.items) o.names.items)) g.view
        (subst (λ n. IsExact q.view a.diagram (ChosenBy plan_on) (items_of plan_on) (NeededBy plan_on) n t.right.layers
        (values_at (map (mapped f) q.values.items) o.names.items)) ready.rows.len (laid.exact f plan_on order fits))

    pub taken_spends : (limit : ℕ) → budget ≡ limit + length names →
        Spends (InnerHas p.view a.diagram b m first others others) a.diagram limit o.left
    taken_spends limit is =
        inner_spends a b m first others (pool_on f p) i.start names (letter_rows i) i.keeps.items ready limit
        o.left (record {
          edges = t.note.edges;
          has = subst (λ n. PlanHas p.view plan_on (letter_rows i) n (AreSoMany a.diagram) t.note.edges) ready.rows.len
              (subst (λ w. PlanHas w plan_on (letter_rows i) (length (letter_rows i)) (AreSoMany a.diagram)
              t.note.edges) g.view
              (laid.has f plan_on order fits));
          all = t.all ∙ is;
        })

    pub taken_first : (layer_at t.right.layers 0).choices ≡ length names
    taken_first = plain_choices t.right.layers (letter_rows i) 0 names laid.choices ready.rows.first_row

    pub taken_two : (k : ℕ) → k < others → (layer_at t.right.layers (suc k)).choices ≡ 2
    taken_two k lt =
        let row : List ℕ = get_or (letter_rows i) (suc k) [] in
        let at : slice_get (letter_rows i) (suc k) ≡ Some row =
        slice_get-get_or (letter_rows i) (suc k) [] (omega (arith, lt, ready.rows.len)) in
        plain_choices t.right.layers (letter_rows i) (suc k) row laid.choices at
        ∙ ap length (ready.rows.pairs k row at).two

    pub taken_choices : map (λ (l : Layer). l.choices) o.graph.value.layers ≡ map (λ (l : Layer). l.choices) t.right.layers
    taken_choices = ap (λ (h : Layered). map (λ (l : Layer). l.choices) h.layers) t.graph ∙ t.right.same_choices
