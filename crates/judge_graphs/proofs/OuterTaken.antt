-- What an outer graph that was noted is for a bay that takes in the same.
use Rattle.std.proofs.Common.{◌≡◌, ℕ, ◌<◌, ◌≤◌, ◌∙◌, suc, List, [], length, map, get_or, slice_get, Some, refl, sym, ap}
use Rattle.std.proofs.Common.{subst, arith}
use Rattle.std.proofs.lemmas.Option.{slice_get-get_or}
use Rattle.std.proofs.lemmas.List.{length-map}
use Rattle.station_graph.specs.Diagram.{part_count, IsStation}
use Rattle.contraction.specs.Answers.{Answers}
use Rattle.part_alphabets.specs.Counting.{AreSoMany}
use Rattle.decision_graphs.specs.Label.{Layer, Layered, layer_at, label_of, AreLayers, AreReduced}
use Rattle.judge_pool.specs.declared.pool.Pool.{Pool}
use Rattle.judge_graphs.specs.declared.noted.Intake.{Intake}
use Rattle.judge_graphs.specs.declared.noted.TakenGraph.{TakenGraph}
use Rattle.judge_pool.specs.Lettered.{Lettered, index_count}
use Rattle.judge_pool.specs.Pooling.{GrewTo}
use Rattle.judge_pool.specs.Layering.{values_at, no_answers}
use Rattle.judge_pool.specs.Graphs.{other_of, PartChosen, IsOuter}
use Rattle.judge_pool.specs.Needing.{IsNeededOuter}
use Rattle.judge_pool.specs.Folding.{IsExact}
use Rattle.judge_intake.specs.Inputs.{AreNames}
use Rattle.judge_pool.specs.Counted.{OuterHas, Spends, OuterIsSmall}
use Rattle.judge_pool.specs.Places.{pool_on}
use Rattle.judge_pool.specs.Plans.{outer_plan, items_of, PlanHas, PlanFits, AreLinked}
use Rattle.judge_intake.specs.Ready.{IsOuterReady}
use Rattle.judge_graphs.specs.Noting.{letter_rows, AreLaid, IsTaken}
use Rattle.judge_pool.proofs.LayeringLemmas.{grows}
use Rattle.judge_pool.proofs.MappedPools.{values_at_self, order_self}
use Rattle.judge_graphs.proofs.NotingLemmas.{laid_same, fits_stays, linked_stays, fits_self}
use Rattle.judge_pool.proofs.ChoiceLemmas.{plain_choices}
use Rattle.judge_intake.proofs.OuterFits.{outer_fits, outer_named}
use Rattle.judge_graphs.proofs.OuterEdges.{outer_spends}
use Rattle.judge_graphs.proofs.OuterGraphs.{outer_linked, outer_same, outer_small, names_of}

module _ (a : Lettered) (b others budget : ℕ) (p q : Pool) (i : Intake) (o : TakenGraph) (station : IsStation a.diagram)
    (count : suc others ≡ part_count a.diagram) (b_in : b < part_count a.diagram)
    (ready : IsOuterReady a b p i.start (letter_rows i) i.keeps.items) (g : GrewTo p q) (t : IsTaken q i budget o) where
  laid : AreLaid q i.start (letter_rows i) i.keeps.items o.names.items t.note.edges t.right.layers
  laid =
      laid_same q t.note.intake i t.note.names.items o.names.items t.note.edges t.right.layers t.same
      (sym t.names) t.right.laid

  linked : AreLinked p i.start (letter_rows i) i.keeps.items
  linked = outer_linked a b p i.start (letter_rows i) i.keeps.items ready

  fits : PlanFits (outer_plan a b) (pool_on (λ n. n) q) i.start (letter_rows i) i.keeps.items
  fits =
      fits_self q i.start (letter_rows i) i.keeps.items
      (linked_stays p q (grows p q g) i.start (letter_rows i) i.keeps.items linked) (outer_plan a b)
      (fits_stays p q (grows p q g) i.start (letter_rows i) i.keeps.items linked (outer_plan a b)
      (outer_fits a b p i.start (letter_rows i) i.keeps.items ready))

  rows_count : length (letter_rows i) ≡ others
  rows_count = omega (arith, ready.count, count)

  names_count : length (values_at q.values.items o.names.items) ≡ length o.names.items
  names_count = length-map o.names.items (λ k. get_or q.values.items k no_answers)

  exact : IsExact p.view a.diagram (PartChosen a b) (items_of (outer_plan a b)) (IsNeededOuter a.diagram b) others
      t.right.layers (values_at q.values.items o.names.items)
  exact =
      subst (λ w. IsExact w a.diagram (PartChosen a b) (items_of (outer_plan a b)) (IsNeededOuter a.diagram b) others
      t.right.layers (values_at q.values.items o.names.items)) g.view
      (subst (λ n. IsExact q.view a.diagram (PartChosen a b) (items_of (outer_plan a b)) (IsNeededOuter a.diagram b) n
      t.right.layers (values_at q.values.items o.names.items)) rows_count (subst
      (λ xs. IsExact q.view a.diagram (PartChosen a b) (items_of (outer_plan a b)) (IsNeededOuter a.diagram b)
      (length (letter_rows i)) t.right.layers xs) (values_at_self q.values.items o.names.items)
      (laid.exact (λ n. n) (outer_plan a b) order_self fits)))

  indices : (j : ℕ) → j < others → (layer_at t.right.layers j).choices ≡ index_count a (other_of 0 b j)
  indices j lt =
      let row : List ℕ = get_or (letter_rows i) j [] in
      let at : slice_get (letter_rows i) j ≡ Some row =
      slice_get-get_or (letter_rows i) j [] (omega (arith, lt, rows_count)) in
      plain_choices t.right.layers (letter_rows i) j row laid.choices at ∙ (ready.rows.each j row at).len

  choices : map (λ (l : Layer). l.choices) o.graph.value.layers ≡ map (λ (l : Layer). l.choices) t.right.layers
  choices = ap (λ (h : Layered). map (λ (l : Layer). l.choices) h.layers) t.graph ∙ t.right.same_choices

  pub taken_outer : AreLayers o.graph.value.labels o.graph.value.layers →
      IsOuter p.view a b o.graph.value (values_at q.values.items o.names.items)
  taken_outer layered =
      let names : List Answers = values_at q.values.items o.names.items in
      outer_same p.view a b names (record { labels = length names; layers = t.right.layers }) o.graph.value
      (outer_named a b others station count b_in p.view t.right.layers names exact
      (λ j lt. indices j (omega (arith, lt, exact.count))))
      (ap (λ (h : Layered). h.labels) t.graph ∙ (t.right.labels ∙ (ap length (sym t.names) ∙ sym names_count)))
      choices
      (λ cs h. ap (λ (k : Layered). label_of k cs) t.graph ∙ t.right.label cs h)
      layered

  pub taken_small : OuterIsSmall p.view a.diagram b o.graph.value
  taken_small =
      outer_small p.view a b others t.right.layers (values_at q.values.items o.names.items)
      (record { labels = 0; layers = t.right.layers }) o.graph.value exact refl choices
      (λ j. subst (λ (h : Layered). length (layer_at h.layers j).rows ≤ length (layer_at t.right.layers j).rows)
      (sym t.graph) (t.right.sizes j))

  pub taken_names : AreNames q a.diagram b o.names.items
  taken_names =
      names_of a b others p q t.right.layers o.names.items station count b_in g.view exact
      (λ k n at. t.right.within k n (ap (λ xs. slice_get xs k) (sym t.names) ∙ at))
      names_count

  pub taken_spends : Spends (OuterHas p.view a.diagram b others) a.diagram budget o.left
  taken_spends =
      subst (λ n. Spends (OuterHas p.view a.diagram b n) a.diagram budget o.left) rows_count
      (outer_spends p.view a b p i.start (letter_rows i) i.keeps.items ready budget o.left (record {
        edges = t.note.edges;
        has =
            subst (λ w. PlanHas w (outer_plan a b) (letter_rows i) (length (letter_rows i)) (AreSoMany a.diagram)
            t.note.edges)
            g.view (laid.has (λ n. n) (outer_plan a b) order_self fits);
        all = t.all;
      }))

  pub taken_left : o.left ≤ budget
  taken_left = omega (arith, t.all)

  pub taken_reduced : AreReduced o.graph.value.layers
  taken_reduced = subst (λ (h : Layered). AreReduced h.layers) (sym t.graph) t.right.reduced
