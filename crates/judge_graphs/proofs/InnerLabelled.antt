-- What an inner graph is whose labels say what holds of its switch.
use Rattle.std.proofs.Common.{◌≡◌, ◌∙◌, ℕ, ◌+◌, ◌<◌, ◌≤◌, ◌↔◌, suc, List, length, map, get_or, slice_get, Some, refl}
use Rattle.std.proofs.Common.{sym, ap, subst, inr, arith}
use Rattle.std.specs.Prelude.{Contains}
use Rattle.std.proofs.lemmas.List.{length-map}
use Rattle.contraction.specs.Answers.{Answers, Keeps, AreNodes}
use Rattle.contraction.specs.Renaming.{mapped}
use Rattle.contraction.proofs.MappedLemmas.{keeps_map}
use Rattle.decision_graphs.specs.Label.{Layer, Layered, layer_at, label_of}
use Rattle.judge_pool.specs.declared.pool.Pool.{Pool}
use Rattle.judge_graphs.specs.declared.noted.Intake.{Intake}
use Rattle.judge_graphs.specs.declared.noted.Noted.{Noted}
use Rattle.judge_pool.specs.Lettered.{Lettered}
use Rattle.judge_pool.specs.Places.{node_listed, pool_on}
use Rattle.judge_pool.specs.Layering.{values_at, no_answers}
use Rattle.judge_pool.specs.Needing.{IsNeededInner, BayNeeds}
use Rattle.judge_pool.specs.Graphs.{IsInner}
use Rattle.judge_intake.specs.Coding.{AreCodes, KeepsEnds}
use Rattle.judge_pool.specs.Counted.{InnerHas, Spends, InnerIsSmall}
use Rattle.judge_intake.specs.Ready.{IsInnerReady}
use Rattle.judge_graphs.specs.Noting.{letter_rows, IsTaken}
use Rattle.judge_graphs.specs.Labelling.{IsLabelled}
use Rattle.judge_pool.proofs.LayeringLemmas.{Grows}
use Rattle.judge_pool.proofs.MappedPools.{at_mapped, values_on}
use Rattle.judge_pool.proofs.ChoiceLemmas.{choices_on}
use Rattle.judge_intake.proofs.NodesLemmas.{bay_inner}
use Rattle.judge_intake.proofs.PlacesLemmas.{places_rise, place_inside, needed_later}
use Rattle.judge_graphs.proofs.LabellingLemmas.{taken_of_note}
use Rattle.judge_graphs.proofs.InnerGraphs.{inner_says, inner_small, ends_kept}
use Rattle.judge_graphs.proofs.InnerTaken.{taken_exact, taken_spends, taken_first, taken_two, taken_choices}

-- layers with the same choices as some are some
some_layer : (ls ms : List Layer) (j : ℕ) → map (λ (l : Layer). l.choices) ls ≡ map (λ (l : Layer). l.choices) ms →
    length ms ≡ suc j → 0 < length ls
some_layer ls ms j same count = omega (
  arith,
  count,
  ap length same,
  length-map ls (λ (l : Layer). l.choices),
  length-map ms (λ (l : Layer). l.choices),
)

-- A note is that of the inner graph of switch m, whose layers take in what the switch's take in by places of the list,
-- and with its edges and those left these are the limit.
pub record IsNoteOf (a : Lettered) (b m first others : ℕ) (list : List ℕ) (p q : Pool) (names : List ℕ)
    (limit left : ℕ) (n : Noted) : Type 0 where
  pub intake : Intake
  pub nodes : AreNodes list
  pub ready : IsInnerReady a b m first others (pool_on (node_listed list) p) intake.start names (letter_rows intake)
      intake.keeps.items
  pub grown : Grows p q
  pub taken : IsTaken q intake (limit + length names) (taken_of_note n left)

module _ {a : Lettered} {b m first others : ℕ} {list : List ℕ} {p q : Pool} {names : List ℕ} {limit left : ℕ}
    {n : Noted} (h : IsNoteOf a b m first others list p q names limit left n) where
  -- the last values keep what the switch touches
  state_needs : (k : ℕ) (x : Answers) →
      slice_get (values_at (map (mapped (node_listed list)) q.values.items) n.names.items) k ≡ Some x → (node : ℕ) →
      Keeps x.kept node ↔ IsNeededInner a.diagram m first others others node
  state_needs k x at node =
      (taken_exact a b m first others (node_listed list) (places_rise list h.nodes) p h.intake names h.ready q
      (limit + length names) (taken_of_note n left) h.grown h.taken).kept k x at node

  pub place_within : ((node : ℕ) → Contains list node ↔ BayNeeds a.diagram b first (suc others) node) →
      (k place : ℕ) (x : Answers) → slice_get (values_at q.values.items n.names.items) k ≡ Some x →
      Keeps x.kept place → place < length list
  place_within exact k place x at kept =
      let f : ℕ → ℕ = node_listed list in
      let on : slice_get (values_at (map (mapped f) q.values.items) n.names.items) k ≡ Some (mapped f x) =
      ap (λ xs. slice_get xs k) (values_on f q.values.items n.names.items)
      ∙ at_mapped (mapped f) (values_at q.values.items n.names.items) k x at in
      let need = (state_needs k (mapped f x) on (f place)).0 (keeps_map f x.kept place kept) in
      place_inside list h.nodes place
      ((exact (f place)).1 ((bay_inner a.diagram b m first others h.ready.own (f place)).1
      (inr (needed_later a.diagram m first others others (f place) need))))

  pub state_ends : (k : ℕ) (x : Answers) →
      slice_get (values_at (map (mapped (node_listed list)) q.values.items) n.names.items) k ≡ Some x →
      KeepsEnds a.diagram m x
  state_ends k x at = ends_kept a.diagram m first others x (λ node. state_needs k x at node)

  pub name_in : (k j : ℕ) → slice_get n.names.items k ≡ Some j → j < length q.values.items
  name_in k j at = h.taken.right.within k j (ap (λ (xs : List ℕ). slice_get xs k) (sym h.taken.names) ∙ at)

  pub label_each : n.graph.value.labels ≡ length n.names.items
  label_each =
      ap (λ (g : Layered). g.labels) h.taken.graph ∙ (h.taken.right.labels ∙ ap length (sym h.taken.names))

  pub note_spends : Spends (InnerHas p.view a.diagram b m first others others) a.diagram limit left
  note_spends =
      taken_spends a b m first others (node_listed list) (places_rise list h.nodes) p h.intake names h.ready q
      (limit + length names) (taken_of_note n left) h.grown h.taken limit refl

  module _ {count : ℕ} {codes : List ℕ} {g : Layered} (labelled : IsLabelled count codes n.graph.value g) where
    pub labelled_inner : AreCodes q.view a.diagram m
        (values_at (map (mapped (node_listed list)) q.values.items) n.names.items) codes →
        IsInner p.view a b m first others (values_at (map (mapped (node_listed list)) p.values.items) names) g
    labelled_inner are =
        let f : ℕ → ℕ = node_listed list in
        let order = places_rise list h.nodes in
        let budget : ℕ = limit + length names in
        let t = h.taken in
        let states : List Answers = values_at (map (mapped f) q.values.items) n.names.items in
        let values : List Answers = map (mapped f) p.values.items in
        let exact = taken_exact a b m first others f order p h.intake names h.ready q budget (taken_of_note n left)
        h.grown t in
        let laid : Layered = record { labels = 0; layers = t.right.layers } in
        let same = taken_choices a b m first others f order p h.intake names h.ready q budget (taken_of_note n left)
        h.grown t in
        inner_says p.view a b m first others (values_at values names) h.ready.station h.ready.own h.ready.bay_in laid g
        states codes exact (subst (λ v. AreCodes v a.diagram m states codes) h.grown.view are)
        (taken_first a b m first others f order p h.intake names h.ready q budget (taken_of_note n left) h.grown t
        ∙ sym (length-map names (λ k. get_or values k no_answers)))
        (taken_two a b m first others f order p h.intake names h.ready q budget (taken_of_note n left) h.grown t)
        (labelled.same_choices ∙ same)
        (λ cs ok.
        labelled.label (some_layer n.graph.value.layers t.right.layers others same exact.count) cs
        (choices_on t.right.layers n.graph.value.layers cs same ok)
        ∙ ap (λ k. get_or codes k 0) (ap (λ (x : Layered). label_of x cs) t.graph ∙ t.right.label cs ok)) labelled.fits

    pub labelled_small : InnerIsSmall p.view a.diagram b m first others g
    labelled_small =
        let f : ℕ → ℕ = node_listed list in
        let t = h.taken in
        let exact = taken_exact a b m first others f (places_rise list h.nodes) p h.intake names h.ready q
        (limit + length names) (taken_of_note n left) h.grown t in
        let laid : Layered = record { labels = 0; layers = t.right.layers } in
        inner_small p.view a b m first others (values_at (map (mapped f) p.values.items) names) t.right.layers
        (values_at (map (mapped f) q.values.items) n.names.items) laid laid g exact refl (λ j. refl)
        (λ j.
        let small : length (layer_at n.graph.value.layers j).rows ≤ length (layer_at t.right.layers j).rows =
        subst (λ (x : Layered). length (layer_at x.layers j).rows ≤ length (layer_at t.right.layers j).rows)
        (sym t.graph) (t.right.sizes j) in
        omega (arith, labelled.sizes j, small))
