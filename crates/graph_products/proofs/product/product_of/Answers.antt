use Rattle.std.proofs.Common.{◌-◌, ◌≡◌, ℕ, ◌*◌, ◌<◌, ◌≤◌, suc, List, [], ◌∷◌, ◌++◌, length, map}
use Rattle.std.proofs.Common.{slice_get, Some, Vec, Global, refl, sym, ap, ◌∙◌, subst, arith, add-one}
use Rattle.std.specs.Prelude.{option_map}
use Rattle.std.specs.List.{sum_by}
use Rattle.std.proofs.lemmas.List.{map-append}
use Rattle.std.proofs.lemmas.List.Sums.{sum_by_push}
use Rattle.std.proofs.lemmas.Option.{slice_get_read, slice_get-map, get_or_from_slice_get}
use Rattle.decision_graphs.specs.Label.{Layer, Layered, layer_at}
use Rattle.decision_graphs.specs.declared.finished.FinishedLayer.{FinishedLayer}
use Rattle.decision_graphs.specs.Finished.{finished, layer_with, AreFinished, IsFinished}
use Rattle.decision_graphs.proofs.FinishedLemmas.{AreFinished-push}
use Rattle.graph_products.specs.declared.pair.Pair.{Pair}
use Rattle.graph_products.specs.declared.row.Row.{Row}
use Rattle.graph_products.specs.Products.{no_pair, rows_at, RowsFit, IsProductOf}
use Rattle.graph_products.proofs.ListLemmas.{size_in}
use Rattle.graph_products.specs.Layering.{AreEdges}
use Rattle.graph_products.proofs.PrefixLemmas.{IsPrefix, prefix_start, prefix_more, product_of, at_least, edges_lead}
use Rattle.graph_products.proofs.PrefixLemmas.{so_many}
use Rattle.graph_products.proofs.WideLemmas.{IsSpent, spent_none, spent_more, is_wide, has_room}
use Rattle.graph_products.proofs.product.product_of.Goals as goal

-- the lists of rows, as many as there are
length-rows : (xs : List (Vec Row Global)) → length (map (λ (v : Vec Row Global). v.items) xs) ≡ length xs
length-rows [] = refl
length-rows (x ∷ xs) = ap suc (length-rows xs)

-- the graph of so many labels and these layers
abbrev whole_of : ℕ → List Layer → Layered
whole_of n ls = record { labels = n; layers = ls }

-- what a layer's rows are
rows_there : (steps : List (Vec Row Global)) (j : ℕ) (rows : List Row) → slice_get
    (map (λ (v : Vec Row Global). v.items) steps) j ≡ Some rows →
    rows_at (map (λ (v : Vec Row Global). v.items) steps) j ≡ rows
rows_there steps j rows at = get_or_from_slice_get (map (λ (v : Vec Row Global). v.items) steps) j rows [] at

pub next_layer-requires-clause-rows : goal.next_layer-requires-clause-rows
next_layer-requires-clause-rows c =
    let j = c.steps.j in
    let rss : List (List Row) = map (λ (v : Vec Row Global). v.items) c.args.steps.now in
    let rows : List Row = c.as_slice-rows.result.now in
    let at0 : slice_get c.args.steps.now j ≡ Some c.index-steps-j.result =
    slice_get_read c.args.steps.now _ j c.index-steps-j.result refl c.steps-test.true c.index-steps-j.is in
    let at_j : slice_get rss j ≡ Some rows =
    slice_get-map (λ (v : Vec Row Global). v.items) c.args.steps.now j
    ∙ (ap (option_map (λ (v : Vec Row Global). v.items)) at0 ∙ ap Some (sym c.as_slice-rows.ensures.value)) in
    subst (λ (rs : List Row). RowsFit (layer_at c.args.first.now.layers j) (layer_at c.args.second.now.layers j) rs)
    (rows_there c.args.steps.now j rows at_j)
    (c.requires.steps.rows j (omega (arith, length-rows c.args.steps.now, c.steps-test.true)))

pub next_layer-requires-clause-states : goal.next_layer-requires-clause-states
next_layer-requires-clause-states c t x at =
    let g = c.args.first.now in
    let h = c.args.second.now in
    let j = c.steps.j in
    let len = length-rows c.args.steps.now in
    let w = c.steps.invariant.prefix.within t x (ap (λ xs. slice_get xs t) (sym c.as_slice-held.ensures.value) ∙ at) in (
      omega (arith, w.0, size_in g.labels g.layers j (omega (arith, c.requires.steps.first, len, c.steps-test.true))),
      omega (arith, w.1, size_in h.labels h.layers j (omega (arith, c.requires.steps.second, len, c.steps-test.true))),
    )

pub steps-init : goal.steps-init
steps-init c =
    let g = c.args.first.now in
    let h = c.args.second.now in
    let rss : List (List Row) = map (λ (v : Vec Row Global). v.items) c.args.steps.now in
    let is : c.in_ok-states.states.items ≡ no_pair ∷ [] = c.in_ok-states.ensures in
    record {
      prefix =
          subst (λ xs. IsPrefix g h rss 0 xs c.in_ok-states.states.items)
          (sym (ap (map finished) c.new-layers.ensures.items))
          (subst (λ xs. IsPrefix g h rss 0 [] xs) (sym is)
          (prefix_start g h rss c.labels-first_labels.ensures.layered c.labels-second_labels.ensures.layered));
      finished_so =
          subst (λ ls. AreFinished (length c.in_ok-states.states.items) ls) (sym c.new-layers.ensures.items)
          (omega (arith, ap length is));
      nodes = omega (arith, ap (sum_by (λ (l : FinishedLayer). l.nodes)) c.new-layers.ensures.items);
      few = omega (arith, ap length is);
      spent = spent_none g h rss c.args.budget;
    }

pub steps-preserved : goal.steps-preserved
steps-preserved c =
    let g = c.args.first.now in
    let h = c.args.second.now in
    let j = c.steps.j in
    let rss : List (List Row) = map (λ (v : Vec Row Global). v.items) c.args.steps.now in
    let rows : List Row = c.as_slice-rows.result.now in
    let states : List Pair = c.steps.states.items in
    let next : List Pair = c.in_ok-made.made.next.items in
    let edges : List ℕ = c.in_ok-edges.edges in
    let lt : j < length rss = omega (arith, length-rows c.args.steps.now, c.steps-test.true) in
    let at0 : slice_get c.args.steps.now j ≡ Some c.index-steps-j.result =
    slice_get_read c.args.steps.now _ j c.index-steps-j.result refl c.steps-test.true c.index-steps-j.is in
    let at_j : slice_get rss j ≡ Some rows =
    slice_get-map (λ (v : Vec Row Global). v.items) c.args.steps.now j
    ∙ (ap (option_map (λ (v : Vec Row Global). v.items)) at0 ∙ ap Some (sym c.as_slice-rows.ensures.value)) in
    let rows_is : rows_at rss j ≡ rows = get_or_from_slice_get rss j rows [] at_j in
    let l : Layer = layer_at g.layers j in
    let m : Layer = layer_at h.layers j in
    let e0 : AreEdges l m states rows next edges (length states * length rows) =
    subst (λ xs. AreEdges l m xs rows next edges (length xs * length rows)) c.as_slice-held.ensures.value
    (subst (λ es. AreEdges l m c.as_slice-held.result.now rows next es (length c.as_slice-held.result.now * length rows))
    (sym c.in_ok-edges.ensures) c.in_ok-made.ensures.edges) in
    let e : AreEdges l m states (rows_at rss j) next edges (length states * length (rows_at rss j)) =
    subst (λ rs. AreEdges l m states rs next edges (length states * length rs)) (sym rows_is) e0 in
    let count : length c.as_slice-held.result.now ≡ length states = ap length c.as_slice-held.ensures.value in
    let ps : List Layer = map finished c.steps.layers.items in
    let more = prefix_more g h rss j ps states next edges c.labels-first_labels.ensures.layered
    c.labels-second_labels.ensures.layered c.requires.steps lt c.steps.invariant.prefix e in
    let layer : FinishedLayer = record {
      choices = (length rows);
      nodes = (length c.as_slice-held.result.now);
      edges = c.in_ok-edges.edges;
    } in
    let some_row : 0 < length rows =
    subst (λ (rs : List Row). 0 < length rs) rows_is (c.requires.steps.rows j lt).some in
    let product : length c.as_slice-held.result.now * length rows ≡ length states * length rows =
    ap (λ n. n * length rows) count in
    let room : length c.as_slice-held.result.now * length rows ≤ c.steps.left =
    c.too_many.ensures.few c.if-too_many.false in
    let few_next : length next ≤ length states * length rows =
    subst (λ (xs : List Pair). length next ≤ length xs * length rows) c.as_slice-held.ensures.value
    c.in_ok-made.ensures.few in
    let nodes_few : length states ≤ length states * length rows = at_least (length states) (length rows) some_row in
    let fits_layer : IsFinished (length next) layer = record {
      choice = some_row;
      node = omega (arith, count, c.steps.invariant.prefix.some);
      counted = e0.len ∙ sym product;
      leads =
          λ t t_in. edges_lead l m states rows next edges e0 some_row t (omega (arith, t_in, e0.len));
    } in
    let drafts : map finished c.push.new.self.items ≡ ps ++ layer_with (length rows) (length states) edges ∷ [] =
    ap (map finished) c.in_ok-push.ensures.items
    ∙ (map-append finished c.steps.layers.items (layer ∷ [])
    ∙ ap (λ n. ps ++ layer_with (length rows) n edges ∷ []) count) in
    record {
      prefix =
          subst (λ n. IsPrefix g h rss n (map finished c.push.new.self.items) next) (sym (add-one j))
          (subst (λ xs. IsPrefix g h rss (suc j) xs next) (sym drafts)
          (subst (λ (rs : List Row). IsPrefix g h rss (suc j) (ps ++ layer_with (length rs) (length states) edges ∷ [])
          next) rows_is more));
      finished_so =
          subst (λ ls. AreFinished (length next) ls) (sym c.in_ok-push.ensures.items)
          (AreFinished-push (length states) (length next) c.steps.layers.items layer c.steps.invariant.finished_so count
          fits_layer more.some);
      nodes = omega (
        arith,
        ap (sum_by (λ (l : FinishedLayer). l.nodes)) c.in_ok-push.ensures.items,
        sum_by_push (λ (l : FinishedLayer). l.nodes) c.steps.layers.items layer,
        count,
        c.steps.invariant.nodes,
        nodes_few,
        room,
        product,
      );
      few = omega (arith, few_next, room, product, c.steps.invariant.nodes, c.requires.budget);
      spent =
          subst (λ n. IsSpent g h rss n (c.steps.left - length c.as_slice-held.result.now * length rows) c.args.budget)
          (sym (add-one j))
          (spent_more g h rss j c.steps.left c.args.budget (length states) c.steps.invariant.spent lt
          (so_many g h rss j ps states c.steps.invariant.prefix)
          (length c.as_slice-held.result.now * length rows)
          (product ∙ ap (λ (rs : List Row). length states * length rs) (sym rows_is)) room);
    }

pub returns-clause-product : goal.returns-clause-product
returns-clause-product c =
    let g = c.args.first.now in
    let h = c.args.second.now in
    let rss : List (List Row) = map (λ (v : Vec Row Global). v.items) c.args.steps.now in
    let done : c.steps.j ≡ length rss =
    omega (arith, c.steps.auto.j-end, c.steps-test.false, length-rows c.args.steps.now) in
    let graph = c.in_ok-graph.graph in
    let pre : IsPrefix g h rss (length rss) (map finished c.steps.layers.items) c.steps.states.items =
    subst (λ n. IsPrefix g h rss n (map finished c.steps.layers.items) c.steps.states.items) done
    c.steps.invariant.prefix in
    let count : c.len.result ≡ length c.steps.states.items = omega (arith, c.len.ensures, c.steps.states.ok.0) in
    let same : graph ≡ record { labels = length c.steps.states.items; layers = map finished c.steps.layers.items } =
    c.in_ok-graph.ensures
    ∙ (ap (λ (n : ℕ). whole_of n (map finished c.deref.result.now)) count
    ∙ ap (λ (ls : List FinishedLayer). whole_of (length c.steps.states.items) (map finished ls))
    c.deref.ensures.value) in
    subst (λ p. IsProductOf g h rss p c.steps.states.items) (sym same)
    (product_of g h rss (map finished c.steps.layers.items) c.steps.states.items c.requires.steps pre)

pub returns-clause-room : goal.returns-clause-room
returns-clause-room c =
    let g = c.args.first.now in
    let h = c.args.second.now in
    let rss : List (List Row) = map (λ (v : Vec Row Global). v.items) c.args.steps.now in
    let done : c.steps.j ≡ length rss =
    omega (arith, c.steps.auto.j-end, c.steps-test.false, length-rows c.args.steps.now) in
    has_room g h rss c.steps.left c.args.budget
    (subst (λ n. IsSpent g h rss n c.steps.left c.args.budget) done c.steps.invariant.spent)

pub returns-then-too_many-clause-wide : goal.returns-then-too_many-clause-wide
returns-then-too_many-clause-wide c e =
    let g = c.args.first.now in
    let h = c.args.second.now in
    let j = c.steps.j in
    let rss : List (List Row) = map (λ (v : Vec Row Global). v.items) c.args.steps.now in
    let rows : List Row = c.as_slice-rows.result.now in
    let states : List Pair = c.steps.states.items in
    let lt : j < length rss = omega (arith, length-rows c.args.steps.now, c.steps-test.true) in
    let at0 : slice_get c.args.steps.now j ≡ Some c.index-steps-j.result =
    slice_get_read c.args.steps.now _ j c.index-steps-j.result refl c.steps-test.true c.index-steps-j.is in
    let at_j : slice_get rss j ≡ Some rows =
    slice_get-map (λ (v : Vec Row Global). v.items) c.args.steps.now j
    ∙ (ap (option_map (λ (v : Vec Row Global). v.items)) at0 ∙ ap Some (sym c.as_slice-rows.ensures.value)) in
    let rows_is : rows_at rss j ≡ rows = get_or_from_slice_get rss j rows [] at_j in
    let ps : List Layer = map finished c.steps.layers.items in
    let product : length c.as_slice-held.result.now * length rows ≡ length states * length rows =
    ap (λ (xs : List Pair). length xs * length rows) c.as_slice-held.ensures.value in
    is_wide g h rss j c.steps.left c.args.budget (length states) c.steps.invariant.spent lt
    (so_many g h rss j ps states c.steps.invariant.prefix)
    (length c.as_slice-held.result.now * length rows)
    (product ∙ ap (λ (rs : List Row). length states * length rs) (sym rows_is))
    (c.too_many.ensures.many c.if-too_many.true)
