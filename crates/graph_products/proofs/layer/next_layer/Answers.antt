use Rattle.std.proofs.Common.{◌≡◌, ◌≤◌, ◌+◌, ◌*◌, suc, length, Some, slice_get, get_or}
use Rattle.std.proofs.Common.{arith, ap, ◌∙◌, subst, sym}
use Rattle.std.proofs.lemmas.Option.{slice_get-get_or}
use Rattle.std.proofs.Math.Nat.{suc-mul, zero-mul, mul-le-mul_right}
use Rattle.decision_graphs.specs.Label.{Layer, LayerFits, layer_at}
use Rattle.graph_products.specs.Layering.{AreEdges}
use Rattle.graph_products.specs.Products.{no_pair}
use Rattle.graph_products.specs.Seating.{Pairs}
use Rattle.graph_products.proofs.EdgeLemmas.{edges_none, edges_more}
use Rattle.graph_products.proofs.layer.next_layer.Goals as goal

pub states-init : goal.states-init
states-init c =
    let l : Layer = layer_at c.args.first.now.layers c.args.layer in
    let m : Layer = layer_at c.args.second.now.layers c.args.layer in
    let none = ap (λ (s : Pairs). s.keys) c.in_ok-next.ensures in
    record {
      first_edges =
          subst (λ n. LayerFits n l) (sym (ap (λ (s : Pairs). s.height) c.in_ok-next.ensures))
          c.nodes_behind-height.ensures;
      second_edges =
          subst (λ n. LayerFits n m) (sym (ap (λ (s : Pairs). s.width) c.in_ok-next.ensures))
          c.nodes_behind-width.ensures;
      few = omega (arith, ap length none, zero-mul (length c.args.rows.now));
      edges =
          subst (λ n. AreEdges l m c.args.states.now c.args.rows.now c.in_ok-next.next.keys c.in_ok-edges.edges.items n)
          (sym (zero-mul (length c.args.rows.now)))
          (edges_none l m c.args.states.now c.args.rows.now c.in_ok-next.next.keys c.in_ok-edges.edges.items
          none c.in_ok-edges.ensures.items);
    }

pub add_edges-requires-clause-first_node : goal.add_edges-requires-clause-first_node
add_edges-requires-clause-first_node c =
    (c.requires.states c.states.k (get_or c.args.states.now c.states.k no_pair)
    (slice_get-get_or c.args.states.now c.states.k no_pair c.states-test.true)).0

pub add_edges-requires-clause-second_node : goal.add_edges-requires-clause-second_node
add_edges-requires-clause-second_node c =
    (c.requires.states c.states.k (get_or c.args.states.now c.states.k no_pair)
    (slice_get-get_or c.args.states.now c.states.k no_pair c.states-test.true)).1

pub add_edges-requires-clause-few : goal.add_edges-requires-clause-few
add_edges-requires-clause-few c =
    let w = length c.args.rows.now in
    let k = c.states.k in
    let most : suc k * w ≤ length c.args.states.now * w =
    mul-le-mul_right w (let h : suc k ≤ length c.args.states.now = omega (arith, c.states-test.true) in h) in
    omega (arith, c.states.invariant.few, most, suc-mul k w, c.requires.few)

pub states-preserved : goal.states-preserved
states-preserved c =
    let l : Layer = layer_at c.args.first.now.layers c.args.layer in
    let m : Layer = layer_at c.args.second.now.layers c.args.layer in
    let rows = c.args.rows.now in
    let w = length rows in
    let k = c.states.k in
    let i = get_or c.args.states.now k no_pair in
    let at_i : slice_get c.args.states.now k ≡ Some i = slice_get-get_or c.args.states.now k no_pair c.states-test.true in
    let led = c.in_ok-add_edges.ensures.led in
    let next : (k + 1) * w ≡ k * w + w =
    ap (λ n. n * w) (let e : k + 1 ≡ suc k = omega arith in e) ∙ suc-mul k w in
    record {
      first_edges = subst (λ n. LayerFits n l) (sym c.in_ok-add_edges.ensures.height) c.states.invariant.first_edges;
      second_edges = subst (λ n. LayerFits n m) (sym c.in_ok-add_edges.ensures.width) c.states.invariant.second_edges;
      few = omega (arith, led.added.grown, led.len, c.states.invariant.few, next);
      edges =
          edges_more l m c.args.states.now rows c.states.next.keys c.add_edges.new.next.keys c.states.edges.items
          c.add_edges.new.edges.items led.pairs k i c.states.invariant.edges led.added at_i led.len led.each;
    }

pub returns-clause-few : goal.returns-clause-few
returns-clause-few c =
    let done : c.states.k ≡ length c.args.states.now = omega (arith, c.states.auto.k-end, c.states-test.false) in
    omega (
      arith,
      ap length c.in_ok-next-2.ensures,
      c.states.invariant.few,
      ap (λ n. n * length c.args.rows.now) done,
    )

pub returns-clause-edges : goal.returns-clause-edges
returns-clause-edges c =
    let l : Layer = layer_at c.args.first.now.layers c.args.layer in
    let m : Layer = layer_at c.args.second.now.layers c.args.layer in
    let done : c.states.k ≡ length c.args.states.now = omega (arith, c.states.auto.k-end, c.states-test.false) in
    subst (λ xs. AreEdges l m c.args.states.now c.args.rows.now xs c.states.edges.items
    (length c.args.states.now * length c.args.rows.now)) (sym c.in_ok-next-2.ensures)
    (subst (λ n. AreEdges l m c.args.states.now c.args.rows.now c.states.next.keys c.states.edges.items
    (n * length c.args.rows.now)) done c.states.invariant.edges)
