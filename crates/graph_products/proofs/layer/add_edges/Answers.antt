use Rattle.std.proofs.Common.{◌≡◌, ◌∙◌, ℕ, ◌+◌, List, length, sym, subst, refl, arith}
use Rattle.std.proofs.lemmas.Option.{slice_get_within}
use Rattle.decision_graphs.specs.Label.{layer_at}
use Rattle.graph_products.specs.Layering.{AreLed}
use Rattle.graph_products.specs.Products.{LeadsJointly, row_at}
use Rattle.graph_products.proofs.EdgeLemmas.{led_none, led_one}
use Rattle.graph_products.proofs.PlaceLemmas.{pair_same}
use Rattle.graph_products.proofs.layer.add_edges.Goals as goal

pub loop-c-init : goal.loop-c-init
loop-c-init c = record {
  height = refl;
  width = refl;
  led =
      led_none (layer_at c.args.first.now.layers c.args.layer) (layer_at c.args.second.now.layers c.args.layer)
      c.args.state c.args.rows.now c.args.next.now.keys c.args.edges.now.items;
}

pub overflow_cast-to : goal.overflow_cast-to
overflow_cast-to c =
    let within = slice_get_within c.place.new.self.keys c.in_ok-to.to _ c.in_ok-to.ensures.placed.at in
    omega (
      arith,
      within,
      c.in_ok-to.ensures.placed.grown,
      c.loop-c.invariant.led.added.grown,
      c.loop-c.invariant.led.len,
      c.loop-c-test.true,
      c.requires.few,
    )

pub loop-c-preserved : goal.loop-c-preserved
loop-c-preserved c =
    let l = layer_at c.args.first.now.layers c.args.layer in
    let m = layer_at c.args.second.now.layers c.args.layer in
    let row = row_at c.args.rows.now c.loop-c.c in
    let leads : LeadsJointly l m c.args.state row c.target-pair.result =
    c.target-pair.ensures ∙ pair_same _ _ _ _
    (c.row-ours.ensures.each row.first (c.requires.rows.first c.loop-c.c c.loop-c-test.true))
    (c.row-theirs.ensures.each row.second (c.requires.rows.second c.loop-c.c c.loop-c-test.true)) in
    record {
      height = c.in_ok-to.ensures.height ∙ c.loop-c.invariant.height;
      width = c.in_ok-to.ensures.width ∙ c.loop-c.invariant.width;
      led =
          subst (λ (es : List ℕ). AreLed l m c.args.state c.args.rows.now (c.loop-c.c + 1) c.args.next.now.keys
          c.args.edges.now.items c.place.new.self.keys es) (sym c.in_ok-push.ensures.items)
          (led_one l m c.args.state c.args.rows.now c.loop-c.c c.args.next.now.keys c.args.edges.now.items
          c.loop-c.next.keys c.loop-c.edges.items c.place.new.self.keys c.target-pair.result c.in_ok-to.to
          c.loop-c.invariant.led c.in_ok-to.ensures.placed leads);
    }

pub returns-clause-led : goal.returns-clause-led
returns-clause-led c =
    let done : c.loop-c.c ≡ length c.args.rows.now = omega (arith, c.loop-c-test.false, c.loop-c.auto.c-end) in
    subst (λ n. AreLed (layer_at c.args.first.now.layers c.args.layer) (layer_at c.args.second.now.layers c.args.layer)
    c.args.state c.args.rows.now n c.args.next.now.keys c.args.edges.now.items c.loop-c.next.keys c.loop-c.edges.items)
    done c.loop-c.invariant.led
