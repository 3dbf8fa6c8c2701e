use Rattle.std.proofs.Common.{◌≡◌, ◌+◌, ◌<◌, ◌++◌, ◌∷◌, [], length, ap, subst, sym, ◌∙◌, arith}
use Rattle.decision_graphs.specs.Drafting.{Draft, IsShaped, IsBare, node_count}
use Rattle.decision_graphs.proofs.BuildingLemmas.{IsShaped-node, IsBare-node}
use Rattle.test_graphs.proofs.SizesLemmas.{node_count-with_node, some-with_node}
use Rattle.test_graphs.proofs.table.add_nodes.Goals as goal

pub loop-made-preserved : goal.loop-made-preserved
loop-made-preserved c =
    let e = c.in_ok-node.ensures.ok in
    let old = c.loop-made.invariant in
    record {
      layer = subst (λ (d : Draft). 0 < length d.layers) (sym e) (some-with_node c.loop-made.builder old.layer);
      within = omega arith;
      counted = ap node_count e ∙ omega (arith, node_count-with_node c.loop-made.builder old.layer, old.counted);
      shaped = λ labels cs ns h. subst (λ (d : Draft). IsShaped d labels cs (ns ++ (c.loop-made.made + 1) ∷ [])) (sym e)
          (IsShaped-node c.loop-made.builder labels cs ns c.loop-made.made (old.shaped labels cs ns h));
      bare = λ b. subst (λ (d : Draft). IsBare d) (sym e) (IsBare-node c.loop-made.builder old.layer (old.bare b));
    }

pub returns-clause-shaped : goal.returns-clause-shaped
returns-clause-shaped c labels cs ns h =
    let e : c.loop-made.made ≡ c.args.count = omega (arith, c.loop-made.invariant.within) in
    subst (λ n. IsShaped c.loop-made.builder labels cs (ns ++ n ∷ [])) e (c.loop-made.invariant.shaped labels cs ns h)
