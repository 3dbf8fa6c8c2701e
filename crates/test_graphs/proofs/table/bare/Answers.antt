use Rattle.std.proofs.Common.{◌++◌, ◌∷◌, [], take, get_or, subst, sym, arith}
use Rattle.decision_graphs.specs.Drafting.{Draft, IsShaped, IsBare}
use Rattle.decision_graphs.proofs.BuildingLemmas.{IsShaped-layer, IsBare-layer}
use Rattle.test_graphs.proofs.SizesLemmas.{may_grow, room_for, take-next}
use Rattle.test_graphs.proofs.table.bare.Goals as goal

pub layer-requires-clause-may_grow : goal.layer-requires-clause-may_grow
layer-requires-clause-may_grow c = may_grow c.loop-layer.builder c.args.labels c.args.choices.now c.args.nodes.now
    c.loop-layer.layer c.requires (omega arith) c.loop-layer.invariant.shaped c.loop-layer.invariant.bare

pub add_nodes-requires-clause-room : goal.add_nodes-requires-clause-room
add_nodes-requires-clause-room c =
    let i = c.loop-layer.layer in
    let shaped = subst (λ (d : Draft). IsShaped d c.args.labels (take c.loop-layer.layer c.args.choices.now ++ get_or
    c.args.choices.now c.loop-layer.layer 0 ∷ []) (take c.loop-layer.layer c.args.nodes.now ++ 0 ∷ []))
    (sym c.in_ok-layer.ensures.ok) (IsShaped-layer c.loop-layer.builder c.args.labels
    (take c.loop-layer.layer c.args.choices.now) (take c.loop-layer.layer c.args.nodes.now)
    (get_or c.args.choices.now c.loop-layer.layer 0) c.loop-layer.invariant.shaped) in
    room_for c.layer.new.self c.args.labels _ c.args.choices.now c.args.nodes.now c.loop-layer.layer c.requires
    c.loop-layer-test.true shaped

pub loop-layer-preserved : goal.loop-layer-preserved
loop-layer-preserved c =
    let made = c.in_ok-layer.ensures.ok in
    let shaped = subst (λ (d : Draft). IsShaped d c.args.labels (take c.loop-layer.layer c.args.choices.now ++ get_or
    c.args.choices.now c.loop-layer.layer 0 ∷ []) (take c.loop-layer.layer c.args.nodes.now ++ 0 ∷ [])) (sym made)
    (IsShaped-layer c.loop-layer.builder c.args.labels (take c.loop-layer.layer c.args.choices.now)
    (take c.loop-layer.layer c.args.nodes.now) (get_or c.args.choices.now c.loop-layer.layer 0)
    c.loop-layer.invariant.shaped) in
    let done = c.in_ok-add_nodes.ensures.shaped c.args.labels (take c.loop-layer.layer c.args.choices.now ++ get_or
    c.args.choices.now c.loop-layer.layer 0 ∷ []) (take c.loop-layer.layer c.args.nodes.now) shaped in
    record {
      shaped = rw (
        take-next c.args.choices.now c.loop-layer.layer
            (omega (arith, c.requires.same, c.loop-layer-test.true)),
        take-next c.args.nodes.now c.loop-layer.layer
            c.loop-layer-test.true,
      ) done;
      bare = c.in_ok-add_nodes.ensures.bare (subst (λ (d : Draft). IsBare d) (sym made)
          (IsBare-layer c.loop-layer.builder (get_or c.args.choices.now c.loop-layer.layer 0)
          c.loop-layer.invariant.bare));
    }
