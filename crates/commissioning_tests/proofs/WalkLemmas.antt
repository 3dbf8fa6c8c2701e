-- What the walk of an operation says of the switches on which its release does not depend.
use Rattle.std.proofs.Common.{◌≡◌, ◌≢◌, ℕ, ◌<◌, Bool, List, slice_get, Some, sym, subst, arith}
use Rattle.std.proofs.lemmas.Option.{slice_get_within}
use Rattle.ilk_base.specs.declared.words.Op.{Op}
use Rattle.station_graph.specs.Connection.{a_switch}
use Rattle.station_graph.specs.Diagram.{IsStation}
use Rattle.decision_graphs.specs.Reaching.{IsSet}
use Rattle.graph_walks.specs.Walks.{AreTwos}
use Rattle.release_dependence.specs.Depends.{DependsOn}
use Rattle.step_graphs.specs.Steps.{TakesIn}
use Rattle.station_joints.specs.Chosen.{layer_of}
use Rattle.dependence_search.specs.RuleWalks.{IsRuleWalk}
use Rattle.dependence_search.proofs.DependLemmas.{moved_alone, no_turn, taken_there, layer_small}
use Rattle.commissioning_tests.specs.declared.walked.OperationWalk.{OperationWalk}
use Rattle.commissioning_tests.specs.Growing.{IsOperationWalk, AreTurnedLayers}
use Rattle.commissioning_tests.proofs.CoverLemmas.{same_op}

module _ (x : OperationWalk) (w : IsOperationWalk x) (is : IsStation x.station.now) (op : Op)
    (at : slice_get x.operations.now x.number ≡ Some op) where
  op_walk : IsRuleWalk x.station.now x.steps.now.old_steps.items x.place op.switch.0 x.walk.now.graph
      x.walk.now.codes.items
  op_walk =
      subst (λ (o : Op). IsRuleWalk x.station.now x.steps.now.old_steps.items x.place o.switch.0 x.walk.now.graph
      x.walk.now.codes.items) (same_op x.operations.now x.number w.op op w.at at) w.walk

  op_moved : TakesIn x.steps.now.old_steps.items x.place (a_switch op.switch.0)
  op_moved =
      subst (λ (o : Op). TakesIn x.steps.now.old_steps.items x.place (a_switch o.switch.0))
      (same_op x.operations.now x.number w.op op w.at at) w.moved

  pub own_never : (s : ℕ) → s ≡ op.switch.0 → ¬ DependsOn x.station.now op s
  own_never s same dep =
      moved_alone x.station.now is x.steps.now.old_steps.items x.steps.now.new_steps.items w.steps.steps x.place op
      x.walk.now.graph x.walk.now.codes.items op_walk op_moved (subst (λ n. DependsOn x.station.now op n) same dep)

  pub unmarked_never : (s q : ℕ) (layers : List Bool) → s ≢ op.switch.0 →
      slice_get x.steps.now.old_places.items s ≡ Some q →
      AreTurnedLayers x.walk.now.graph x.walk.now.codes.items op.direction layers → ¬ IsSet layers (layer_of x.place q) →
      ¬ DependsOn x.station.now op s
  unmarked_never s q layers ne at_q turned unset dep =
      let small : layer_of x.place q < op_walk.others =
      layer_small x.station.now x.steps.now.old_steps.items x.steps.now.old_places.items w.steps.old_at x.place
      op.switch.0 s q op_moved at_q ne op_walk.others op_walk.count in
      no_turn x.station.now is x.steps.now.old_steps.items x.steps.now.new_steps.items w.steps.steps x.place op
      x.walk.now.graph x.walk.now.codes.items op_walk s (layer_of x.place q)
      (taken_there x.station.now x.steps.now.old_steps.items x.steps.now.old_places.items w.steps.old_at x.place
      op.switch.0 s q op_moved at_q ne)
      (slice_get_within x.steps.now.old_steps.items x.place op_moved.step op_moved.at)
      (λ cs two turning. unset (turned (layer_of x.place q) cs (omega (arith, small, op_walk.walked.count))
      (subst (λ n. AreTwos n cs) (sym op_walk.walked.count) two) turning)) dep
