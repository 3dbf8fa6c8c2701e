-- Walks that are held.
use Rattle.std.proofs.Common.{◌≡◌, ◌∙◌, ℕ, ◌+◌, ◌≤◌, List, [], ◌∷◌, ◌++◌, length, slice_get, Some, sym, subst, inl, inr, arith}
use Rattle.std.specs.Prelude.{Result, IfErr, IsErrAnd}
use Rattle.station_graph.specs.Diagram.{Diagram}
use Rattle.station_graph.proofs.PathLemmas.{slice_get-push}
use Rattle.change_search.specs.Passing.{KeepsSwitchWalk}
use Rattle.graph_walks.specs.Walks.{HasWalkRoom}
use Rattle.decision_graphs.specs.Label.{Layered}
use Rattle.judge_pool.specs.declared.layer.Trouble.{Trouble}
use Rattle.judge_pool.specs.declared.layer.Trouble.TheVariants.{Memory, Wide}
use Rattle.judge_pool.specs.declared.view.View.{View}
use Rattle.judge_pool.proofs.ErrorLemmas.{passed_on}
use Rattle.step_graphs.specs.declared.step.Step.{Step}
use Rattle.step_graphs.specs.Edges.{StepsKeep}
use Rattle.dependence_search.specs.Width.{IsNarrow}
use Rattle.commissioning_tests.specs.declared.switch_paths.SwitchPaths.{SwitchPaths}
use Rattle.commissioning_tests.specs.Held.{IsHeld, AreHeld}
use Rattle.commissioning_tests.specs.Refusing.{AllAreNarrow}

-- one more walk
pub held_more : (d : Diagram) (steps : List Step) (first n : ℕ) (xs ys : List SwitchPaths) (p : SwitchPaths) →
    ys ≡ xs ++ p ∷ [] → length xs ≡ n → AreHeld d steps first xs → IsHeld d steps (first + n) p →
    AreHeld d steps first ys
held_more d steps first n xs ys p same long are is i q at =
    elim (slice_get-push xs p q i (subst (λ (l : List SwitchPaths). slice_get l i ≡ Some q) same at)) [
      | inl before ↦ are i q before
      | inr here ↦
          subst (λ (r : SwitchPaths). IsHeld d steps (first + i) r) here.1
          (subst (λ (k : ℕ). IsHeld d steps (first + k) p) (omega (arith, long, here.0)) is)
    ]

-- ---- what keeps a limit keeps a greater one

graph_wider : (view : View) (d : Diagram) (steps : List Step) (b few many : ℕ) → few ≤ many → StepsKeep view d steps b few →
    StepsKeep view d steps b many
graph_wider view d steps b few many le k = record {
  others = k.others;
  count = k.count;
  edges = k.edges;
  has = k.has;
  few = omega (arith, le, k.few);
}

walk_wider : (g h k l : Layered) (n few many : ℕ) → few ≤ many → HasWalkRoom g h k l n few → HasWalkRoom g h k l n many
walk_wider g h k l n few many le r = record {
  one = r.one;
  other = r.other;
  one_pairs = r.one_pairs;
  other_pairs = r.other_pairs;
  first = r.first;
  second = r.second;
  first_room = record {
    counts = r.first_room.counts;
    steps = r.first_room.steps;
    are_counts = r.first_room.are_counts;
    room = omega (arith, le, r.first_room.room);
  };
  second_room = record {
    counts = r.second_room.counts;
    steps = r.second_room.steps;
    are_counts = r.second_room.are_counts;
    room = omega (arith, le, r.second_room.room);
  };
  room = record {
    counts = r.room.counts;
    steps = r.room.steps;
    are_counts = r.room.are_counts;
    room = omega (arith, le, r.room.room);
  };
}

switch_wider : (o n : Diagram) (ss ts : List Step) (b i k few many : ℕ) → few ≤ many →
    KeepsSwitchWalk o n ss ts b i k few → KeepsSwitchWalk o n ss ts b i k many
switch_wider o n ss ts b i k few many le w = record {
  old_gap_keeps = graph_wider _ _ _ _ few many le w.old_gap_keeps;
  new_gap_keeps = graph_wider _ _ _ _ few many le w.new_gap_keeps;
  old_load_keeps = graph_wider _ _ _ _ few many le w.old_load_keeps;
  new_load_keeps = graph_wider _ _ _ _ few many le w.new_load_keeps;
  others = w.others;
  count = w.count;
  old_gap = w.old_gap;
  new_gap = w.new_gap;
  old_load = w.old_load;
  new_load = w.new_load;
  is_old_gap = w.is_old_gap;
  is_new_gap = w.is_new_gap;
  is_old_load = w.is_old_load;
  is_new_load = w.is_new_load;
  room = walk_wider _ _ _ _ _ few many le w.room;
}

pub narrow_wider : (d : Diagram) (steps : List Step) (first n few many : ℕ) → few ≤ many →
    AllAreNarrow d steps first n few → AllAreNarrow d steps first n many
narrow_wider d steps first n few many le so m after before =
    let is : IsNarrow d steps m few = so m after before in
    record { place = is.place; at = is.at; keeps = switch_wider _ _ _ _ _ _ _ few many le is.keeps }

-- ---- want of memory is no width

memory_is_not_wide : Memory ≡ Wide → ⊥
memory_is_not_wide e = cc

pub wants_memory : {T : Type 0} (X : Type 0) (r : Result T Trouble) → IsErrAnd r (λ (e : Trouble). e ≡ Memory) →
    IfErr r (λ (e : Trouble). e ≡ Wide → X)
wants_memory X r h =
    passed_on (λ (e : Trouble). e ≡ Memory) (λ (e : Trouble). e ≡ Wide → X) r h
    (λ e same is. absurd (memory_is_not_wide (sym same ∙ is)))
