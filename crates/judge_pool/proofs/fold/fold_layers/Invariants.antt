use Rattle.std.proofs.Common.{◌≡◌, ℕ, suc, ◌+◌, ◌<◌, ◌≤◌, ◌↔◌, List, Some, slice_get, length, map, take}
use Rattle.std.specs.List.{sum_by}
use Rattle.decision_graphs.specs.declared.finished.FinishedLayer.{FinishedLayer}
use Rattle.decision_graphs.specs.Finished.{AreFinished}
use Rattle.std.specs.Prelude.{Contains}
use Rattle.contraction.specs.Answers.{Answers, Keeps, AreNodes}
use Rattle.contraction.specs.Renaming.{KeepsOrder, mapped}
use Rattle.judge_pool.specs.Numbered.{letter_lists}
use Rattle.judge_pool.specs.Pooling.{GrewTo}
use Rattle.judge_pool.specs.Places.{pool_on}
use Rattle.judge_pool.proofs.LaidLemmas.{seen_on}
use Rattle.judge_pool.specs.Counted.{Spends}
use Rattle.judge_pool.specs.Folding.{IsExact}
use Rattle.judge_pool.specs.Plans.{Plan, PlanFits, PlanHas, plan_diagram, ChosenBy, items_of, NeededBy, layers_of}
use Rattle.judge_pool.proofs.fold.fold_layers.Given as goal

abbrev pub invariant-layers : goal.invariant-layers
invariant-layers l = record {
  grew : GrewTo l.fn.pool l.pool;
  listed : slice_get (letter_lists l.pool) l.number ≡ Some l.states.items;
  states_in : (t i : ℕ) → slice_get l.states.items t ≡ Some i → i < length l.pool.values.items;
  some : 0 < length l.states.items;
  few : length l.states.items ≤ suc l.budget;
  nodes : sum_by (λ (l : FinishedLayer). l.nodes) l.layers.items + l.left ≤ l.budget;
  spends : (f : ℕ → ℕ) (plan : Plan) → KeepsOrder f →
      PlanFits plan (pool_on f l.fn.pool) l.start (map (λ v. v.items) l.letters) l.keeps →
      Spends (PlanHas l.fn.pool.view plan (map (λ v. v.items) l.letters) l.j) (plan_diagram plan) l.budget l.left;
  choices : map (λ (l : FinishedLayer). l.choices) l.layers.items
      ≡ map length (take l.j (map (λ v. v.items) l.letters));
  finished : AreFinished (length l.states.items) l.layers.items;
  made : length l.layers.items ≡ l.j;
  are : AreNodes l.kept.items;
  counts : (t i : ℕ) (x : Answers) → slice_get l.states.items t ≡ Some i → slice_get l.pool.values.items i ≡ Some x →
      length l.kept.items ≡ length x.kept;
  kept : (m : ℕ) (nodes : List ℕ) → slice_get l.keeps l.j ≡ Some m → slice_get l.fn.pool.keeps.items m ≡ Some nodes →
      (n : ℕ) → Keeps l.kept.items n ↔ Contains nodes n;
  exact : (f : ℕ → ℕ) (plan : Plan) → KeepsOrder f →
      PlanFits plan (pool_on f l.fn.pool) l.start (map (λ v. v.items) l.letters) l.keeps →
      IsExact l.fn.pool.view (plan_diagram plan) (ChosenBy plan) (items_of plan) (NeededBy plan) l.j
      (layers_of l.layers.items)
      (map (mapped f) (seen_on l.kept.items l.pool.values.items l.states.items));
}
