-- The spans of the nodes where only some of the other steps are taken in.
use Rattle.std.specs.Prelude.{◌≡◌, ℕ, ◌+◌, ◌<◌, ◌≤◌, ◌⊎◌, ◌↔◌, true, List, length, slice_get, Some}
use Rattle.station_graph.specs.Diagram.{Diagram}
use Rattle.judge_pool.specs.Graphs.{other_of}
use Rattle.step_graphs.specs.declared.step.Step.{Step}
use Rattle.step_graphs.specs.declared.spans.Span.{Span}
use Rattle.step_graphs.specs.Needing.{TouchedAt}

-- The number after is one more than the last of the first n other steps that touches the node, and 0 where none does.
pub record IsAfter (d : Diagram) (steps : List Step) (b node n after : ℕ) : Type 0 where
  pub small : after ≤ n
  pub each : (j : ℕ) → ((k : ℕ) × (j ≤ k) × (k < n) × TouchedAt d steps (other_of 0 b k) node) ↔ (j < after)

-- By the first n other steps the span begins at the first that touches the node, or behind all where none does, and ends
-- after the last.
pub record IsSpanUpto (d : Diagram) (steps : List Step) (b others n node : ℕ) (s : Span) : Type 0 where
  pub none : (j : ℕ) → j < s.first → j < n → ¬ TouchedAt d steps (other_of 0 b j) node
  pub begins : (s.first ≡ others) ⊎ TouchedAt d steps (other_of 0 b s.first) node
  pub ends : IsAfter d steps b node n s.after
  pub own : (s.own ≡ true) ↔ TouchedAt d steps b node

-- So do the spans of the first m nodes.
pub record AreSpansUpto (d : Diagram) (steps : List Step) (b others n : ℕ) (spans : List Span) (m : ℕ) : Type 0 where
  pub len : length spans ≡ m
  pub each : (k : ℕ) (s : Span) → slice_get spans k ≡ Some s → IsSpanUpto d steps b others n k s

-- The second span is the first, with step i among those that touch the node, and the last of them.
pub record IsTouched (i : ℕ) (old new : Span) : Type 0 where
  pub first : ((i < old.first) × (new.first ≡ i)) ⊎ ((old.first ≤ i) × (new.first ≡ old.first))
  pub after : new.after ≡ i + 1
  pub own : new.own ≡ old.own

-- The span of node n is that of the list, touched by step i where the node is of the kind.
pub record IsTouchedAt (Kind : ℕ → Type 0) (i : ℕ) (olds : List Span) (n : ℕ) (new : Span) : Type 0 where
  pub old : Span
  pub at : slice_get olds n ≡ Some old
  pub told : (Kind n × IsTouched i old new) ⊎ ((¬ Kind n) × (new ≡ old))

-- So are all of a list.
pub record AreTouched (Kind : ℕ → Type 0) (i : ℕ) (olds news : List Span) : Type 0 where
  pub len : length news ≡ length olds
  pub each : (n : ℕ) (s : Span) → slice_get news n ≡ Some s → IsTouchedAt Kind i olds n s
