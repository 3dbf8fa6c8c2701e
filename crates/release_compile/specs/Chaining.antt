-- Two graphs in a row: a label of the first is the first choice of the second.
use Rattle.std.specs.Prelude.{◌≡◌, ℕ, ◌<◌, ◌↔◌, List, ◌∷◌, length, drop, Bool}
use Rattle.decision_graphs.specs.Label.{Layered, layer_at, label_of, AreAllowed}
use Rattle.decision_graphs.specs.Reaching.{IsSet, set_at, AreSetsOf, MarksReached}
use Rattle.decision_graphs.specs.Marked.{AreMarksOf, PathsLead}
use Rattle.ilk_base.specs.declared.words.Direction.{Direction}
use Rattle.ilk_base.specs.declared.words.Direction.TheVariants.{ToOn}
use Rattle.ilk_base.specs.declared.words.Rule.{Rule}
use Rattle.ilk_base.specs.declared.words.Rule.TheVariants.{R1, R2, R3}
use Rattle.release_compile.specs.declared.reached.Reached.{Reached}
use Rattle.release_compile.specs.declared.search.Side.{Side}

-- The labels of the first graph are the choices of the second graph's first layer.
pub record AreInARow (outer inner : Layered) : Type 0 where
  pub some : 0 < length inner.layers
  pub labels : (layer_at inner.layers 0).choices ≡ outer.labels

-- The first set allows the marked labels.
abbrev pub FirstAllows : List (List Bool) → List Bool → Type 0
FirstAllows sets marks = (label : ℕ) → IsSet (set_at sets 0) label ↔ IsSet marks label

-- These choices are allowed, and lead through both graphs to the label.
pub record LeadThrough (outer inner : Layered) (sets inner_sets : List (List Bool)) (goal : ℕ)
    (cs ds : List ℕ) : Type 0 where
  pub outer_allows : AreAllowed sets cs
  pub inner_allows : AreAllowed (drop 1 inner_sets) ds
  pub led : label_of inner (label_of outer cs ∷ ds) ≡ goal

-- Such choices, where the list for the second graph begins with the label of the first.
pub record IsChain (outer inner : Layered) (sets inner_sets : List (List Bool)) (goal : ℕ)
    (cs all : List ℕ) : Type 0 where
  pub rest : List ℕ
  pub split : all ≡ label_of outer cs ∷ rest
  pub leads : LeadThrough outer inner sets inner_sets goal cs rest

-- No choices of the sets lead through both graphs to the goal.
abbrev pub NoneLeads : Layered → Layered → List (List Bool) → List (List Bool) → ℕ → Type 0
NoneLeads outer inner sets inner_sets goal = (cs ds : List ℕ) → LeadThrough outer inner sets inner_sets goal cs ds → ⊥

-- The marks and the inner sets of a side were made of the sets.
pub record IsReady (s : Side) (sets : List (List Bool)) : Type 0 where
  pub fits : AreSetsOf s.outer.now.layers sets
  pub inner_fits : AreSetsOf s.inner.now.layers s.inner_sets
  pub reached : MarksReached s.outer.now sets s.marks.now.labels
  pub paths : PathsLead s.outer.now sets s.marks.now
  pub first : FirstAllows s.inner_sets s.marks.now.labels
  pub row : AreInARow s.outer.now s.inner.now

-- What the outer graphs of a bay reach by these sets.
pub record HasReached (outer_gap outer_load : Layered) (r : Reached) : Type 0 where
  pub gap_sets : AreSetsOf outer_gap.layers r.sets
  pub load_sets : AreSetsOf outer_load.layers r.sets
  pub gap_marks : AreMarksOf outer_gap r.gap
  pub load_marks : AreMarksOf outer_load r.load
  pub gap : MarksReached outer_gap r.sets r.gap.labels
  pub load : MarksReached outer_load r.sets r.load.labels
  pub gap_paths : PathsLead outer_gap r.sets r.gap
  pub load_paths : PathsLead outer_load r.sets r.load

-- No choices lead through the graphs of a side to the goal.
abbrev pub NoneLeadsTo : Side → List (List Bool) → ℕ → Type 0
NoneLeadsTo s sets goal = NoneLeads s.outer.now s.inner.now sets s.inner_sets goal

-- These choices lead through the graphs of a side to the goal.
abbrev pub IsChainOf : Side → List (List Bool) → ℕ → List ℕ → List ℕ → Type 0
IsChainOf s sets goal cs all = IsChain s.outer.now s.inner.now sets s.inner_sets goal cs all

-- Closing breaks neither of the first two rules.
abbrev pub GapFree : Direction → Side → List (List Bool) → Type 0
GapFree direction gap sets = direction ≡ ToOn → NoneLeadsTo gap sets 1 × NoneLeadsTo gap sets 2

-- Choices that lead to a label of the gap graphs that says this rule, which is one of the first two.
abbrev pub IsGapFound : Side → List (List Bool) → Rule → List ℕ → List ℕ → Type 0
IsGapFound gap sets R1 cs all = IsChainOf gap sets 1 cs all
IsGapFound gap sets R2 cs all = IsChainOf gap sets 2 cs all
IsGapFound gap sets R3 cs all = ⊥

-- Choices that lead to a label that says this rule, the first of those that can be led to.
abbrev pub IsFound : Direction → Side → Side → List (List Bool) → Rule → List ℕ → List ℕ → Type 0
IsFound direction gap load sets R1 cs all = (direction ≡ ToOn) × IsChainOf gap sets 1 cs all
IsFound direction gap load sets R2 cs all = (direction ≡ ToOn) × IsChainOf gap sets 2 cs all
IsFound direction gap load sets R3 cs all = GapFree direction gap sets × IsChainOf load sets 1 cs all
