-- The graph that says of each position of all other switches whether a move is released.
use Rattle.std.specs.Prelude.{◌≡◌, ◌≢◌, ℕ, ◌<◌, List, Option, None, Some, length, slice_get, MatchOption}
use Rattle.ilk_base.specs.declared.words.Direction.{Direction}
use Rattle.ilk_base.specs.declared.words.Rule.{Rule}
use Rattle.station_graph.specs.Diagram.{Diagram}
use Rattle.decision_graphs.specs.Label.{Layered, AreReduced, label_of}
use Rattle.graph_walks.specs.declared.codes.Codes.{Codes}
use Rattle.graph_walks.specs.Walks.{AreTwos, HasTwos}
use Rattle.step_graphs.specs.declared.step.Step.{Step}
use Rattle.dependence_search.specs.RuleWalks.{IsRuleWalk, rule_of, turned_at}

-- One where the answer is none, else zero.
abbrev pub name_for : Option Rule → ℕ
name_for None = 1
name_for (Some rule) = 0

-- So for the answer that labels give to a move in this direction.
abbrev pub released_name : Direction → Codes → ℕ
released_name direction c = name_for (rule_of direction c)

-- The graph has two choices in each layer, and a label for each place of the list.
pub record HasTwoChoices (walk : Layered) (codes : List Codes) : Type 0 where
  pub choices : HasTwos (length walk.layers) walk
  pub labels : walk.labels ≡ length codes

-- The graph leads to one where the walk leads to labels by which a move in this direction is released, and to zero where
-- it leads to labels by which the move breaks a rule; and no two nodes of one layer have equal edges.
pub record IsReleasedOf (walk : Layered) (codes : List Codes) (direction : Direction) (g : Layered) : Type 0 where
  pub choices : HasTwos (length walk.layers) g
  pub label : (cs : List ℕ) (c : Codes) → 0 < length walk.layers → AreTwos (length walk.layers) cs →
      slice_get codes (label_of walk cs) ≡ Some c → label_of g cs ≡ released_name direction c
  pub reduced : AreReduced g.layers

-- The graph does so for the walk of switch m, whose step stands at place b.
pub record IsReleasedWalk (d : Diagram) (steps : List Step) (b m : ℕ) (direction : Direction) (g : Layered) :
    Type 0 where
  pub walk : Layered
  pub codes : List Codes
  pub is_walk : IsRuleWalk d steps b m walk codes
  pub released : IsReleasedOf walk codes direction g

-- The choices lead to one label, and those with the other choice in the layer to another.
abbrev pub TurnsLabel : Layered → ℕ → List ℕ → Type 0
TurnsLabel g layer cs = label_of g cs ≢ label_of g (turned_at layer cs)

-- Such choices, one of two in each of n layers; none where there are none.
abbrev pub IsTurnChoice : Layered → ℕ → ℕ → Option (List ℕ) → Type 0
IsTurnChoice g n layer found =
    MatchOption found ((cs : List ℕ) → AreTwos n cs → ¬ TurnsLabel g layer cs)
    (λ cs. AreTwos n cs × TurnsLabel g layer cs)
