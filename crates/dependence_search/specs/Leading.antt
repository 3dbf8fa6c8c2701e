-- Choices that lead to a wanted label.
use Rattle.std.specs.Prelude.{ℕ, Bool, List, Option, MatchOption}
use Rattle.decision_graphs.specs.Label.{Layered, label_of}
use Rattle.decision_graphs.specs.Reaching.{IsSet}
use Rattle.graph_walks.specs.Walks.{AreTwos}

-- Choices, one of two in each of n layers, that lead to a wanted label; none where no choices do.
abbrev pub IsLed : Layered → List Bool → ℕ → Option (List ℕ) → Type 0
IsLed g wanted n found =
    MatchOption found ((cs : List ℕ) → AreTwos n cs → ¬ IsSet wanted (label_of g cs))
    (λ cs. AreTwos n cs × IsSet wanted (label_of g cs))
