-- The walk of the two graphs of a switch, and what its labels say.
use Rattle.std.specs.Prelude.{◌≡◌, ◌≢◌, ◌↔◌, ◌⊎◌, ℕ, Bool, List, Option, None, Some, slice_set, slice_get}
use Rattle.std.specs.Prelude.{◌-◌, length, slice_index}
use Rattle.ilk_base.specs.declared.words.Direction.{Direction}
use Rattle.ilk_base.specs.declared.words.Rule.{Rule}
use Rattle.station_graph.specs.Diagram.{Diagram}
use Rattle.decision_graphs.specs.Label.{Layered, label_of}
use Rattle.decision_graphs.specs.Reaching.{IsSet}
use Rattle.graph_walks.specs.declared.codes.Codes.{Codes}
use Rattle.change_search.specs.Telling.{answer_of, IsSwitchWalk}
use Rattle.step_graphs.specs.declared.step.Step.{Step}
use Rattle.step_graphs.specs.Ready.{IsStepStock}
use Rattle.judge_pool.specs.declared.view.View.TheVariants.{Gap, Load}
use Rattle.dependence_search.specs.declared.walk.RuleStocks.{RuleStocks}

-- The walk of the gap graph and of the load graph of switch m of one station, whose step stands at place b.
abbrev pub IsRuleWalk : Diagram → List Step → ℕ → ℕ → Layered → List Codes → Type 0
IsRuleWalk d steps b m walk codes = IsSwitchWalk d d steps steps b m m walk codes

-- The rule that a move in this direction breaks, as the labels of both graphs say.
abbrev pub rule_of : Direction → Codes → Option Rule
rule_of direction c = answer_of direction c.first c.third

-- What the graphs of all switches are made of, in both views.
pub record AreRuleStocks (d : Diagram) (steps : List Step) (s : RuleStocks) : Type 0 where
  pub gap : IsStepStock d steps s.gap
  pub load : IsStepStock d steps s.load
  pub gap_view : s.gap.pool.view ≡ Gap
  pub load_view : s.load.pool.view ≡ Load

-- Of two answers one is none.
abbrev pub OneIsNone : Option Rule → Option Rule → Type 0
OneIsNone x y = ((x ≡ None) × (y ≢ None)) ⊎ ((x ≢ None) × (y ≡ None))

-- The choices with the other of two in this layer.
abbrev pub turned_at : ℕ → List ℕ → List ℕ
turned_at layer cs = slice_set cs layer (1 - slice_index cs layer)

-- The choices lead to a label, and those with the other choice in the layer to one, which say that a move in this
-- direction is released once, and once breaks a rule.
pub record IsTurningChoice (walk : Layered) (codes : List Codes) (layer : ℕ) (direction : Direction) (cs : List ℕ) :
    Type 0 where
  pub one : Codes
  pub other : Codes
  pub one_at : slice_get codes (label_of walk cs) ≡ Some one
  pub other_at : slice_get codes (label_of walk (turned_at layer cs)) ≡ Some other
  pub turned : OneIsNone (rule_of direction one) (rule_of direction other)

-- Wanted are exactly the places of the list at which this holds.
pub record AreWanted {X : Type 0} (P : X → Type 0) (xs : List X) (wanted : List Bool) : Type 0 where
  pub len : length wanted ≡ length xs
  pub each : (t : ℕ) (x : X) → slice_get xs t ≡ Some x → IsSet wanted t ↔ P x
