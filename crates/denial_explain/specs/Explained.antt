-- What an explanation says of an operation that breaks a rule in a vector.
use Rattle.std.specs.Prelude.{◌≡◌, ◌↔◌, ◌⊎◌, ℕ, Bool, List, [], Some, None, Contains}
use Rattle.ilk_base.specs.declared.words.Kind.TheVariants.{Earthing, Infeed}
use Rattle.ilk_base.specs.declared.words.Rule.{Rule}
use Rattle.ilk_base.specs.declared.words.Rule.TheVariants.{R1, R2, R3}
use Rattle.ilk_base.specs.declared.words.Op.{Op}
use Rattle.ilk_base.specs.declared.words.NodeId.{NodeId}
use Rattle.station_graph.specs.declared.items.Switch.{Switch}
use Rattle.station_graph.specs.Diagram.{Diagram}
use Rattle.station_graph.specs.Nodes.{Rises}
use Rattle.station_graph.specs.Connection.{Bonded, with_breakers_closed}
use Rattle.station_graph.specs.Supply.{Live}
use Rattle.station_graph.specs.CentralRules.{before, after, Moves, Breaks}
use Rattle.denial_explain.specs.Chains.{LeadsToClosed, LeadsToTap}
use Rattle.denial_explain.specs.declared.chain.Chain.{Chain}
use Rattle.denial_explain.specs.declared.explanation.Explanation.{Explanation}

-- The chain leads from the node, where every breaker counts as closed, to a switch of the kind that is
-- closed in v.
abbrev pub LeadsCoupled : Diagram → List Bool → ℕ → Chain → Type 0
LeadsCoupled d v a c = LeadsToClosed d (with_breakers_closed d v) v Infeed a c

-- The chain leads from the node to a closed earthing switch, through breakers open or closed.
abbrev pub LeadsToEarth : Diagram → List Bool → ℕ → Chain → Type 0
LeadsToEarth d v a c = LeadsToClosed d (with_breakers_closed d v) v Earthing a c

-- R1: `live` leads from the node of the earthing switch to a closed infeed.
pub record ExplainsEarthing (d : Diagram) (v : List Bool) (op : Op) (e : Explanation) : Type 0 where
  pub switch : Switch
  pub moves : Moves d op switch
  pub live : LeadsCoupled d (before v op) switch.first.0 e.live
  pub no_earthed : e.earthed ≡ None
  pub no_taps : e.taps ≡ None
  pub no_bonded : e.bonded ≡ []

-- R2: with the operation done, `live` leads from the first node of the switch to a closed infeed, and
-- `earthed` from there to a closed earthing switch.
pub record ExplainsClosing (d : Diagram) (v : List Bool) (op : Op) (e : Explanation) : Type 0 where
  pub switch : Switch
  pub moves : Moves d op switch
  pub live : LeadsCoupled d (after v op) switch.first.0 e.live
  pub earthed : Chain
  pub has_earthed : e.earthed ≡ Some earthed
  pub to_earth : LeadsToEarth d (after v op) switch.first.0 earthed
  pub no_taps : e.taps ≡ None
  pub no_bonded : e.bonded ≡ []

-- The chain leads to a closed infeed along what is joined: from the first node if that is live, else from
-- the second.
abbrev pub LeadsLive : Diagram → List Bool → ℕ → ℕ → Chain → Type 0
LeadsLive d v first second c = LeadsToClosed d v v Infeed first c
    ⊎ ((¬ Live d v first) × LeadsToClosed d v v Infeed second c)

-- R3: with the switch open, one side is live, a tap is joined to each side, and the second node is not
-- among those that are bonded to the first.
pub record ExplainsLoad (d : Diagram) (v : List Bool) (op : Op) (e : Explanation) : Type 0 where
  pub switch : Switch
  pub second : NodeId
  pub moves : Moves d op switch
  pub has_second : switch.second ≡ Some second
  pub live : LeadsLive d (before v op) switch.first.0 second.0 e.live
  pub first_tap : Chain
  pub second_tap : Chain
  pub has_taps : e.taps ≡ Some (first_tap, second_tap)
  pub to_first_tap : LeadsToTap d (before v op) switch.first.0 first_tap
  pub to_second_tap : LeadsToTap d (before v op) second.0 second_tap
  pub all_bonded : (n : ℕ) → Contains e.bonded n ↔ Bonded d (before v op) switch.first.0 n
  pub rises : Rises e.bonded
  pub apart : ¬ Contains e.bonded second.0
  pub no_earthed : e.earthed ≡ None

-- The explanation is that of the rule.
abbrev pub ExplainsBy : Rule → Diagram → List Bool → Op → Explanation → Type 0
ExplainsBy R1 d v op e = ExplainsEarthing d v op e
ExplainsBy R2 d v op e = ExplainsClosing d v op e
ExplainsBy R3 d v op e = ExplainsLoad d v op e

-- The explanation names the operation and the rule that it breaks in v, and shows why.
pub record Explains (d : Diagram) (v : List Bool) (op : Op) (e : Explanation) : Type 0 where
  pub op_is : e.op ≡ op
  pub breaks : Breaks d v op (Some e.rule)
  pub shows : ExplainsBy e.rule d v op e
