-- The text that tells people why an operation is denied. It is a relation, as the text of `explain` is.
use Rattle.std.specs.Prelude.{◌≡◌, ◌++◌, ℕ, Bool, false, List, [], Option, Some, None, slice_get, codes}
use Rattle.ilk_base.specs.declared.words.Dbpos.{Dbpos}
use Rattle.ilk_base.specs.declared.words.Direction.{Direction}
use Rattle.ilk_base.specs.declared.words.Op.{Op}
use Rattle.ilk_base.specs.declared.words.Rule.{Rule}
use Rattle.ilk_base.specs.declared.words.Rule.TheVariants.{R1, R2, R3}
use Rattle.station_graph.specs.Diagram.{Diagram}
use Rattle.station_graph.specs.Connection.{Touching, with_breakers_closed}
use Rattle.station_graph.specs.CentralRules.{before, after}
use Rattle.central_rules.specs.declared.verdict.Verdict.{Verdict}
use Rattle.central_rules.specs.declared.verdict.Verdict.TheVariants.{Release, Denied}
use Rattle.central_rules.specs.Readings.{Decides, IsReading}
use Rattle.denial_explain.specs.Explained.{Explains}
use Rattle.denial_explain.specs.ExplanationText.{operation, denied_line, position_lines, node_lines}
use Rattle.denial_explain.specs.declared.chain.Chain.{Chain}
use Rattle.denial_explain.specs.declared.explanation.Explanation.{Explanation}
use Rattle.whatever_text.specs.Whatever.{IsWhateverText}
use Rattle.why_text.specs.Devices.{IsWalk}
use Rattle.why_text.specs.WhyLines.{IsChainText}

-- The positions in which the ways of a denial by this rule are shown: the moved switch is open, but for R2, for which the
-- operation is done.
abbrev pub shown_in : Rule → List Bool → Op → List Bool
shown_in R1 v op = before v op
shown_in R2 v op = after v op
shown_in R3 v op = before v op

-- The positions that count for such a way: every breaker counts as closed, but for R3.
abbrev pub counted_in : Rule → Diagram → List Bool → List Bool
counted_in R1 d v = with_breakers_closed d v
counted_in R2 d v = with_breakers_closed d v
counted_in R3 d v = v

-- The line `earthed` and the chain's lines, where there is one.
abbrev pub IsEarthedText : Diagram → List Bool → List Bool → Option Chain → List ℕ → Type 0
IsEarthedText d v counted (Some c) text = IsChainText d v counted (codes "earthed\n") c text
IsEarthedText d v counted None text = text ≡ []

-- The chain to a tap from each side, and the nodes that are bonded to the first.
pub record TellsLoad (d : Diagram) (v counted : List Bool) (first second : Chain) (bonded text : List ℕ) : Type 0 where
  pub one : List ℕ
  pub two : List ℕ
  pub one_is : IsChainText d v counted (codes "tap\n") first one
  pub two_is : IsChainText d v counted (codes "tap\n") second two
  pub text_is : text ≡ one ++ two ++ codes "bonded\n" ++ node_lines d bonded

-- The load on both sides, where it is told.
abbrev pub IsLoadText : Diagram → List Bool → List Bool → Option (Chain × Chain) → List ℕ → List ℕ → Type 0
IsLoadText d v counted (Some (first, second)) bonded text = TellsLoad d v counted first second bonded text
IsLoadText d v counted None bonded text = text ≡ []

-- The ways of an explanation, in these positions, of which these count.
pub record TellsWays (d : Diagram) (v counted : List Bool) (e : Explanation) (text : List ℕ) : Type 0 where
  pub live : List ℕ
  pub earthed : List ℕ
  pub load : List ℕ
  pub live_is : IsChainText d v counted (codes "live\n") e.live live
  pub earthed_is : IsEarthedText d v counted e.earthed earthed
  pub load_is : IsLoadText d v counted e.taps e.bonded load
  pub text_is : text ≡ live ++ earthed ++ load

-- The ways of the explanation, where its rule breaks in v.
abbrev pub AreWaysOf : Diagram → List Bool → Explanation → List ℕ → Type 0
AreWaysOf d v e text = TellsWays d (shown_in e.rule v e.op) (counted_in e.rule d (shown_in e.rule v e.op)) e text

-- Each two neighbours on each way of the explanation are joined by an item that counts.
pub record WalksIn (d : Diagram) (counted : List Bool) (e : Explanation) : Type 0 where
  pub live : IsWalk (Touching false d counted) e.live.nodes
  pub earthed : (c : Chain) → e.earthed ≡ Some c → IsWalk (Touching false d counted) c.nodes
  pub taps : (a b : Chain) → e.taps ≡ Some (a, b) →
      IsWalk (Touching false d counted) a.nodes × IsWalk (Touching false d counted) b.nodes

-- The whole text of a denial: the rule and the operation; the reading in which it breaks; the switches that do not matter
-- alone; and the ways.
pub record TellsDenial (d : Diagram) (words : List Dbpos) (v : List Bool) (op : Op) (text : List ℕ) : Type 0 where
  pub e : Explanation
  pub explains : Explains d v op e
  pub whatever : List ℕ
  pub ways : List ℕ
  pub whatever_is : IsWhateverText d words op whatever
  pub ways_are : AreWaysOf d v e ways
  pub text_is : text ≡ denied_line d e.rule op ++ position_lines (codes "with ") op.switch.0 words v d ++ whatever ++ ways

-- What is told of a verdict: `released open PATH` (or `close`), or why it is denied.
abbrev pub TellsVerdict : Diagram → List Dbpos → Op → List ℕ → Verdict → Type 0
TellsVerdict d words op text Release = text ≡ codes "released " ++ operation d op
TellsVerdict d words op text (Denied rule v) = TellsDenial d words v op text

-- The text tells the verdict on the operation over every reading of the words.
pub record TellsWhy (d : Diagram) (words : List Dbpos) (op : Op) (text : List ℕ) : Type 0 where
  pub verdict : Verdict
  pub decides : Decides d (IsReading words) op verdict
  pub tells : TellsVerdict d words op text verdict

-- The text of `why` for moving the switch of this path in this direction.
pub record IsWhyText (d : Diagram) (words : List Dbpos) (direction : Direction) (path text : List ℕ) : Type 0 where
  pub op : Op
  pub direction_is : op.direction ≡ direction
  pub named : slice_get d.switch_paths op.switch.0 ≡ Some path
  pub tells : TellsWhy d words op text
