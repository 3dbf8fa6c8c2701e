-- What each question of a page says of a station, and what it refuses, in the order in which it is judged: what the
-- command of its name says.
use Rattle.std.specs.Prelude.{◌≡◌, ◌⊎◌, ℕ, Bool, true, false, List, Contains}
use Rattle.ilk_base.specs.declared.words.Dbpos.{Dbpos}
use Rattle.ilk_base.specs.declared.words.Direction.{Direction}
use Rattle.ilk_base.specs.declared.words.Direction.TheVariants.{ToOff, ToOn}
use Rattle.ilk_base.specs.declared.words.InputRefusal.{InputRefusal}
use Rattle.ilk_base.specs.declared.words.Op.{Op}
use Rattle.station_graph.specs.Diagram.{Diagram}
use Rattle.double_points.specs.Positions.{IsAccepted, IsRefusedWith}
use Rattle.station_state.specs.StateText.{IsStateText}
use Rattle.switching_orders.specs.Certain.{SayPositions, IsUnsure}
use Rattle.switching_orders.specs.OrderLines.{IsOrder, IsOrderFault}
use Rattle.switching_orders.specs.OrderText.{IsOrderText}
use Rattle.release_texts.specs.CheckText.{IsCheckText}
use Rattle.release_texts.specs.ExplainText.{IsExplainText}
use Rattle.why_text.specs.WhyText.{IsWhyText}

-- The positions are accepted, as words of which this holds.
abbrev pub ByPositions : Diagram → List ℕ → (List Dbpos → Type 0) → Type 0
ByPositions d positions P = (words : List Dbpos) × IsAccepted d.switch_paths positions words × P words

-- The text of `check`.
abbrev pub SaysCheck : Diagram → List ℕ → Bool → List ℕ → Type 0
SaysCheck d positions differs text = (differs ≡ false) × ByPositions d positions (λ words. IsCheckText d words text)

-- The text of `state`.
abbrev pub SaysState : Diagram → List ℕ → Bool → List ℕ → Type 0
SaysState d positions differs text = (differs ≡ false) × ByPositions d positions (λ words. IsStateText d words text)

-- The direction of an operation that opens, or that closes.
abbrev pub direction_of : Bool → Direction
direction_of false = ToOff
direction_of true = ToOn

-- The text of `explain` for moving the switch of this path in this direction.
abbrev pub SaysExplain : Diagram → List ℕ → Direction → List ℕ → Bool → List ℕ → Type 0
SaysExplain d positions direction path differs text =
    (differs ≡ false) × ByPositions d positions (λ words. IsExplainText d words direction path text)

-- The text of `why` for moving the switch of this path in this direction.
abbrev pub SaysWhy : Diagram → List ℕ → Direction → List ℕ → Bool → List ℕ → Type 0
SaysWhy d positions direction path differs text =
    (differs ≡ false) × ByPositions d positions (λ words. IsWhyText d words direction path text)

-- The positions are accepted, and no word of them leaves a position open: this is the vector that they say.
abbrev pub IsStart : Diagram → List ℕ → List Bool → Type 0
IsStart d positions start = ByPositions d positions (SayPositions start)

-- The text of `order` from these positions, and whether a step of it is denied or idle.
pub record SaysOrder (d : Diagram) (positions order : List ℕ) (differs : Bool) (text : List ℕ) : Type 0 where
  pub start : List Bool
  pub steps : List Op
  pub starts : IsStart d positions start
  pub ordered : IsOrder d order steps
  pub reported : IsOrderText d start steps (record { differs = differs; text = text })

-- Positions that are refused.
abbrev pub RefusesPositions : Diagram → List ℕ → InputRefusal → Type 0
RefusesPositions d positions refusal = IsRefusedWith d.switch_paths positions refusal

-- Positions that are refused; or a path that is that of no switch: 11, in no line.
abbrev pub RefusesExplain : Diagram → List ℕ → List ℕ → InputRefusal → Type 0
RefusesExplain d positions path refusal =
    RefusesPositions d positions refusal
    ⊎ ByPositions d positions (λ words. (¬ Contains d.switch_paths path) × (refusal ≡ record { number = 11; line = 0 }))

-- Positions that are refused; or of which a word leaves a position open: 14, in no line.
abbrev pub RefusesStart : Diagram → List ℕ → InputRefusal → Type 0
RefusesStart d positions refusal =
    RefusesPositions d positions refusal
    ⊎ ByPositions d positions (λ words. IsUnsure words × (refusal ≡ record { number = 14; line = 0 }))

-- Positions from which no order starts; or an order that is refused.
abbrev pub RefusesOrder : Diagram → List ℕ → List ℕ → InputRefusal → Type 0
RefusesOrder d positions order refusal =
    RefusesStart d positions refusal ⊎ ((start : List Bool) × IsStart d positions start × IsOrderFault d order refusal)
