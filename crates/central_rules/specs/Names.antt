-- What texts call a rule, a direction, a position and a word, and texts that are made place by place.
use Rattle.std.specs.Prelude.{◌++◌, ℕ, zero, suc, Bool, true, false, List, [], codes}
use Rattle.ilk_base.specs.declared.words.Dbpos.{Dbpos}
use Rattle.ilk_base.specs.declared.words.Dbpos.TheVariants.{Intermediate, Off, On, Bad, Lost}
use Rattle.ilk_base.specs.declared.words.Direction.{Direction}
use Rattle.ilk_base.specs.declared.words.Direction.TheVariants.{ToOff, ToOn}
use Rattle.ilk_base.specs.declared.words.Rule.{Rule}
use Rattle.ilk_base.specs.declared.words.Rule.TheVariants.{R1, R2, R3}

-- The name of a rule.
abbrev pub rule_name : Rule → List ℕ
rule_name R1 = codes "R1"
rule_name R2 = codes "R2"
rule_name R3 = codes "R3"

-- Opening is `open` and closing is `close`.
abbrev pub direction_name : Direction → List ℕ
direction_name ToOff = codes "open"
direction_name ToOn = codes "close"

-- A closed switch is `on`, an open one `off`.
abbrev pub position_name : Bool → List ℕ
position_name false = codes "off"
position_name true = codes "on"

-- The text that spells a word.
abbrev pub word_name : Dbpos → List ℕ
word_name Intermediate = codes "intermediate"
word_name Off = codes "off"
word_name On = codes "on"
word_name Bad = codes "bad"
word_name Lost = codes "lost"

-- The word is neither off nor on.
abbrev pub is_uncertain : Dbpos → Bool
is_uncertain Off = false
is_uncertain On = false
is_uncertain Intermediate = true
is_uncertain Bad = true
is_uncertain Lost = true

-- The texts of 0, 1 and so on below n, one after another.
abbrev pub texts_below : (ℕ → List ℕ) → ℕ → List ℕ
texts_below text zero = []
texts_below text (suc n) = texts_below text n ++ text n
