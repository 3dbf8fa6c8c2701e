-- Words that leave no position open.
use Rattle.std.specs.Prelude.{◌≡◌, ℕ, Bool, true, false, List, map, slice_get, Some}
use Rattle.ilk_base.specs.declared.words.Dbpos.{Dbpos}
use Rattle.ilk_base.specs.declared.words.Dbpos.TheVariants.{Off, On}
use Rattle.central_rules.specs.Names.{is_uncertain}

-- The word that says this position.
abbrev pub word_at : Bool → Dbpos
word_at false = Off
word_at true = On

-- Each word says the position of its switch in the vector.
abbrev pub SayPositions : List Bool → List Dbpos → Type 0
SayPositions v words = words ≡ map word_at v

-- A word is neither off nor on.
pub record IsUnsure (words : List Dbpos) : Type 0 where
  pub place : ℕ
  pub word : Dbpos
  pub stands : slice_get words place ≡ Some word
  pub uncertain : is_uncertain word ≡ true
