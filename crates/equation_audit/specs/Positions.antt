-- The positions of a block's own switches, by number, and the words that say one.
use Rattle.std.specs.Prelude.{◌≡◌, ◌<◌, ◌==◌, ◌/◌, ◌%◌, ℕ, Bool, true, false, List, [], ◌∷◌, length, slice_get}
use Rattle.std.specs.Prelude.{slice_set, slice_index_or, Some, if◌then◌else◌}
use Rattle.ilk_base.specs.declared.words.SwitchId.{SwitchId}
use Rattle.ilk_base.specs.declared.words.Dbpos.{Dbpos}
use Rattle.ilk_base.specs.declared.words.Dbpos.TheVariants.{Off, On, Lost}
use Rattle.station_graph.specs.Diagram.{Diagram}
use Rattle.station_graph.specs.Alike.{IsVector}
use Rattle.equation_audit.specs.Equations.{is_among}

-- The vector with the switches in the position of this number: the first is closed where it is odd, the
-- second where its half is, and so on.
abbrev pub placed : List Bool → List SwitchId → ℕ → List Bool
placed v [] number = v
placed v (id ∷ ids) number = placed (slice_set v id.0 (number % 2 == 1)) ids (number / 2)

-- The vector with these switches closed.
abbrev pub all_closed : List Bool → List SwitchId → List Bool
all_closed v [] = v
all_closed v (id ∷ ids) = all_closed (slice_set v id.0 true) ids

-- The word that says this position.
abbrev pub word_at : Bool → Dbpos
word_at false = Off
word_at true = On

-- The word of switch i where of the position u those of the own switches are known.
abbrev pub own_word : List SwitchId → List Bool → ℕ → Dbpos
own_word own u i = if is_among own i then word_at (slice_index_or u i false) else Lost

-- The words say the position of the own switches in u, and leave all others open.
abbrev pub AreOwnWords : List SwitchId → List Bool → List Dbpos → Type 0
AreOwnWords own u words = (i : ℕ) → i < length words → slice_get words i ≡ Some (own_word own u i)

-- The vector v gives the switches for which the test is true the position that u gives them.
pub record SharesPosition (d : Diagram) (test : ℕ → Bool) (u v : List Bool) : Type 0 where
  pub whole : IsVector d v
  pub same : (i : ℕ) → test i ≡ true → slice_get v i ≡ slice_get u i

-- Each of these switches is among the first so many.
abbrev pub AllAmong : ℕ → List SwitchId → Type 0
AllAmong count ids = (i : ℕ) → is_among ids i ≡ true → i < count
