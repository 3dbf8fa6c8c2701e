-- The words of a stored session.
use Rattle.std.specs.Prelude.{List, [], ◌∷◌, ℕ, Option, Some, None, codes, if◌then◌else◌}
use Rattle.std.specs.List.{list_all}
use Rattle.std.specs.Str.{bytes_eq}
use Rattle.command_words.specs.Rows.{is_plain}
use Rattle.interlock_cli.specs.declared.stored_words.StoredWords.{StoredWords as Words}

-- What a stored session is given: the words STATION and BAY. The device stands behind the word FILE.
pub record StoredWords : Type 0 where
  pub station : List ℕ
  pub bay : List ℕ

-- `stored STATION BAY FILE`.
abbrev pub stored_named : List (List ℕ) → Option StoredWords
stored_named (name ∷ station ∷ bay ∷ file ∷ []) =
    if bytes_eq name (codes "stored") then Some (record { station = station; bay = bay }) else None
stored_named _ = None

-- What the words name, where no word is empty or begins with `-`.
abbrev pub stored_of : List (List ℕ) → Option StoredWords
stored_of words = if list_all is_plain words then stored_named words else None

-- What a contract sees of the words.
abbrev pub seen_words : Words → StoredWords
seen_words words = record { station = words.station.now; bay = words.bay.now }
