-- The words that name a number of feeders, and a text of the station.
use Rattle.std.specs.Prelude.{◌≡◌, ◌≤◌, ◌+◌, ◌-◌, ℕ, List, find, Option, Some, None, codes, decimal, if◌then◌else◌}
use Rattle.std.specs.List.{range_with_len}
use Rattle.std.specs.Str.{bytes_eq}
use Rattle.station_make.specs.declared.limits.TheConstants.{LEAST_FEEDERS, MOST_FEEDERS}
use Rattle.station_make.specs.declared.words.MadeText.{MadeText}
use Rattle.station_make.specs.declared.words.MadeText.TheVariants.{Station, Positions, Log}
use Rattle.station_make.specs.DrawingText.{station_text}
use Rattle.station_make.specs.PositionsText.{positions_text}
use Rattle.station_make.specs.EventsText.{events_text}

-- A number of feeders that can be made, as it is written: decimal, without sign or leading zeros.
pub record NamesFeeders (word : List ℕ) (number : ℕ) : Type 0 where
  pub least : LEAST_FEEDERS ≤ number
  pub most : number ≤ MOST_FEEDERS
  pub written : word ≡ decimal number

-- The number that a word names so, if it does.
unfoldable pub feeders_of : List ℕ → Option ℕ
feeders_of word =
    find (λ n. bytes_eq (decimal n) word) (range_with_len LEAST_FEEDERS (MOST_FEEDERS + 1 - LEAST_FEEDERS))

-- The text that a word names.
abbrev pub text_named : List ℕ → Option MadeText
text_named word =
    if bytes_eq word (codes "station") then Some Station
    else if bytes_eq word (codes "positions") then Some Positions
    else if bytes_eq word (codes "log") then Some Log
    else None

-- This text of the station with so many feeders.
abbrev pub made_text : MadeText → ℕ → List ℕ
made_text Station = station_text
made_text Positions = positions_text
made_text Log = events_text
