-- The five words, and what they say of a position (IEC 61850-7-3, DPC; lost is this project's own).
use Rattle.std.specs.Prelude.{◌≡◌, ◌≢◌, ⊤, ℕ, List, Option, Some, None, Bool, true, false, codes, length, slice_get}
use Rattle.std.specs.Prelude.{if◌then◌else◌}
use Rattle.std.specs.Str.{bytes_eq}
use Rattle.ilk_base.specs.declared.words.Dbpos.{Dbpos}
use Rattle.ilk_base.specs.declared.words.Dbpos.TheVariants.{Intermediate, Off, On, Bad, Lost}
use Rattle.station_graph.specs.Diagram.{Diagram, switches_in, place_in}
use Rattle.station_graph.specs.Connection.{a_switch}
use Rattle.station_graph.specs.Sharing.{OfPart}
use Rattle.station_graph.specs.declared.items.Switch.{Switch}

-- The word that a text spells.
abbrev pub word_of : List ℕ → Option Dbpos
word_of text =
    if bytes_eq text (codes "intermediate") then Some Intermediate
    else if bytes_eq text (codes "off") then Some Off
    else if bytes_eq text (codes "on") then Some On
    else if bytes_eq text (codes "bad") then Some Bad
    else if bytes_eq text (codes "lost") then Some Lost
    else None

-- The word agrees with the position: on with closed, off with open, and each other word with both.
abbrev pub Agrees : Dbpos → Bool → Type 0
Agrees On closed = closed ≡ true
Agrees Off closed = closed ≡ false
Agrees Intermediate closed = ⊤
Agrees Bad closed = ⊤
Agrees Lost closed = ⊤

-- There is one word for each switch of the station.
abbrev pub AreWords : Diagram → List Dbpos → Type 0
AreWords d words = length words ≡ length d.switches

-- Each switch of the bay agrees with its word. There is a word for each switch of the station, and those
-- of the bay are looked at.
abbrev pub BayAgrees : Diagram → ℕ → List Dbpos → List Bool → Type 0
BayAgrees d b words v = (i : ℕ) (word : Dbpos) (closed : Bool) → OfPart d b (a_switch i) →
    slice_get words i ≡ Some word → slice_get v i ≡ Some closed → Agrees word closed

-- The row is that of the bay's words: one for each of its switches, in their order.
pub record AreWordsOf (d : Diagram) (bay : ℕ) (words row : List Dbpos) : Type 0 where
  pub count : length row ≡ switches_in d bay
  pub each : (i : ℕ) (word : Dbpos) → OfPart d bay (a_switch i) → slice_get words i ≡ Some word →
      slice_get row (place_in d bay i) ≡ Some word

-- The new words are lost for each switch of the bay, and the old ones for each other switch.
pub record Forgets (d : Diagram) (bay : ℕ) (old new : List Dbpos) : Type 0 where
  pub count : length new ≡ length old
  pub own : (i : ℕ) (x : Switch) → slice_get d.switches i ≡ Some x → x.bay.0 ≡ bay → slice_get new i ≡ Some Lost
  pub others : (i : ℕ) (x : Switch) → slice_get d.switches i ≡ Some x → x.bay.0 ≢ bay →
      slice_get new i ≡ slice_get old i
