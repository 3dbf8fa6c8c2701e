-- How many operations of a station are released, and how many are denied.
use Rattle.std.specs.Prelude.{◌≡◌, ℕ, Bool, true, false, List, [], ◌∷◌, length, count_by}
use Rattle.std.specs.List.{AllZip, flat_map, range_with_len}
use Rattle.ilk_base.specs.declared.words.Dbpos.{Dbpos}
use Rattle.ilk_base.specs.declared.words.Direction.TheVariants.{ToOff, ToOn}
use Rattle.ilk_base.specs.declared.words.Op.{Op}
use Rattle.station_graph.specs.Diagram.{Diagram}
use Rattle.central_rules.specs.declared.verdict.Verdict.{Verdict}
use Rattle.central_rules.specs.declared.verdict.Verdict.TheVariants.{Release, Denied}
use Rattle.central_rules.specs.Readings.{Decides, IsReading}
use Rattle.central_rules.specs.Knowledge.{Known, IsReadingOf}
use Rattle.central_rules.specs.Meaning.{bay_of}
use Rattle.station_work.specs.declared.tally.Sight.{Sight}
use Rattle.station_work.specs.declared.tally.Sight.TheVariants.{Full, Blind}
use Rattle.station_work.specs.declared.tally.Tally.{Tally}

-- The two operations of a switch: to open it, and to close it.
abbrev pub operations_on : ℕ → List Op
operations_on i = record { switch = record { 0 = i }; direction = ToOff } ∷ record {
  switch = record { 0 = i };
  direction = ToOn;
} ∷ []

-- The operations of the first n switches, in document order.
abbrev pub operations_below : ℕ → List Op
operations_below n = flat_map operations_on (range_with_len 0 n)

-- What the bay of an operation knows where nothing was heard: the words of its own switches.
abbrev pub own_words : Diagram → List Dbpos → Op → Known
own_words d words op = record { bay = bay_of d op.switch.0; own = words; heard = [] }

-- The vectors that cannot be excluded where an operation is judged: by the words of all switches, or by those
-- of its own bay alone.
abbrev pub Sees : Sight → Diagram → List Dbpos → Op → List Bool → Type 0
Sees Full d words op = IsReading words
Sees Blind d words op = IsReadingOf d (own_words d words op)

-- These are verdicts on these operations, one on each.
abbrev pub AreSeenVerdicts : Sight → Diagram → List Dbpos → List Op → List Verdict → Type 0
AreSeenVerdicts sight d words ops verdicts = AllZip (λ op verdict. Decides d
    (Sees sight d words op) op verdict) ops verdicts

-- Whether it is a release.
abbrev pub is_release : Verdict → Bool
is_release Release = true
is_release (Denied rule v) = false

-- Whether it is a denial.
abbrev pub is_denial : Verdict → Bool
is_denial Release = false
is_denial (Denied rule v) = true

-- So many of the verdicts on these operations are releases, and so many are denials.
pub record Tallies (sight : Sight) (d : Diagram) (words : List Dbpos) (ops : List Op) (t : Tally) : Type 0 where
  pub verdicts : List Verdict
  pub are : AreSeenVerdicts sight d words ops verdicts
  pub released : t.released ≡ count_by is_release verdicts
  pub denied : t.denied ≡ count_by is_denial verdicts

-- Of all operations of the station.
abbrev pub TalliesAll : Sight → Diagram → List Dbpos → Tally → Type 0
TalliesAll sight d words t = Tallies sight d words (operations_below (length d.switches)) t
