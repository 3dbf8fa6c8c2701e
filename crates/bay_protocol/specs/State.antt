-- The state of a node, and the small changes of which a step of it is made.
use Rattle.std.specs.Prelude.{◌≡◌, ◌≢◌, ◌+◌, ◌≤◌, ◌==◌, ◌&&◌, not, nat_lt, ℕ, Bool, List, length, filter, Option, Some}
use Rattle.std.specs.Prelude.{None, replicate, slice_set, slice_get, ⊤}
use Rattle.std.specs.List.{range_with_len}
use Rattle.ilk_base.specs.declared.words.BayId.{BayId}
use Rattle.ilk_base.specs.declared.words.Dbpos.{Dbpos}
use Rattle.ilk_base.specs.declared.words.Dbpos.TheVariants.{Lost}
use Rattle.ilk_base.specs.declared.words.Op.{Op}
use Rattle.station_graph.specs.Diagram.{Diagram, part_count, switches_in}
use Rattle.central_rules.specs.Meaning.{IsBay}
use Rattle.bay_protocol.specs.declared.values.Lock.{Lock}
use Rattle.bay_protocol.specs.declared.values.Grant.{Grant}
use Rattle.bay_protocol.specs.declared.values.Kept.{Kept}
use Rattle.bay_protocol.specs.declared.values.Collection.{Collection}

-- A node of a bay: the highest round that it has opened, the lock that it has given, its granted operation,
-- the round that it is collecting, and its words, one for each switch of the station.
pub record State : Type 0 where
  pub bay : ℕ
  pub highest : ℕ
  pub lock : Option Lock
  pub granted : Option Grant
  pub collecting : Option Collection
  pub words : List Dbpos

-- What the node keeps over a restart.
abbrev pub kept_of : State → Kept
kept_of s = record { highest = s.highest; lock = s.lock; granted = s.granted }

-- The round that is under way: it is being collected, or its granted operation has not ended.
abbrev pub under_way_of : Option Collection → Option Grant → Option ℕ
under_way_of (Some g) granted = Some g.round
under_way_of None (Some g) = Some g.round
under_way_of None None = None

-- The round that is under way, if there is one.
abbrev pub under_way : State → Option ℕ
under_way s = under_way_of s.collecting s.granted

-- ---- the others

-- Another bay of the station than b.
abbrev pub IsOther : Diagram → ℕ → ℕ → Type 0
IsOther d b c = IsBay d c × (c ≢ b)

-- Whether a part has switches and is not b.
abbrev pub is_another : Diagram → ℕ → ℕ → Bool
is_another d b c = nat_lt 0 (switches_in d c) && not (c == b)

-- All other bays, in order of number.
abbrev pub others : Diagram → ℕ → List ℕ
others d b = filter (is_another d b) (range_with_len 0 (part_count d))

-- A summary of the bay was heard.
abbrev pub IsHeard : List (Option (List ℕ)) → ℕ → Type 0
IsHeard heard c = (summary : List ℕ) × (slice_get heard c ≡ Some (Some summary))

-- All others were heard.
abbrev pub AllHeard : Diagram → ℕ → List (Option (List ℕ)) → Type 0
AllHeard d b heard = (c : ℕ) → IsOther d b c → IsHeard heard c

-- ---- how a state begins

-- The state of a bay that has nothing but this record: all words are lost, and no round is collected.
abbrev pub resumed : Diagram → ℕ → Kept → State
resumed d b k = record {
  bay = b;
  highest = k.highest;
  lock = k.lock;
  granted = k.granted;
  collecting = None;
  words = replicate (length d.switches) Lost;
}

-- The record of a bay to which nothing has happened.
abbrev pub nothing_kept : Kept
nothing_kept = record { highest = 0; lock = None; granted = None }

-- ---- how a state changes

-- It collects g, in this highest round.
abbrev pub collects : State → ℕ → Collection → State
collects s highest g = record {
  bay = s.bay;
  highest = highest;
  lock = s.lock;
  granted = s.granted;
  collecting = Some g;
  words = s.words;
}

-- The next round, in which nobody was heard.
abbrev pub fresh : Diagram → State → Op → Collection
fresh d s op = record { round = s.highest + 1; op = op; heard = replicate (part_count d) None }

-- It opens the next round.
abbrev pub opens : Diagram → State → Op → State
opens d s op = collects s (s.highest + 1) (fresh d s op)

-- The same round, in which the summary of b was heard.
abbrev pub hears : Collection → ℕ → List ℕ → Collection
hears g b summary = record { round = g.round; op = g.op; heard = slice_set g.heard b (Some summary) }

-- The operation of g is granted, and the word of its switch is lost.
abbrev pub grants : State → Collection → State
grants s g = record {
  bay = s.bay;
  highest = s.highest;
  lock = s.lock;
  granted = Some (record { round = g.round; op = g.op });
  collecting = None;
  words = slice_set s.words g.op.switch.0 Lost;
}

-- The round is collected no longer.
abbrev pub drops : State → State
drops s = record {
  bay = s.bay;
  highest = s.highest;
  lock = s.lock;
  granted = s.granted;
  collecting = None;
  words = s.words;
}

-- The granted operation has ended.
abbrev pub ends : State → State
ends s = record {
  bay = s.bay;
  highest = s.highest;
  lock = s.lock;
  granted = None;
  collecting = s.collecting;
  words = s.words;
}

-- The lock is given to round r of bay c.
abbrev pub locks : State → ℕ → ℕ → State
locks s c r = record {
  bay = s.bay;
  highest = s.highest;
  lock = Some (record { holder = record { 0 = c }; round = r });
  granted = s.granted;
  collecting = s.collecting;
  words = s.words;
}

-- The lock is given up.
abbrev pub unlocks : State → State
unlocks s = record {
  bay = s.bay;
  highest = s.highest;
  lock = None;
  granted = s.granted;
  collecting = s.collecting;
  words = s.words;
}

-- The word of switch i is read.
abbrev pub senses : State → ℕ → Dbpos → State
senses s i word = record {
  bay = s.bay;
  highest = s.highest;
  lock = s.lock;
  granted = s.granted;
  collecting = s.collecting;
  words = slice_set s.words i word;
}

-- All words become lost, and the round that was being collected is forgotten.
abbrev pub restarts : State → State
restarts s = record {
  bay = s.bay;
  highest = s.highest;
  lock = s.lock;
  granted = s.granted;
  collecting = None;
  words = replicate (length s.words) Lost;
}

-- The lock may be given to round r of c: there is none, or c has it with no later round.
abbrev pub MayLock : Option Lock → ℕ → ℕ → Type 0
MayLock None c r = ⊤
MayLock (Some l) c r = (l.holder.0 ≡ c) × (l.round ≤ r)
