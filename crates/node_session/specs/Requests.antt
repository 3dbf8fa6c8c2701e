-- The lines of a node's input, and what each asks of the node.
use Rattle.std.specs.Prelude.{◌≡◌, ◌≤◌, ◌++◌, ⊤, ℕ, Bool, true, List, length, slice_get, Some, Ok, codes}
use Rattle.hex.specs.Hex.{decode_of}
use Rattle.station_graph.specs.Diagram.{Diagram}
use Rattle.central_rules.specs.Names.{direction_name, word_name}
use Rattle.bay_protocol.specs.declared.values.Kept.{Kept as Record}
use Rattle.bay_protocol.specs.declared.values.NodeEvent.{NodeEvent}
use Rattle.bay_protocol.specs.declared.values.NodeEvent.TheVariants.{Command, Sense, Frame, Tick, Withdraw, Restart}
use Rattle.bay_protocol.specs.declared.values.NodeEvent.TheVariants.{Cut}
use Rattle.bay_protocol.specs.Fits.{IsOwn, KeptFits, EventFits}
use Rattle.bay_protocol.specs.KeptRow.{kept_row, InRow}
use Rattle.node_session.specs.declared.request.Request.{Request}
use Rattle.node_session.specs.declared.request.Request.TheVariants.{Resume, Event, Arrival}
use Rattle.node_session.specs.declared.request.TheConstants.{MOST_LINE}

-- The line is this head and the path of switch i, which is one of bay b.
pub record NamesOwn (d : Diagram) (b : ℕ) (head : List ℕ) (i : ℕ) (line : List ℕ) : Type 0 where
  pub path : List ℕ
  pub written : line ≡ head ++ path
  pub named : slice_get d.switch_paths i ≡ Some path
  pub own : IsOwn d b i

-- The line is this head and hexadecimal digits, of either case, that spell these bytes.
pub record NamesBytes (head bytes line : List ℕ) : Type 0 where
  pub digits : List ℕ
  pub written : line ≡ head ++ digits
  pub spelled : decode_of digits ≡ Ok bytes

-- The line names this event of bay b. A frame comes as its bytes, and is none of these.
abbrev pub NamesEvent : Diagram → ℕ → List ℕ → NodeEvent → Type 0
NamesEvent d b line (Command op) =
    NamesOwn d b (codes "command " ++ direction_name op.direction ++ codes " ") op.switch.0 line
NamesEvent d b line (Sense i word) = NamesOwn d b (codes "sense " ++ word_name word ++ codes " ") i.0 line
NamesEvent d b line (Frame f) = ⊥
NamesEvent d b line Tick = line ≡ codes "tick"
NamesEvent d b line Withdraw = line ≡ codes "withdraw"
NamesEvent d b line Restart = line ≡ codes "restart"
NamesEvent d b line (Cut i) = NamesOwn d b (codes "cut ") i.0 line

-- The line hands back this record, which fits bay b.
pub record NamesRecord (d : Diagram) (b : ℕ) (line : List ℕ) (k : Record) : Type 0 where
  pub bytes : NamesBytes (codes "kept ") (kept_row k) line
  pub in_row : InRow k
  pub fits : KeptFits d b k

-- The line asks this of the node of bay b. A record may be handed back where none stands in the way.
abbrev pub Asks : Diagram → ℕ → Bool → List ℕ → Request → Type 0
Asks d b first line (Resume k) = (first ≡ true) × NamesRecord d b line k
Asks d b first line (Event event) = NamesEvent d b line event
Asks d b first line (Arrival bytes) = NamesBytes (codes "frame ") bytes line

-- The line is a line of the input: it is not too long, and asks something.
pub record IsRequest (d : Diagram) (b : ℕ) (first : Bool) (line : List ℕ) : Type 0 where
  pub short : length line ≤ MOST_LINE
  pub request : Request
  pub asks : Asks d b first line request

-- What is asked fits the node of bay b: an event is one of the bay, and a record fits it.
abbrev pub RequestFits : Diagram → ℕ → Request → Type 0
RequestFits d b (Resume k) = KeptFits d b k
RequestFits d b (Event event) = EventFits d b event
RequestFits d b (Arrival bytes) = ⊤
