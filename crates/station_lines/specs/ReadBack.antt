-- The station that lines say: it is read back from them alone.
use Rattle.std.specs.Prelude.{ℕ, ◌+◌, ◌-◌, Bool, true, false, List, [], ◌∷◌, Option, Some, None, position, codes}
use Rattle.std.specs.Prelude.{if◌then◌else◌}
use Rattle.std.specs.List.{filter_map, cons_option}
use Rattle.std.specs.Option.{unwrap_or, option_map}
use Rattle.std.specs.Str.{bytes_eq}
use Rattle.ilk_base.specs.declared.words.Kind.{Kind}
use Rattle.ilk_base.specs.declared.words.Kind.TheVariants.{Breaker, Disconnector, Earthing, Infeed}
use Rattle.station_graph.specs.declared.items.Switch.{Switch}
use Rattle.station_graph.specs.declared.items.Link.{Link}
use Rattle.station_graph.specs.declared.items.Tap.{Tap}
use Rattle.station_graph.specs.Diagram.{Diagram}
use Rattle.station_lines.specs.Rows.{Row}

-- The path in a line of two fields that begins with this word.
abbrev pub said_after : List ℕ → Row → Option (List ℕ)
said_after word (first ∷ path ∷ []) = if bytes_eq first word then Some path else None
said_after word _ = None

-- The part that a line says.
abbrev pub said_part : Row → Option (List ℕ)
said_part = said_after (codes "part")

-- The node that a line says.
abbrev pub said_node : Row → Option (List ℕ)
said_node = said_after (codes "node")

-- The number of a node.
abbrev pub number_in : List (List ℕ) → List ℕ → ℕ
number_in nodes path = unwrap_or (position (bytes_eq path) nodes) 0

-- A switch at one node.
abbrev pub one_ended : Kind → ℕ → ℕ → Switch
one_ended kind first part = record {
  kind = kind;
  first = record { 0 = first };
  second = None;
  bay = record { 0 = part };
}

-- A switch between two nodes.
abbrev pub two_ended : Kind → ℕ → ℕ → ℕ → Switch
two_ended kind first second part = record {
  kind = kind;
  first = record { 0 = first };
  second = Some (record { 0 = second });
  bay = record { 0 = part };
}

-- The kind of switch with one end that a word says, and of one with two ends.
abbrev pub one_ended_kind : List ℕ → Option Kind
one_ended_kind word =
    if bytes_eq word (codes "earthing") then Some Earthing
    else (if bytes_eq word (codes "infeed") then Some Infeed else None)

abbrev pub two_ended_kind : List ℕ → Option Kind
two_ended_kind word =
    if bytes_eq word (codes "breaker") then Some Breaker
    else (if bytes_eq word (codes "disconnector") then Some Disconnector else None)

-- The switch that a line says, of this part.
abbrev pub said_switch : List (List ℕ) → ℕ → Row → Option Switch
said_switch nodes part (word ∷ path ∷ first ∷ []) =
    option_map (λ kind. one_ended kind (number_in nodes first) part) (one_ended_kind word)
said_switch nodes part (word ∷ path ∷ first ∷ second ∷ []) =
    option_map (λ kind. two_ended kind (number_in nodes first) (number_in nodes second) part) (two_ended_kind word)
said_switch nodes part _ = None

-- The path of that switch.
abbrev pub said_switch_path : Row → Option (List ℕ)
said_switch_path (word ∷ path ∷ first ∷ []) = option_map (λ kind. path) (one_ended_kind word)
said_switch_path (word ∷ path ∷ first ∷ second ∷ []) = option_map (λ kind. path) (two_ended_kind word)
said_switch_path _ = None

-- Whether a link is a bond, by the word.
abbrev pub said_bond : List ℕ → Option Bool
said_bond word =
    if bytes_eq word (codes "bond") then Some true
    else (if bytes_eq word (codes "link") then Some false else None)

-- The link that a line says.
abbrev pub said_link : List (List ℕ) → ℕ → Row → Option Link
said_link nodes part (word ∷ kind ∷ path ∷ first ∷ second ∷ []) = option_map (λ (bond : Bool). record {
  first = record { 0 = number_in nodes first };
  second = record { 0 = number_in nodes second };
  bond = bond;
  part = record { 0 = part };
}) (said_bond word)
said_link nodes part _ = None

-- The tap that a line says.
abbrev pub said_tap : List (List ℕ) → ℕ → Row → Option Tap
said_tap nodes part (word ∷ kind ∷ path ∷ node ∷ []) =
    if bytes_eq word (codes "tap") then Some (record {
      node = record { 0 = number_in nodes node };
      part = record { 0 = part };
    }) else None
said_tap nodes part _ = None

-- How many parts there are after a line, by how many there are before it.
abbrev pub parts_after : ℕ → Option (List ℕ) → ℕ
parts_after before None = before
parts_after before (Some path) = before + 1

-- What the lines say, each of the last part that was said before it; so many parts were said before them.
abbrev pub said_all : {X : Type 0} → (ℕ → Row → Option X) → ℕ → List Row → List X
said_all say before [] = []
said_all say before (row ∷ rows) =
    cons_option (say (parts_after before (said_part row) - 1) row) (said_all say (parts_after before (said_part row)) rows)

-- The station that lines say.
abbrev pub station_said : List Row → Diagram
station_said rows = record {
  node_paths = filter_map said_node rows;
  part_paths = filter_map said_part rows;
  switch_paths = filter_map said_switch_path rows;
  switches = said_all (said_switch (filter_map said_node rows)) 0 rows;
  links = said_all (said_link (filter_map said_node rows)) 0 rows;
  taps = said_all (said_tap (filter_map said_node rows)) 0 rows;
}
