-- Terminals: where each stands, and what pass 2 refuses.
use Rattle.std.specs.Prelude.{ℕ, Bool, true, false, ◌==◌, ◌&&◌, not, nat_lt, List, [], ◌∷◌, ◌++◌, length, map}
use Rattle.std.specs.Prelude.{filter, position, Option, Some, None, if◌then◌else◌, codes}
use Rattle.std.specs.List.{list_any, filter_map}
use Rattle.std.specs.Option.{option_map, option_or, option_map_or, option_and_then}
use Rattle.std.specs.Str.{bytes_eq}
use Rattle.ssd_text.specs.Nesting.{Entry}
use Rattle.ssd_read.specs.declared.role.Role.TheVariants.{ConductingEquipment, TransformerWinding, Terminal}
use Rattle.ssd_read.specs.declared.terminal_place.TerminalPlace.{TerminalPlace}
use Rattle.ssd_read.specs.declared.terminal_place.TerminalPlace.TheVariants.{Earth, Node, Missing}
use Rattle.ssd_read.specs.declared.types.Use.{Use}
use Rattle.ssd_read.specs.declared.types.Use.TheVariants as uses
use Rattle.ssd_read.specs.declared.refusal.SsdRefusal.{SsdRefusal}
use Rattle.ssd_read.specs.declared.refusal.SsdRefusal.TheVariants.{NodeMissing, Terminals, Grounded, Loop}
use Rattle.ssd_read.specs.Elements.{Element, attribute_value, same_role}
use Rattle.ssd_read.specs.Types.{type_of, use_of_type}
use Rattle.ssd_read.specs.Names.{FaultAfter, keys_of}

-- What follows the last slash, or all.
unfoldable pub after_slash : List ℕ → List ℕ
after_slash [] = []
after_slash (b ∷ bs) = if list_any (λ c. c == 47) (b ∷ bs) then after_slash bs else b ∷ bs

-- A terminal's last name: its `cNodeName` where there is one, else what follows the last slash of its key.
abbrev pub last_name : Entry → Option (List ℕ)
last_name e = option_or (attribute_value e (codes "cNodeName"))
    (option_map after_slash (attribute_value e (codes "connectivityNode")))

-- A terminal is grounded exactly where that is `grounded`.
abbrev pub is_grounded : Entry → Bool
is_grounded e = option_map_or (bytes_eq (codes "grounded")) (last_name e) false

-- Two names joined by a slash, if both are there.
abbrev pub with_slash : Option (List ℕ) → Option (List ℕ) → Option (List ℕ)
with_slash (Some a) (Some b) = Some (a ++ 47 ∷ b)
with_slash _ _ = None

-- A terminal's four names joined, if all are there.
abbrev pub joined_names : Entry → Option (List ℕ)
joined_names e = with_slash (with_slash (with_slash (attribute_value e (codes "substationName"))
    (attribute_value e (codes "voltageLevelName"))) (attribute_value e (codes "bayName")))
    (attribute_value e (codes "cNodeName"))

-- The key of the node on which a terminal stands: what it says, or its four names joined.
abbrev pub wanted_key : Entry → Option (List ℕ)
wanted_key e = option_or (attribute_value e (codes "connectivityNode")) (joined_names e)

-- The number of the node with this key.
abbrev pub node_with_key : List Element → List ℕ → Option ℕ
node_with_key all key = position (bytes_eq key) (keys_of all)

-- Where a terminal stands; one without a node is named by its place in the text.
abbrev pub end_of : List Element → Element → TerminalPlace
end_of all x =
    if is_grounded x.entry then Earth
    else option_map_or Node (option_and_then (node_with_key all) (wanted_key x.entry)) (Missing x.entry.at)

-- It is the number at hand.
abbrev pub is_number : ℕ → Option ℕ → Bool
is_number i None = false
is_number i (Some j) = i == j

-- x is a terminal that stands in element i.
abbrev pub is_terminal_of : ℕ → Element → Bool
is_terminal_of i x = same_role x.role Terminal && is_number i x.entry.parent

-- The ends of element i, in document order.
abbrev pub ends_of : List Element → ℕ → List TerminalPlace
ends_of all i = map (end_of all) (filter (is_terminal_of i) all)

-- ---- by the ends of one element

-- The node of an end, if it stands on one.
abbrev pub node_at : TerminalPlace → Option ℕ
node_at Earth = None
node_at (Node n) = Some n
node_at (Missing at) = None

-- The fault of an end that is on no node.
abbrev pub terminal_fault : TerminalPlace → Option SsdRefusal
terminal_fault Earth = None
terminal_fault (Node n) = None
terminal_fault (Missing at) = Some (NodeMissing at)

-- The nodes of the ends that are not grounded.
abbrev pub nodes_at : List TerminalPlace → List ℕ
nodes_at ends = filter_map node_at ends

-- The first end that is on no node.
abbrev pub missing_fault : List TerminalPlace → Option SsdRefusal
missing_fault [] = None
missing_fault (x ∷ xs) = option_or (terminal_fault x) (missing_fault xs)

-- A fault, unless this holds.
abbrev pub unless : Bool → SsdRefusal → Option SsdRefusal
unless b fault = if b then None else Some fault

-- The first two nodes differ.
abbrev pub are_apart : List ℕ → Bool
are_apart (a ∷ b ∷ ns) = not (a == b)
are_apart _ = true

-- Two ends, both on nodes, which differ.
abbrev pub breaker_fault : ℕ → List TerminalPlace → Option SsdRefusal
breaker_fault at ends =
    option_or (unless (length ends == 2) (Terminals at (length ends)))
    (option_or (unless (length (nodes_at ends) == 2) (Grounded at)) (unless (are_apart (nodes_at ends)) (Loop at)))

-- Two ends, not both grounded, on nodes that differ.
abbrev pub disconnector_fault : ℕ → List TerminalPlace → Option SsdRefusal
disconnector_fault at ends =
    option_or (unless (length ends == 2) (Terminals at (length ends)))
    (option_or (unless (nat_lt 0 (length (nodes_at ends))) (Grounded at))
    (unless (are_apart (nodes_at ends)) (Loop at)))

-- One end on a node.
abbrev pub infeed_fault : ℕ → List TerminalPlace → Option SsdRefusal
infeed_fault at ends = unless (length (nodes_at ends) == 1) (Terminals at (length (nodes_at ends)))

-- ---- kinds of equipment

-- What equipment is, by its type.
abbrev pub use_of : Entry → Use
use_of e = use_of_type (type_of e)

-- The fault of equipment that is used so, where all its ends are on earth or on nodes.
abbrev pub use_fault : Use → ℕ → List TerminalPlace → Option SsdRefusal
use_fault uses.Breaker at ends = breaker_fault at ends
use_fault uses.Disconnector at ends = disconnector_fault at ends
use_fault uses.Infeed at ends = infeed_fault at ends
use_fault uses.Other at ends = None

-- The fault of an element that has terminals, by its ends.
abbrev pub fault_of_ends : Element → List TerminalPlace → Option SsdRefusal
fault_of_ends x ends =
    if same_role x.role ConductingEquipment then option_or (missing_fault ends)
    (use_fault (use_of x.entry) x.entry.at ends)
    else if same_role x.role TransformerWinding then missing_fault ends
    else None

-- The fault of the element that stands after these, in pass 2.
unfoldable pub end_fault : List Element → FaultAfter
end_fault all before x = fault_of_ends x (ends_of all (length before))
