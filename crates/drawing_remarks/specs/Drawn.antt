-- Remarks on what is drawn: each a test of an element.
use Rattle.std.specs.Prelude.{ℕ, ◌+◌, Bool, true, false, ◌==◌, ◌&&◌, not, nat_lt, List, [], ◌∷◌, length, drop}
use Rattle.std.specs.Prelude.{position, Option, Some, None, codes, if◌then◌else◌}
use Rattle.std.specs.List.{list_any}
use Rattle.std.specs.Option.{option_map_or}
use Rattle.std.specs.Str.{bytes_eq}
use Rattle.ssd_read.specs.declared.role.Role.TheVariants.{ConductingEquipment, TransformerWinding, Terminal, Skipped}
use Rattle.ssd_read.specs.declared.terminal_place.TerminalPlace.{TerminalPlace}
use Rattle.ssd_read.specs.declared.terminal_place.TerminalPlace.TheVariants.{Earth, Node, Missing}
use Rattle.ssd_read.specs.declared.types.Use.{Use}
use Rattle.ssd_read.specs.declared.types.Use.TheVariants as uses
use Rattle.ssd_read.specs.Elements.{Element, element_at, attribute_value, same_role}
use Rattle.ssd_read.specs.Names.{is_node}
use Rattle.ssd_read.specs.Ends.{after_slash, ends_of, nodes_at, use_of}
use Rattle.ssd_read.specs.Steps.{is_bond}
use Rattle.drawing_remarks.specs.Types.{types, earthed_types, read_tags, is_among, is_spelled, same_letters}

-- The element is conducting equipment.
abbrev pub is_equipment : Element → Bool
is_equipment x = same_role x.role ConductingEquipment

-- A tag's name without its prefix.
abbrev pub local_name : List ℕ → List ℕ
local_name name = option_map_or (λ i. drop (i + 1) name) (position (λ b. b == 58) name) name

-- The tag is named as those that are read.
abbrev pub is_read_tag : List ℕ → Bool
is_read_tag name = is_among read_tags (local_name name)

-- The element in which it stands is named so.
abbrev pub stands_in_read_tag : List Element → Element → Bool
stands_in_read_tag all x = option_map_or (λ p. is_read_tag (element_at all p).entry.name) x.entry.parent false

-- It is passed over, though it is named as those that are read; what stands in another such element is not
-- counted once more.
abbrev pub is_passed_over : List Element → Element → Bool
is_passed_over all x =
    same_role x.role Skipped && is_read_tag x.entry.name
    && not (same_role x.within Skipped && stands_in_read_tag all x)

-- The type of conducting equipment, as it is written; all else has none.
abbrev pub written_type : Element → Option (List ℕ)
written_type x = if is_equipment x then attribute_value x.entry (codes "type") else None

-- It is equipment with a type that passes the test.
abbrev pub type_is : (List ℕ → Bool) → Element → Bool
type_is test x = option_map_or test (written_type x) false

-- Its type is none of the standard's, in whatever letters.
abbrev pub has_unknown_type : Element → Bool
has_unknown_type = type_is (λ word. not (is_spelled types word))

-- Its type has the letters of one of the standard's, in another case.
abbrev pub has_type_in_case : Element → Bool
has_type_in_case = type_is (λ word. is_spelled types word && not (is_among types word))

-- Its type is none of those that stand between a node and earth by their nature.
abbrev pub has_unearthed_type : Element → Bool
has_unearthed_type = type_is (λ word. not (is_among earthed_types word))

-- Its type is one of the standard's.
abbrev pub has_known_type : Element → Bool
has_known_type = type_is (is_among types)

-- What equipment is to a station; all else is nothing to it.
abbrev pub equipment_use : Element → Option Use
equipment_use x = if is_equipment x then Some (use_of x.entry) else None

-- It is that of disconnectors and earthing switches; of infeeds; of equipment that is no switch.
abbrev pub is_disconnector : Option Use → Bool
is_disconnector (Some uses.Disconnector) = true
is_disconnector _ = false

abbrev pub is_infeed_use : Option Use → Bool
is_infeed_use (Some uses.Infeed) = true
is_infeed_use _ = false

abbrev pub is_other : Option Use → Bool
is_other (Some uses.Other) = true
is_other _ = false

-- The terminal stands on earth.
abbrev pub is_earth : TerminalPlace → Bool
is_earth Earth = true
is_earth (Node n) = false
is_earth (Missing at) = false

-- It has a grounded terminal, is no earthing switch, and does not stand at earth by its nature.
abbrev pub is_oddly_grounded : List Element → ℕ → Element → Bool
is_oddly_grounded all i x =
    not (is_disconnector (equipment_use x)) && list_any is_earth (ends_of all i) && has_unearthed_type x

-- Two of these nodes differ.
abbrev pub two_differ : List ℕ → Bool
two_differ [] = false
two_differ (a ∷ ns) = list_any (λ n. not (n == a)) ns

-- It joins two nodes, is of one of the standard's types, and is no bond.
abbrev pub is_no_bond : List Element → ℕ → Element → Bool
is_no_bond all i x =
    is_other (equipment_use x) && not (is_bond x.entry) && two_differ (nodes_at (ends_of all i)) && has_known_type x

-- It is a winding with more than one terminal on nodes.
abbrev pub is_joining_winding : List Element → ℕ → Element → Bool
is_joining_winding all i x = same_role x.role TransformerWinding && nat_lt 1 (length (nodes_at (ends_of all i)))

-- It is a node whose name has the letters of `grounded`; one that is named so in lower case is none.
abbrev pub is_named_as_earth : Element → Bool
is_named_as_earth x =
    is_node x && option_map_or (same_letters (codes "grounded")) (attribute_value x.entry (codes "name")) false

-- Two names of a node differ: the last name of its path, and its own.
abbrev pub names_differ : Option (List ℕ) → Option (List ℕ) → Bool
names_differ (Some key) (Some name) = not (bytes_eq (after_slash key) name)
names_differ _ _ = false

-- It is a terminal that names two nodes.
abbrev pub names_two_nodes : Element → Bool
names_two_nodes x =
    same_role x.role Terminal
    && names_differ (attribute_value x.entry (codes "connectivityNode")) (attribute_value x.entry (codes "cNodeName"))
