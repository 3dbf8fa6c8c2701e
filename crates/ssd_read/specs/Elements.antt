-- Which elements of a tree are read, and what each says (IEC 61850-6, the substation section of an SSD).
-- Texts are lists of bytes: 47 is a slash, 58 a colon.
use Rattle.std.specs.Prelude.{ℕ, ◌+◌, Bool, true, false, ◌==◌, position, List, [], ◌∷◌, ◌++◌, take, find, slice_get}
use Rattle.std.specs.Prelude.{slice_index_or, Option, Some, None, option_and_then, is_some, if◌then◌else◌, codes}
use Rattle.std.specs.Option.{option_map, option_map_or, unwrap_or}
use Rattle.std.specs.Str.{bytes_eq}
use Rattle.ssd_text.specs.Grammar.{value_of}
use Rattle.ssd_text.specs.Nesting.{Entry, no_entry}
use Rattle.ssd_read.specs.declared.role.Role.{Role}
use Rattle.ssd_read.specs.declared.role.Role.TheVariants.{Root, Substation, VoltageLevel, Bay, ConnectivityNode}
use Rattle.ssd_read.specs.declared.role.Role.TheVariants.{ConductingEquipment, PowerTransformer, TransformerWinding}
use Rattle.ssd_read.specs.declared.role.Role.TheVariants.{Terminal, Skipped}

-- The two roles are the same.
abbrev pub same_role : Role → Role → Bool
same_role Root Root = true
same_role Substation Substation = true
same_role VoltageLevel VoltageLevel = true
same_role Bay Bay = true
same_role ConnectivityNode ConnectivityNode = true
same_role ConductingEquipment ConductingEquipment = true
same_role PowerTransformer PowerTransformer = true
same_role TransformerWinding TransformerWinding = true
same_role Terminal Terminal = true
same_role Skipped Skipped = true
same_role _ _ = false

-- The decoded value of the attribute of this name.
abbrev pub attribute_value : Entry → List ℕ → Option (List ℕ)
attribute_value e word = option_map (λ a. value_of a.1) (find (λ a. bytes_eq a.0 word) e.attributes)

-- What stands in front of the names of read elements: all up to and with the first colon of the root's
-- name, or nothing.
abbrev pub front_of : List ℕ → List ℕ
front_of name = option_map_or (λ i. take (i + 1) name) (position (λ b. b == 58) name) []

-- The element's name is the front and then the word.
abbrev pub is_named : List ℕ → Entry → List ℕ → Bool
is_named front e word = bytes_eq e.name (front ++ word)

-- What an element is that stands in one of this role: it is read where its name, behind the front of the
-- root's name, is one of those listed here; else it is skipped, with all that stands in it.
abbrev pub role_in : Role → List ℕ → Entry → Role
role_in Root front e = if is_named front e (codes "Substation") then Substation else Skipped
role_in Substation front e =
    if is_named front e (codes "VoltageLevel") then VoltageLevel
    else if is_named front e (codes "PowerTransformer") then PowerTransformer
    else Skipped
role_in VoltageLevel front e =
    if is_named front e (codes "Bay") then Bay
    else if is_named front e (codes "PowerTransformer") then PowerTransformer
    else Skipped
role_in Bay front e =
    if is_named front e (codes "ConnectivityNode") then ConnectivityNode
    else if is_named front e (codes "ConductingEquipment") then ConductingEquipment
    else if is_named front e (codes "PowerTransformer") then PowerTransformer
    else Skipped
role_in PowerTransformer front e = if is_named front e (codes "TransformerWinding") then TransformerWinding else Skipped
role_in ConductingEquipment front e = if is_named front e (codes "Terminal") then Terminal else Skipped
role_in TransformerWinding front e = if is_named front e (codes "Terminal") then Terminal else Skipped
role_in ConnectivityNode front e = Skipped
role_in Terminal front e = Skipped
role_in Skipped front e = Skipped

-- An element of the tree: what it is, what it stands in, and the names from its substation downward.
pub record Element : Type 0 where
  pub entry : Entry
  pub role : Role
  pub within : Role
  pub path : List ℕ

-- An attribute's value is the text.
abbrev pub says : Entry → List ℕ → List ℕ → Bool
says e word text = option_map_or (bytes_eq text) (attribute_value e word) false

-- A node named `grounded` is no node.
abbrev pub unless_grounded : Entry → Role → Role
unless_grounded e ConnectivityNode = if says e (codes "name") (codes "grounded") then Skipped else ConnectivityNode
unless_grounded e role = role

-- The role of an element, by the element in which it stands.
abbrev pub role_under : List ℕ → Option Element → Entry → Role
role_under front None e = Root
role_under front (Some above) e = unless_grounded e (role_in above.role front e)

-- As what a named element is counted.
abbrev pub counted_as : Role → Option Role
counted_as Substation = Some Substation
counted_as VoltageLevel = Some VoltageLevel
counted_as Bay = Some Bay
counted_as PowerTransformer = Some Bay
counted_as ConnectivityNode = Some ConnectivityNode
counted_as ConductingEquipment = Some ConductingEquipment
counted_as _ = None

-- The element's name; nothing where it has none.
abbrev pub element_name : Entry → List ℕ
element_name e = unwrap_or (attribute_value e (codes "name")) []

-- The path of a named element, after that of the element in which it stands.
abbrev pub path_in : List ℕ → Role → Entry → List ℕ
path_in outer Substation e = element_name e
path_in outer role e = if is_some (counted_as role) then outer ++ 47 ∷ element_name e else []

-- The next element after those before it.
abbrev pub element_after : List ℕ → List Element → Entry → Element
element_after front before e =
    let above = option_and_then (slice_get before) e.parent in
    record {
      entry = e;
      role = role_under front above e;
      within = option_map_or (λ x. x.role) above Skipped;
      path = path_in (option_map_or (λ x. x.path) above []) (role_under front above e) e;
    }

-- The elements of a tree, each placed by those before it.
unfoldable pub elements_after : List ℕ → List Element → List Entry → List Element
elements_after front before [] = before
elements_after front before (e ∷ es) = elements_after front (before ++ element_after front before e ∷ []) es

-- What stands in front of the names of read elements: that of the root.
abbrev pub front_of_tree : List Entry → List ℕ
front_of_tree tree = option_map_or (λ e. front_of e.name) (slice_get tree 0) []

-- The elements of a tree, in document order.
abbrev pub elements_of : List Entry → List Element
elements_of tree = elements_after (front_of_tree tree) [] tree

-- The element of this number, or one that says nothing.
abbrev pub nowhere : Element
nowhere = record { entry = no_entry; role = Skipped; within = Skipped; path = [] }

-- The element at a place.
abbrev pub element_at : List Element → ℕ → Element
element_at all i = slice_index_or all i nowhere
