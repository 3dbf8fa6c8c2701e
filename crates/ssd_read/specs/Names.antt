-- What pass 1 refuses: the root's name, names that are missing, and names that are there twice.
use Rattle.std.specs.Prelude.{ℕ, Bool, false, ◌==◌, ◌&&◌, ◌||◌, not, nat_lt, List, [], ◌∷◌, ◌++◌, length, map, filter}
use Rattle.std.specs.Prelude.{Option, Some, None, is_some, if◌then◌else◌, codes}
use Rattle.std.specs.List.{list_any, list_all, filter_map}
use Rattle.std.specs.Option.{option_or, option_map, option_map_or, unwrap_or}
use Rattle.std.specs.Str.{bytes_eq}
use Rattle.ssd_text.specs.Nesting.{Entry}
use Rattle.ssd_read.specs.declared.role.Role.{Role}
use Rattle.ssd_read.specs.declared.role.Role.TheVariants.{ConnectivityNode, ConductingEquipment}
use Rattle.ssd_read.specs.declared.refusal.SsdRefusal.{SsdRefusal}
use Rattle.ssd_read.specs.declared.refusal.SsdRefusal.TheVariants.{Root, NoName, Twice}
use Rattle.ssd_read.specs.Elements.{Element, attribute_value, counted_as, same_role, front_of, is_named}
use Rattle.ssd_read.specs.Types.{type_of}

-- A place's fault, by the elements before it. The first of a list is that of its first place with a fault.
abbrev pub FaultAfter : Type 0
FaultAfter = List Element → Element → Option SsdRefusal

-- The first fault of the elements, each judged after those before it.
unfoldable pub first_fault : FaultAfter → List Element → List Element → Option SsdRefusal
first_fault fault before [] = None
first_fault fault before (x ∷ xs) = option_or (fault before x) (first_fault fault (before ++ x ∷ []) xs)

-- U+0020 or more, and not U+007F.
abbrev pub is_shown : ℕ → Bool
is_shown b = not (nat_lt b 32) && not (b == 127)

-- Not empty, with neither control characters nor U+007F.
abbrev pub is_good_name : List ℕ → Bool
is_good_name name = nat_lt 0 (length name) && list_all is_shown name

-- The element has no name, or one that is not good.
abbrev pub lacks_name : Entry → Bool
lacks_name e = not (option_map_or is_good_name (attribute_value e (codes "name")) false)

-- An element that needs a name has none, or equipment has no type.
abbrev pub is_nameless : Element → Bool
is_nameless x = is_some (counted_as x.role) && (lacks_name x.entry || (same_role x.role ConductingEquipment && not
    (is_some (type_of x.entry))))

-- The key of a node is its path name where there is one, else its path.
abbrev pub key_of : Element → List ℕ
key_of x = unwrap_or (attribute_value x.entry (codes "pathName")) x.path

-- The two pairs are the same.
abbrev pub same_pair : Role × List ℕ → Role × List ℕ → Bool
same_pair x y = same_role x.0 y.0 && bytes_eq x.1 y.1

-- As what a named element is counted, with its path.
abbrev pub counted_path : Element → Option (Role × List ℕ)
counted_path x = option_map (λ kind. (kind, x.path)) (counted_as x.role)

-- Both are there, and are the same.
abbrev pub same_counted : Option (Role × List ℕ) → Option (Role × List ℕ) → Bool
same_counted (Some x) (Some y) = same_pair x y
same_counted _ _ = false

-- They are of one kind and have one path.
abbrev pub same_path : Element → Element → Bool
same_path x y = same_counted (counted_path x) (counted_path y)

-- The element is a connectivity node.
abbrev pub is_node : Element → Bool
is_node x = same_role x.role ConnectivityNode

-- They are nodes with one key.
abbrev pub same_key : Element → Element → Bool
same_key x y = is_node x && is_node y && bytes_eq (key_of x) (key_of y)

-- The paths that are taken after these elements.
abbrev pub counted_paths : List Element → List (Role × List ℕ)
counted_paths before = filter_map counted_path before

-- The keys of nodes, which are numbered in document order.
abbrev pub keys_of : List Element → List (List ℕ)
keys_of all = map key_of (filter is_node all)

-- An element before it has its path or its key.
abbrev pub is_taken : List Element → Element → Bool
is_taken before x = list_any (same_path x) before || list_any (same_key x) before

-- The fault of an element's name after those before it.
unfoldable pub name_fault : FaultAfter
name_fault before x =
    if is_nameless x then Some (NoName x.entry.at)
    else if is_taken before x then Some (Twice x.entry.at)
    else None

-- The root's name, after what stands in front of its colon, is not `SCL`.
abbrev pub root_fault : List Entry → Option SsdRefusal
root_fault [] = None
root_fault (e ∷ es) = if is_named (front_of e.name) e (codes "SCL") then None else Some (Root e.at)
