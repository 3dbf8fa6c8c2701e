-- What is kept of an element, decoded once: its name and its type.
use Rattle.std.specs.Prelude.{◌≡◌, ℕ, true, List, length, Option, Some, is_some, slice_get, codes}
use Rattle.std.specs.Option.{option_map}
use Rattle.std.specs.String.{string_bytes}
use Rattle.ssd_text.specs.Nesting.{Entry, entry_at}
use Rattle.ssd_read.specs.declared.role.Role.{Role}
use Rattle.ssd_read.specs.declared.role.Role.TheVariants.{ConductingEquipment}
use Rattle.ssd_read.specs.declared.types.EquipmentType.{EquipmentType}
use Rattle.ssd_read.specs.declared.drawing.DrawnElement.{DrawnElement}
use Rattle.ssd_read.specs.declared.ends.TerminalNames.{TerminalNames}
use Rattle.ssd_read.specs.Elements.{attribute_value, counted_as, elements_of}
use Rattle.ssd_read.specs.Types.{type_of}
use Rattle.ssd_read.specs.Seen.{placed_all}

-- Of an element that is counted by its name, this is its name, if it has one.
abbrev pub IsNameOf : Role → Entry → Option (List ℕ) → Type 0
IsNameOf role e name = is_some (counted_as role) ≡ true → name ≡ attribute_value e (codes "name")

-- Of equipment, this is its type, if it says one.
abbrev pub IsTypeOf : Role → Entry → Option EquipmentType → Type 0
IsTypeOf role e kind = role ≡ ConductingEquipment → kind ≡ type_of e

-- What is kept of an element is what it says.
pub record IsDecoded (e : Entry) (p : DrawnElement) : Type 0 where
  pub name : IsNameOf p.role e (option_map string_bytes p.name)
  pub kind : IsTypeOf p.role e p.kind

-- So it is of each of these elements.
abbrev pub AreDecoded : List Entry → List DrawnElement → Type 0
AreDecoded tree ps = (i : ℕ) (p : DrawnElement) → slice_get ps i ≡ Some p → IsDecoded (entry_at tree i) p

-- These are the places of all elements of the tree, decoded.
pub record ArePlaces (tree : List Entry) (ps : List DrawnElement) : Type 0 where
  pub len : length ps ≡ length tree
  pub elements : placed_all tree ps ≡ elements_of tree
  pub decoded : AreDecoded tree ps

-- These are the names by which a terminal says its node.
pub record AreNamesOf (e : Entry) (names : TerminalNames) : Type 0 where
  pub key : option_map string_bytes names.key ≡ attribute_value e (codes "connectivityNode")
  pub node : option_map string_bytes names.node ≡ attribute_value e (codes "cNodeName")
