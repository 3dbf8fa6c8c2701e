-- The types of conducting equipment, and what each is to a station (IEC 61850-6, the type of conducting equipment).
use Rattle.std.specs.Prelude.{ℕ, Bool, true, false, List, Option, Some, if◌then◌else◌, codes}
use Rattle.std.specs.Option.{option_map}
use Rattle.std.specs.Str.{bytes_eq}
use Rattle.ssd_text.specs.Nesting.{Entry}
use Rattle.ssd_read.specs.declared.types.Use.{Use}
use Rattle.ssd_read.specs.declared.types.Use.TheVariants as uses
use Rattle.ssd_read.specs.declared.types.EquipmentType.{EquipmentType}
use Rattle.ssd_read.specs.declared.types.EquipmentType.TheVariants.{CircuitBreaker, Disconnector, InfeedingLine}
use Rattle.ssd_read.specs.declared.types.EquipmentType.TheVariants.{Generator, CurrentTransformer, VoltageTransformer}
use Rattle.ssd_read.specs.declared.types.EquipmentType.TheVariants.{SurgeArrester, PowerCable, PowerLine}
use Rattle.ssd_read.specs.declared.types.EquipmentType.TheVariants.{GasInsulatedLine, Other}
use Rattle.ssd_read.specs.Elements.{attribute_value}

-- The type that a word names.
abbrev pub type_named : List ℕ → EquipmentType
type_named word =
    if bytes_eq word (codes "CBR") then CircuitBreaker
    else if bytes_eq word (codes "DIS") then Disconnector
    else if bytes_eq word (codes "IFL") then InfeedingLine
    else if bytes_eq word (codes "GEN") then Generator
    else if bytes_eq word (codes "CTR") then CurrentTransformer
    else if bytes_eq word (codes "VTR") then VoltageTransformer
    else if bytes_eq word (codes "SAR") then SurgeArrester
    else if bytes_eq word (codes "CAB") then PowerCable
    else if bytes_eq word (codes "LIN") then PowerLine
    else if bytes_eq word (codes "GIL") then GasInsulatedLine
    else Other

-- The type of equipment, where it says one.
abbrev pub type_of : Entry → Option EquipmentType
type_of e = option_map type_named (attribute_value e (codes "type"))

-- What equipment of a type is to a station.
abbrev pub use_of_type : Option EquipmentType → Use
use_of_type (Some CircuitBreaker) = uses.Breaker
use_of_type (Some Disconnector) = uses.Disconnector
use_of_type (Some InfeedingLine) = uses.Infeed
use_of_type (Some Generator) = uses.Infeed
use_of_type _ = uses.Other

-- Current transformers, cables, lines and gas-insulated lines give bonds.
abbrev pub is_bond_type : Option EquipmentType → Bool
is_bond_type (Some CurrentTransformer) = true
is_bond_type (Some PowerCable) = true
is_bond_type (Some PowerLine) = true
is_bond_type (Some GasInsulatedLine) = true
is_bond_type _ = false

-- Voltage and current transformers and arresters are no load.
abbrev pub is_tapless_type : Option EquipmentType → Bool
is_tapless_type (Some VoltageTransformer) = true
is_tapless_type (Some SurgeArrester) = true
is_tapless_type (Some CurrentTransformer) = true
is_tapless_type _ = false
