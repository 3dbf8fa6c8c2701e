-- Tests on lists.
use Rattle.std.proofs.Common.{◌≡◌, Bool, true, false, not, refl, ap}
use Rattle.std.proofs.Common.{◌∙◌, sym}
use Rattle.std.specs.Str.{bytes_eq}
use Rattle.ssd_read.specs.contracts.paths.KeyPartialEq.TheImpl.{eq-value}
use Rattle.ssd_read.specs.declared.paths.Key.{Key}
use denote.Enum.Bare.{sameb}
use Rattle.ssd_read.specs.contracts.role.Role.{the_type}
use Rattle.ssd_read.specs.declared.role.Role.{Role}
use Rattle.ssd_read.specs.declared.role.Role.TheVariants.{Root, Substation, VoltageLevel, Bay, ConnectivityNode}
use Rattle.ssd_read.specs.declared.role.Role.TheVariants.{ConductingEquipment, PowerTransformer, TransformerWinding}
use Rattle.ssd_read.specs.declared.role.Role.TheVariants.{Terminal, Skipped}
use Rattle.ssd_read.specs.Elements.{same_role}
use Rattle.ssd_read.specs.Names.{same_pair}
use Rattle.ssd_read.specs.SeenKeys.{key_pair}
use Rattle.std.proofs.Common.{◌&&◌}

role_eq : (a b : Role) → sameb the_type a b ≡ same_role a b
role_eq Root b = elim b as (λ (v : Role). sameb the_type Root v ≡ same_role Root v) [
  | Root ↦ refl
  | Substation ↦ refl
  | VoltageLevel ↦ refl
  | Bay ↦ refl
  | ConnectivityNode ↦ refl
  | ConductingEquipment ↦ refl
  | PowerTransformer ↦ refl
  | TransformerWinding ↦ refl
  | Terminal ↦ refl
  | Skipped ↦ refl
]
role_eq Substation b = elim b as (λ (v : Role). sameb the_type Substation v ≡ same_role Substation v) [
  | Root ↦ refl
  | Substation ↦ refl
  | VoltageLevel ↦ refl
  | Bay ↦ refl
  | ConnectivityNode ↦ refl
  | ConductingEquipment
      ↦ refl
  | PowerTransformer ↦ refl
  | TransformerWinding ↦ refl
  | Terminal ↦ refl
  | Skipped ↦ refl
]
role_eq VoltageLevel b = elim b as (λ (v : Role). sameb the_type VoltageLevel v ≡ same_role VoltageLevel v) [
  | Root ↦ refl
  | Substation ↦ refl
  | VoltageLevel ↦ refl
  | Bay ↦ refl
  | ConnectivityNode ↦ refl
  | ConductingEquipment
      ↦ refl
  | PowerTransformer ↦ refl
  | TransformerWinding ↦ refl
  | Terminal ↦ refl
  | Skipped ↦ refl
]
role_eq Bay b = elim b as (λ (v : Role). sameb the_type Bay v ≡ same_role Bay v) [
  | Root ↦ refl
  | Substation ↦ refl
  | VoltageLevel ↦ refl
  | Bay ↦ refl
  | ConnectivityNode ↦ refl
  | ConductingEquipment ↦ refl
  | PowerTransformer ↦ refl
  | TransformerWinding ↦ refl
  | Terminal ↦ refl
  | Skipped ↦ refl
]
role_eq ConnectivityNode b = elim b as (λ (v : Role). sameb the_type ConnectivityNode v
    ≡ same_role ConnectivityNode v) [
      | Root ↦ refl
      | Substation ↦ refl
      | VoltageLevel ↦ refl
      | Bay ↦ refl
      | ConnectivityNode ↦ refl
      | ConductingEquipment
          ↦ refl
      | PowerTransformer ↦ refl
      | TransformerWinding ↦ refl
      | Terminal ↦ refl
      | Skipped ↦ refl
    ]
role_eq ConductingEquipment b = elim b as (λ (v : Role). sameb the_type ConductingEquipment v
    ≡ same_role ConductingEquipment v) [
      | Root ↦ refl
      | Substation ↦ refl
      | VoltageLevel ↦ refl
      | Bay ↦ refl
      | ConnectivityNode ↦ refl
      | ConductingEquipment ↦ refl
      | PowerTransformer ↦ refl
      | TransformerWinding ↦ refl
      | Terminal ↦ refl
      | Skipped ↦ refl
    ]
role_eq PowerTransformer b = elim b as (λ (v : Role). sameb the_type PowerTransformer v
    ≡ same_role PowerTransformer v) [
      | Root ↦ refl
      | Substation ↦ refl
      | VoltageLevel ↦ refl
      | Bay ↦ refl
      | ConnectivityNode ↦ refl
      | ConductingEquipment
          ↦ refl
      | PowerTransformer ↦ refl
      | TransformerWinding ↦ refl
      | Terminal ↦ refl
      | Skipped ↦ refl
    ]
role_eq TransformerWinding b = elim b as (λ (v : Role). sameb the_type TransformerWinding v
    ≡ same_role TransformerWinding v) [
      | Root ↦ refl
      | Substation ↦ refl
      | VoltageLevel ↦ refl
      | Bay ↦ refl
      | ConnectivityNode ↦ refl
      | ConductingEquipment ↦ refl
      | PowerTransformer ↦ refl
      | TransformerWinding ↦ refl
      | Terminal ↦ refl
      | Skipped ↦ refl
    ]
role_eq Terminal b = elim b as (λ (v : Role). sameb the_type Terminal v ≡ same_role Terminal v) [
  | Root ↦ refl
  | Substation ↦ refl
  | VoltageLevel ↦ refl
  | Bay ↦ refl
  | ConnectivityNode ↦ refl
  | ConductingEquipment
      ↦ refl
  | PowerTransformer ↦ refl
  | TransformerWinding ↦ refl
  | Terminal ↦ refl
  | Skipped ↦ refl
]
role_eq Skipped b = elim b as (λ (v : Role). sameb the_type Skipped v ≡ same_role Skipped v) [
  | Root ↦ refl
  | Substation ↦ refl
  | VoltageLevel ↦ refl
  | Bay ↦ refl
  | ConnectivityNode ↦ refl
  | ConductingEquipment
      ↦ refl
  | PowerTransformer ↦ refl
  | TransformerWinding ↦ refl
  | Terminal ↦ refl
  | Skipped ↦ refl
]

pub key_eq : (x y : Key) → eq-value.it x y ≡ same_pair (key_pair x) (key_pair y)
key_eq x y = ap (λ b. b && bytes_eq x.path.now y.path.now) (role_eq x.kind y.kind)

pub not_true : (b : Bool) → true ≡ not b → b ≡ false
not_true true h = h
not_true false h = refl

pub not_false : (b : Bool) → false ≡ not b → b ≡ true
not_false true h = refl
not_false false h = h

-- a test by `!=` in the code, and by `same_role` in a definition
pub unlike : (a b r : Role) (t : Bool) → a ≡ b → t ≡ not (sameb the_type a r) → t ≡ true → same_role b r ≡ false
unlike a b r t e h u = sym (role_eq b r) ∙ not_true (sameb the_type b r) (sym u
    ∙ (h ∙ ap (λ x. not (sameb the_type x r)) e))

pub like : (a b r : Role) (t : Bool) → a ≡ b → t ≡ not (sameb the_type a r) → t ≡ false → same_role b r ≡ true
like a b r t e h u = sym (role_eq b r) ∙ not_false (sameb the_type b r) (sym u
    ∙ (h ∙ ap (λ x. not (sameb the_type x r)) e))

-- a test by `==` in the code
pub alike : (a b r : Role) (t u : Bool) → a ≡ b → t ≡ sameb the_type a r → t ≡ u → same_role b r ≡ u
alike a b r t u e h v = sym (role_eq b r) ∙ (sym (h ∙ ap (λ x. sameb the_type x r) e) ∙ v)
