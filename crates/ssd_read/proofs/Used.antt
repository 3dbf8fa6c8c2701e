-- What the faults of equipment that there are not say, by its use.
use Rattle.std.proofs.Common.{◌≡◌, ℕ, List, Option, Some, None, Bool, true, false, refl, subst}
use Rattle.std.specs.Prelude.{if◌then◌else◌}
use Rattle.std.specs.Option.{option_or}
use Rattle.ssd_read.specs.declared.refusal.SsdRefusal.{SsdRefusal}
use Rattle.ssd_read.specs.declared.role.Role.{Role}
use Rattle.ssd_read.specs.declared.role.Role.TheVariants.{ConductingEquipment, TransformerWinding}
use Rattle.ssd_read.specs.declared.terminal_place.TerminalPlace.{TerminalPlace}
use Rattle.ssd_read.specs.declared.types.Use.{Use}
use Rattle.ssd_read.specs.Elements.{Element, same_role}
use Rattle.ssd_read.specs.Ends.{nodes_at, missing_fault, unless, are_apart, breaker_fault, disconnector_fault}
use Rattle.ssd_read.specs.Ends.{use_of, use_fault, fault_of_ends}

neither : {A : Type 0} (f g : Option A) → option_or f g ≡ None → (f ≡ None) × (g ≡ None)
neither (Some x) g none = absurd (cc)
neither None g none = (refl, none)

holds : (b : Bool) (fault : SsdRefusal) → unless b fault ≡ None → b ≡ true
holds true fault none = refl
holds false fault none = absurd (cc)

pub breaker_apart : (at : ℕ) (ends : List TerminalPlace) → breaker_fault at ends ≡ None → are_apart (nodes_at ends) ≡ true
breaker_apart at ends none = holds _ _ (neither _ _ (neither _ _ none).1).1

pub disconnector_apart : (at : ℕ) (ends : List TerminalPlace) → disconnector_fault at ends ≡ None
    → are_apart (nodes_at ends) ≡ true
disconnector_apart at ends none = holds _ _ (neither _ _ (neither _ _ none).1).1

pub no_use_fault : (x : Element) (ends : List TerminalPlace) (u : Use) → x.role ≡ ConductingEquipment
    → use_of x.entry ≡ u → fault_of_ends x ends ≡ None → use_fault u x.entry.at ends ≡ None
no_use_fault x ends u role used none =
    let either = option_or (missing_fault ends) (use_fault (use_of x.entry) x.entry.at ends) in
    let here : either ≡ None = subst (λ (r : Role). (if same_role r ConductingEquipment then either
    else if same_role r TransformerWinding then missing_fault ends else None) ≡ None) role none in
    subst (λ (w : Use). use_fault w x.entry.at ends ≡ None) used (neither _ _ here).1
