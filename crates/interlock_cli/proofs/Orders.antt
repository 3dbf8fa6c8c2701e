-- An order that is accepted is not refused, and positions that are certain are not unsure.
use Rattle.std.proofs.Common.{◌≡◌, ◌∙◌, ◌≤◌, ℕ, zero, suc, Bool, true, false, List, [], ◌∷◌, map, length, drop, Option}
use Rattle.std.proofs.Common.{Some, None, Contains, refl, sym, ap, subst, arith, inl, inr}
use Rattle.std.specs.Prelude.{slice_get, slice_index}
use Rattle.std.specs.Option.{IsSomeAnd}
use Rattle.std.proofs.lemmas.Option.{slice_get_within}
use Rattle.std.proofs.lemmas.Slice.Zip.{AllZip-left}
use Rattle.ilk_base.specs.declared.words.Dbpos.{Dbpos}
use Rattle.ilk_base.specs.declared.words.Dbpos.TheVariants.{Off, On}
use Rattle.ilk_base.specs.declared.words.Direction.{Direction}
use Rattle.ilk_base.specs.declared.words.Direction.TheVariants.{ToOff, ToOn}
use Rattle.ilk_base.specs.declared.words.InputRefusal.{InputRefusal}
use Rattle.ilk_base.specs.declared.words.Op.{Op}
use Rattle.station_graph.specs.Diagram.{Diagram}
use Rattle.station_graph.proofs.PathLemmas.{Contains-from_slice_get}
use Rattle.central_rules.specs.Names.{is_uncertain}
use Rattle.text_lines.specs.Lines.{filled_lines}
use Rattle.operation_lines.specs.OperationLines.{IsOperationLine, NamesOperation, HasFault}
use Rattle.operation_lines.specs.declared.operation.LineFault.{LineFault}
use Rattle.operation_lines.specs.declared.operation.LineFault.TheVariants.{Form, Unknown}
use Rattle.switching_orders.specs.declared.order.TheConstants.{MOST_STEPS}
use Rattle.switching_orders.specs.Certain.{word_at, IsUnsure}
use Rattle.switching_orders.specs.OrderLines.{IsOrder, IsOrderFault, HasStepFault}

is_sure : (v : List Bool) (i : ℕ) (word : Dbpos) → slice_get (map word_at v) i ≡ Some word → is_uncertain word ≡ false
is_sure [] zero word at = cc at
is_sure [] (suc i) word at = cc at
is_sure (false ∷ v) zero word at = let w : word ≡ Off = cc at in rw w refl
is_sure (true ∷ v) zero word at = let w : word ≡ On = cc at in rw w refl
is_sure (closed ∷ v) (suc i) word at = is_sure v i word at

-- words that say the positions of a vector leave none open
pub never_unsure : (v : List Bool) → IsUnsure (map word_at v) → ⊥
never_unsure v unsure = let sure = is_sure v unsure.place unsure.word unsure.stands in cc (sure, unsure.uncertain)

-- a line is of one path
one_path : (a b : Direction) (p q line : List ℕ) → IsOperationLine a p line → IsOperationLine b q line → p ≡ q
one_path ToOff ToOff p q line x y = ap (λ (l : List ℕ). drop 5 l) (sym x.is ∙ y.is)
one_path ToOff ToOn p q line x y =
    let first = ap (λ (l : List ℕ). slice_index l 0) (sym x.is ∙ y.is) in
    absurd (omega (arith, first))
one_path ToOn ToOff p q line x y =
    let first = ap (λ (l : List ℕ). slice_index l 0) (sym x.is ∙ y.is) in
    absurd (omega (arith, first))
one_path ToOn ToOn p q line x y = ap (λ (l : List ℕ). drop 6 l) (sym x.is ∙ y.is)

no_fault : (d : Diagram) (line : List ℕ) (op : Op) (fault : LineFault) → NamesOperation d line op →
    HasFault d line fault → ⊥
no_fault d line op Form names none = none op.direction names.path names.written
no_fault d line op Unknown names (direction, path, written, missing) =
    missing (subst (λ (p : List ℕ). Contains d.switch_paths p)
    (one_path op.direction direction names.path path line names.written written)
    (Contains-from_slice_get d.switch_paths op.switch.0 names.path names.named))

from_some : (o : Option Op) (P : Op → Type 0) → IsSomeAnd o P → (op : Op) × (o ≡ Some op) × P op
from_some None P here = absurd here
from_some (Some op) P here = (op, refl, here)

no_step_fault : (d : Diagram) (steps : List Op) (k : ℕ) (line : List ℕ) (number : ℕ) → length steps ≤ MOST_STEPS →
    IsSomeAnd (slice_get steps k) (λ op. NamesOperation d line op) → HasStepFault d k line number → ⊥
no_step_fault d steps k line number few here (inl (most, is)) =
    let (op, at, names) = from_some (slice_get steps k) (λ op. NamesOperation d line op) here in
    let within = slice_get_within steps k op at in
    omega (arith, within, few, most)
no_step_fault d steps k line number few here (inr (room, fault, has, is)) =
    let (op, at, names) = from_some (slice_get steps k) (λ op. NamesOperation d line op) here in
    no_fault d line op fault names has

-- no text is an order and refused as one
pub order_not_refused : (d : Diagram) (bytes : List ℕ) (steps : List Op) (r : InputRefusal) → IsOrder d bytes steps →
    IsOrderFault d bytes r → ⊥
order_not_refused d bytes steps r order (inl (long, is)) = omega (arith, order.few_bytes, long)
order_not_refused d bytes steps r order (inr (short, first)) =
    let named =
    AllZip-left (λ (line : ℕ × List ℕ) op. NamesOperation d line.1 op) (filled_lines bytes) steps order.steps
    (length first.before) in
    let here = rw first.stands at named in
    no_step_fault d steps (length first.before) first.line r.number order.few_steps here first.fault
