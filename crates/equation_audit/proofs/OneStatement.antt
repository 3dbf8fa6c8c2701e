-- A line says one thing.
use Rattle.std.proofs.Common.{◌≡◌, ◌≢◌, ◌∙◌, sym, ap, refl, ℕ, Bool, true, false, List, drop, arith, Some}
use Rattle.std.specs.Prelude.{slice_index}
use Rattle.ilk_base.specs.declared.words.Direction.{Direction}
use Rattle.ilk_base.specs.declared.words.Direction.TheVariants.{ToOff, ToOn}
use Rattle.station_graph.specs.Diagram.{Diagram, Differ}
use Rattle.operation_lines.specs.OperationLines.{IsOperationLine}
use Rattle.equation_audit.specs.declared.condition.Condition.{Condition}
use Rattle.equation_audit.specs.BlockLines.{Statement, Begins, Never, Or, When, End, IsConditionLine, LineSays}

-- a line `open PATH` or `close PATH` is of one direction and of one path
pub one_operation : (a b : Direction) (p q line : List ℕ) → IsOperationLine a p line → IsOperationLine b q line →
    (a ≡ b) × (p ≡ q)
one_operation ToOff ToOff p q line x y = (refl, ap (λ (l : List ℕ). drop 5 l) (sym x.is ∙ y.is))
one_operation ToOff ToOn p q line x y = let first = ap (λ (l : List ℕ). slice_index l 0) (sym x.is ∙ y.is) in
    absurd (omega (arith, first))
one_operation ToOn ToOff p q line x y = let first = ap (λ (l : List ℕ). slice_index l 0) (sym x.is ∙ y.is) in
    absurd (omega (arith, first))
one_operation ToOn ToOn p q line x y = (refl, ap (λ (l : List ℕ). drop 6 l) (sym x.is ∙ y.is))

-- a condition is on one position and on one path
pub one_condition : (a b : Bool) (p q line : List ℕ) → IsConditionLine a p line → IsConditionLine b q line →
    (a ≡ b) × (p ≡ q)
one_condition false false p q line x y = (refl, ap (λ (l : List ℕ). drop 9 l) (sym x.is ∙ y.is))
one_condition false true p q line x y = let at = ap (λ (l : List ℕ). slice_index l 6) (sym x.is ∙ y.is) in
    absurd (omega (arith, at))
one_condition true false p q line x y = let at = ap (λ (l : List ℕ). slice_index l 6) (sym x.is ∙ y.is) in
    absurd (omega (arith, at))
one_condition true true p q line x y = (refl, ap (λ (l : List ℕ). drop 8 l) (sym x.is ∙ y.is))

abbrev way_byte : Direction → ℕ
way_byte ToOff = 112
way_byte ToOn = 108

-- the second byte of a line tells what it says, but for what is named
abbrev second_byte : Statement → ℕ
second_byte (Begins op) = way_byte op.direction
second_byte Never = 101
second_byte Or = 114
second_byte (When c) = 104
second_byte End = 110

second_of_operation : (a : Direction) (p line : List ℕ) → IsOperationLine a p line → slice_index line 1 ≡ way_byte a
second_of_operation ToOff p line x = ap (λ (l : List ℕ). slice_index l 1) x.is
second_of_operation ToOn p line x = ap (λ (l : List ℕ). slice_index l 1) x.is

pub second_of_condition : (a : Bool) (p line : List ℕ) → IsConditionLine a p line → slice_index line 1 ≡ 104
second_of_condition false p line x = ap (λ (l : List ℕ). slice_index l 1) x.is
second_of_condition true p line x = ap (λ (l : List ℕ). slice_index l 1) x.is

second_of : (d : Diagram) (line : List ℕ) (s : Statement) → LineSays d line s → slice_index line 1 ≡ second_byte s
second_of d line (Begins op) says = second_of_operation op.direction says.path line says.written
second_of d line Never says = ap (λ (l : List ℕ). slice_index l 1) says
second_of d line Or says = ap (λ (l : List ℕ). slice_index l 1) says
second_of d line (When c) says = second_of_condition c.closed says.path line says.written
second_of d line End says = ap (λ (l : List ℕ). slice_index l 1) says

no_way : (w : Direction) (n : ℕ) → way_byte w ≡ n → n ≢ 112 → n ≢ 108 → ⊥
no_way ToOff n is first second = first (sym is)
no_way ToOn n is first second = second (sym is)

both : (d : Diagram) (line : List ℕ) (s t : Statement) → LineSays d line s → LineSays d line t → second_byte s
    ≡ second_byte t
both d line s t x y = sym (second_of d line s x) ∙ second_of d line t y

-- what is said by a line in which `h` comes second is a condition
pub is_condition : (d : Diagram) (line : List ℕ) (s : Statement) → LineSays d line s → slice_index line 1 ≡ 104 →
    (c : Condition) × (s ≡ When c)
is_condition d line (Begins op) says at = absurd (no_way op.direction 104 (sym (second_of d line (Begins op) says) ∙ at)
    (λ e. omega (arith, e)) (λ e. omega (arith, e)))
is_condition d line Never says at = absurd (let e = sym (second_of d line Never says) ∙ at in omega (arith, e))
is_condition d line Or says at = absurd (let e = sym (second_of d line Or says) ∙ at in omega (arith, e))
is_condition d line (When c) says at = (c, refl)
is_condition d line End says at = absurd (let e = sym (second_of d line End says) ∙ at in omega (arith, e))

-- where paths differ, a line says one thing
pub one_statement : (d : Diagram) → Differ d.switch_paths → (line : List ℕ) (s t : Statement) → LineSays d line s →
    LineSays d line t → s ≡ t
one_statement d differ line (Begins a) (Begins b) x y =
    let same = one_operation a.direction b.direction x.path y.path line x.written y.written in
    let switch = differ a.switch.0 b.switch.0 y.path (x.named ∙ ap Some same.1) y.named in
    ap Begins (λ i. record { switch = record { 0 = switch i }; direction = same.0 i })
one_statement d differ line (Begins a) Never x y = absurd (no_way a.direction 101 (both d line (Begins a) Never x y)
    (λ e. omega (arith, e)) (λ e. omega (arith, e)))
one_statement d differ line (Begins a) Or x y = absurd (no_way a.direction 114 (both d line (Begins a) Or x y)
    (λ e. omega (arith, e)) (λ e. omega (arith, e)))
one_statement d differ line (Begins a) (When c) x y =
    absurd (no_way a.direction 104 (both d line (Begins a) (When c) x y) (λ e. omega (arith, e))
    (λ e. omega (arith, e)))
one_statement d differ line (Begins a) End x y = absurd (no_way a.direction 110 (both d line (Begins a) End x y)
    (λ e. omega (arith, e)) (λ e. omega (arith, e)))
one_statement d differ line Never (Begins a) x y = absurd (no_way a.direction 101 (both d line (Begins a) Never y x)
    (λ e. omega (arith, e)) (λ e. omega (arith, e)))
one_statement d differ line Never Never x y = refl
one_statement d differ line Never Or x y = absurd (let e = both d line Never Or x y in omega (arith, e))
one_statement d differ line Never (When c) x y = absurd (let e = both d line Never (When c) x y in omega (arith, e))
one_statement d differ line Never End x y = absurd (let e = both d line Never End x y in omega (arith, e))
one_statement d differ line Or (Begins a) x y = absurd (no_way a.direction 114 (both d line (Begins a) Or y x)
    (λ e. omega (arith, e)) (λ e. omega (arith, e)))
one_statement d differ line Or Never x y = absurd (let e = both d line Or Never x y in omega (arith, e))
one_statement d differ line Or Or x y = refl
one_statement d differ line Or (When c) x y = absurd (let e = both d line Or (When c) x y in omega (arith, e))
one_statement d differ line Or End x y = absurd (let e = both d line Or End x y in omega (arith, e))
one_statement d differ line (When c) (Begins a) x y =
    absurd (no_way a.direction 104 (both d line (Begins a) (When c) y x) (λ e. omega (arith, e))
    (λ e. omega (arith, e)))
one_statement d differ line (When c) Never x y = absurd (let e = both d line (When c) Never x y in omega (arith, e))
one_statement d differ line (When c) Or x y = absurd (let e = both d line (When c) Or x y in omega (arith, e))
one_statement d differ line (When a) (When b) x y =
    let same = one_condition a.closed b.closed x.path y.path line x.written y.written in
    let switch = differ a.switch.0 b.switch.0 y.path (x.named ∙ ap Some same.1) y.named in
    ap When (λ i. record { switch = record { 0 = switch i }; closed = same.0 i })
one_statement d differ line (When c) End x y = absurd (let e = both d line (When c) End x y in omega (arith, e))
one_statement d differ line End (Begins a) x y = absurd (no_way a.direction 110 (both d line (Begins a) End y x)
    (λ e. omega (arith, e)) (λ e. omega (arith, e)))
one_statement d differ line End Never x y = absurd (let e = both d line End Never x y in omega (arith, e))
one_statement d differ line End Or x y = absurd (let e = both d line End Or x y in omega (arith, e))
one_statement d differ line End (When c) x y = absurd (let e = both d line End (When c) x y in omega (arith, e))
one_statement d differ line End End x y = refl
