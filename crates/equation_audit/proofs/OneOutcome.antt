-- A text that is blocks is not refused as none.
use Rattle.std.proofs.Common.{◌≡◌, ◌∙◌, sym, ap, subst, refl, append_assoc, append-nil, ℕ, ◌==◌, ◌||◌, ◌⊎◌, Bool, true}
use Rattle.std.proofs.Common.{false, List, [], ◌∷◌, ◌++◌, arith, inl, inr, Option, Some, None, Contains}
use Rattle.std.specs.Prelude.{flat_map}
use Rattle.std.specs.List.{list_any}
use Rattle.ilk_base.specs.declared.words.Op.{Op}
use Rattle.ilk_base.specs.declared.words.InputRefusal.{InputRefusal}
use Rattle.station_graph.specs.Diagram.{Diagram, Differ}
use Rattle.station_graph.proofs.PathLemmas.{Contains-from_slice_get}
use Rattle.text_lines.specs.Lines.{filled_lines}
use Rattle.operation_lines.specs.OperationLines.{NamesOperation, HasFault}
use Rattle.operation_lines.specs.declared.operation.LineFault.{LineFault}
use Rattle.operation_lines.specs.declared.operation.LineFault.TheVariants.{Form, Unknown}
use Rattle.equation_audit.specs.declared.condition.Condition.{Condition}
use Rattle.equation_audit.specs.Equations.{Equation, HasFewOwn, IsBroad, is_own, is_among}
use Rattle.equation_audit.specs.BlockLines.{Statement, Begins, Never, Or, When, End, LineSays, Say, body, front, whole}
use Rattle.equation_audit.specs.BlockLines.{HasBlock, OneEach, AllFew, AreBlocks, HasHeadFault, IsOutOfPlace}
use Rattle.equation_audit.specs.BlockLines.{NamesUnknown, HasBodyFault, HasFaultAfter, begun_lines, IsBlocksFault}
use Rattle.equation_audit.proofs.OneStatement.{one_operation, one_condition, one_statement, is_condition}
use Rattle.equation_audit.proofs.OneStatement.{second_of_condition}
use Rattle.equation_audit.proofs.OneReading.{is_on, says_next, never_inner, goes_on, not_all, blocks_split, said_split}
use Rattle.equation_audit.proofs.OneReading.{said_same, none_before, few_mid, names_more, same_begin, whole-append}
use Rattle.equation_audit.proofs.Fewer.{not_longer}

no_line_fault : (d : Diagram) (line : List ℕ) (op : Op) (fault : LineFault) → NamesOperation d line op →
    HasFault d line fault → ⊥
no_line_fault d line op Form names none = none op.direction names.path names.written
no_line_fault d line op Unknown names (direction, path, written, missing) =
    missing (subst (λ (p : List ℕ). Contains d.switch_paths p) (one_operation op.direction direction names.path path
    line names.written written).1
    (Contains-from_slice_get d.switch_paths op.switch.0 names.path names.named))

same_op : (a b : Op) → Begins a ≡ Begins b → a ≡ b
same_op a b e = cc

no_head_fault : (d : Diagram) → Differ d.switch_paths → (read : List Equation) (e : Equation) (more : List Equation)
    (line : List ℕ) (number : ℕ) → OneEach (read ++ e ∷ more) → NamesOperation d line e.op →
    HasHeadFault d read line number → ⊥
no_head_fault d differ read e more line number each names (inl (fault, has, is)) =
    no_line_fault d line e.op fault names has
no_head_fault d differ read e more line number each names (inr (op, other, has, is)) =
    let same = same_op op e.op (one_statement d differ line (Begins op) (Begins e.op) other names) in
    none_before read e more each (subst (HasBlock read) same has)

-- the line that goes on a body may stand there
in_place : (d : Diagram) (alts before : List (List Condition)) (s : Statement) (x ts : List Statement) (line : List ℕ) →
    body alts ++ End ∷ x ≡ body before ++ s ∷ ts → LineSays d line s → IsOutOfPlace before line → ⊥
in_place d alts before (Begins op) x ts line same says out =
    elim (says_next alts before (Begins op) _ (goes_on alts before (Begins op) x ts refl same)) [
      | inl first ↦ let e = first.1 in absurd (cc)
      | inr inner ↦ inner.0
    ]
in_place d alts before Never x ts line same says out =
    elim (says_next alts before Never _ (goes_on alts before Never x ts refl same)) [
      | inl first ↦ out.no_never says
          first.0
      | inr inner ↦ inner.0
    ]
in_place d alts before Or x ts line same says out =
    elim (says_next alts before Or _ (goes_on alts before Or x ts refl same)) [
      | inl first ↦ let e = first.1 in absurd (cc)
      | inr inner ↦ never_inner before (out.no_or says) inner.1
    ]
in_place d alts before (When c) x ts line same says out =
    elim (says_next alts before (When c) _ (goes_on alts before (When c) x ts refl same)) [
      | inl first ↦ let e = first.1 in absurd (cc)
      | inr inner ↦ never_inner before (out.no_condition c.closed says.path says.written) inner.1
    ]
in_place d alts before End x ts line same says out = out.no_end says

-- its switch is known
known : (d : Diagram) (line : List ℕ) (s : Statement) → LineSays d line s → NamesUnknown d line → ⊥
known d line s says unknown =
    let is = is_condition d line s says (second_of_condition unknown.closed unknown.path line unknown.written) in
    let names = subst (LineSays d line) is.1 says in
    unknown.unknown (subst (λ (p : List ℕ). Contains d.switch_paths p) (one_condition is.0.closed unknown.closed
    names.path unknown.path line names.written unknown.written).1
    (Contains-from_slice_get d.switch_paths is.0.switch.0 names.path names.named))

left : (a b : Bool) → a ≡ true → (a || b) ≡ true
left true b is = refl
left false b is = absurd (cc)

right : (a b : Bool) → b ≡ true → (a || b) ≡ true
right true b is = refl
right false b is = is

either : (a b : Bool) → (a || b) ≡ true → (a ≡ true) ⊎ (b ≡ true)
either true b is = inl refl
either false b is = inr is

-- there are few enough with it
not_broad : (alts before : List (List Condition)) (c : Condition) (zs : List Statement) →
    body alts ≡ body before ++ When c ∷ zs → HasFewOwn alts → IsBroad before c.switch.0 → ⊥
not_broad alts before c zs same few broad =
    let all : (i : ℕ) → is_among (c.switch ∷ broad.1) i ≡ true → is_among few.0 i ≡ true =
    λ i there. few.1.are.each i ∙ names_more alts before c zs i same
    ∙ in_one i (either (c.switch.0 == i) (is_among broad.1 i) there) in
    let count = not_longer (c.switch ∷ broad.1) few.0 (broad.2.each c.switch.0 ∙ broad.0, broad.2.differ) all in
    omega (arith, count, few.1.few, broad.3)
  where
    in_one : (i : ℕ) → ((c.switch.0 == i) ≡ true) ⊎ (is_among broad.1 i ≡ true) →
        (is_own before i || ((c.switch.0 == i) || list_any (λ s. is_on s i) zs)) ≡ true
    in_one i (inl first) = right (is_own before i) ((c.switch.0 == i) || list_any (λ s. is_on s i) zs)
        (left (c.switch.0 == i) (list_any (λ s. is_on s i) zs) first)
    in_one i (inr later) = left (is_own before i) ((c.switch.0 == i) || list_any (λ s. is_on s i) zs)
        (sym (broad.2.each i) ∙ later)

no_body_fault : (d : Diagram) → Differ d.switch_paths → (alts before : List (List Condition)) (s : Statement)
    (x ts : List Statement) (line : List ℕ) (number : ℕ) → HasFewOwn alts →
    body alts ++ End ∷ x ≡ body before ++ s ∷ ts →
    LineSays d line s → HasBodyFault d before line number → ⊥
no_body_fault d differ alts before s x ts line number few same says (inl (out, is)) =
    in_place d alts before s x ts line same says out
no_body_fault d differ alts before s x ts line number few same says (inr (inl (some, unknown, is))) =
    known d line s says unknown
no_body_fault d differ alts before s x ts line number few same says (inr (inr (some, c, names, broad, is))) =
    let condition = one_statement d differ line s (When c) says names in
    not_broad alts before c _ (goes_on alts before (When c) x ts refl
    (subst (λ (t : Statement). body alts ++ End ∷ x ≡ body before ++ t ∷ ts) condition same)) few broad

head_of : (a b : Statement) (xs ys : List Statement) → a ∷ xs ≡ b ∷ ys → a ≡ b
head_of a b xs ys e = cc

head_case : (d : Diagram) → Differ d.switch_paths → (es read : List Equation) (s : Statement) (ts : List Statement)
    (line : List ℕ) (number : ℕ) → OneEach es → (more : List Equation) → es ≡ read ++ more →
    flat_map whole more ≡ s ∷ ts → LineSays d line s → HasHeadFault d read line number → ⊥
head_case d differ es read s ts line number each [] those same says fault = absurd (cc)
head_case d differ es read s ts line number each (e ∷ more) those same says fault =
    let first = head_of (Begins e.op) s _ ts (sym (whole-append e (flat_map whole more)) ∙ same) in
    no_head_fault d differ read e more line number (subst OneEach those each)
    (subst (LineSays d line) (sym first) says) fault

body_case : (d : Diagram) → Differ d.switch_paths → (es read : List Equation) (begun : Equation) (s : Statement)
    (ts : List Statement) (line : List ℕ) (number : ℕ) → AllFew es → (more : List Equation) → es ≡ read ++ more →
    flat_map whole more ≡ front begun ++ s ∷ ts → LineSays d line s → HasBodyFault d begun.alternatives line number → ⊥
body_case d differ es read begun s ts line number few [] those same says fault = absurd (cc)
body_case d differ es read begun s ts line number few (e ∷ more) those same says fault =
    let parts = same_begin e.op begun.op _ _ (sym (whole-append e (flat_map whole more)) ∙ same) in
    no_body_fault d differ e.alternatives begun.alternatives s (flat_map whole more) ts line number
    (few_mid read e more (subst AllFew those few)) parts.1 says fault

ends_case : (begun : Equation) (more : List Equation) → flat_map whole more ≡ front begun → ⊥
ends_case begun [] same = cc
ends_case begun (e ∷ more) same =
    let parts = same_begin e.op begun.op _ _ (sym (whole-append e (flat_map whole more)) ∙ same) in
    not_all e.alternatives begun.alternatives (flat_map whole more) parts.1

-- no fault comes after lines that begin blocks
no_fault_after : (d : Diagram) → Differ d.switch_paths → (es : List Equation) (all : List (ℕ × List ℕ)) →
    Say d all (flat_map whole es) → OneEach es → AllFew es
    → (before : List (ℕ × List ℕ)) (read : List Equation) (begun : Option Equation) (count : ℕ) (r : InputRefusal) →
    Say d before (flat_map whole read ++ begun_lines begun) → HasFaultAfter d read begun before all count r → ⊥
no_fault_after d differ es all say each few before read None count r said fault =
    let next = said_split d differ before (flat_map whole read ++ []) said (r.line, fault.line) fault.rest
    (flat_map whole es) (subst (λ (ls : List (ℕ × List ℕ)). Say d ls (flat_map whole es)) fault.stands say) in
    let more = blocks_split es read (next.statement ∷ next.rest) (next.those
    ∙ ap (λ (ss : List Statement). ss ++ next.statement ∷ next.rest) (append-nil (flat_map whole read))) in
    head_case d differ es read next.statement next.rest fault.line r.number each more.more more.those more.say
    next.says fault.fault
no_fault_after d differ es all say each few before read (Some begun) count r said (inl fault) =
    let next = said_split d differ before (flat_map whole read ++ front begun) said (r.line, fault.line) fault.rest
    (flat_map whole es) (subst (λ (ls : List (ℕ × List ℕ)). Say d ls (flat_map whole es)) fault.stands say) in
    let more = blocks_split es read (front begun ++ next.statement ∷ next.rest) (next.those
    ∙ append_assoc (flat_map whole read) (front begun) (next.statement ∷ next.rest)) in
    body_case d differ es read begun next.statement next.rest fault.line r.number few more.more more.those more.say
    next.says fault.fault
no_fault_after d differ es all say each few before read (Some begun) count r said (inr ends) =
    let same = said_same d differ all (flat_map whole es) (flat_map whole read ++ front begun) say
    (subst (λ (ls : List (ℕ × List ℕ)). Say d ls (flat_map whole read ++ front begun)) (sym ends.nothing) said) in
    let more = blocks_split es read (front begun) same in
    ends_case begun more.more more.say

-- no text is blocks and refused as none
pub blocks_not_refused : (d : Diagram) → Differ d.switch_paths →
    (bytes : List ℕ) (es : List Equation) (r : InputRefusal) → AreBlocks d bytes es → IsBlocksFault d bytes r → ⊥
blocks_not_refused d differ bytes es r blocks (inl (long, is)) = omega (arith, blocks.few_bytes, long)
blocks_not_refused d differ bytes es r blocks (inr (short, first)) =
    no_fault_after d differ es (filled_lines bytes) blocks.say blocks.one_each blocks.few first.before first.blocks
    first.begun _ r first.say first.fault
