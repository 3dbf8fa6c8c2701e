-- Lines that were read, and what they have said; blocks that follow one another.
use Rattle.std.proofs.Common.{◌≡◌, ◌≢◌, ◌∙◌, sym, ap, subst, refl, append_assoc, append-nil, ℕ, ◌⊎◌, List, []}
use Rattle.std.proofs.Common.{◌∷◌, ◌++◌, length, arith, inl, inr, Some, None}
use Rattle.std.specs.Prelude.{flat_map, codes}
use Rattle.std.proofs.lemmas.Grind.{flat_map-append}
use Rattle.std.proofs.lemmas.List.Elements.{All-push}
use Rattle.ilk_base.specs.declared.words.Op.{Op}
use Rattle.ilk_base.specs.declared.words.InputRefusal.{InputRefusal}
use Rattle.station_graph.specs.Diagram.{Diagram}
use Rattle.operation_lines.specs.OperationLines.{NamesOperation}
use Rattle.equation_audit.specs.declared.condition.Condition.{Condition}
use Rattle.equation_audit.specs.Equations.{Equation, HasFewOwn}
use Rattle.equation_audit.specs.BlockLines.{Statement, LineSays, Say, body, front, whole, HasBlock, OneEach, AllFew}
use Rattle.equation_audit.specs.BlockLines.{HasHeadFault, IsOutOfPlace, BodyFaultAfter, IsEndPassed}
use Rattle.equation_audit.specs.BlockLines.{IsRest, IsRestFault, IsFirstBlockFault}
use Rattle.text_lines.specs.Lines.{filled_lines}
use Rattle.std.specs.Str.Lines.{lines}
use Rattle.ilk_base.specs.Inputs.{ForRefused}
use Rattle.ilk_base.specs.declared.input_fault.InputFault.{InputFault}
use Rattle.ilk_base.specs.declared.input_fault.InputFault.TheVariants.{Memory, Refused}
use Rattle.equation_audit.proofs.BodyLemmas.{Say-append, Say-push}

-- the lines before those that are left say these
pub record HasSaid (d : Diagram) (all left : List (ℕ × List ℕ)) (statements : List Statement) : Type 0 where
  pub before : List (ℕ × List ℕ)
  pub those : all ≡ before ++ left
  pub say : Say d before statements

pub said_next : (d : Diagram) (all left : List (ℕ × List ℕ)) (line : ℕ × List ℕ) (rest : List (ℕ × List ℕ))
    (ss more : List Statement) (s : Statement) → left ≡ line ∷ rest → more ≡ ss ++ s ∷ [] → LineSays d line.1 s →
    HasSaid d all left ss → HasSaid d all rest more
said_next d all left line rest ss more s first next says said = record {
  before = said.before ++ line ∷ [];
  those = said.those ∙ ap (λ (xs : List (ℕ × List ℕ)). said.before ++ xs) first
      ∙ sym (append_assoc said.before (line ∷ []) rest);
  say = subst (λ (xs : List Statement). Say d (said.before ++ line ∷ []) xs) (sym next)
      (Say-push d said.before line ss s said.say says);
}

-- the body, and its end
pub rest_read : (d : Diagram) (all left : List (ℕ × List ℕ)) (line : ℕ × List ℕ) (rest : List (ℕ × List ℕ))
    (alts : List (List Condition)) → left ≡ line ∷ rest → line.1 ≡ codes "end" → HasSaid d all left (body alts) →
    IsRest d all rest alts
rest_read d all left line rest alts first is_end said =
    let h = said_next d all left line rest (body alts) (body alts ++ Statement.End ∷ []) Statement.End first refl
    is_end said in
    record { passed = h.before; those = h.those; say = h.say }

-- a body `never` and its end
pub never_read : (d : Diagram) (all left : List (ℕ × List ℕ)) (line : ℕ × List ℕ) (rest new : List (ℕ × List ℕ)) →
    left ≡ line ∷ rest → line.1 ≡ codes "never" → IsEndPassed rest new → HasSaid d all left [] → IsRest d all new []
never_read d all left line rest new first is_never passed said =
    rest_read d all rest passed.line new [] passed.those passed.is_end (said_next d all left line rest [] (body [])
    Statement.Never first refl is_never said)

-- what is wrong in the lines that are left, is wrong after those before
after_more : (d : Diagram) (alts : List (List Condition)) (front_lines before left all : List (ℕ × List ℕ)) (count : ℕ)
    (r : InputRefusal) → all ≡ front_lines ++ left → BodyFaultAfter d alts before left count r →
    BodyFaultAfter d alts (front_lines ++ before) all count r
after_more d alts front_lines before left all count r those (inl at) = inl (record {
  line = at.line;
  rest = at.rest;
  stands = those ∙ ap (λ (xs : List (ℕ × List ℕ)). front_lines ++ xs) at.stands
      ∙ sym (append_assoc front_lines before ((r.line, at.line) ∷ at.rest));
  fault = at.fault;
})
after_more d alts front_lines before left all count r those (inr ends) = inr (record {
  nothing = those ∙ ap (λ (xs : List (ℕ × List ℕ)). front_lines ++ xs) ends.nothing;
  refused = ends.refused;
})

none_own : HasFewOwn []
none_own = ([], record { are = record { differ = tt; each = λ i. refl }; few = omega arith })

-- a body `never` that does not end
pub never_fault : (d : Diagram) (all left : List (ℕ × List ℕ)) (line : ℕ × List ℕ) (rest : List (ℕ × List ℕ))
    (count : ℕ) (r : InputRefusal) → left ≡ line ∷ rest → line.1 ≡ codes "never" → BodyFaultAfter d [] [] rest count r →
    HasSaid d all left [] → IsRestFault d all count r
never_fault d all left line rest count r first is_never fault said =
    let h = said_next d all left line rest [] (body []) Statement.Never first refl is_never said in
    record {
      before = h.before;
      alternatives = [];
      say = h.say;
      few = none_own;
      fault = subst (λ (xs : List (ℕ × List ℕ)). BodyFaultAfter d [] xs all count r) (append-nil h.before)
          (after_more d [] h.before [] rest all count r h.those fault);
    }

pub HasBlock-push : (es : List Equation) (e : Equation) (op : Op) → HasBlock (es ++ e ∷ []) op → HasBlock es op
    ⊎ (e.op ≡ op)
HasBlock-push [] e op (inl is) = inr is
HasBlock-push [] e op (inr none) = absurd none
HasBlock-push (x ∷ es) e op (inl is) = inl (inl is)
HasBlock-push (x ∷ es) e op (inr later) = elim (HasBlock-push es e op later) [
  | inl has ↦ inl (inr has)
  | inr is ↦ inr is
]

-- one more block, of an operation that has none
pub OneEach-push : (es : List Equation) (e : Equation) → OneEach es → ¬ HasBlock es e.op → OneEach (es ++ e ∷ [])
OneEach-push [] e each new = (λ none. none, tt)
OneEach-push (x ∷ es) e each new = (
  (λ has. elim (HasBlock-push es e x.op has) [ inl before ↦ each.0 before | inr is ↦ new (inl (sym is)) ]),
  OneEach-push es e each.1 (λ has. new (inr has)),
)

pub AllFew-push : (es : List Equation) (e : Equation) → AllFew es → HasFewOwn e.alternatives → AllFew (es ++ e ∷ [])
AllFew-push es e all few = All-push (λ (x : Equation). HasFewOwn x.alternatives) es e all few

-- whole blocks, and one more
pub block_read : (d : Diagram) (all left : List (ℕ × List ℕ)) (line : ℕ × List ℕ) (rest new : List (ℕ × List ℕ))
    (es : List Equation) (e : Equation) → left ≡ line ∷ rest → NamesOperation d line.1 e.op →
    IsRest d rest new e.alternatives → HasSaid d all left (flat_map whole es) →
    HasSaid d all new (flat_map whole (es ++ e ∷ []))
block_read d all left line rest new es e first names read said = record {
  before = said.before ++ line ∷ read.passed;
  those =
      said.those
      ∙ ap (λ (xs : List (ℕ × List ℕ)). said.before ++ xs) (first
      ∙ ap (λ (xs : List (ℕ × List ℕ)). line ∷ xs) read.those)
      ∙ sym (append_assoc said.before (line ∷ read.passed) new);
  say = subst (λ (xs : List Statement). Say d (said.before ++ line ∷ read.passed) xs)
      (sym (flat_map-append whole es (e ∷ []) ∙ ap (λ (xs : List Statement). flat_map whole es ++ xs)
      (append-nil (whole e))))
      (Say-append d said.before (line ∷ read.passed) (flat_map whole es) (whole e) said.say (names, read.say));
}

-- the first fault is in a block that is begun
fault_in_block : (d : Diagram) (all left : List (ℕ × List ℕ)) (line : ℕ × List ℕ) (rest : List (ℕ × List ℕ))
    (es : List Equation) (op : Op) (count : ℕ) (r : InputRefusal) → left ≡ line ∷ rest → NamesOperation d line.1 op →
    IsRestFault d rest count r → HasSaid d all left (flat_map whole es)
    → (before : List (ℕ × List ℕ)) × (alts : List (List Condition)) × HasFewOwn alts
    × Say d before (flat_map whole es ++ front (record { op = op; alternatives = alts }))
    × BodyFaultAfter d alts before all count r
fault_in_block d all left line rest es op count r first names fault said =
    let lines_before = said.before ++ line ∷ [] in
    let those : all ≡ lines_before ++ rest = said.those ∙ ap (λ (xs : List (ℕ × List ℕ)). said.before ++ xs) first
    ∙ sym (append_assoc said.before (line ∷ []) rest) in (
      lines_before ++ fault.before,
      fault.alternatives,
      fault.few,
      subst (λ (xs : List (ℕ × List ℕ)). Say d xs (flat_map whole es ++ front (record {
        op = op;
        alternatives =
            fault.alternatives;
      }))) (sym (append_assoc said.before (line ∷ []) fault.before))
          (Say-append d said.before (line ∷ fault.before) (flat_map whole es)
          (front (record { op = op; alternatives = fault.alternatives })) said.say (names, fault.say)),
      after_more d fault.alternatives lines_before fault.before rest all count r those fault.fault,
    )

-- the first fault is in a line between blocks
pub first_head_fault : (d : Diagram) (bytes : List ℕ) (left : List (ℕ × List ℕ)) (number : ℕ) (line : List ℕ)
    (rest : List (ℕ × List ℕ)) (es : List Equation) (r : InputRefusal) → left ≡ (number, line) ∷ rest →
    (r.line ≡ number)
    × HasHeadFault d es line r.number → OneEach es → AllFew es
    → HasSaid d (filled_lines bytes) left (flat_map whole es) → IsFirstBlockFault d bytes r
first_head_fault d bytes left number line rest es r first fault one_each few said = record {
  before = said.before;
  blocks = es;
  begun = None;
  say = subst (λ (xs : List Statement). Say d said.before xs) (sym (append-nil (flat_map whole es))) said.say;
  one_each = subst OneEach (sym (append-nil es)) one_each;
  few = subst AllFew (sym (append-nil es)) few;
  fault = record {
    line = line;
    rest = rest;
    stands = said.those ∙ (λ j. said.before ++ (first ∙ (λ k. (sym fault.0 k, line) ∷ rest)) j);
    fault = fault.1;
  };
}

-- the first fault is in the block that the last line began
pub first_body_fault : (d : Diagram) (bytes : List ℕ) (left : List (ℕ × List ℕ)) (line : ℕ × List ℕ)
    (rest : List (ℕ × List ℕ)) (es : List Equation) (op : Op) (count : ℕ) (r : InputRefusal) → left ≡ line ∷ rest →
    NamesOperation d line.1 op → count ≡ length (lines bytes) → IsRestFault d rest count r → OneEach es →
    ¬ HasBlock es op → AllFew es
    → HasSaid d (filled_lines bytes) left (flat_map whole es) → IsFirstBlockFault d bytes r
first_body_fault d bytes left line rest es op count r first names counted fault one_each new few said =
    let found = fault_in_block d (filled_lines bytes) left line rest es op count r first names fault said in
    record {
      before = found.0;
      blocks = es;
      begun = Some (record { op = op; alternatives = found.1 });
      say = found.3;
      one_each = OneEach-push es (record { op = op; alternatives = found.1 }) one_each new;
      few = AllFew-push es (record { op = op; alternatives = found.1 }) few found.2;
      fault = subst (λ (n : ℕ). BodyFaultAfter d found.1 found.0 (filled_lines bytes) n r) counted found.4;
    }

-- where nothing but `end` may stand
pub never_out : (line : List ℕ) → line ≢ codes "end" → IsOutOfPlace [] line
never_out line other = record {
  no_end = other;
  no_never = λ is e. cc;
  no_or = λ is. refl;
  no_condition =
      λ closed path is. refl;
}

pub for_refused_weaker : (e : InputFault) (P Q : InputRefusal → Type 0) → ((r : InputRefusal) → P r → Q r) →
    ForRefused e P → ForRefused e Q
for_refused_weaker Memory P Q weaker holds = tt
for_refused_weaker (Refused r) P Q weaker holds = weaker r holds
