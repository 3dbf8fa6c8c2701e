-- The first line of a text with a fault.
use Rattle.std.proofs.Common.{◌≡◌, ◌∙◌, ◌⊎◌, ℕ, ◌+◌, ◌-◌, ◌≤◌, suc, List, [], ◌∷◌, ◌++◌, length, take, min}
use Rattle.std.proofs.Common.{Option, None}
use Rattle.std.proofs.Common.{Some, refl, sym, ap, subst, inl, inr, arith, append_assoc, append-nil}
use Rattle.std.specs.Prelude.{MatchOption, IfSome}
use Rattle.std.proofs.lemmas.Bool.{cases_lt, cases_eq}
use Rattle.std.proofs.lemmas.List.{append_cancel_left, length-append}
use Rattle.station_graph.specs.Diagram.{Diagram}
use Rattle.station_equations.specs.EquationLines.{EquationLines}
use Rattle.station_equations.specs.EquationText.{lines_of, text_of}
use Rattle.equation_text.specs.Words.{Lacks}
use Rattle.equation_text.specs.Reading.{front_text}
use Rattle.equation_text.specs.Faults.{feeds, EndsInLf, AreFormed, BeginsText, IsWrongAt, IsWrong, HasUndefined}
use Rattle.equation_text.specs.Faults.{IsFirstFault}
use Rattle.equation_text.specs.Faults.{HasFault, IsLine, NamesUndefined}
use Rattle.equation_text.specs.Entries.{IsFirstUndefined, NoneUndefined, IsFirstWithout, NoneWithout}
use Rattle.equation_text.specs.Stops.{StopsWrong}
use Rattle.equation_text.proofs.WholeText.{whole_text}
use Rattle.equation_text.proofs.FilledLemmas.{begins_prefix}
use Rattle.equation_text.proofs.LinesBefore.{feeds_more, rest_whole}

-- of two beginnings of a text one begins with the other
longer : (a b x y : List ℕ) → a ++ x ≡ b ++ y → ((m : List ℕ) × (b ≡ a ++ m)) ⊎ ((m : List ℕ) × (a ≡ b ++ m))
longer [] b x y same = inl (b, refl)
longer (c ∷ a) [] x y same = inr (c ∷ a, refl)
longer (c ∷ a) (e ∷ b) x y same =
    let first : c ≡ e = cc same in
    let next : a ++ x ≡ b ++ y = cc same in
    elim (longer a b x y next) [
      | inl found ↦ inl (found.0, ap (λ (zs : List ℕ). e ∷ zs) found.1 ∙ ap (λ z. z ∷ (a ++ found.0)) (sym first))
      | inr found ↦ inr (found.0, ap (λ (zs : List ℕ). c ∷ zs) found.1 ∙ ap (λ z. z ∷ (b ++ found.0)) first)
    ]

-- the first line of a text with an LF
pub record FirstLine (text : List ℕ) : Type 0 where
  pub line : List ℕ
  pub more : List ℕ
  pub lacks : Lacks 10 line
  pub is : text ≡ line ++ 10 ∷ more

first_line : (c rest : List ℕ) → FirstLine (c ++ 10 ∷ rest)
first_line [] rest = record { line = []; more = rest; lacks = tt; is = refl }
first_line (b ∷ c) rest = elim (cases_eq b 10) [
  | inl same ↦ record { line = []; more = c ++ 10 ∷ rest; lacks = tt; is = ap (λ z. z ∷ (c ++ 10 ∷ rest)) same }
  | inr differ ↦
      let found = first_line c rest in
      record {
        line = b ∷ found.line;
        more = found.more;
        lacks = (differ, found.lacks);
        is = ap (λ (zs : List ℕ). b ∷ zs) found.is;
      }
]

module _ (d : Diagram) (text : List ℕ) where
  -- no line of whole lines with which a text of the form begins is one that cannot stand where it does
  none_before : (before left m after : List ℕ) → IsWrongAt d before left → BeginsText d (before ++ m) →
      EndsInLf (before ++ m)
      → left ≡ m ++ after → m ≡ []
  none_before before left m after wrong begins whole is = elim (rest_whole before m whole) [
    | inl none ↦ none
    | inr some ↦ absurd (stands some.0 some.1)
  ]
    where
      stands : (c : List ℕ) → m ≡ c ++ 10 ∷ [] → ⊥
      stands c some =
          let found = first_line c [] in
          let lines : m ≡ found.line ++ 10 ∷ found.more = some ∙ found.is in
          let here : left ≡ found.line ++ 10 ∷ (found.more ++ after) = is ∙ ap (λ (z : List ℕ). z ++ after) lines
          ∙ append_assoc found.line (10 ∷ found.more) after in
          let all : before ++ m ≡ (before ++ (found.line ++ 10 ∷ [])) ++ found.more = ap (λ (z : List ℕ). before ++ z)
          (lines ∙ sym (append_assoc found.line (10 ∷ []) found.more)) ∙ sym (append_assoc before
          (found.line ++ 10 ∷ []) found.more) in
          wrong.none found.line (found.more ++ after) found.lacks here (begins_prefix d (before ++
          (found.line ++ 10 ∷ [])) found.more (subst (λ (z : List ℕ). BeginsText d z) all begins))

  module _ (left : List ℕ) (stop : StopsWrong d text left) where
    no_earlier : (j : ℕ) → IsWrong d text j → suc (feeds stop.before) ≤ j
    no_earlier j other = elim (longer stop.before other.before left other.left (sym stop.is ∙ other.is)) [
      | inl found ↦ omega (arith, other.number, ap feeds found.1, feeds_more stop.before found.0)
      | inr found ↦
          let behind = append_cancel_left other.before other.left (found.0 ++ left) (sym other.is ∙ stop.is ∙ ap (λ
          (z : List ℕ). z ++ left) found.1 ∙ append_assoc other.before found.0 left) in
          let none = none_before other.before other.left found.0 left other.wrong
          (subst (λ (z : List ℕ). BeginsText d z)
          found.1 stop.wrong.begins) (subst (λ (z : List ℕ). EndsInLf z) found.1 stop.wrong.whole) behind in
          let same : stop.before ≡ other.before = found.1 ∙ ap (λ (z : List ℕ). other.before ++ z) none ∙ append-nil
          other.before in
          omega (arith, other.number, ap feeds same)
    ]

    is_wrong : IsWrong d text (suc (feeds stop.before))
    is_wrong = record { before = stop.before; left = left; is = stop.is; wrong = stop.wrong; number = refl }

    pub first_of : (wrong r : ℕ) (o : Option ℕ) → wrong ≡ suc (feeds stop.before)
        → MatchOption o (NoneWithout d text) (IsFirstWithout d text)
        → MatchOption o (r ≡ wrong) (λ line. r ≡ min line wrong) → IsFirstFault d text r
    first_of wrong r None at told is = record {
      has = inl (subst (λ k. IsWrong d text k) (sym (is ∙ at)) is_wrong);
      first = each;
    }
      where
        each : (j : ℕ) → HasFault d text j → r ≤ j
        each j (inl other) = omega (arith, no_earlier j other, at, is)
        each j (inr other) = absurd (told j other)
    first_of wrong r (Some line) at told is = record {
      has = elim (cases_lt line wrong) [
        | inl less ↦
            let same : line ≡ r = omega (arith, is, less) in
            inr (subst (λ k. HasUndefined d text k) same told.has)
        | inr past ↦
            let same : suc (feeds stop.before) ≡ r = omega (arith, is, past, at) in
            inl (subst (λ k. IsWrong d text k) same is_wrong)
      ];
      first = each;
    }
      where
        each : (j : ℕ) → HasFault d text j → r ≤ j
        each j (inl other) = omega (arith, no_earlier j other, at, is)
        each j (inr other) = omega (arith, told.first j other, is)

  -- a text of the form has no line that cannot stand where it does
  pub no_wrong : (e : EquationLines) → AreFormed d e → text ≡ text_of (lines_of d e) → (j : ℕ) → IsWrong d text j → ⊥
  no_wrong e formed is j other =
      let all : text_of (lines_of d e) ≡ other.before ++ other.left = sym is ∙ other.is in
      let begins : BeginsText d (other.before ++ other.left) = record {
        lines = e;
        formed = formed;
        rest = [];
        is = all ∙ sym (append-nil (other.before ++ other.left));
      } in
      let none = none_before other.before other.left other.left [] other.wrong begins
      (subst (λ (z : List ℕ). EndsInLf z)
      all (whole_text (lines_of d e))) (sym (append-nil other.left)) in
      other.wrong.not_all none e formed (sym (all ∙ ap (λ (z : List ℕ). other.before ++ z) none ∙ append-nil
      other.before))

  pub stops_none : (left : List ℕ) → StopsWrong d text left → (e : EquationLines) → AreFormed d e
      → text ≡ text_of (lines_of d e) → ⊥
  stops_none left stop e formed is = no_wrong e formed is (suc (feeds stop.before)) (is_wrong left stop)

  pub first_without : (e : EquationLines) → AreFormed d e → text ≡ text_of (lines_of d e) → (k : ℕ)
      → IsFirstWithout d text k → IsFirstFault d text k
  first_without e formed is k told = record { has = inr told.has; first = each }
    where
      each : (j : ℕ) → HasFault d text j → k ≤ j
      each j (inl other) = absurd (no_wrong e formed is j other)
      each j (inr other) = told.first j other

  module _ (body : List ℕ) (is : text ≡ front_text d ++ body) where
    same_body : (j : ℕ) (has : HasUndefined d text j) → has.body ≡ body
    same_body j has = append_cancel_left (front_text d) has.body body (sym has.is ∙ is)

    pub none_without : NoneUndefined body → NoneWithout d text
    none_without none j has =
        let same = same_body j has in
        none has.before has.line (subst (λ (z : List ℕ). IsLine z has.before has.line) same has.stands)
        (subst (λ (z : List ℕ). NamesUndefined z has.line) same has.names)

    pub first_behind : (count k : ℕ) → IsFirstUndefined body count → k ≡ suc (feeds (front_text d)) + count
        → IsFirstWithout d text k
    first_behind count k found at = record {
      has = record {
        body = body;
        is = is;
        before = found.before;
        line = found.line;
        stands = found.stands;
        names = found.names;
        number = omega (arith, at, found.count_is, feeds_more (front_text d) found.before);
      };
      first = λ j has.
          let same = same_body j has in
          let less = found.first has.before has.line
          (subst (λ (z : List ℕ). IsLine z has.before has.line) same has.stands)
          (subst (λ (z : List ℕ). NamesUndefined z has.line) same has.names) in
          omega (arith, at, less, has.number, feeds_more (front_text d) has.before);
    }

  pub first_named : (e : EquationLines) → AreFormed d e → text ≡ text_of (lines_of d e) → (r : ℕ) (o : Option ℕ)
      → MatchOption o (NoneWithout d text) (IsFirstWithout d text) → (NoneWithout d text → ⊥)
      → IfSome o (λ line. r ≡ line) → IsFirstFault d text r
  first_named e formed is r None told some same = absurd (some told)
  first_named e formed is r (Some line) told some same = subst (λ k. IsFirstFault d text k) (sym same) (first_without e
      formed is line told)

pub take_front : (text before left : List ℕ) (n : ℕ) → text ≡ before ++ left → n ≡ length text - length left
    → take n text ≡ before
take_front text before left n is count =
    let number : n ≡ length before = omega (arith, count, ap length is, length-append before left) in
    ap (λ k. take k text) number ∙ ap (λ (z : List ℕ). take (length before) z) is ∙ front before left
  where
    front : (b l : List ℕ) → take (length b) (b ++ l) ≡ b
    front [] l = refl
    front (x ∷ b) l = ap (λ (zs : List ℕ). x ∷ zs) (front b l)
