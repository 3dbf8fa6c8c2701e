-- The fields of a record, and numbers in them.
use Rattle.std.proofs.Common.{◌≡◌, ◌<◌, ◌≤◌, ◌^◌, ℕ, zero, suc, true, List, [], ◌∷◌, length, get_or, Some, None}
use Rattle.std.proofs.Common.{All, refl, sym, ap, ◌∙◌, inl, inr, arith}
use Rattle.std.specs.Prelude.{decimal}
use Rattle.std.specs.Str.{is_utf8}
use Rattle.std.specs.Str.Parse.{digits_value}
use Rattle.std.proofs.lemmas.Bool.{cases_lt}
use Rattle.std.proofs.lemmas.Fmt.{decimal_is_IsNumeral}
use Rattle.std.proofs.lemmas.Str.{IsUtf8-nil, is_utf8-from_IsUtf8}
use Rattle.csv.specs.Records.{field_at}
use Rattle.log_replay.specs.declared.kinds.RecordKind.{RecordKind}
use Rattle.log_replay.specs.declared.kinds.RecordKind.TheVariants.{At, Command, Sense, Begin, End, Deliver, Tick}
use Rattle.log_replay.specs.declared.kinds.RecordKind.TheVariants.{Withdraw, Restart, Part, Cut}
use Rattle.log_replay.specs.RecordFaults.{kind_name, field_count, field, IsOfKind, HasForm}

-- ---- the field at a place

pub field_there : (row : List (List ℕ)) (place : ℕ) (text : List ℕ) → field_at row place ≡ Some text →
    field row place ≡ text
unfolding field_at
field_there [] place text is = cc is
field_there (f ∷ row) zero text is = cc is
field_there (f ∷ row) (suc place) text is = field_there row place text is

pub field_past : (row : List (List ℕ)) (place : ℕ) → field_at row place ≡ None → field row place ≡ []
unfolding field_at
field_past [] place is = refl
field_past (f ∷ row) zero is = cc is
field_past (f ∷ row) (suc place) is = field_past row place is

-- ---- the form of a record

pub same_default : (row : List (List ℕ)) (i : ℕ) (d : List ℕ) → i < length row → get_or row i d ≡ field row i
same_default [] i d lt = absurd (omega (arith, lt))
same_default (f ∷ row) zero d lt = refl
same_default (f ∷ row) (suc i) d lt = same_default row i d (omega (arith, lt))

past_empty : (row : List (List ℕ)) (i : ℕ) → length row ≤ i → field row i ≡ []
past_empty [] i past = refl
past_empty (f ∷ row) zero past = absurd (omega (arith, past))
past_empty (f ∷ row) (suc i) past = past_empty row i (omega (arith, past))

-- each field of a record of a form is text
pub texts_at : (row : List (List ℕ)) (i : ℕ) → All (λ text. is_utf8 text ≡ true) row → is_utf8 (field row i) ≡ true
texts_at row i all = elim (cases_lt i (length row)) [
  | inl lt ↦ all i [] lt
  | inr past ↦ ap is_utf8 (past_empty row i past) ∙ is_utf8-from_IsUtf8 [] IsUtf8-nil
]

name_is_text : (k : RecordKind) → is_utf8 (kind_name k) ≡ true
unfolding lib.Utf8.encode
name_is_text At = is_utf8-from_IsUtf8 (kind_name At) (kind_name At, (refl, refl))
name_is_text Command = is_utf8-from_IsUtf8 (kind_name Command) (kind_name Command, (refl, refl))
name_is_text Sense = is_utf8-from_IsUtf8 (kind_name Sense) (kind_name Sense, (refl, refl))
name_is_text Begin = is_utf8-from_IsUtf8 (kind_name Begin) (kind_name Begin, (refl, refl))
name_is_text End = is_utf8-from_IsUtf8 (kind_name End) (kind_name End, (refl, refl))
name_is_text Deliver = is_utf8-from_IsUtf8 (kind_name Deliver) (kind_name Deliver, (refl, refl))
name_is_text Tick = is_utf8-from_IsUtf8 (kind_name Tick) (kind_name Tick, (refl, refl))
name_is_text Withdraw = is_utf8-from_IsUtf8 (kind_name Withdraw) (kind_name Withdraw, (refl, refl))
name_is_text Restart = is_utf8-from_IsUtf8 (kind_name Restart) (kind_name Restart, (refl, refl))
name_is_text Part = is_utf8-from_IsUtf8 (kind_name Part) (kind_name Part, (refl, refl))
name_is_text Cut = is_utf8-from_IsUtf8 (kind_name Cut) (kind_name Cut, (refl, refl))

few_fields : (k : RecordKind) → field_count k ≤ 3
few_fields At = omega arith
few_fields Command = omega arith
few_fields Sense = omega arith
few_fields Begin = omega arith
few_fields End = omega arith
few_fields Deliver = omega arith
few_fields Tick = omega arith
few_fields Withdraw = omega arith
few_fields Restart = omega arith
few_fields Part = omega arith
few_fields Cut = omega arith

pub has_form : (k : RecordKind) (row : List (List ℕ)) → IsOfKind row k → length row ≡ field_count k →
    is_utf8 (field row 1) ≡ true → is_utf8 (field row 2) ≡ true → HasForm k row
has_form k row named count first second = record {
  count = count;
  texts = λ i d lt. ap is_utf8 (same_default row i d lt)
      ∙ each i (omega (arith, lt, count, few_fields k));
}
  where
    each : (i : ℕ) → i < 3 → is_utf8 (field row i) ≡ true
    each zero lt = ap is_utf8 named ∙ name_is_text k
    each (suc zero) lt = first
    each (suc (suc zero)) lt = second
    each (suc (suc (suc i))) lt = absurd (omega (arith, lt))

-- ---- numbers

-- no two numbers have one decimal text
pub decimal_tells : (a b : ℕ) → a < 2 ^ 64 → b < 2 ^ 64 → decimal a ≡ decimal b → a ≡ b
decimal_tells a b low high is = sym (decimal_is_IsNumeral a low).1 ∙ ap (digits_value 10) is
    ∙ (decimal_is_IsNumeral b high).1
