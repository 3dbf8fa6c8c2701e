-- How the reader of records goes through a line without quotes.
use Rattle.std.proofs.Common.{◌≡◌, ◌≢◌, ◌++◌, ◌∷◌, ◌∙◌, ◌<◌, ◌≤◌, ◌+◌, [], ℕ, List, Some, refl, sym, ap, append_assoc, inl, inr, suc, zero, length, length-append, arith}
use Rattle.std.specs.Bool.{⊤}
use Rattle.std.specs.List.{All}
use Rattle.std.proofs.lemmas.List.{append-nil}
use Rattle.std.proofs.lemmas.List.Elements.{All-head, All-tail}
use Rattle.std.proofs.lemmas.Bool.{ne_eqb}
use Rattle.csv.specs.Machine.{next_record}
use Rattle.csv.specs.Reading.{default_config, records_from, strip_bom}
use Rattle.csv.specs.declared.parser.State.{State}
use Rattle.csv.specs.declared.parser.State.TheVariants as st
use Rattle.double_points.specs.Rows.{rows_of}
use Rattle.plain_rows.specs.PlainRows.{IsPlainByte, IsPlain, IsPlainRecord, joined, behind_commas, AreLinesOf}

-- the bytes of a field, from within it
plain_run : (fields : List (List ℕ)) (field x tail : List ℕ) → All IsPlainByte x →
    next_record default_config st.InField fields field (x ++ tail)
    ≡ next_record default_config st.InField fields (field ++ x) tail
unfolding next_record
plain_run fields field [] tail all = rw (append-nil field) refl
plain_run fields field (b ∷ rest) tail all =
    let p = All-head IsPlainByte b rest all in
    rw (ne_eqb b 44 p.no_comma, ne_eqb b 13 p.no_return, ne_eqb b 10 p.no_feed)
    (plain_run fields (field ++ (b ∷ [])) rest tail (All-tail IsPlainByte b rest all)
    ∙ ap (λ (f : List ℕ). next_record default_config st.InField fields f tail) (append_assoc field (b ∷ []) rest))

-- the text begins with no quote
abbrev IsFree : List ℕ → Type 0
IsFree [] = ⊤
IsFree (c ∷ rest) = c ≢ 34

-- what begins with no quote begins a field as it goes on in one
field_begins : (fields : List (List ℕ)) (text : List ℕ) → IsFree text →
    next_record default_config st.StartField fields [] text ≡ next_record default_config st.InField fields [] text
unfolding next_record
field_begins fields [] free = refl
field_begins fields (c ∷ rest) free = rw (ne_eqb c 34 free) refl

-- a byte that ends no line begins a record as it begins a field
record_begins : (c : ℕ) (tail : List ℕ) → c ≢ 13 → c ≢ 10 →
    next_record default_config st.StartRecord [] [] (c ∷ tail)
    ≡ next_record default_config st.StartField [] [] (c ∷ tail)
unfolding next_record
record_begins c tail no_return no_feed = rw (ne_eqb c 13 no_return, ne_eqb c 10 no_feed) refl

-- a field with what follows it, from its start
field_run : (fields : List (List ℕ)) (x tail : List ℕ) → IsPlain x → IsFree tail →
    next_record default_config st.StartField fields [] (x ++ tail)
    ≡ next_record default_config st.InField fields x tail
field_run fields [] tail plain free = field_begins fields tail free
field_run fields (b ∷ rest) tail plain free =
    field_begins fields (b ∷ (rest ++ tail)) (All-head IsPlainByte b rest plain).no_quote
    ∙ plain_run fields [] (b ∷ rest) tail plain

-- a comma ends the field
comma : (fields : List (List ℕ)) (x tail : List ℕ) →
    next_record default_config st.InField fields x (44 ∷ tail)
    ≡ next_record default_config st.StartField (fields ++ (x ∷ [])) [] tail
unfolding next_record
comma fields x tail = refl

-- how a line ends: these bytes end the record, and leave the reader there, with that rest
abbrev Ends : List ℕ → State → List ℕ → Type 0
Ends ending state rest = (fields : List (List ℕ)) (x : List ℕ) →
    next_record default_config st.InField fields x ending ≡ Some (fields ++ (x ∷ []), state, rest)

module _ (ending : List ℕ) (state : State) (rest : List ℕ) (free : IsFree ending) (ends : Ends ending state rest) where
  free_behind : (fields : List (List ℕ)) → IsFree (behind_commas fields ++ ending)
  free_behind [] = free
  free_behind (y ∷ ys) = λ same. absurd (omega (arith, same))

  -- the rest of a record, after a field
  rest_run : (fields : List (List ℕ)) (x : List ℕ) (more : List (List ℕ)) → All IsPlain more →
      next_record default_config st.InField fields x (behind_commas more ++ ending)
      ≡ Some (fields ++ (x ∷ more), state, rest)
  rest_run fields x [] plain = ends fields x
  rest_run fields x (y ∷ ys) plain =
      comma fields x ((y ++ behind_commas ys) ++ ending)
      ∙ ap (next_record default_config st.StartField (fields ++ (x ∷ [])) [])
      (append_assoc y (behind_commas ys) ending)
      ∙ field_run (fields ++ (x ∷ [])) y (behind_commas ys ++ ending) (All-head IsPlain y ys plain) (free_behind ys)
      ∙ rest_run (fields ++ (x ∷ [])) y ys (All-tail IsPlain y ys plain)
      ∙ ap (λ (all : List (List ℕ)). Some (all, state, rest)) (append_assoc fields (x ∷ []) (y ∷ ys))

  -- the line of a record is read as its fields
  record_run : (fields : List (List ℕ)) → IsPlainRecord fields →
      next_record default_config st.StartRecord [] [] (joined fields ++ ending) ≡ Some (fields, state, rest)
  record_run [] is = absurd (is.filled refl)
  record_run ([] ∷ []) is = absurd (is.filled refl)
  record_run ([] ∷ y ∷ ys) is =
      record_begins 44 ((y ++ behind_commas ys) ++ ending) (λ same. absurd (omega (arith, same)))
      (λ same. absurd (omega (arith, same)))
      ∙ field_run [] [] (behind_commas (y ∷ ys) ++ ending) (All-head IsPlain [] (y ∷ ys) is.plain)
      (free_behind (y ∷ ys))
      ∙ rest_run [] [] (y ∷ ys) (All-tail IsPlain [] (y ∷ ys) is.plain)
  record_run ((b ∷ bs) ∷ ys) is =
      let plain = All-head IsPlain (b ∷ bs) ys is.plain in
      let first = All-head IsPlainByte b bs plain in
      ap (λ (t : List ℕ). next_record default_config st.StartRecord [] [] (b ∷ t))
      (append_assoc bs (behind_commas ys) ending)
      ∙ record_begins b (bs ++ (behind_commas ys ++ ending)) first.no_return first.no_feed
      ∙ field_run [] (b ∷ bs) (behind_commas ys ++ ending) plain (free_behind ys)
      ∙ rest_run [] (b ∷ bs) ys (All-tail IsPlain (b ∷ bs) ys is.plain)

-- LF, CR LF and the end of the text end a line
by_feed : (rest : List ℕ) → Ends (10 ∷ rest) st.StartRecord rest
unfolding next_record
by_feed rest fields x = refl

by_return : (rest : List ℕ) → Ends (13 ∷ 10 ∷ rest) st.AfterCr (10 ∷ rest)
unfolding next_record
by_return rest fields x = refl

by_end : Ends [] st.StartRecord []
unfolding next_record
by_end fields x = refl

-- the LF behind a CR is passed over
feed_passed : (n : ℕ) (rest : List ℕ) →
    records_from default_config n st.AfterCr (10 ∷ rest) ≡ records_from default_config n st.StartRecord rest
unfolding records_from next_record
feed_passed zero rest = refl
feed_passed (suc n) rest = refl

-- one record, and those after it
one_more : (n : ℕ) (text : List ℕ) (fields : List (List ℕ)) (state : State) (rest : List ℕ) →
    next_record default_config st.StartRecord [] [] text ≡ Some (fields, state, rest) →
    records_from default_config (suc n) st.StartRecord text ≡ fields ∷ records_from default_config n state rest
unfolding records_from
one_more n text fields state rest read = rw read refl

none : (n : ℕ) → records_from default_config n st.StartRecord [] ≡ []
unfolding records_from next_record
none zero = refl
none (suc n) = refl

-- all records of the text
all_rows : (n : ℕ) (rows : List (List (List ℕ))) (text : List ℕ) → length rows < n → AreLinesOf rows text →
    records_from default_config n st.StartRecord text ≡ rows
all_rows n [] text few are = ap (records_from default_config n st.StartRecord) are ∙ none n
all_rows zero (fields ∷ rows) text few are = absurd (omega (arith, few))
all_rows (suc n) (fields ∷ rows) text few are = elim are.1 [
  | inl line ↦ elim line.1 [
    | inl feed ↦
        ap (records_from default_config (suc n) st.StartRecord) feed
        ∙ one_more n (joined fields ++ 10 ∷ line.0) fields st.StartRecord line.0
        (record_run (10 ∷ line.0) st.StartRecord line.0 (λ same. absurd (omega (arith, same))) (by_feed line.0) fields
        are.0)
        ∙ ap (λ (xs : List (List (List ℕ))). fields ∷ xs) (all_rows n rows line.0 (omega (arith, few)) line.2)
    | inr return ↦
        ap (records_from default_config (suc n) st.StartRecord) return
        ∙ one_more n (joined fields ++ 13 ∷ 10 ∷ line.0) fields st.AfterCr (10 ∷ line.0)
        (record_run (13 ∷ 10 ∷ line.0) st.AfterCr (10 ∷ line.0) (λ same. absurd (omega (arith, same)))
        (by_return line.0) fields are.0)
        ∙ ap (λ (xs : List (List (List ℕ))). fields ∷ xs)
        (feed_passed n line.0 ∙ all_rows n rows line.0 (omega (arith, few)) line.2)
  ]
  | inr last ↦
      ap (records_from default_config (suc n) st.StartRecord) (last.0 ∙ sym (append-nil (joined fields)))
      ∙ one_more n (joined fields ++ []) fields st.StartRecord []
      (record_run [] st.StartRecord [] tt by_end fields are.0)
      ∙ ap (λ (xs : List (List (List ℕ))). fields ∷ xs) (none n ∙ sym last.1)
]

-- a line that is not empty has a byte
has_byte : (xs : List ℕ) → xs ≢ [] → 0 < length xs
has_byte [] not = absurd (not refl)
has_byte (x ∷ xs) not = omega arith

-- there are no more records than bytes
few_rows : (rows : List (List (List ℕ))) (text : List ℕ) → AreLinesOf rows text → length rows ≤ length text
few_rows [] text are = omega arith
few_rows (fields ∷ rows) text are =
    let filled = has_byte (joined fields) are.0.filled in
    elim are.1 [
      | inl line ↦
          let more = few_rows rows line.0 line.2 in
          elim line.1 [
            | inl feed ↦ omega (
              arith,
              more,
              filled,
              ap length feed,
              length-append (joined fields) (10 ∷ line.0),
            )
            | inr return ↦ omega (
              arith,
              more,
              filled,
              ap length return,
              length-append (joined fields) (13 ∷ 10 ∷ line.0),
            )
          ]
      | inr last ↦ omega (arith, filled, ap length last.0, ap length last.1)
    ]

-- the rows of a text of such lines
pub rows_are : (text : List ℕ) (rows : List (List (List ℕ))) → AreLinesOf rows (strip_bom text) → rows_of text ≡ rows
rows_are text rows are =
    all_rows (length (strip_bom text) + 1) rows (strip_bom text)
    (omega (arith, few_rows rows (strip_bom text) are)) are
