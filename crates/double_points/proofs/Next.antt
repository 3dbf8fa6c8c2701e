-- The records of a text, one after another.
use Rattle.std.proofs.Common.{◌≡◌, ℕ, zero, suc, ◌+◌, ◌<◌, ◌≤◌, Bool, true, false, cond, List, [], ◌∷◌}
use Rattle.std.proofs.Common.{length, Option, Some, None, refl, ap, ◌∙◌, arith, subst, add-one, ◌==◌, ◌||◌}
use Rattle.std.proofs.Common.{inl}
use Rattle.csv.specs.Machine.{Read, next_record, step, in_field, start_field, start_record, is_end, ends_at_end}
use Rattle.csv.specs.Machine.{fields_after, field_after}
use Rattle.csv.specs.Reading.{default_config, records_from, records_next, strip_bom, is_bom, ReadsNext, NextIs}
use Rattle.csv.specs.Reading.{ReadRecord, ExplainsRead, stops_reader, source_of, pending_of}
use Rattle.csv.specs.declared.parser.State.{State}
use Rattle.csv.specs.declared.parser.State.TheVariants as st
use Rattle.csv.specs.declared.parser.Action.{Action}
use Rattle.csv.specs.declared.parser.Action.TheVariants as act
use Rattle.csv.specs.declared.reader.Reader.{Reader}
use Rattle.csv.proofs.ReadFacts.{rows-end}
use Rattle.csv.specs.declared.error.ErrorKind.{ErrorKind}
use Rattle.csv.specs.declared.error.ErrorKind.TheVariants as kind
use Rattle.double_points.specs.Left.{rows_from, left_of, told, Bytes, ReaderStands}

record Rests (q : State × Action) : Type 0 where
  pub rests : is_end q.1 ≡ true → ends_at_end q.0 ≡ false

both : (b : Bool) (x y : State × Action) → Rests x → Rests y → Rests (cond b x y)
both true x y h k = h
both false x y h k = k

skips : (s : State) → Rests (s, act.Skip)
skips s = record { rests = λ e. cc e }

copies : (s : State) → Rests (s, act.Copy)
copies s = record { rests = λ e. cc e }

parts : (s : State) → Rests (s, act.EndField)
parts s = record { rests = λ e. cc e }

ends : (b : Bool) → Rests (cond b st.AfterCr st.StartRecord, act.EndRecord)
ends true = record { rests = λ e. refl }
ends false = record { rests = λ e. refl }

in_field_rests : (c : ℕ) → Rests (in_field default_config c)
in_field_rests c = both (c == 44) _ _ (parts _) (both ((c == 13) || (c == 10)) _ _ (ends (c == 13)) (copies _))

start_field_rests : (c : ℕ) → Rests (start_field default_config c)
start_field_rests c = both (c == 34) _ _ (skips _) (in_field_rests c)

start_record_rests : (c : ℕ) → Rests (start_record default_config c)
start_record_rests c = both ((c == 13) || (c == 10)) _ _ (skips _) (start_field_rests c)

-- a record ends between records
step_rests : (s : State) (c : ℕ) → Rests (step default_config s c)
step_rests st.StartRecord c = start_record_rests c
step_rests st.StartField c = start_field_rests c
step_rests st.InField c = in_field_rests c
step_rests st.InQuoted c = both (c == 34) _ _ (skips _) (copies _)
step_rests st.InEscape c = copies _
step_rests st.AfterQuote c = both (c == 34) _ _ (copies _) (in_field_rests c)
step_rests st.InComment c = both (c == 10) _ _ (skips _) (skips _)
step_rests st.AfterCr c = both (c == 10) _ _ (skips _) (start_record_rests c)

-- what a read leaves: no more bytes, and the machine between records
record Leaves (n : ℕ) (p : Read) : Type 0 where
  pub fewer : length p.2 ≤ n
  pub rests : ends_at_end p.1 ≡ false

at_end : (b : Bool) (fields : List (List ℕ)) (p : Read) → cond b (Some (fields, st.StartRecord, [])) None
    ≡ Some p → Leaves 0 p
at_end true fields p e = let h : (fields, st.StartRecord, []) ≡ p = cc e in
    subst (Leaves 0) h (record { fewer = omega arith; rests = refl })
at_end false fields p e = cc e

-- a step that ends the record, or goes on
on_step : (b : Bool) (one : Read) (more : Option Read) (n : ℕ) (p : Read) → (b ≡ true → Leaves n one) →
    (more ≡ Some p → Leaves n p) → cond b (Some one) more ≡ Some p → Leaves n p
on_step true one more n p h k e = let eq : one ≡ p = cc e in subst (Leaves n) eq (h refl)
on_step false one more n p h k e = k e

leaves : (s : State) (fields : List (List ℕ)) (field xs : List ℕ) (p : Read) →
    next_record default_config s fields field xs ≡ Some p → Leaves (length xs) p
unfolding next_record
leaves s fields field [] p e = at_end (ends_at_end s) _ p e
leaves s fields field (c ∷ rest) p e =
    let q = step default_config s c in
    let l = on_step (is_end q.1) (fields_after q.1 fields field, q.0, rest) _ (length rest) p
    (λ ended. record { fewer = omega arith; rests = (step_rests s c).rests ended })
    (λ more. leaves q.0 (fields_after q.1 fields field) (field_after q.1 c field) rest p more) e in
    record { fewer = omega (arith, l.fewer); rests = l.rests }

-- between records a read takes at least a byte
pub record Shrinks (n : ℕ) (p : Read) : Type 0 where
  pub fewer : length p.2 < n
  pub rests : ends_at_end p.1 ≡ false

pub shrinks : (s : State) (xs : List ℕ) (p : Read) → ends_at_end s ≡ false → next_record default_config s [] [] xs
    ≡ Some p → Shrinks (length xs) p
unfolding next_record
shrinks s [] p b e = let bad : next_record default_config s [] [] [] ≡ None = rw b refl in cc (e, bad)
shrinks s (c ∷ rest) p b e =
    let q = step default_config s c in
    let l = on_step (is_end q.1) (fields_after q.1 [] [], q.0, rest) _ (length rest) p
    (λ ended. record { fewer = omega arith; rests = (step_rests s c).rests ended })
    (λ more. leaves q.0 (fields_after q.1 [] []) (field_after q.1 c []) rest p more) e in
    record { fewer = omega (arith, l.fewer); rests = l.rests }

-- enough turns give the same records
same_after : (m n : ℕ) (o : Option Read) → ((p : Read) → o ≡ Some p → records_from default_config m p.1 p.2
    ≡ records_from default_config n p.1 p.2)
    → records_next (records_from default_config m) o ≡ records_next (records_from default_config n) o
same_after m n None h = refl
same_after m n (Some p) h = ap (λ (l : List (List (List ℕ))). p.0 ∷ l) (h p refl)

turns : (m n : ℕ) (s : State) (xs : List ℕ) → length xs < m → length xs < n → ends_at_end s ≡ false →
    records_from default_config m s xs ≡ records_from default_config n s xs
unfolding records_from
turns zero n s xs a b t = absurd (omega arith)
turns (suc m) zero s xs a b t = absurd (omega arith)
turns (suc m) (suc n) s xs a b t = same_after m n (next_record default_config s [] [] xs) (λ p e.
    let l = shrinks s xs p t e in
    turns m n p.1 p.2 (omega (arith, l.fewer)) (omega (arith, l.fewer)) l.rests)

-- the next record, and those after it
pub rows_from-some : (s : State) (xs : List ℕ) (p : Read) → ends_at_end s ≡ false →
    next_record default_config s [] [] xs ≡ Some p
    → rows_from s (Some xs) ≡ p.0 ∷ rows_from p.1 (Some p.2)
unfolding rows_from records_from
rows_from-some s xs p t e =
    let l = shrinks s xs p t e in
    rw (add-one, e) (ap (λ (r : List (List (List ℕ))). p.0 ∷ r) (turns (length xs) (length p.2 + 1) p.1 p.2 l.fewer
    (omega arith) l.rests))

pub rows_from-none : (s : State) (xs : List ℕ) → next_record default_config s [] [] xs ≡ None →
    rows_from s (Some xs) ≡ []
unfolding rows_from records_from
rows_from-none s xs e = rw (add-one, e) refl

next_count : (n k : ℕ) (o : Option Read) →
    ((p : Read) → o ≡ Some p → length (records_from default_config n p.1 p.2) < k) →
    length (records_next (records_from default_config n) o) ≤ k
next_count n k None h = omega arith
next_count n k (Some p) h = let l = h p refl in omega (arith, l)

-- a record takes at least a byte
pub length-records_from : (n : ℕ) (s : State) (xs : List ℕ) → ends_at_end s ≡ false →
    length (records_from default_config n s xs) ≤ length xs
unfolding records_from
length-records_from zero s xs t = omega arith
length-records_from (suc n) s xs t = next_count n (length xs) (next_record default_config s [] [] xs) (λ p e.
    let l = shrinks s xs p t e in
    omega (arith, l.fewer, length-records_from n p.1 p.2 l.rests))

bom_rest : (b : Bool) (c d e : ℕ) (rest : List ℕ) → length (cond b rest (c ∷ d ∷ e ∷ rest)) ≤ length (c ∷ d ∷ e ∷ rest)
bom_rest true c d e rest = omega arith
bom_rest false c d e rest = omega arith

pub length-strip_bom : (xs : List ℕ) → length (strip_bom xs) ≤ length xs
unfolding strip_bom
length-strip_bom [] = omega arith
length-strip_bom (a ∷ []) = omega arith
length-strip_bom (a ∷ b ∷ []) = omega arith
length-strip_bom (a ∷ b ∷ c ∷ rest) = bom_rest (is_bom a b c) a b c rest

-- what a read took
pub record Took (s : State) (y : List ℕ) (known : Option (List ℕ)) (fields : List (List ℕ)) (s2 : State) : Type 0 where
  pub read : Read
  pub was : next_record default_config s [] [] y ≡ Some read
  pub left : known ≡ Some read.2
  pub gave : fields ≡ read.0
  pub state : s2 ≡ read.1

pub took : (s : State) (y : List ℕ) (known : Option (List ℕ)) (fields : List (List ℕ)) (s2 : State) →
    ReadsNext default_config s (Some y) known true fields s2 → Took s y known fields s2
took s y None fields s2 h = absurd h
took s y (Some z) fields s2 h = took_some s y z fields s2 (next_record default_config s [] [] y) refl h
  where
    took_some : (s : State) (y z : List ℕ) (fields : List (List ℕ)) (s2 : State) (o : Option Read) →
        next_record default_config s [] [] y ≡ o → NextIs o true fields s2 z → Took s y (Some z) fields s2
    took_some s y z fields s2 None e h = cc h
    took_some s y z fields s2 (Some p) e h = record { read = p; was = e; left = ap Some h.3; gave = h.1; state = h.2 }

-- a reader that took a record
pub goes_on : (a b : Reader Bytes) (fields : List (List ℕ)) → ReaderStands a → ReadRecord told a b true fields →
    b.first ≡ true → b.flexible ≡ a.flexible
    → ReaderStands b × (left_of a ≡ fields ∷ left_of b)
goes_on a b fields i r first flexible =
    let t = took a.state i.bytes (pending_of (told b.rdr) b) fields b.state (rw (i.config, i.known) at r.0) in
    let known : source_of told b ≡ Some t.read.2 = rw r.1 t.left in
    let l = shrinks a.state i.bytes t.read i.between t.was in (
      record {
        plain = r.3 ∙ i.plain;
        ready = inl first;
        flexible = flexible ∙ i.flexible;
        config = r.2 ∙ i.config;
        between = rw t.state l.rests;
        bytes = t.read.2;
        known = known;
      },
      let next = rows_from-some a.state i.bytes t.read i.between t.was in
          cc (i.known, known, t.gave, t.state, next),
    )

-- a reader that found none
pub at_last : (a b : Reader Bytes) (fields : List (List ℕ)) → ReaderStands a → ReadRecord told a b false fields →
    left_of a ≡ []
at_last a b fields i r =
    rw i.known (rows_from-none a.state i.bytes (rows-end told a b fields default_config i.bytes i.config i.known r))

-- an error of a reader that takes records of any length is of memory or of what is underneath
pub only_stops : (a b : Reader Bytes) (k : ErrorKind) → a.flexible ≡ true → ExplainsRead told a b false k →
    stops_reader k ≡ true
only_stops a b (kind.Io e) f h = refl
only_stops a b (kind.Utf8 pos err) f h = cc h.0
only_stops a b (kind.UnequalLengths pos expected len) f h = cc (h.0, f)
only_stops a b (kind.Serialize text) f h = absurd h
only_stops a b (kind.Deserialize pos err) f h = absurd h
only_stops a b kind.OutOfMemory f h = refl
