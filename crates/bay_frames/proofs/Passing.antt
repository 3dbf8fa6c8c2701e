-- Bytes that pass each test are the row of their fields, which are lawful, and the row of a lawful
-- frame passes each test.
use Rattle.std.proofs.Common.{◌≡◌, ℕ, ◌+◌, ◌^◌, ◌<◌, ◌≤◌, ◌≢◌, Bool, true, false, cond, ltb, leb, eqb, ◌||◌, List, []}
use Rattle.std.proofs.Common.{◌∷◌, ◌++◌, length, take, drop, get_or, inl, inr, Option, Some, None, Result, Ok, Err}
use Rattle.std.proofs.Common.{refl, sym, ap, subst, ◌∙◌, arith}
use Rattle.std.specs.Prelude.{IfOk}
use Rattle.std.specs.Int.{w16, w32, to_be_bytes, from_be_bytes}
use Rattle.std.proofs.lemmas.Bool.{cases_lt, and_parts, ltb-false, le-ltb, leb-true, le-leb, eqb-true, eqb-false}
use Rattle.std.proofs.lemmas.Bool.{ne_eqb, or_parts, or_from}
use Rattle.std.proofs.lemmas.List.{nil_from_length, get_or-drop, get_or-take, get_or_past, length-take, length-drop}
use Rattle.std.proofs.lemmas.Nat.{be_bytes_2, be_bytes_4}
use Rattle.ilk_base.specs.declared.words.BayId.{BayId}
use Rattle.bay_frames.specs.declared.frame.Frame.{Frame}
use Rattle.bay_frames.specs.declared.frame.FrameRefusal.{FrameRefusal}
use Rattle.bay_frames.specs.declared.frame.FrameRefusal.TheVariants.{Field}
use Rattle.bay_frames.specs.declared.frame.Body.{Body}
use Rattle.bay_frames.specs.declared.frame.Body.TheVariants.{Reserve, Answer, Busy, Query, Over}
use Rattle.bay_frames.specs.Row.{row_of, frame_row, payload_row, kind_number, IsLawful, IsLawfulBody, FitsRow, FitsBody}
use Rattle.bay_frames.specs.Tests.{round_at, said_length, is_kind, is_length, refused_if}
use Rattle.bay_frames.specs.Tests.{receiver_test, round_test, size_tests, payload_tests}
use Rattle.bay_frames.specs.Tests.{field_tests, first_refusal, first_failure, PassesOrRefuses}
use Rattle.bay_frames.specs.Fields.{bay_at, body_at, frame_at}
use Rattle.bay_frames.proofs.Rows.{IsBytes, frame_again, round_back, holder_back, length_said, payload_short}
use Rattle.bay_frames.proofs.SizeTests.{passes_first, passes, parts_pass, FitsSize, size_fits, size_passes}

-- ---- bytes

IsBytes-drop : (n : ℕ) (bytes : List ℕ) → IsBytes bytes → IsBytes (drop n bytes)
IsBytes-drop n bytes h i = rw get_or-drop (h (n + i))

IsBytes-take : (n : ℕ) (bytes : List ℕ) → IsBytes bytes → IsBytes (take n bytes)
IsBytes-take n bytes h i =
    elim (cases_lt i n) [
      | inl lt ↦ rw (get_or-take n bytes i 0 lt) (h i)
      | inr le ↦ rw (get_or_past (take n bytes) i 0 (omega (arith, length-take n bytes))) (omega arith)
    ]

number_fits : (bytes : List ℕ) → IsBytes bytes → from_be_bytes w32 bytes < 2 ^ 32
number_fits bytes fits = omega (arith, fits 0, fits 1, fits 2, fits 3)

-- ---- the body of each kind

abbrev body_of : ℕ → List ℕ → BayId → ℕ → Body
body_of kind rest holder q =
    cond (eqb kind 1) Reserve (cond (eqb kind 2) (Answer rest) (cond (eqb kind 3) (Busy holder q)
    (cond (eqb kind 4) Query Over)))

record IsBody (kind : ℕ) (rest : List ℕ) (body : Body) : Type 0 where
  pub number : kind_number body ≡ kind
  pub payload : payload_row body ≡ rest
  pub fits : FitsBody body

abbrev BodyAt : List ℕ → BayId → ℕ → ℕ → Type 0
BodyAt rest holder q kind = is_length kind (length rest) ≡ true →
    (length rest ≡ 5 → holder.0 ∷ to_be_bytes w32 q ≡ rest) → q < 2 ^ 32 → IsBody kind rest (body_of kind rest holder q)

empty : (rest : List ℕ) → eqb (length rest) 0 ≡ true → [] ≡ rest
empty rest e = sym (nil_from_length rest (eqb-true _ _ e))

body_is : (kind : ℕ) (rest : List ℕ) (holder : BayId) (q : ℕ) → is_kind kind ≡ true → BodyAt rest holder q kind
body_is kind rest holder q is =
    let both = and_parts (leb 1 kind) (leb kind 5) is in
    let low : 1 ≤ kind = leb-true _ _ both.0 in
    let high : kind ≤ 5 = leb-true _ _ both.1 in
    let P : ℕ → Type 0 = BodyAt rest holder q in
    let p1 : P 1 = λ len five lt. record { number = refl; payload = empty rest len; fits = tt } in
    let p2 : P 2 = λ len five lt. record { number = refl; payload = refl; fits = leb-true _ _ len } in
    let p3 : P 3 = λ len five lt. record { number = refl; payload = five (eqb-true _ _ len); fits = lt } in
    let p4 : P 4 = λ len five lt. record { number = refl; payload = empty rest len; fits = tt } in
    let p5 : P 5 = λ len five lt. record { number = refl; payload = empty rest len; fits = tt } in
    elim (cases_lt kind 2) [
      | inl lt ↦ subst P (let e : 1 ≡ kind = omega arith in e) p1
      | inr ge2 ↦ elim (cases_lt kind 3) [
        | inl lt ↦ subst P (let e : 2 ≡ kind = omega arith in e) p2
        | inr ge3 ↦ elim (cases_lt kind 4) [
          | inl lt ↦ subst P (let e : 3 ≡ kind = omega arith in e) p3
          | inr ge4 ↦ elim (cases_lt kind 5) [
            | inl lt ↦ subst P (let e : 4 ≡ kind = omega arith in e) p4
            | inr ge5 ↦ subst P (let e : 5 ≡ kind = omega arith in e) p5
          ]
        ]
      ]
    ]

holder_row : (rest : List ℕ) → IsBytes rest → length rest ≡ 5 →
    get_or rest 0 0 ∷ to_be_bytes w32 (from_be_bytes w32 (drop 1 rest)) ≡ rest
holder_row [] fits len = absurd (omega arith)
holder_row (h ∷ q) fits len =
    ap (λ (t : List ℕ). h ∷ t) (be_bytes_4 q _ (omega arith) (IsBytes-drop 1 (h ∷ q) fits) refl)

-- ---- bytes that pass

row_is : (bytes : List ℕ) → IsBytes bytes → 9 ≤ length bytes → length (drop 9 bytes) ≡ said_length bytes
    → row_of (get_or bytes 0 0) (get_or bytes 1 0) (get_or bytes 2 0) (round_at bytes 3) (drop 9 bytes) ≡ bytes
row_is (k ∷ a ∷ b ∷ r0 ∷ r1 ∷ r2 ∷ r3 ∷ l0 ∷ l1 ∷ rest) fits long len =
    let bytes : List ℕ = k ∷ a ∷ b ∷ r0 ∷ r1 ∷ r2 ∷ r3 ∷ l0 ∷ l1 ∷ rest in
    let round = be_bytes_4 (r0 ∷ r1 ∷ r2 ∷ r3 ∷ []) (round_at bytes 3) refl (IsBytes-take 4 (drop 3 bytes)
    (IsBytes-drop 3 bytes fits)) refl in
    let size = be_bytes_2 (l0 ∷ l1 ∷ []) (length rest) refl (IsBytes-take 2 (drop 7 bytes)
    (IsBytes-drop 7 bytes fits)) len in
    let f : List ℕ → List ℕ = λ x. (k ∷ a ∷ b ∷ []) ++ x ++ to_be_bytes w16 (length rest) ++ rest in
    let g : List ℕ → List ℕ = λ x. (k ∷ a ∷ b ∷ []) ++ (r0 ∷ r1 ∷ r2 ∷ r3 ∷ []) ++ x ++ rest in
    ap f round ∙ ap g size
row_is _ fits long len = absurd (omega arith)

body_at_is : (bytes : List ℕ) → IsBytes bytes → FitsSize bytes →
    IsBody (get_or bytes 0 0) (drop 9 bytes) (body_at bytes)
body_at_is (k ∷ a ∷ b ∷ r0 ∷ r1 ∷ r2 ∷ r3 ∷ l0 ∷ l1 ∷ rest) fits h =
    let bytes : List ℕ = k ∷ a ∷ b ∷ r0 ∷ r1 ∷ r2 ∷ r3 ∷ l0 ∷ l1 ∷ rest in
    let rest_fits = IsBytes-drop 9 bytes fits in
    let len : length rest ≡ said_length bytes = omega (arith, h.whole) in
    let lawful : is_length k (length rest) ≡ true = ap (λ (n : ℕ). is_length k n) len ∙ h.fits in
    body_is k rest (record { 0 = get_or rest 0 0 }) (from_be_bytes w32 (drop 1 rest)) h.kind lawful
    (holder_row rest rest_fits) (number_fits (drop 1 rest) (IsBytes-drop 1 rest rest_fits))
body_at_is _ fits h = absurd (omega (arith, h.head))

pub is_row : (bytes : List ℕ) → IsBytes bytes → first_failure bytes ≡ None → bytes ≡ frame_row (frame_at bytes)
is_row bytes fits e =
    let h = size_fits bytes (parts_pass (size_tests bytes) (field_tests bytes) e).0 in
    let b = body_at_is bytes fits h in
    let len : length (drop 9 bytes) ≡ said_length bytes = omega (arith, h.whole, h.head, length-drop 9 bytes) in
    let f : ℕ → List ℕ = λ k. row_of k (get_or bytes 1 0) (get_or bytes 2 0) (round_at bytes 3)
    (payload_row (body_at bytes)) in
    let g : List ℕ → List ℕ = λ p. row_of (get_or bytes 0 0) (get_or bytes 1 0) (get_or bytes 2 0)
    (round_at bytes 3) p in
    sym (ap f b.number ∙ ap g b.payload ∙ row_is bytes fits h.head len)

pub is_frame : (bytes : List ℕ) → IsBytes bytes → first_failure bytes ≡ None → FitsRow (frame_at bytes)
is_frame bytes fits e =
    let h = size_fits bytes (parts_pass (size_tests bytes) (field_tests bytes) e).0 in
    record { round = number_fits (drop 3 bytes) (IsBytes-drop 3 bytes fits); body = (body_at_is bytes fits h).fits }

lawful_body : (b1 b2 b3 b4 : Bool) (rest : List ℕ) (holder : BayId) (q : ℕ) →
    first_refusal (cond b3 (refused_if (ltb 199 holder.0) (Field 9) ∷ refused_if (eqb q 0) (Field 10) ∷ []) []) ≡ None
    → IsLawfulBody (cond b1 Reserve (cond b2 (Answer rest) (cond b3 (Busy holder q) (cond b4 Query Over))))
lawful_body true b2 b3 b4 rest holder q e = tt
lawful_body false true b3 b4 rest holder q e = tt
lawful_body false false true b4 rest holder q e =
    let a = passes_first (ltb 199 holder.0) (Field 9) (refused_if (eqb q 0) (Field 10) ∷ []) e in
    let b = passes_first (eqb q 0) (Field 10) [] a.1 in
    (ltb-false _ _ a.0, eqb-false _ _ b.0)
lawful_body false false false true rest holder q e = tt
lawful_body false false false false rest holder q e = tt

abbrev from_round : List ℕ → List (Option FrameRefusal)
from_round bytes = round_test bytes 3 ∷ payload_tests bytes

abbrev from_receiver : List ℕ → List (Option FrameRefusal)
from_receiver bytes = receiver_test bytes ∷ from_round bytes

pub is_lawful : (bytes : List ℕ) → first_failure bytes ≡ None → IsLawful (frame_at bytes)
is_lawful bytes e =
    let kind = get_or bytes 0 0 in
    let from = get_or bytes 1 0 in
    let to = get_or bytes 2 0 in
    let h = (parts_pass (size_tests bytes) (field_tests bytes) e).1 in
    let a = passes_first (ltb 199 from) (Field 1) (from_receiver bytes) h in
    let b = passes_first (ltb 199 to || eqb to from) (Field 2) (from_round bytes) a.1 in
    let c = passes_first (eqb (round_at bytes 3) 0) (Field 3) (payload_tests bytes) b.1 in
    let receiver = or_parts (ltb 199 to) (eqb to from) b.0 in
    record {
      from = ltb-false _ _ a.0;
      to = ltb-false _ _ receiver.0;
      other = eqb-false _ _ receiver.1;
      round = eqb-false _ _ c.0;
      body = lawful_body (eqb kind 1) (eqb kind 2) (eqb kind 3) (eqb kind 4) (drop 9 bytes) (bay_at bytes 9)
          (round_at bytes 10) c.1;
    }

-- ---- rows pass

joined : (xs ys : List (Option FrameRefusal)) → first_refusal xs ≡ None → first_refusal ys ≡ None →
    first_refusal (xs ++ ys) ≡ None
joined [] ys e h = h
joined (None ∷ xs) ys e h = joined xs ys e h
joined (Some r ∷ xs) ys e h = absurd cc

row_kind : (body : Body) → is_kind (kind_number body) ≡ true
row_kind Reserve = refl
row_kind (Answer s) = refl
row_kind (Busy holder q) = refl
row_kind Query = refl
row_kind Over = refl

row_length : (body : Body) → FitsBody body → is_length (kind_number body) (length (payload_row body)) ≡ true
row_length Reserve h = refl
row_length (Answer s) h = le-leb _ _ h
row_length (Busy holder q) h = refl
row_length Query h = refl
row_length Over h = refl

row_payload : (from to round : ℕ) (body : Body) → FitsBody body → IsLawfulBody body →
    first_refusal (payload_tests (row_of (kind_number body) from to round (payload_row body))) ≡ None
row_payload from to round Reserve h l = refl
row_payload from to round (Answer s) h l = refl
row_payload from to round (Busy holder q) h l =
    let row = row_of 3 from to round (holder.0 ∷ to_be_bytes w32 q) in
    let other : round_at row 10 ≢ 0 = λ e. l.1 (sym (holder_back 3 from to round holder.0 q h) ∙ e) in
    passes (ltb 199 holder.0) (Field 9) (round_test row 10 ∷ []) (le-ltb _ _ l.0)
    (passes (eqb (round_at row 10) 0) (Field 10) [] (ne_eqb _ _ other) refl)
row_payload from to round Query h l = refl
row_payload from to round Over h l = refl

pub row_passes : (f : Frame) → FitsRow f → IsLawful f → first_failure (frame_row f) ≡ None
row_passes f h l =
    let said : said_length (frame_row f) ≡ length (payload_row f.body) = length_said (kind_number f.body) f.from.0
    f.to.0 f.round (payload_row f.body) (payload_short f.body h.body) in
    let round : round_at (frame_row f) 3 ≡ f.round = round_back (kind_number f.body) f.from.0 f.to.0 f.round
    (payload_row f.body) h.round in
    let size = size_passes (frame_row f) (record {
      head = omega arith;
      kind = row_kind f.body;
      fits = ap (λ (n : ℕ). is_length (kind_number f.body) n) said ∙ row_length f.body h.body;
      whole = omega (arith, said);
    }) in
    let row = frame_row f in
    let other : round_at row 3 ≢ 0 = λ e. l.round (sym round ∙ e) in
    joined (size_tests row) (field_tests row) size
    (passes (ltb 199 f.from.0) (Field 1) (from_receiver row) (le-ltb _ _ l.from)
    (passes (ltb 199 f.to.0 || eqb f.to.0 f.from.0) (Field 2) (from_round row) (or_from _ _ (le-ltb _ _ l.to)
    (ne_eqb _ _ l.other))
    (passes (eqb (round_at row 3) 0) (Field 3) (payload_tests row) (ne_eqb _ _ other)
    (row_payload f.from.0 f.to.0 f.round f.body h.body l.body))))

-- ---- what reading answers

abbrev pub IsRead : List ℕ → Result Frame FrameRefusal → Type 0
IsRead bytes r = PassesOrRefuses r (size_tests bytes ++ field_tests bytes) (λ f. f ≡ frame_at bytes)

pub read_row : (bytes : List ℕ) (r : Result Frame FrameRefusal) → IsBytes bytes → IsRead bytes r →
    IfOk r (λ f. bytes ≡ frame_row f)
read_row bytes (Ok f) fits h = subst (λ (g : Frame). bytes ≡ frame_row g) (sym h.0) (is_row bytes fits h.1)
read_row bytes (Err e) fits h = tt

pub read_lawful : (bytes : List ℕ) (r : Result Frame FrameRefusal) → IsRead bytes r → IfOk r (λ f. IsLawful f)
read_lawful bytes (Ok f) h = subst (λ (g : Frame). IsLawful g) (sym h.0) (is_lawful bytes h.1)
read_lawful bytes (Err e) h = tt

pub read_frame : (bytes : List ℕ) (r : Result Frame FrameRefusal) → IsBytes bytes → IsRead bytes r →
    IfOk r (λ f. FitsRow f)
read_frame bytes (Ok f) fits h = subst (λ (g : Frame). FitsRow g) (sym h.0) (is_frame bytes fits h.1)
read_frame bytes (Err e) fits h = tt

abbrev found : Frame → Result Frame FrameRefusal
found f = Ok f

pub read_only : (bytes : List ℕ) (r : Result Frame FrameRefusal) (f : Frame) → IsRead bytes r → FitsRow f → IsLawful f →
    bytes ≡ frame_row f → r ≡ Ok f
read_only bytes (Ok g) f h fits lawful e = ap found (h.0 ∙ ap frame_at e ∙ frame_again f fits)
read_only bytes (Err x) f h fits lawful e =
    let none : first_failure bytes ≡ None = ap first_failure e ∙ row_passes f fits lawful in
    absurd cc
