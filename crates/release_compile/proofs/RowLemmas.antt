-- The bits of a byte that was added up of eight weights.
use Rattle.std.proofs.Common.{◌≡◌, ℕ, ◌+◌, ◌-◌, ◌*◌, ◌/◌, ◌%◌, ◌^◌, ◌<◌, ◌≤◌, ◌↔◌, zero, suc, true, List, Option}
use Rattle.std.proofs.Common.{length, take, set, slice_index, refl, sym, ◌∙◌, subst, inl, inr, arith}
use Rattle.std.proofs.lemmas.Bool.{cases_lt, eqb-true, eq-eqb}
use Rattle.std.proofs.lemmas.List.{get_or-take, get_or-set_same, get_or-set_other}
use Rattle.part_alphabets.specs.Alphabets.{InSet}
use Rattle.release_compile.specs.Summaries.{has_bit}
use Rattle.release_compile.specs.Rows.{IsBitOf, IsByteOf}

-- a weight as a digit
pub record Digit (held : List (Option ℕ)) (index weight n : ℕ) : Type 0 where
  pub digit : ℕ
  pub few : digit ≤ 1
  pub value : n ≡ weight * digit
  pub tells : (digit ≡ 1) ↔ InSet held index

digit_of : (held : List (Option ℕ)) (index weight n : ℕ) → IsBitOf held index weight n → Digit held index weight n
digit_of held index weight n (inl (is, e)) = record {
  digit = 1;
  few = omega arith;
  value = omega (arith, e);
  tells = (λ h. is, λ h. refl);
}
digit_of held index weight n (inr (not, e)) = record {
  digit = 0;
  few = omega arith;
  value = omega (arith, e);
  tells = (λ h. absurd (omega (arith, h)), λ h. absurd (not h));
}

tell : (held : List (Option ℕ)) (index place weight n x : ℕ) → (s : Digit held index weight n) → x ≡ s.digit →
    index ≡ place → (x ≡ 1) ↔ InSet held place
tell held index place weight n x s e at =
    subst (λ k. (x ≡ 1) ↔ InSet held k) at (λ h. s.tells.0 (sym e ∙ h), λ h. e ∙ s.tells.1 h)

module _ (held : List (Option ℕ)) (first a b c d e f g h : ℕ) (ba : IsBitOf held first 128 a)
    (bb : IsBitOf held (first + 1) 64 b) (bc : IsBitOf held (first + 2) 32 c) (bd : IsBitOf held (first + 3) 16 d)
    (be : IsBitOf held (first + 4) 8 e) (bf : IsBitOf held (first + 5) 4 f) (bg : IsBitOf held (first + 6) 2 g)
    (bh : IsBitOf held (first + 7) 1 h) where
  pub byte_is : IsByteOf held first (a + b + c + d + (e + f + g + h))
  byte_is k lt =
      let da = digit_of held first 128 a ba in
      let db = digit_of held (first + 1) 64 b bb in
      let dc = digit_of held (first + 2) 32 c bc in
      let dd = digit_of held (first + 3) 16 d bd in
      let de = digit_of held (first + 4) 8 e be in
      let df = digit_of held (first + 5) 4 f bf in
      let dg = digit_of held (first + 6) 2 g bg in
      let dh = digit_of held (first + 7) 1 h bh in
      at_place da db dc dd de df dg dh k lt
    where
      at_place : (da : Digit held first 128 a) (db : Digit held (first + 1) 64 b) (dc : Digit held (first + 2) 32 c)
          (dd : Digit held (first + 3) 16 d) (de : Digit held (first + 4) 8 e) (df : Digit held (first + 5) 4 f)
          (dg : Digit held (first + 6) 2 g) (dh : Digit held (first + 7) 1 h)
          → (k : ℕ) → k < 8 → (((a + b + c + d + (e + f + g + h)) / 2 ^ (7 - k)) % 2 ≡ 1) ↔ InSet held (first + k)
      at_place da db dc dd de df dg dh zero lt =
          tell held first (first + 0) 128 a _ da (omega (
            arith,
            da.few,
            db.few,
            dc.few,
            dd.few,
            de.few,
            df.few,
            dg.few,
            dh.few,
            da.value,
            db.value,
            dc.value,
            dd.value,
            de.value,
            df.value,
            dg.value,
            dh.value,
          )) (omega arith)
      at_place da db dc dd de df dg dh (suc zero) lt =
          tell held (first + 1) (first + 1) 64 b _ db (omega (
            arith,
            da.few,
            db.few,
            dc.few,
            dd.few,
            de.few,
            df.few,
            dg.few,
            dh.few,
            da.value,
            db.value,
            dc.value,
            dd.value,
            de.value,
            df.value,
            dg.value,
            dh.value,
          )) refl
      at_place da db dc dd de df dg dh (suc (suc zero)) lt =
          tell held (first + 2) (first + 2) 32 c _ dc (omega (
            arith,
            da.few,
            db.few,
            dc.few,
            dd.few,
            de.few,
            df.few,
            dg.few,
            dh.few,
            da.value,
            db.value,
            dc.value,
            dd.value,
            de.value,
            df.value,
            dg.value,
            dh.value,
          )) refl
      at_place da db dc dd de df dg dh (suc (suc (suc zero))) lt =
          tell held (first + 3) (first + 3) 16 d _ dd (omega (
            arith,
            da.few,
            db.few,
            dc.few,
            dd.few,
            de.few,
            df.few,
            dg.few,
            dh.few,
            da.value,
            db.value,
            dc.value,
            dd.value,
            de.value,
            df.value,
            dg.value,
            dh.value,
          )) refl
      at_place da db dc dd de df dg dh (suc (suc (suc (suc zero)))) lt =
          tell held (first + 4) (first + 4) 8 e _ de (omega (
            arith,
            da.few,
            db.few,
            dc.few,
            dd.few,
            de.few,
            df.few,
            dg.few,
            dh.few,
            da.value,
            db.value,
            dc.value,
            dd.value,
            de.value,
            df.value,
            dg.value,
            dh.value,
          )) refl
      at_place da db dc dd de df dg dh (suc (suc (suc (suc (suc zero))))) lt =
          tell held (first + 5) (first + 5) 4 f _ df (omega (
            arith,
            da.few,
            db.few,
            dc.few,
            dd.few,
            de.few,
            df.few,
            dg.few,
            dh.few,
            da.value,
            db.value,
            dc.value,
            dd.value,
            de.value,
            df.value,
            dg.value,
            dh.value,
          )) refl
      at_place da db dc dd de df dg dh (suc (suc (suc (suc (suc (suc zero)))))) lt =
          tell held (first + 6) (first + 6) 2 g _ dg (omega (
            arith,
            da.few,
            db.few,
            dc.few,
            dd.few,
            de.few,
            df.few,
            dg.few,
            dh.few,
            da.value,
            db.value,
            dc.value,
            dd.value,
            de.value,
            df.value,
            dg.value,
            dh.value,
          )) refl
      at_place da db dc dd de df dg dh (suc (suc (suc (suc (suc (suc (suc zero))))))) lt =
          tell held (first + 7) (first + 7) 1 h _ dh (omega (
            arith,
            da.few,
            db.few,
            dc.few,
            dd.few,
            de.few,
            df.few,
            dg.few,
            dh.few,
            da.value,
            db.value,
            dc.value,
            dd.value,
            de.value,
            df.value,
            dg.value,
            dh.value,
          )) refl
      at_place da db dc dd de df dg dh (suc (suc (suc (suc (suc (suc (suc (suc k)))))))) lt = absurd (omega (arith, lt))

-- a row whose bytes are right has the bits of the set
pub row_bits : (held : List (Option ℕ)) (row : List ℕ) (count : ℕ) →
    ((j : ℕ) → j < count → IsByteOf held (8 * j) (slice_index row j)) → (i : ℕ) → i < 8 * count →
    (has_bit (take count row) i ≡ true) ↔ InSet held i
row_bits held row count bytes i lt =
    let j_in : i / 8 < count = omega (arith, lt) in
    let byte : slice_index (take count row) (i / 8) ≡ slice_index row (i / 8) = get_or-take count row (i / 8) 0 j_in in
    let place : 8 * (i / 8) + i % 8 ≡ i = omega arith in
    let told = subst (λ k. ((slice_index row (i / 8) / 2 ^ (7 - i % 8)) % 2 ≡ 1) ↔ InSet held k) place
    (bytes (i / 8) j_in (i % 8) (omega arith)) in
    let here = subst (λ b. ((b / 2 ^ (7 - i % 8)) % 2 ≡ 1) ↔ InSet held i) (sym byte) told in (
      λ h. here.0 (eqb-true ((slice_index (take count row) (i / 8) / 2 ^ (7 - i % 8)) % 2) 1 h),
      λ h. eq-eqb ((slice_index (take count row) (i / 8) / 2 ^ (7 - i % 8)) % 2) 1 (here.1 h),
    )

-- one more byte
pub bytes_more : (held : List (Option ℕ)) (row : List ℕ) (k byte : ℕ) →
    ((j : ℕ) → j < k → IsByteOf held (8 * j) (slice_index row j)) → IsByteOf held (8 * k) byte → k < length row →
    (j : ℕ) → j < k + 1 → IsByteOf held (8 * j) (slice_index (set row k byte) j)
bytes_more held row k byte old new k_in j lt = elim (cases_lt j k) [
  | inl less ↦
      (let e : slice_index (set row k byte) j ≡ slice_index row j =
      get_or-set_other row k j byte 0 (λ same. omega (arith, less, same)) in
      subst (λ b. IsByteOf held (8 * j) b) (sym e) (old j less))
  | inr more ↦
      let at : k ≡ j = omega (arith, lt, more) in
      let e : slice_index (set row k byte) k ≡ byte = get_or-set_same row k byte 0 k_in in
      subst (λ i. IsByteOf held (8 * i) (slice_index (set row k byte) i)) at
      (subst (λ b. IsByteOf held (8 * k) b) (sym e) new)
]
