-- A value as it may be written is read as it was.
use Rattle.std.proofs.Common.{◌≡◌, ℕ, suc, ◌+◌, ◌-◌, ◌<◌, Bool, true, false, not, eqb, List, [], ◌∷◌, ◌++◌, length, take, drop}
use Rattle.std.proofs.Common.{Option, Some, refl, ap, ◌∙◌, subst, sym, arith, add-one, append_assoc}
use Rattle.std.specs.Prelude.{encode_utf8, codes}
use Rattle.std.specs.List.{flat_map, list_all, position_or_len, prefix_len}
use Rattle.std.proofs.lemmas.Bool.{eqb-true, lt-ltb}
use Rattle.std.proofs.lemmas.Str.{encode_ascii}
use Rattle.std.proofs.lemmas.List.{length-append}
use Rattle.std.proofs.Math.Seq.{take-append_seam, drop-append_seam, drop-append-add}
use Rattle.ssd_text.specs.Grammar.{is_white, is_plain, special, reference, named, number_of, numbered, value_from}
use Rattle.ssd_text.specs.Escapes.{escape, escaped}
use Rattle.ssd_text.proofs.Fronts.{both_true}
use Rattle.ssd_text.proofs.Decoded.{plain_one, special_one, value_skip, value_nil}

one_more : (n : ℕ) → 1 + n ≡ suc n
one_more n = omega arith

found : (x r : List ℕ) → list_all (λ b. not (eqb b 59)) x ≡ true → position_or_len (λ b. eqb b 59) (x ++ 59 ∷ r) ≡ length x
found [] r all = refl
found (b ∷ x) r all =
    let p = both_true (not (eqb b 59)) (list_all (λ b. not (eqb b 59)) x) all in
    rw p.0 (ap (λ n. 1 + n) (found x r p.1) ∙ one_more (length x))

refers : (x r : List ℕ) (c : ℕ) → list_all (λ b. not (eqb b 59)) x ≡ true → named x ≡ Some c →
    reference (x ++ 59 ∷ r) ≡ Some (c, length x + 1)
unfolding reference
refers x r c all names =
    let whole = length-append x (59 ∷ r) in
    let rest : length (59 ∷ r) ≡ suc (length r) = refl in
    let shorter : length x < length (x ++ 59 ∷ r) = omega (arith, whole, rest) in
    rw (found x r all, lt-ltb _ _ shorter, take-append_seam x (59 ∷ r), names) refl

-- a reference to a character is read as it
referred : (x r : List ℕ) (c : ℕ) → list_all (λ b. not (eqb b 59)) x ≡ true → named x ≡ Some c → c < 128 →
    value_from 0 (38 ∷ x ++ 59 ∷ r) ≡ c ∷ value_from 0 r
unfolding special is_plain
referred x r c all names ascii =
    let s : special (38 ∷ x ++ 59 ∷ r) ≡ (c, length x + 1 + 1) = rw (refers x r c all names) refl in
    let rest : value_from (length x + 1 + 1 - 1) (x ++ 59 ∷ r) ≡ value_from 0 r =
    value_skip (length x + 1 + 1 - 1) (x ++ 59 ∷ r)
    ∙ ap (λ n. value_from 0 (drop n (x ++ 59 ∷ r))) (omega arith)
    ∙ ap (value_from 0) (drop-append-add x (59 ∷ r) 1) in
    special_one 38 (x ++ 59 ∷ r) refl
    ∙ ap (λ (q : ℕ × ℕ). encode_utf8 q.0 ++ value_from (q.1 - 1) (x ++ 59 ∷ r)) s
    ∙ ap (λ (z : List ℕ). encode_utf8 c ++ z) rest
    ∙ ap (λ (z : List ℕ). z ++ value_from 0 r) (encode_ascii c ascii)

-- each byte is read as it was
byte_read : (b : ℕ) (r : List ℕ) → value_from 0 (escape b ++ r) ≡ b ∷ value_from 0 r
unfolding escape named number_of numbered is_plain is_white special
byte_read b r =
    by_tests (eqb b 38) (eqb b 60) (eqb b 34) (eqb b 39) (eqb b 9) (eqb b 10) (eqb b 13) refl refl refl refl refl refl refl
  where
    by_tests : (t1 t2 t3 t4 t5 t6 t7 : Bool) → eqb b 38 ≡ t1 → eqb b 60 ≡ t2 → eqb b 34 ≡ t3 → eqb b 39 ≡ t4 →
        eqb b 9 ≡ t5 → eqb b 10 ≡ t6 → eqb b 13 ≡ t7 → value_from 0 (escape b ++ r) ≡ b ∷ value_from 0 r
    by_tests true t2 t3 t4 t5 t6 t7 e1 e2 e3 e4 e5 e6 e7 =
        subst (λ x. value_from 0 (escape x ++ r) ≡ x ∷ value_from 0 r) (sym (eqb-true b 38 e1))
        (referred (codes "amp") r 38 refl refl (omega arith))
    by_tests false true t3 t4 t5 t6 t7 e1 e2 e3 e4 e5 e6 e7 =
        subst (λ x. value_from 0 (escape x ++ r) ≡ x ∷ value_from 0 r) (sym (eqb-true b 60 e2))
        (referred (codes "lt") r 60 refl refl (omega arith))
    by_tests false false true t4 t5 t6 t7 e1 e2 e3 e4 e5 e6 e7 =
        subst (λ x. value_from 0 (escape x ++ r) ≡ x ∷ value_from 0 r) (sym (eqb-true b 34 e3))
        (referred (codes "quot") r 34 refl refl (omega arith))
    by_tests false false false true t5 t6 t7 e1 e2 e3 e4 e5 e6 e7 =
        subst (λ x. value_from 0 (escape x ++ r) ≡ x ∷ value_from 0 r) (sym (eqb-true b 39 e4))
        (referred (codes "apos") r 39 refl refl (omega arith))
    by_tests false false false false true t6 t7 e1 e2 e3 e4 e5 e6 e7 =
        subst (λ x. value_from 0 (escape x ++ r) ≡ x ∷ value_from 0 r) (sym (eqb-true b 9 e5))
        (referred (codes "#9") r 9 refl refl (omega arith))
    by_tests false false false false false true t7 e1 e2 e3 e4 e5 e6 e7 =
        subst (λ x. value_from 0 (escape x ++ r) ≡ x ∷ value_from 0 r) (sym (eqb-true b 10 e6))
        (referred (codes "#10") r 10 refl refl (omega arith))
    by_tests false false false false false false true e1 e2 e3 e4 e5 e6 e7 =
        subst (λ x. value_from 0 (escape x ++ r) ≡ x ∷ value_from 0 r) (sym (eqb-true b 13 e7))
        (referred (codes "#13") r 13 refl refl (omega arith))
    by_tests false false false false false false false e1 e2 e3 e4 e5 e6 e7 =
        by_blank (eqb b 32) refl e1 e2 e3 e4 e5 e6 e7
      where
        by_blank : (t : Bool) → eqb b 32 ≡ t → eqb b 38 ≡ false → eqb b 60 ≡ false → eqb b 34 ≡ false → eqb b 39 ≡ false →
            eqb b 9 ≡ false → eqb b 10 ≡ false → eqb b 13 ≡ false → value_from 0 (escape b ++ r) ≡ b ∷ value_from 0 r
        by_blank true e0 e1 e2 e3 e4 e5 e6 e7 =
            subst (λ x. value_from 0 (escape x ++ r) ≡ x ∷ value_from 0 r) (sym (eqb-true b 32 e0))
            (special_one 32 r refl ∙ ap (λ (z : List ℕ). z ++ value_from 0 r) (encode_ascii 32 (omega arith)))
        by_blank false e0 e1 e2 e3 e4 e5 e6 e7 = rw (e1, e2, e3, e4, e5, e6, e7) (plain_one b r (rw (e0, e1, e5, e6, e7) refl))

-- A value as it is written is read as it was.
pub read_back : (value : List ℕ) → value_from 0 (escaped value) ≡ value
read_back [] = value_nil
read_back (b ∷ value) = byte_read b (escaped value) ∙ ap (λ (z : List ℕ). b ∷ z) (read_back value)
