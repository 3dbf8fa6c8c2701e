-- A command with one to four words: at which words it has no fault, and what it reads.
use Rattle.std.proofs.Common.{◌≡◌, ◌==◌, ◌&&◌, ◌||◌, ◌<◌, ◌∙◌, ap, sym, subst, refl, ℕ, zero, suc, Bool, true, false, List, []}
use Rattle.std.proofs.Common.{◌∷◌, length, not, arith, inl, inr}
use Rattle.std.specs.Prelude.{nat_lt}
use Rattle.std.specs.List.{list_all}
use Rattle.std.proofs.lemmas.Bool.{cases_Bool, eqb-true, ltb-true, lt-ltb}
use Rattle.clap.specs.Words.{Text, Kinds}
use Rattle.clap.specs.declared.error.ErrorKind.{ErrorKind}
use Rattle.command_words.specs.Rows.{are_few, is_between, is_plain}
use Rattle.command_words.proofs.FindLemmas.{both}
use Rattle.command_words.proofs.WordCounts.{leaf_fault, leaf_given, IsNoFlag, AreNoFlags, one_0, one_1, one_more}
use Rattle.command_words.proofs.WordCounts.{one_given, two_0, two_1, two_2, two_more, two_given, three_0, three_1}
use Rattle.command_words.proofs.WordCounts.{three_2, three_3, three_more, three_given, four_0, four_1, four_2, four_3}
use Rattle.command_words.proofs.WordCounts.{four_4, four_more, four_given, either_0, either_1, either_2}
use Rattle.command_words.proofs.WordCounts.{either_more, either_given_1, either_given_2, span_0, span_1, span_2}
use Rattle.command_words.proofs.WordCounts.{span_3, span_4, span_more, span_given_2, span_given_3, span_given_4}

-- without a fault exactly where the test holds
abbrev pub Exactly : Kinds → Bool → Type 0
Exactly kinds test = (kinds ≡ [] → test ≡ true) × (test ≡ true → kinds ≡ [])

refused : (kinds : Kinds) (k : ErrorKind) (ks : Kinds) (test : Bool) → kinds ≡ k ∷ ks → test ≡ false →
    Exactly kinds test
refused kinds k ks test e not = (λ none. absurd (cc), λ holds. absurd (cc))

taken : (kinds : Kinds) (test : Bool) → kinds ≡ [] → test ≡ true → Exactly kinds test
taken kinds test e holds = (λ _. holds, λ _. e)

and_false : (b : Bool) → (b && false) ≡ false
and_false true = refl
and_false false = refl

-- there are more words than that
past : (k least most : ℕ) → most < k → is_between least most k ≡ false
past k least most more =
    let e : nat_lt most k ≡ true = lt-ltb most k more in
    ap (λ (b : Bool). not (nat_lt k least) && not b) e ∙ and_false (not (nat_lt k least))

many : {P : Type 0} (k least most : ℕ) → most < k → is_between least most k ≡ true → P
many k least most more between = absurd (cc (past k least most more, between))

exactly_one : (n : Text) (rest : List Text) → AreNoFlags rest → Exactly (leaf_fault (n, 1, 1) rest) (is_between 1 1 (length rest))
exactly_one n [] p = refused _ _ _ _ (one_0 n) refl
exactly_one n (a ∷ []) p = taken _ _ (one_1 n a p.0) refl
exactly_one n (a ∷ b ∷ rest) p =
    refused _ _ _ _ (one_more n a b rest p.0 p.1.0) (past (length (a ∷ b ∷ rest)) 1 1 (omega arith))

exactly_two : (n : Text) (rest : List Text) → AreNoFlags rest → Exactly (leaf_fault (n, 2, 2) rest) (is_between 2 2 (length rest))
exactly_two n [] p = refused _ _ _ _ (two_0 n) refl
exactly_two n (a ∷ []) p = refused _ _ _ _ (two_1 n a p.0) refl
exactly_two n (a ∷ b ∷ []) p = taken _ _ (two_2 n a b p.0 p.1.0) refl
exactly_two n (a ∷ b ∷ c ∷ rest) p =
    refused _ _ _ _ (two_more n a b c rest p.0 p.1.0 p.1.1.0) (past (length (a ∷ b ∷ c ∷ rest)) 2 2 (omega arith))

exactly_three : (n : Text) (rest : List Text) → AreNoFlags rest → Exactly (leaf_fault (n, 3, 3) rest) (is_between 3 3 (length rest))
exactly_three n [] p = refused _ _ _ _ (three_0 n) refl
exactly_three n (a ∷ []) p = refused _ _ _ _ (three_1 n a p.0) refl
exactly_three n (a ∷ b ∷ []) p = refused _ _ _ _ (three_2 n a b p.0 p.1.0) refl
exactly_three n (a ∷ b ∷ c ∷ []) p = taken _ _ (three_3 n a b c p.0 p.1.0 p.1.1.0) refl
exactly_three n (a ∷ b ∷ c ∷ d ∷ rest) p =
    refused _ _ _ _ (three_more n a b c d rest p.0 p.1.0 p.1.1.0 p.1.1.1.0)
    (past (length (a ∷ b ∷ c ∷ d ∷ rest)) 3 3 (omega arith))

exactly_four : (n : Text) (rest : List Text) → AreNoFlags rest → Exactly (leaf_fault (n, 4, 4) rest) (is_between 4 4 (length rest))
exactly_four n [] p = refused _ _ _ _ (four_0 n) refl
exactly_four n (a ∷ []) p = refused _ _ _ _ (four_1 n a p.0) refl
exactly_four n (a ∷ b ∷ []) p = refused _ _ _ _ (four_2 n a b p.0 p.1.0) refl
exactly_four n (a ∷ b ∷ c ∷ []) p = refused _ _ _ _ (four_3 n a b c p.0 p.1.0 p.1.1.0) refl
exactly_four n (a ∷ b ∷ c ∷ d ∷ []) p = taken _ _ (four_4 n a b c d p.0 p.1.0 p.1.1.0 p.1.1.1.0) refl
exactly_four n (a ∷ b ∷ c ∷ d ∷ e ∷ rest) p =
    refused _ _ _ _ (four_more n a b c d e rest p.0 p.1.0 p.1.1.0 p.1.1.1.0 p.1.1.1.1.0)
    (past (length (a ∷ b ∷ c ∷ d ∷ e ∷ rest)) 4 4 (omega arith))

exactly_either : (n : Text) (rest : List Text) → AreNoFlags rest →
    Exactly (leaf_fault (n, 1, 2) rest) (is_between 1 2 (length rest))
exactly_either n [] p = refused _ _ _ _ (either_0 n) refl
exactly_either n (a ∷ []) p = taken _ _ (either_1 n a p.0) refl
exactly_either n (a ∷ b ∷ []) p = taken _ _ (either_2 n a b p.0 p.1.0) refl
exactly_either n (a ∷ b ∷ c ∷ rest) p =
    refused _ _ _ _ (either_more n a b c rest p.0 p.1.0 p.1.1.0) (past (length (a ∷ b ∷ c ∷ rest)) 1 2 (omega arith))

exactly_span : (n : Text) (rest : List Text) → AreNoFlags rest →
    Exactly (leaf_fault (n, 2, 4) rest) (is_between 2 4 (length rest))
exactly_span n [] p = refused _ _ _ _ (span_0 n) refl
exactly_span n (a ∷ []) p = refused _ _ _ _ (span_1 n a p.0) refl
exactly_span n (a ∷ b ∷ []) p = taken _ _ (span_2 n a b p.0 p.1.0) refl
exactly_span n (a ∷ b ∷ c ∷ []) p = taken _ _ (span_3 n a b c p.0 p.1.0 p.1.1.0) refl
exactly_span n (a ∷ b ∷ c ∷ d ∷ []) p = taken _ _ (span_4 n a b c d p.0 p.1.0 p.1.1.0 p.1.1.1.0) refl
exactly_span n (a ∷ b ∷ c ∷ d ∷ e ∷ rest) p =
    refused _ _ _ _ (span_more n a b c d e rest p.0 p.1.0 p.1.1.0 p.1.1.1.0 p.1.1.1.1.0)
    (past (length (a ∷ b ∷ c ∷ d ∷ e ∷ rest)) 2 4 (omega arith))

-- what holds at each count of words that a row may have
by_same : (P : ℕ → ℕ → Type 0) → P 1 1 → P 2 2 → P 3 3 → P 4 4 → (n : ℕ) → 0 < n → n < 5 → P n n
by_same P one two three four zero some few = absurd (omega arith)
by_same P one two three four (suc zero) some few = one
by_same P one two three four (suc (suc zero)) some few = two
by_same P one two three four (suc (suc (suc zero))) some few = three
by_same P one two three four (suc (suc (suc (suc zero)))) some few = four
by_same P one two three four (suc (suc (suc (suc (suc n))))) some few = absurd (omega arith)

-- what holds at these counts, where the counts are these
at_counts : (P : ℕ → ℕ → Type 0) (low high least most : ℕ) → (least == low && most == high) ≡ true → P low high →
    P least most
at_counts P low high least most e holds =
    let are = both (least == low) (most == high) e in
    subst (λ k. P k most) (sym (eqb-true least low are.0)) (subst (λ k. P low k) (sym (eqb-true most high are.1)) holds)

by_count : (P : ℕ → ℕ → Type 0) → P 1 1 → P 2 2 → P 3 3 → P 4 4 → P 1 2 → P 2 4 → (least most : ℕ) →
    are_few least most ≡ true → P least most
by_count P one two three four either span least most e =
    let pair = least == 1 && most == 2 in
    let last = least == 2 && most == 4 in
    let few = both (nat_lt 0 least && nat_lt most 5) (least == most || pair || last) e in
    let some = both (nat_lt 0 least) (nat_lt most 5) few.0 in
    elim (cases_Bool (least == most)) [
      | inl same ↦
          let is : least ≡ most = eqb-true least most same in
          subst (λ k. P k most) (sym is)
          (by_same P one two three four most (omega (arith, ltb-true 0 least some.0, is)) (ltb-true most 5 some.1))
      | inr other ↦
          let rest : (pair || last) ≡ true = rw other at few.1 in
          elim (cases_Bool pair) [
            | inl is ↦ at_counts P 1 2 least most is either
            | inr not ↦
                let is : last ≡ true = rw not at rest in
                at_counts P 2 4 least most is span
          ]
    ]

-- a command has no fault exactly where there are as many words as its row says
pub leaf_exactly : (n : Text) (least most : ℕ) → are_few least most ≡ true → (rest : List Text) → AreNoFlags rest →
    Exactly (leaf_fault (n, least, most) rest) (is_between least most (length rest))
leaf_exactly n least most few rest p =
    by_count (λ l m. Exactly (leaf_fault (n, l, m) rest) (is_between l m (length rest))) (exactly_one n rest p)
    (exactly_two n rest p) (exactly_three n rest p) (exactly_four n rest p) (exactly_either n rest p) (exactly_span n rest p) least most few

given_one : (n : Text) (rest : List Text) → AreNoFlags rest → is_between 1 1 (length rest) ≡ true →
    leaf_given (n, 1, 1) rest ≡ rest
given_one n [] p count = absurd (cc)
given_one n (a ∷ []) p count = one_given n a p.0
given_one n (a ∷ b ∷ rest) p count = many (length (a ∷ b ∷ rest)) 1 1 (omega arith) count

given_two : (n : Text) (rest : List Text) → AreNoFlags rest → is_between 2 2 (length rest) ≡ true →
    leaf_given (n, 2, 2) rest ≡ rest
given_two n [] p count = absurd (cc)
given_two n (a ∷ []) p count = absurd (cc)
given_two n (a ∷ b ∷ []) p count = two_given n a b p.0 p.1.0
given_two n (a ∷ b ∷ c ∷ rest) p count = many (length (a ∷ b ∷ c ∷ rest)) 2 2 (omega arith) count

given_three : (n : Text) (rest : List Text) → AreNoFlags rest → is_between 3 3 (length rest) ≡ true →
    leaf_given (n, 3, 3) rest ≡ rest
given_three n [] p count = absurd (cc)
given_three n (a ∷ []) p count = absurd (cc)
given_three n (a ∷ b ∷ []) p count = absurd (cc)
given_three n (a ∷ b ∷ c ∷ []) p count = three_given n a b c p.0 p.1.0 p.1.1.0
given_three n (a ∷ b ∷ c ∷ d ∷ rest) p count = many (length (a ∷ b ∷ c ∷ d ∷ rest)) 3 3 (omega arith) count

given_four : (n : Text) (rest : List Text) → AreNoFlags rest → is_between 4 4 (length rest) ≡ true →
    leaf_given (n, 4, 4) rest ≡ rest
given_four n [] p count = absurd (cc)
given_four n (a ∷ []) p count = absurd (cc)
given_four n (a ∷ b ∷ []) p count = absurd (cc)
given_four n (a ∷ b ∷ c ∷ []) p count = absurd (cc)
given_four n (a ∷ b ∷ c ∷ d ∷ []) p count = four_given n a b c d p.0 p.1.0 p.1.1.0 p.1.1.1.0
given_four n (a ∷ b ∷ c ∷ d ∷ e ∷ rest) p count = many (length (a ∷ b ∷ c ∷ d ∷ e ∷ rest)) 4 4 (omega arith) count

given_either : (n : Text) (rest : List Text) → AreNoFlags rest → is_between 1 2 (length rest) ≡ true →
    leaf_given (n, 1, 2) rest ≡ rest
given_either n [] p count = absurd (cc)
given_either n (a ∷ []) p count = either_given_1 n a p.0
given_either n (a ∷ b ∷ []) p count = either_given_2 n a b p.0 p.1.0
given_either n (a ∷ b ∷ c ∷ rest) p count = many (length (a ∷ b ∷ c ∷ rest)) 1 2 (omega arith) count

given_span : (n : Text) (rest : List Text) → AreNoFlags rest → is_between 2 4 (length rest) ≡ true →
    leaf_given (n, 2, 4) rest ≡ rest
given_span n [] p count = absurd (cc)
given_span n (a ∷ []) p count = absurd (cc)
given_span n (a ∷ b ∷ []) p count = span_given_2 n a b p.0 p.1.0
given_span n (a ∷ b ∷ c ∷ []) p count = span_given_3 n a b c p.0 p.1.0 p.1.1.0
given_span n (a ∷ b ∷ c ∷ d ∷ []) p count = span_given_4 n a b c d p.0 p.1.0 p.1.1.0 p.1.1.1.0
given_span n (a ∷ b ∷ c ∷ d ∷ e ∷ rest) p count = many (length (a ∷ b ∷ c ∷ d ∷ e ∷ rest)) 2 4 (omega arith) count

-- and then reads these words
pub leaf_reads : (n : Text) (least most : ℕ) → are_few least most ≡ true → (rest : List Text) → AreNoFlags rest →
    is_between least most (length rest) ≡ true → leaf_given (n, least, most) rest ≡ rest
leaf_reads n least most few rest p count =
    by_count (λ l m. is_between l m (length rest) ≡ true → leaf_given (n, l, m) rest ≡ rest) (given_one n rest p)
    (given_two n rest p) (given_three n rest p) (given_four n rest p) (given_either n rest p) (given_span n rest p) least
    most few count

-- a word that is not empty and does not begin with `-` is no flag
no_flag : (w : Text) → is_plain w ≡ true → IsNoFlag w
no_flag [] p = absurd (cc)
no_flag (c ∷ cs) p =
    let other : (c == 45) ≡ false = not_true (c == 45) p in
    (rw other refl, rw other refl)
  where
    not_true : (b : Bool) → not b ≡ true → b ≡ false
    not_true true e = absurd (cc)
    not_true false e = refl

pub no_flags : (words : List Text) → list_all is_plain words ≡ true → AreNoFlags words
no_flags [] p = tt
no_flags (w ∷ ws) p =
    let h = both (is_plain w) (list_all is_plain ws) p in
    (no_flag w h.0, no_flags ws h.1)
