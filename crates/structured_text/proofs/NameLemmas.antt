-- Names differ.
use Rattle.std.proofs.Common.{◌≡◌, ◌≢◌, ◌++◌, ◌∙◌, ◌<◌, ◌+◌, ◌%◌, ◌^◌, ℕ, List, [], ◌∷◌, Bool, true, false, refl}
use Rattle.std.proofs.Common.{sym, ap, subst, arith}
use Rattle.std.specs.Prelude.{nat_lt, if◌then◌else◌, codes, decimal, slice_index_or}
use Rattle.std.proofs.lemmas.Bool.Decides.{nat_tests}
use Rattle.std.proofs.lemmas.Fmt.{decimal_injective, decimal_by_steps}
use Rattle.std.specs.Str.{bytes_eq}
use Rattle.std.proofs.lemmas.List.{append_cancel_left}
use Rattle.std.proofs.lemmas.Slice.Eq.{bytes_eq-Decides}
use Rattle.ilk_base.specs.declared.words.SwitchId.{SwitchId}
use Rattle.structured_text.specs.declared.name.Name.{Name}
use Rattle.structured_text.specs.declared.name.Name.TheVariants.{Off, On, May, Sure, Opens, Closes}
use Rattle.structured_text.specs.Spelling.{is_word, word_byte, readable, last_name, switch_text, name_text, lower, folded}
use Rattle.structured_text.specs.Within.{IsNumbered}

lt_true : (a b : ℕ) → a < b → nat_lt a b ≡ true
lt_true a b low = grind (arith, nat_tests)

chosen : {X : Type 0} (q : Bool) (x y : X) → q ≡ true → (if q then x else y) ≡ x
chosen {X} q x y is = ap (λ p. if p then x else y) is

passed : {X : Type 0} (q : Bool) (x y : X) → q ≡ false → (if q then x else y) ≡ y
passed {X} q x y is = ap (λ p. if p then x else y) is

folded_append : (xs ys : List ℕ) → folded (xs ++ ys) ≡ folded xs ++ folded ys
folded_append [] ys = refl
folded_append (x ∷ xs) ys = ap (λ zs. lower x ∷ zs) (folded_append xs ys)

lower_small : (b : ℕ) → b < 65 → lower b ≡ b
lower_small b low = chosen (nat_lt b 65) b (if nat_lt b 91 then b + 32 else b) (lt_true b 65 low)

-- digits have no case, and are no `_`
folded_decimal : (n : ℕ) → n < 2 ^ 64 → folded (decimal n) ≡ decimal n
folded_decimal n small =
    decimal_by_steps (λ k ds. folded ds ≡ ds)
    (λ k lt. ap (λ z. z ∷ []) (lower_small (48 + k) (omega (arith, lt))))
    (λ k ds le before.
    folded_append ds ((48 + k % 10) ∷ [])
    ∙ (ap (λ zs. zs ++ folded ((48 + k % 10) ∷ [])) before
    ∙ ap (λ z. ds ++ z ∷ []) (lower_small (48 + k % 10) (omega arith)))) n small

abbrev Lacks : ℕ → List ℕ → Type 0
Lacks c [] = Unit {0}
Lacks c (x ∷ xs) = (x ≢ c) × Lacks c xs

lacks_all : (c : ℕ) (xs ys : List ℕ) → Lacks c xs → Lacks c ys → Lacks c (xs ++ ys)
lacks_all c [] ys p q = q
lacks_all c (x ∷ xs) ys p q = (p.0, lacks_all c xs ys p.1 q)

lacks_decimal : (n : ℕ) → n < 2 ^ 64 → Lacks 95 (decimal n)
lacks_decimal n small =
    decimal_by_steps (λ k ds. Lacks 95 ds) (λ k lt. ((λ e. omega (arith, e, lt)), tt))
    (λ k ds le before. lacks_all 95 ds ((48 + k % 10) ∷ []) before ((λ e. omega (arith, e)), tt)) n small

-- a text is cut at the first `_` in one way
cut_once : (c : ℕ) (w v r s : List ℕ) → Lacks c w → Lacks c v → w ++ c ∷ r ≡ v ++ c ∷ s → (w ≡ v) × (r ≡ s)
cut_once c [] [] r s p q same = (refl, let e : r ≡ s = cc same in e)
cut_once c [] (y ∷ v) r s p q same = absurd (q.0 (let e : y ≡ c = cc same in e))
cut_once c (x ∷ w) [] r s p q same = absurd (p.0 (let e : x ≡ c = cc same in e))
cut_once c (x ∷ w) (y ∷ v) r s p q same =
    let first : x ≡ y = cc same in
    let rest : w ++ c ∷ r ≡ v ++ c ∷ s = cc same in
    let h = cut_once c w v r s p.1 q.1 rest in
    (ap (λ (z : ℕ). z ∷ w) first ∙ ap (λ (zs : List ℕ). y ∷ zs) h.0, h.1)

-- behind a number stands a `_`
begins : (path rest : List ℕ) → (r : List ℕ) × (readable true path ++ 95 ∷ rest ≡ 95 ∷ r)
begins [] rest = (rest, refl)
begins (b ∷ bs) rest = by (is_word b) refl (begins bs rest)
  where
    by : (q : Bool) → is_word b ≡ q → (r : List ℕ) × (readable true bs ++ 95 ∷ rest ≡ 95 ∷ r) →
        (r : List ℕ) × (readable true (b ∷ bs) ++ 95 ∷ rest ≡ 95 ∷ r)
    by true e later = (
      (b ∷ readable false bs) ++ 95 ∷ rest,
      ap (λ zs. zs ++ 95 ∷ rest) (chosen (is_word b) (word_byte true b (readable false bs)) (readable true bs) e),
    )
    by false e later = (
      later.0,
      ap (λ zs. zs ++ 95 ∷ rest) (passed (is_word b) (word_byte true b (readable false bs)) (readable true bs) e)
          ∙ later.1,
    )

module _ (paths : List (List ℕ)) (i j : ℕ) (i_small : i < 2 ^ 64) (j_small : j < 2 ^ 64) where
  abbrev path : ℕ → List ℕ
  path k = readable true (last_name (slice_index_or paths k []))

  unfold_text : (k : ℕ) → k < 2 ^ 64 → (rest : List ℕ) →
      folded (switch_text paths k (95 ∷ rest)) ≡ 115 ∷ 119 ∷ (decimal k ++ folded (path k ++ 95 ∷ rest))
  unfold_text k small rest =
      ap (λ zs. 115 ∷ 119 ∷ zs) (folded_append (decimal k) (path k ++ 95 ∷ rest)
      ∙ ap (λ zs. zs ++ folded (path k ++ 95 ∷ rest)) (folded_decimal k small))

  behind : (k : ℕ) (rest : List ℕ) → (r : List ℕ) × (folded (path k ++ 95 ∷ rest) ≡ 95 ∷ r)
  behind k rest =
      let (r, same) = begins (last_name (slice_index_or paths k [])) rest in (folded r, ap (λ zs. folded zs) same)

  -- names that are the same are of one switch, and end alike
  one_switch : (v w : List ℕ) → folded (switch_text paths i (95 ∷ v)) ≡ folded (switch_text paths j (95 ∷ w)) →
      (i ≡ j) × (folded (95 ∷ v) ≡ folded (95 ∷ w))
  one_switch v w same =
      let (r, r_is) = behind i v in
      let (s, s_is) = behind j w in
      let both : 115 ∷ 119 ∷ (decimal i ++ folded (path i ++ 95 ∷ v)) ≡ 115 ∷ 119 ∷ (decimal j ++ folded (path j ++ 95 ∷ w)) =
      sym (unfold_text i i_small v) ∙ (same ∙ unfold_text j j_small w) in
      let tails : decimal i ++ folded (path i ++ 95 ∷ v) ≡ decimal j ++ folded (path j ++ 95 ∷ w) = cc both in
      let cut = cut_once 95 (decimal i) (decimal j) r s (lacks_decimal i i_small) (lacks_decimal j j_small)
      (ap (λ zs. decimal i ++ zs) (sym r_is) ∙ (tails ∙ ap (λ zs. decimal j ++ zs) s_is)) in
      let number : i ≡ j = decimal_injective i j i_small j_small cut.0 in
      let ends : folded (path i ++ 95 ∷ v) ≡ folded (path j ++ 95 ∷ w) =
      r_is ∙ (ap (λ zs. 95 ∷ zs) cut.1 ∙ sym s_is) in
      let here : folded (path i ++ 95 ∷ v) ≡ folded (path i ++ 95 ∷ w) =
      subst (λ k. folded (path i ++ 95 ∷ v) ≡ folded (path k ++ 95 ∷ w)) (sym number) ends in
      let split : folded (path i) ++ folded (95 ∷ v) ≡ folded (path i) ++ folded (95 ∷ w) =
      sym (folded_append (path i) (95 ∷ v)) ∙ (here ∙ folded_append (path i) (95 ∷ w)) in
      (number, append_cancel_left (folded (path i)) (folded (95 ∷ v)) (folded (95 ∷ w)) split)

switch_same : (a b : SwitchId) → a.0 ≡ b.0 → a ≡ b
switch_same a b e = ap (λ k. record { 0 = k }) e

formula_same : (c k n : ℕ) → k < 2 ^ 64 → n < 2 ^ 64 → lower c ∷ folded (decimal k) ≡ lower c ∷ folded (decimal n) → k ≡ n
formula_same c k n a b same =
    let tails : folded (decimal k) ≡ folded (decimal n) = cc same in
    decimal_injective k n a b (sym (folded_decimal k a) ∙ (tails ∙ folded_decimal n b))

-- texts that differ at a byte are not the same
apart : (xs ys : List ℕ) → xs ≡ ys → bytes_eq xs ys ≡ false → ⊥
apart xs ys same differ = let told : bytes_eq xs ys ≡ true = (bytes_eq-Decides xs ys).1 same in cc (told, differ)

-- the names of two variables differ, without regard to case
pub names_once : (paths : List (List ℕ)) (m n : Name) → IsNumbered m → IsNumbered n →
    folded (name_text paths m) ≡ folded (name_text paths n) → m ≡ n
names_once paths (Off a) (Off b) p q e =
    ap Off (switch_same a b (one_switch paths a.0 b.0 p q (codes "off") (codes "off") e).0)
names_once paths (Off a) (On b) p q e =
    absurd (apart _ _ (one_switch paths a.0 b.0 p q (codes "off") (codes "on") e).1 refl)
names_once paths (Off a) (May k) p q e =
    absurd (apart _ _ e refl)
names_once paths (Off a) (Sure k) p q e =
    absurd (apart _ _ e refl)
names_once paths (Off a) (Opens b) p q e =
    absurd (apart _ _ (one_switch paths a.0 b.0 p q (codes "off") (codes "EnaOpn") e).1 refl)
names_once paths (Off a) (Closes b) p q e =
    absurd (apart _ _ (one_switch paths a.0 b.0 p q (codes "off") (codes "EnaCls") e).1 refl)
names_once paths (On a) (Off b) p q e =
    absurd (apart _ _ (one_switch paths a.0 b.0 p q (codes "on") (codes "off") e).1 refl)
names_once paths (On a) (On b) p q e =
    ap On (switch_same a b (one_switch paths a.0 b.0 p q (codes "on") (codes "on") e).0)
names_once paths (On a) (May k) p q e =
    absurd (apart _ _ e refl)
names_once paths (On a) (Sure k) p q e =
    absurd (apart _ _ e refl)
names_once paths (On a) (Opens b) p q e =
    absurd (apart _ _ (one_switch paths a.0 b.0 p q (codes "on") (codes "EnaOpn") e).1 refl)
names_once paths (On a) (Closes b) p q e =
    absurd (apart _ _ (one_switch paths a.0 b.0 p q (codes "on") (codes "EnaCls") e).1 refl)
names_once paths (May k) (Off b) p q e =
    absurd (apart _ _ e refl)
names_once paths (May k) (On b) p q e =
    absurd (apart _ _ e refl)
names_once paths (May k) (May n) p q e =
    ap May (formula_same 109 k n p q e)
names_once paths (May k) (Sure n) p q e =
    absurd (apart _ _ e refl)
names_once paths (May k) (Opens b) p q e =
    absurd (apart _ _ e refl)
names_once paths (May k) (Closes b) p q e =
    absurd (apart _ _ e refl)
names_once paths (Sure k) (Off b) p q e =
    absurd (apart _ _ e refl)
names_once paths (Sure k) (On b) p q e =
    absurd (apart _ _ e refl)
names_once paths (Sure k) (May n) p q e =
    absurd (apart _ _ e refl)
names_once paths (Sure k) (Sure n) p q e =
    ap Sure (formula_same 99 k n p q e)
names_once paths (Sure k) (Opens b) p q e =
    absurd (apart _ _ e refl)
names_once paths (Sure k) (Closes b) p q e =
    absurd (apart _ _ e refl)
names_once paths (Opens a) (Off b) p q e =
    absurd (apart _ _ (one_switch paths a.0 b.0 p q (codes "EnaOpn") (codes "off") e).1 refl)
names_once paths (Opens a) (On b) p q e =
    absurd (apart _ _ (one_switch paths a.0 b.0 p q (codes "EnaOpn") (codes "on") e).1 refl)
names_once paths (Opens a) (May k) p q e =
    absurd (apart _ _ e refl)
names_once paths (Opens a) (Sure k) p q e =
    absurd (apart _ _ e refl)
names_once paths (Opens a) (Opens b) p q e =
    ap Opens (switch_same a b (one_switch paths a.0 b.0 p q (codes "EnaOpn") (codes "EnaOpn") e).0)
names_once paths (Opens a) (Closes b) p q e =
    absurd (apart _ _ (one_switch paths a.0 b.0 p q (codes "EnaOpn") (codes "EnaCls") e).1 refl)
names_once paths (Closes a) (Off b) p q e =
    absurd (apart _ _ (one_switch paths a.0 b.0 p q (codes "EnaCls") (codes "off") e).1 refl)
names_once paths (Closes a) (On b) p q e =
    absurd (apart _ _ (one_switch paths a.0 b.0 p q (codes "EnaCls") (codes "on") e).1 refl)
names_once paths (Closes a) (May k) p q e =
    absurd (apart _ _ e refl)
names_once paths (Closes a) (Sure k) p q e =
    absurd (apart _ _ e refl)
names_once paths (Closes a) (Opens b) p q e =
    absurd (apart _ _ (one_switch paths a.0 b.0 p q (codes "EnaCls") (codes "EnaOpn") e).1 refl)
names_once paths (Closes a) (Closes b) p q e =
    ap Closes (switch_same a b (one_switch paths a.0 b.0 p q (codes "EnaCls") (codes "EnaCls") e).0)
