-- Words, and the one way to cut a text into them.
use Rattle.std.proofs.Common.{◌≡◌, ◌≢◌, ◌∙◌, ℕ, ◌+◌, ◌-◌, ◌%◌, ◌<◌, ◌≤◌, ◌^◌, zero, suc, Bool, true}
use Rattle.std.proofs.Common.{false, List, [], ◌∷◌, ◌++◌, length, take, drop, get_or, refl, sym, ap, subst, cond}
use Rattle.std.proofs.Common.{add-one, arith, Some, None, Option, append-nil}
use Rattle.std.specs.Prelude.{MatchOption, codes, decimal, position, ◌==◌}
use Rattle.std.proofs.lemmas.Fmt.{decimal_by_steps, decimal_injective}
use Rattle.std.proofs.lemmas.Grind.{common_steps}
use Rattle.std.proofs.lemmas.List.{append_cancel_left}
use Rattle.std.proofs.lemmas.List.Quantifiers.{position-Some}
use Rattle.std.proofs.lemmas.Bool.Decides.{nat_tests}
use Rattle.ilk_base.specs.declared.words.Rule.{Rule}
use Rattle.ilk_base.specs.declared.words.Rule.TheVariants.{R1, R2, R3}
use Rattle.part_alphabets.specs.declared.fork.Target.{Target}
use Rattle.part_alphabets.specs.declared.fork.Target.TheVariants.{Step, Index}
use Rattle.station_equations.specs.declared.goal.Goal.{Goal}
use Rattle.station_equations.specs.declared.goal.Goal.TheVariants.{Node, Answer}
use Rattle.station_equations.specs.declared.goal.TheConstants.{NUMBERS, GREATEST_INDEX}
use Rattle.station_equations.specs.EquationForm.{IsTarget, IsGoal}
use Rattle.station_equations.specs.EquationText.{target_text, goal_text}
use Rattle.equation_text.specs.Words.{Lacks, IsCut, EndsWord, IsFirstWord}

-- what is told of an option
pub none_told : {X : Type 0} (o : Option X) (A : Type 0) (B : X → Type 0) → o ≡ None → MatchOption o A B → A
none_told {X} o A B is told = subst (λ (p : Option X). MatchOption p A B) is told

pub some_told : {X : Type 0} (o : Option X) (A : Type 0) (B : X → Type 0) (x : X) → o ≡ Some x → MatchOption o A B → B x
some_told {X} o A B x is told = subst (λ (p : Option X). MatchOption p A B) is told

pub true_false : true ≡ false → ⊥
true_false e = cc e

pub lacks_all : (b : ℕ) (xs ys : List ℕ) → Lacks b xs → Lacks b ys → Lacks b (xs ++ ys)
lacks_all b [] ys p q = q
lacks_all b (x ∷ xs) ys p q = (p.0, lacks_all b xs ys p.1 q)

-- a byte that no word has
abbrev pub IsMark : ℕ → Type 0
IsMark b = b < 48

pub lacks_decimal : (b n : ℕ) → IsMark b → n < 2 ^ 64 → Lacks b (decimal n)
lacks_decimal b n mark small =
    decimal_by_steps (λ k ds. Lacks b ds) (λ k lt. ((λ e. omega (arith, e, mark)), tt))
    (λ k ds le before. lacks_all b ds ((48 + k % 10) ∷ []) before ((λ e. omega (arith, e, mark)), tt)) n small

-- a text is cut at the first such byte in one way
pub cut_once : (c : ℕ) (w v r s : List ℕ) → Lacks c w → Lacks c v → w ++ c ∷ r ≡ v ++ c ∷ s → (w ≡ v) × (r ≡ s)
cut_once c [] [] r s p q same = (refl, let e : r ≡ s = cc same in e)
cut_once c [] (y ∷ v) r s p q same = absurd (q.0 (let e : y ≡ c = cc same in e))
cut_once c (x ∷ w) [] r s p q same = absurd (p.0 (let e : x ≡ c = cc same in e))
cut_once c (x ∷ w) (y ∷ v) r s p q same =
    let first : x ≡ y = cc same in
    let rest : w ++ c ∷ r ≡ v ++ c ∷ s = cc same in
    let h = cut_once c w v r s p.1 q.1 rest in
    (ap (λ (z : ℕ). z ∷ w) first ∙ ap (λ (zs : List ℕ). y ∷ zs) h.0, h.1)

pub not_cut : (c : ℕ) (text w r : List ℕ) → Lacks c text → text ≢ w ++ c ∷ r
not_cut c [] [] r none same = cc same
not_cut c [] (x ∷ w) r none same = cc same
not_cut c (b ∷ text) [] r none same = none.0 (let e : b ≡ c = cc same in e)
not_cut c (b ∷ text) (x ∷ w) r none same = not_cut c text w r none.1 (let e : text ≡ w ++ c ∷ r = cc same in e)

pub cut_said : (c : ℕ) (text w v r s : List ℕ) → IsCut c text w r → Lacks c v → text ≡ v ++ c ∷ s → (w ≡ v) × (r ≡ s)
cut_said c text w v r s cut lacks is = cut_once c w v r s cut.first lacks (sym cut.is ∙ is)

-- a first word is one
pub word_once : (w v r s : List ℕ) → Lacks 32 w → Lacks 32 v → EndsWord r → EndsWord s → w ++ r ≡ v ++ s
    → (w ≡ v) × (r ≡ s)
word_once [] [] r s p q end_r end_s same = (refl, same)
word_once [] (y ∷ v) [] s p q end_r end_s same = absurd (let e : [] ≡ y ∷ (v ++ s) = same in cc e)
word_once [] (y ∷ v) (b ∷ r) s p q end_r end_s same = absurd (q.0 (let e : b ≡ y = cc same in sym e ∙ end_r))
word_once (x ∷ w) [] r [] p q end_r end_s same = absurd (let e : x ∷ (w ++ r) ≡ [] = same in cc e)
word_once (x ∷ w) [] r (b ∷ s) p q end_r end_s same = absurd (p.0 (let e : x ≡ b = cc same in e ∙ end_s))
word_once (x ∷ w) (y ∷ v) r s p q end_r end_s same =
    let first : x ≡ y = cc same in
    let rest : w ++ r ≡ v ++ s = cc same in
    let h = word_once w v r s p.1 q.1 end_r end_s rest in
    (ap (λ (z : ℕ). z ∷ w) first ∙ ap (λ (zs : List ℕ). y ∷ zs) h.0, h.1)

-- cutting at a place
lacks_take : (c : ℕ) (xs : List ℕ) (end : ℕ) → ((k : ℕ) → k < end → (get_or xs k 0 == c) ≡ false)
    → Lacks c (take end xs)
lacks_take c [] zero none = tt
lacks_take c [] (suc end) none = tt
lacks_take c (x ∷ xs) zero none = tt
lacks_take c (x ∷ xs) (suc end) none = (
  differ x (none 0 (omega arith)),
  lacks_take c xs end (λ k lt. none (suc k)
      (omega (arith, lt))),
)
  where
    differ : (y : ℕ) → (y == c) ≡ false → y ≢ c
    differ y unlike same = grind (arith, nat_tests, unlike, same)

take_suc : (xs : List ℕ) (end : ℕ) → end < length xs → xs ≡ take end xs ++ get_or xs end 0 ∷ drop (suc end) xs
take_suc [] end lt = absurd (omega (arith, lt))
take_suc (x ∷ xs) zero lt = refl
take_suc (x ∷ xs) (suc end) lt = ap (λ (zs : List ℕ). x ∷ zs) (take_suc xs end (omega (arith, lt)))

take_drop : (xs : List ℕ) (end : ℕ) → end < length xs → xs ≡ take end xs ++ get_or xs end 0 ∷ drop (end + 1) xs
take_drop xs end lt = take_suc xs end lt ∙ ap (λ (n : ℕ). take end xs ++ get_or xs end 0 ∷ drop n xs) (sym
    (add-one end))

pub cut_at : (c : ℕ) (xs : List ℕ) (end : ℕ) → position (λ (b : ℕ). b == c) xs ≡ Some end
    → IsCut c xs (take end xs) (drop (end + 1) xs)
cut_at c xs end at =
    let h = position-Some (λ (b : ℕ). b == c) xs end 0 at in
    let byte : get_or xs end 0 ≡ c = same (get_or xs end 0) h.1 in
    record {
      is = take_drop xs end h.0 ∙ ap (λ z. take end xs ++ z ∷ drop (end + 1) xs) byte;
      first = lacks_take c xs end h.2;
    }
  where
    same : (y : ℕ) → (y == c) ≡ true → y ≡ c
    same y like = grind (arith, nat_tests, like)

pub lacks_position : (c : ℕ) (xs : List ℕ) → position (λ (b : ℕ). b == c) xs ≡ None → Lacks c xs
lacks_position c [] none = tt
lacks_position c (x ∷ xs) none = by (x == c) refl none (lacks_position c xs)
  where
    by : (t : Bool) → (x == c) ≡ t → position (λ (b : ℕ). b == c) (x ∷ xs) ≡ None
        → (position (λ (b : ℕ). b == c) xs ≡ None → Lacks c xs) → Lacks c (x ∷ xs)
    by true like none more = absurd (found none)
      where
        found : position (λ (b : ℕ). b == c) (x ∷ xs) ≡ None → ⊥
        found none = grind (arith, common_steps, nat_tests, like, none)
    by false unlike none more = (differ unlike, more (rest none))
      where
        differ : (x == c) ≡ false → x ≢ c
        differ unlike same = grind (arith, nat_tests, unlike, same)

        rest : position (λ (b : ℕ). b == c) (x ∷ xs) ≡ None → position (λ (b : ℕ). b == c) xs ≡ None
        rest none = grind (arith, common_steps, nat_tests, unlike, none)

take_rest : (xs : List ℕ) (n : ℕ) → take (length xs - n) (drop n xs) ≡ drop n xs
take_rest xs n = grind (arith, common_steps)

pub cut_same : (c : ℕ) (xs : List ℕ) (end : ℕ) → position (λ (b : ℕ). b == c) xs ≡ Some end
    → IsCut c xs (take end xs) (take (length xs - (end + 1)) (drop (end + 1) xs))
cut_same c xs end at = subst (λ (zs : List ℕ). IsCut c xs (take end xs) zs) (sym (take_rest xs (end + 1)))
    (cut_at c xs end at)

drop_suc : (xs : List ℕ) (end : ℕ) → end < length xs → drop end xs ≡ get_or xs end 0 ∷ drop (suc end) xs
drop_suc [] end lt = absurd (omega (arith, lt))
drop_suc (x ∷ xs) zero lt = refl
drop_suc (x ∷ xs) (suc end) lt = drop_suc xs end (omega (arith, lt))

drop_cons : (xs : List ℕ) (end : ℕ) → end < length xs → drop end xs ≡ get_or xs end 0 ∷ drop (end + 1) xs
drop_cons xs end lt = drop_suc xs end lt ∙ ap (λ (n : ℕ). get_or xs end 0 ∷ drop n xs) (sym (add-one end))

pub word_at : (xs : List ℕ) (end : ℕ) → position (λ (b : ℕ). b == 32) xs ≡ Some end
    → IsFirstWord xs (take end xs) (take (length xs - end) (drop end xs))
word_at xs end at =
    let h = cut_at 32 xs end at in
    let p = position-Some (λ (b : ℕ). b == 32) xs end 0 at in
    let rest = take_rest xs end ∙ drop_cons xs end p.0 in
    let byte : get_or xs end 0 ≡ 32 = blank (get_or xs end 0) p.1 in
    record {
      is = take_drop xs end p.0 ∙ ap (λ (zs : List ℕ). take end xs ++ zs) (sym rest);
      first = h.first;
      ends = subst (λ (zs : List ℕ). EndsWord zs) (sym rest) byte;
    }
  where
    blank : (y : ℕ) → (y == 32) ≡ true → y ≡ 32
    blank y like = grind (arith, nat_tests, like)

pub word_all : (xs : List ℕ) → position (λ (b : ℕ). b == 32) xs ≡ None → IsFirstWord xs xs (take
    (length xs - length xs) (drop (length xs) xs))
word_all xs none =
    let rest : take (length xs - length xs) (drop (length xs) xs) ≡ [] = grind (arith, common_steps) in
    record {
      is = sym (append-nil xs) ∙ ap (λ (zs : List ℕ). xs ++ zs) (sym rest);
      first = lacks_position 32 xs none;
      ends = subst (λ (zs : List ℕ). EndsWord zs) (sym rest) tt;
    }

-- words of targets and goals
pub lacks_target : (b : ℕ) (t : Target) → IsMark b → IsTarget NUMBERS t → Lacks b (target_text t)
lacks_target b (Step n) mark small = lacks_decimal b n mark (omega (arith, small))
lacks_target b (Index i) mark small = ((λ e. omega (arith, e, mark)), lacks_decimal b i mark (omega (arith, small)))

-- a text of which each byte is tested
abbrev pub lacks_test : ℕ → List ℕ → Bool
lacks_test b [] = true
lacks_test b (x ∷ xs) = cond (x == b) false (lacks_test b xs)

pub lacks_by : (b : ℕ) (xs : List ℕ) → lacks_test b xs ≡ true → Lacks b xs
lacks_by b [] e = tt
lacks_by b (x ∷ xs) e = by (x == b) refl (lacks_by b xs)
  where
    by : (t : Bool) → (x == b) ≡ t → (lacks_test b xs ≡ true → Lacks b xs) → Lacks b (x ∷ xs)
    by true like more = absurd (let q : false ≡ true = sym (ap (λ (t : Bool). cond t false (lacks_test b xs)) like)
        ∙ e in cc q)
    by false unlike more = (differ, more (sym (ap (λ (t : Bool). cond t false (lacks_test b xs)) unlike) ∙ e))
      where
        differ : x ≢ b
        differ same = grind (arith, nat_tests, unlike, same)

pub lacks_goal : (b : ℕ) (g : Goal) → IsMark b → IsGoal NUMBERS g → Lacks b (goal_text g)
lacks_goal b (Node n) mark small = lacks_decimal b n mark (omega (arith, small))
lacks_goal b (Answer None) mark small = ((λ e. omega (arith, e, mark)), ((λ e. omega (arith, e, mark)), tt))
lacks_goal b (Answer (Some R1)) mark small = ((λ e. omega (arith, e, mark)), ((λ e. omega (arith, e, mark)), tt))
lacks_goal b (Answer (Some R2)) mark small = ((λ e. omega (arith, e, mark)), ((λ e. omega (arith, e, mark)), tt))
lacks_goal b (Answer (Some R3)) mark small = ((λ e. omega (arith, e, mark)), ((λ e. omega (arith, e, mark)), tt))

-- the first byte of a number is a digit
pub digit_first : (n : ℕ) → n < 2 ^ 64 → (d : ℕ) × (ds : List ℕ) × (decimal n ≡ d ∷ ds) × (d < 58)
digit_first n small = decimal_by_steps (λ k ds. (d : ℕ) × (rest : List ℕ) × (ds ≡ d ∷ rest) × (d < 58)) (λ k lt.
    (48 + k, [], refl, omega (arith, lt))) (λ k ds le before. (
      before.0,
      before.1 ++ ((48 + k % 10) ∷ []),
      ap (λ
          (zs : List ℕ). zs ++ ((48 + k % 10) ∷ [])) before.2,
      before.3,
    )) n small

-- a word that begins so is no number
pub no_number : (n b : ℕ) (bs : List ℕ) → n < 2 ^ 64 → 58 ≤ b → decimal n ≢ b ∷ bs
no_number n b bs small big same =
    let d = digit_first n small in
    let whole : d.0 ∷ d.1 ≡ b ∷ bs = sym d.2 ∙ same in
    let e : d.0 ≡ b = cc whole in
    omega (arith, e, d.3, big)

pub target_once : (t u : Target) → IsTarget NUMBERS t → IsTarget NUMBERS u → target_text t ≡ target_text u → t ≡ u
target_once (Step n) (Step k) p q same = ap (λ (x : ℕ). Step x) (decimal_injective n k (omega (arith, p)) (omega
    (arith, q)) same)
target_once (Step n) (Index i) p q same = absurd (no_number n 61 (decimal i) (omega (arith, p)) (omega arith) same)
target_once (Index i) (Step n) p q same = absurd (no_number n 61 (decimal i) (omega (arith, q)) (omega arith)
    (sym same))
target_once (Index i) (Index k) p q same = ap (λ (x : ℕ). Index x) (decimal_injective i k (omega (arith, p)) (omega
    (arith, q)) (append_cancel_left (codes "=") (decimal i) (decimal k) same))

answer_first : (a : Option Rule) → (b : ℕ) × (bs : List ℕ) × (goal_text (Answer a) ≡ b ∷ bs) × (58 ≤ b)
answer_first None = (111, codes "k", refl, omega arith)
answer_first (Some R1) = (82, codes "1", refl, omega arith)
answer_first (Some R2) = (82, codes "2", refl, omega arith)
answer_first (Some R3) = (82, codes "3", refl, omega arith)

pub answer_no_number : (a : Option Rule) (n : ℕ) → n < 2 ^ 64 → goal_text (Answer a) ≢ decimal n
answer_no_number a n small same = let f = answer_first a in no_number n f.0 f.1 small f.3 (sym same ∙ f.2)

abbrev second : List ℕ → ℕ
second (a ∷ b ∷ bs) = b
second bs = 0

answer_once : (a b : Option Rule) → goal_text (Answer a) ≡ goal_text (Answer b) → a ≡ b
answer_once None None same = refl
answer_once None (Some R1) same = absurd (let e : 107 ≡ 49 = ap second same in omega (arith, e))
answer_once None (Some R2) same = absurd (let e : 107 ≡ 50 = ap second same in omega (arith, e))
answer_once None (Some R3) same = absurd (let e : 107 ≡ 51 = ap second same in omega (arith, e))
answer_once (Some R1) None same = absurd (let e : 49 ≡ 107 = ap second same in omega (arith, e))
answer_once (Some R1) (Some R1) same = refl
answer_once (Some R1) (Some R2) same = absurd (let e : 49 ≡ 50 = ap second same in omega (arith, e))
answer_once (Some R1) (Some R3) same = absurd (let e : 49 ≡ 51 = ap second same in omega (arith, e))
answer_once (Some R2) None same = absurd (let e : 50 ≡ 107 = ap second same in omega (arith, e))
answer_once (Some R2) (Some R1) same = absurd (let e : 50 ≡ 49 = ap second same in omega (arith, e))
answer_once (Some R2) (Some R2) same = refl
answer_once (Some R2) (Some R3) same = absurd (let e : 50 ≡ 51 = ap second same in omega (arith, e))
answer_once (Some R3) None same = absurd (let e : 51 ≡ 107 = ap second same in omega (arith, e))
answer_once (Some R3) (Some R1) same = absurd (let e : 51 ≡ 49 = ap second same in omega (arith, e))
answer_once (Some R3) (Some R2) same = absurd (let e : 51 ≡ 50 = ap second same in omega (arith, e))
answer_once (Some R3) (Some R3) same = refl

pub goal_once : (g h : Goal) → IsGoal NUMBERS g → IsGoal NUMBERS h → goal_text g ≡ goal_text h → g ≡ h
goal_once (Node n) (Node k) p q same = ap (λ (x : ℕ). Node x) (decimal_injective n k (omega (arith, p)) (omega
    (arith, q)) same)
goal_once (Node n) (Answer a) p q same = absurd (answer_no_number a n (omega (arith, p)) (sym same))
goal_once (Answer a) (Node n) p q same = absurd (answer_no_number a n (omega (arith, q)) same)
goal_once (Answer a) (Answer b) p q same = ap (λ (x : Option Rule). Answer x) (answer_once a b same)

-- what stands behind `=` is an index
pub index_word : (word : List ℕ) (t : Target) → IsTarget NUMBERS t → codes "=" ++ word ≡ target_text t
    → (i : ℕ) × (i ≤ GREATEST_INDEX) × (word ≡ decimal i)
index_word word (Step n) small is = absurd (no_number n 61 word (omega (arith, small)) (omega arith) (sym is))
index_word word (Index i) small is = (i, small, append_cancel_left (codes "=") word (decimal i) is)
