-- What lines define is told by how they begin.
use Rattle.std.proofs.Common.{◌≡◌, ◌∙◌, ℕ, ◌<◌, ◌^◌, List, [], ◌∷◌, ◌++◌, refl, sym}
use Rattle.std.proofs.Common.{ap, arith, append_assoc}
use Rattle.std.specs.Prelude.{codes, decimal}
use Rattle.std.proofs.lemmas.Fmt.{decimal_injective}
use Rattle.std.proofs.lemmas.List.{append_cancel_left}
use Rattle.equation_text.specs.Words.{Lacks}
use Rattle.equation_text.specs.Faults.{Entry, step_of, node_of, head_of}
use Rattle.equation_text.specs.Entries.{IsEntry32}
use Rattle.equation_text.proofs.WordLemmas.{lacks_all, lacks_by, lacks_decimal, cut_once}

pub step_head : (p m : ℕ) (rest : List ℕ) → head_of (step_of p m) ++ rest ≡ codes "step " ++ (decimal p ++ 32 ∷
    (decimal m ++ 32 ∷ rest))
step_head p m rest =
    append_assoc (codes "step ") (decimal p ++ (codes " " ++ (decimal m ++ codes " "))) rest
    ∙ ap (λ (z : List ℕ). codes "step " ++ z) (append_assoc (decimal p) (codes " " ++ (decimal m ++ codes " ")) rest
    ∙ ap (λ (z : List ℕ). decimal p ++ 32 ∷ z) (append_assoc (decimal m) (codes " ") rest))

pub node_head : (n : ℕ) (rest : List ℕ) → head_of (node_of n) ++ rest ≡ codes "node " ++ (decimal n ++ 32 ∷ rest)
node_head n rest =
    append_assoc (codes "node ") (decimal n ++ codes " ") rest
    ∙ ap (λ (z : List ℕ). codes "node " ++ z) (append_assoc (decimal n) (codes " ") rest)

number_lacks : (n : ℕ) (rest : List ℕ) → n < 2 ^ 32 → Lacks 10 rest → Lacks 10 (decimal n ++ (codes " " ++ rest))
number_lacks n rest small lacks = lacks_all 10 (decimal n) (codes " " ++ rest) (lacks_decimal 10 n (omega arith) (omega
    (arith, small))) (lacks_all 10 (codes " ") rest (lacks_by 10 (codes " ") refl) lacks)

blank_lacks : (n : ℕ) → n < 2 ^ 32 → Lacks 10 (decimal n ++ codes " ")
blank_lacks n small = lacks_all 10 (decimal n) (codes " ") (lacks_decimal 10 n (omega arith) (omega (arith, small)))
    (lacks_by 10 (codes " ") refl)

pub head_lacks : (x : Entry) → IsEntry32 x → Lacks 10 (head_of x)
head_lacks (step_of p m) small = lacks_all 10 (codes "step ") _ (lacks_by 10 (codes "step ") refl) (number_lacks p
    (decimal m ++ codes " ") small.0 (blank_lacks m small.1))
head_lacks (node_of n) small = lacks_all 10 (codes "node ") _ (lacks_by 10 (codes "node ") refl) (blank_lacks n small)

pub first_number : (m n : ℕ) (r s : List ℕ) → m < 2 ^ 32 → n < 2 ^ 32 → decimal m ++ 32 ∷ r ≡ decimal n ++ 32 ∷ s
    → (m ≡ n) × (r ≡ s)
first_number m n r s small_m small_n same =
    let cut = cut_once 32 (decimal m) (decimal n) r s (lacks_decimal 32 m (omega arith) (omega (arith, small_m)))
    (lacks_decimal 32 n (omega arith) (omega (arith, small_n))) same in
    (decimal_injective m n (omega (arith, small_m)) (omega (arith, small_n)) cut.0, cut.1)

abbrev first_byte : List ℕ → ℕ
first_byte [] = 0
first_byte (b ∷ bs) = b

step_once : (p m q k : ℕ) (r s : List ℕ) → IsEntry32 (step_of p m) → IsEntry32 (step_of q k)
    → codes "step " ++ (decimal p ++ 32 ∷ (decimal m ++ 32 ∷ r)) ≡ codes "step " ++ (decimal q ++ 32 ∷
    (decimal k ++ 32 ∷ s)) → step_of p m ≡ step_of q k
step_once p m q k r s small other same =
    let words = append_cancel_left (codes "step ") (decimal p ++ 32 ∷ (decimal m ++ 32 ∷ r)) (decimal q ++ 32 ∷
    (decimal k ++ 32 ∷ s)) same in
    let first = first_number p q (decimal m ++ 32 ∷ r) (decimal k ++ 32 ∷ s) small.0 other.0 words in
    let second = first_number m k r s small.1 other.1 first.1 in
    ap (λ z. step_of z m) first.0 ∙ ap (λ z. step_of q z) second.0

node_once : (n k : ℕ) (r s : List ℕ) → n < 2 ^ 32 → k < 2 ^ 32 → codes "node " ++ (decimal n ++ 32 ∷ r) ≡ codes
    "node " ++ (decimal k ++ 32 ∷ s) → node_of n ≡ node_of k
node_once n k r s small other same =
    let words = append_cancel_left (codes "node ") (decimal n ++ 32 ∷ r) (decimal k ++ 32 ∷ s) same in
    ap (λ z. node_of z) (first_number n k r s small other words).0

-- a line defines one entry at most
pub head_once : (x y : Entry) (r s : List ℕ) → IsEntry32 x → IsEntry32 y → head_of x ++ r ≡ head_of y ++ s → x ≡ y
head_once (step_of p m) (step_of q k) r s small other same = step_once p m q k r s small other
    (sym (step_head p m r) ∙ same ∙ step_head q k s)
head_once (step_of p m) (node_of n) r s small other same = absurd (let e : 115 ≡ 110 = ap first_byte same in omega
    (arith, e))
head_once (node_of n) (step_of p m) r s small other same = absurd (let e : 110 ≡ 115 = ap first_byte same in omega
    (arith, e))
head_once (node_of n) (node_of k) r s small other same = node_once n k r s small other
    (sym (node_head n r) ∙ same ∙ node_head k s)
