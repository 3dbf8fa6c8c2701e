-- Rising lists with the same entries are equal, and so are the kept lists of values that keep the same.
use Rattle.std.proofs.Common.{◌≡◌, ℕ, ◌<◌, ◌⊎◌, ◌↔◌, zero, suc, List, [], ◌∷◌, slice_index, refl, sym, subst, inl, inr}
use Rattle.std.proofs.Common.{arith}
use Rattle.std.proofs.lemmas.Bool.{cases_eq, cases_lt}
use Rattle.std.proofs.lemmas.Option.{slice_get_within, get_or_from_slice_get}
use Rattle.std.specs.Prelude.{Contains}
use Rattle.station_graph.specs.Nodes.{Rises}
use Rattle.contraction.specs.Answers.{Answers, IsAt, Keeps, IsContraction}
use Rattle.contraction.proofs.PlaceLemmas.{keeps_from_has, has_from_keeps}

rises_tail : (x : ℕ) (xs : List ℕ) → Rises (x ∷ xs) → Rises xs
rises_tail x xs r j k less k_in = r (suc j) (suc k) (omega arith) (omega arith)

keeps_here : (x : ℕ) (xs : List ℕ) → Keeps (x ∷ xs) x
keeps_here x xs = record { place = 0; at = refl }

keeps_more : (x : ℕ) (xs : List ℕ) (n : ℕ) → Keeps xs n → Keeps (x ∷ xs) n
keeps_more x xs n k = record { place = suc k.place; at = k.at }

at_cases : (x : ℕ) (xs : List ℕ) (n p : ℕ) → IsAt (x ∷ xs) p n → (n ≡ x) ⊎ Keeps xs n
at_cases x xs n zero e = inl (cc)
at_cases x xs n (suc p) e = inr (record { place = p; at = e })

keeps_cases : (x : ℕ) (xs : List ℕ) (n : ℕ) → Keeps (x ∷ xs) n → (n ≡ x) ⊎ Keeps xs n
keeps_cases x xs n k = at_cases x xs n k.place k.at

-- the head of a rising list is less than the others
above_head : (x : ℕ) (xs : List ℕ) (n : ℕ) → Rises (x ∷ xs) → Keeps xs n → x < n
above_head x xs n r k =
    let k_in = slice_get_within xs k.place n k.at in
    let up : slice_index (x ∷ xs) 0 < slice_index (x ∷ xs) (suc k.place) =
    r 0 (suc k.place) (omega arith) (omega arith) in
    omega (arith, up, get_or_from_slice_get xs k.place n 0 k.at)

none_kept : (n : ℕ) → Keeps [] n → ⊥
none_kept n k = let e : IsAt [] k.place n = k.at in cc

-- in two rising lists with the same heads and entries the tails have the same entries
tail_keeps : (x : ℕ) (xs ys : List ℕ) → Rises (x ∷ xs) → ((n : ℕ) → Keeps (x ∷ xs) n → Keeps (x ∷ ys) n) → (n : ℕ) →
    Keeps xs n → Keeps ys n
tail_keeps x xs ys r into n k = elim (keeps_cases x ys n (into n (keeps_more x xs n k))) [
  | inl e ↦ absurd (omega (arith, above_head x xs n r k, e))
  | inr there ↦ there
]

head_most : (x y : ℕ) (xs ys : List ℕ) → Rises (y ∷ ys) → Keeps (y ∷ ys) x → (x < y) → ⊥
head_most x y xs ys r k less = elim (keeps_cases y ys x k) [
  | inl e ↦ omega (arith, e)
  | inr there ↦ omega (arith, above_head y ys x r there)
]

-- rising lists with the same entries are equal
pub rising_equal : (xs ys : List ℕ) → Rises xs → Rises ys → ((n : ℕ) → Keeps xs n ↔ Keeps ys n) → xs ≡ ys
rising_equal [] [] r s h = refl
rising_equal [] (y ∷ ys) r s h = absurd (none_kept y ((h y).1 (keeps_here y ys)))
rising_equal (x ∷ xs) [] r s h = absurd (none_kept x ((h x).0 (keeps_here x xs)))
rising_equal (x ∷ xs) (y ∷ ys) r s h =
    let same : x ≡ y = elim (cases_lt x y) [
      | inl less ↦ absurd (head_most x y xs ys s ((h x).0 (keeps_here x xs)) less)
      | inr more ↦ elim (cases_eq x y) [
        | inl e ↦ e
        | inr ne ↦ absurd (head_most y x ys xs r ((h y).1 (keeps_here y ys)) (omega arith))
      ]
    ] in
    let h1 : (n : ℕ) → Keeps (x ∷ xs) n ↔ Keeps (x ∷ ys) n =
    subst (λ z. (n : ℕ) → Keeps (x ∷ xs) n ↔ Keeps (z ∷ ys) n) (sym same) h in
    let s1 : Rises (x ∷ ys) = subst (λ z. Rises (z ∷ ys)) (sym same) s in
    let rest : xs ≡ ys = rising_equal xs ys (rises_tail x xs r) (rises_tail y ys s) (λ n. (
      tail_keeps x xs ys r (λ m. (h1 m).0) n,
      tail_keeps x ys xs s1 (λ m. (h1 m).1) n,
    )) in
    cc (same, rest)

-- values that keep the same nodes have one list of them
pub kept_equal : (x y : Answers) → IsContraction x → IsContraction y → ((n : ℕ) → Keeps x.kept n ↔ Keeps y.kept n) →
    x.kept ≡ y.kept
kept_equal x y wx wy same = rising_equal x.kept y.kept wx.nodes.rises wy.nodes.rises same

-- a rising list of what a value keeps is its list of kept nodes
pub kept_is : (nodes : List ℕ) (x : Answers) → IsContraction x → ((n : ℕ) → Keeps x.kept n ↔ Contains nodes n) →
    Rises nodes → x.kept ≡ nodes
kept_is nodes x w named rises =
    rising_equal x.kept nodes w.nodes.rises rises
    (λ n. (λ k. keeps_from_has nodes n ((named n).0 k), λ k. (named n).1 (has_from_keeps nodes n k)))

pub keeps_on : (k1 k2 : List ℕ) → k1 ≡ k2 → (n : ℕ) → Keeps k1 n ↔ Keeps k2 n
keeps_on k1 k2 e n = (λ k. subst (λ l. Keeps l n) e k, λ k. subst (λ l. Keeps l n) (sym e) k)
