-- Lists, in order.
use Rattle.std.proofs.Common.{◌≡◌, ℕ, ◌+◌, ◌*◌, ◌<◌, ◌≤◌, zero, suc, Bool, true, false, List, [], ◌∷◌, ◌++◌, length, map, slice_get}
use Rattle.std.proofs.Common.{Some, refl, sym, ap, ◌∙◌, subst, inl, inr, arith}
use Rattle.std.specs.Prelude.{if◌then◌else◌}
use Rattle.std.specs.List.{range_with_len}
use Rattle.std.proofs.lemmas.Option.{same_Some}
use Rattle.ilk_base.specs.declared.words.Op.{Op}
use Rattle.release_dependence.specs.Operations.{opening, closing}
use Rattle.decision_graphs.specs.Reaching.{IsSet}
use Rattle.commissioning_tests.specs.Listed.{operations_from, AreThose}

-- lists with the same entries are one
pub same_list : {X : Type 0} (xs ys : List X) → length xs ≡ length ys →
    ((j : ℕ) → j < length xs → slice_get xs j ≡ slice_get ys j) → xs ≡ ys
same_list [] [] l h = refl
same_list [] (y ∷ ys) l h = absurd (omega (arith, l))
same_list (x ∷ xs) [] l h = absurd (omega (arith, l))
same_list (x ∷ xs) (y ∷ ys) l h =
    ap (λ z. z ∷ xs) (same_Some x y (h 0 (omega arith)))
    ∙ ap (λ zs. y ∷ zs) (same_list xs ys (omega (arith, l)) (λ j lt. h (suc j) (omega (arith, lt))))

-- the operations of one more switch
more : (first n : ℕ) →
    operations_from first (suc n) ≡ operations_from first n ++ opening (first + n) ∷ closing (first + n) ∷ []
more first zero =
    let e : first ≡ first + 0 = omega arith in
    ap (λ k. opening k ∷ closing k ∷ []) e
more first (suc n) =
    let e : suc first + n ≡ first + suc n = omega arith in
    ap (λ os. opening first ∷ closing first ∷ os)
    (more (suc first) n ∙ ap (λ k. operations_from (suc first) n ++ opening k ∷ closing k ∷ []) e)

pub operations_more : (first n : ℕ) →
    operations_from first (n + 1) ≡ operations_from first n ++ opening (first + n) ∷ closing (first + n) ∷ []
operations_more first n =
    let e : n + 1 ≡ suc n = omega arith in
    ap (λ k. operations_from first k) e ∙ more first n

-- one more for which it holds, and one for which it does not
pub those_more : {X : Type 0} (P : X → Type 0) (xs chosen : List X) (x : X) → AreThose P xs chosen → P x →
    AreThose P (xs ++ x ∷ []) (chosen ++ x ∷ [])
those_more P [] chosen x h p = inl ([], ap (λ l. l ++ x ∷ []) h, p, refl)
those_more P (y ∷ ys) chosen x (inl h) p =
    inl (h.0 ++ x ∷ [], ap (λ l. l ++ x ∷ []) h.1, h.2, those_more P ys h.0 x h.3 p)
those_more P (y ∷ ys) chosen x (inr h) p = inr (h.0, those_more P ys chosen x h.1 p)

pub those_less : {X : Type 0} (P : X → Type 0) (xs chosen : List X) (x : X) → AreThose P xs chosen → ¬ P x →
    AreThose P (xs ++ x ∷ []) chosen
those_less P [] chosen x h never = inr (never, h)
those_less P (y ∷ ys) chosen x (inl h) never = inl (h.0, h.1, h.2, those_less P ys h.0 x h.3 never)
those_less P (y ∷ ys) chosen x (inr h) never = inr (h.0, those_less P ys chosen x h.1 never)

range_next : (first n : ℕ) → range_with_len first (suc n) ≡ range_with_len first n ++ (first + n) ∷ []
range_next first zero =
    let e : first ≡ first + 0 = omega arith in
    ap (λ k. k ∷ []) e
range_next first (suc n) =
    let e : first + 1 + n ≡ first + suc n = omega arith in
    ap (λ l. first ∷ l) (range_next (first + 1) n ∙ ap (λ k. range_with_len (first + 1) n ++ k ∷ []) e)

pub range_more : (n : ℕ) → range_with_len 0 (n + 1) ≡ range_with_len 0 n ++ n ∷ []
range_more n =
    let next : n + 1 ≡ suc n = omega arith in
    let last : 0 + n ≡ n = omega arith in
    ap (range_with_len 0) next ∙ (range_next 0 n ∙ ap (λ k. range_with_len 0 n ++ k ∷ []) last)

-- the keys of one more
pub keys_more : {X : Type 0} (key : X → ℕ) (xs : List X) (x : X) → map key (xs ++ x ∷ []) ≡ map key xs ++ key x ∷ []
keys_more key [] x = refl
keys_more key (y ∷ ys) x = ap (λ l. key y ∷ l) (keys_more key ys x)

pub those_if : {X : Type 0} (key : X → ℕ) (P : ℕ → Type 0) (xs : List ℕ) (chosen : List X) (x : X) (wanted : Bool) →
    AreThose P xs (map key chosen) → (wanted ≡ true → P (key x)) → (wanted ≡ false → ¬ P (key x)) →
    AreThose P (xs ++ key x ∷ []) (map key (if wanted then chosen ++ x ∷ [] else chosen))
those_if key P xs chosen x true h holds fails =
    subst (λ (l : List ℕ). AreThose P (xs ++ key x ∷ []) l) (sym (keys_more key chosen x))
    (those_more P xs (map key chosen) (key x) h (holds refl))
those_if key P xs chosen x false h holds fails = those_less P xs (map key chosen) (key x) h (fails refl)

-- one for which it holds is among those
pub chosen_has : {X : Type 0} (P : X → Type 0) (xs chosen : List X) (i : ℕ) (x : X) → AreThose P xs chosen →
    slice_get xs i ≡ Some x → P x → (j : ℕ) × (slice_get chosen j ≡ Some x)
chosen_has P [] chosen i x those at p = cc
chosen_has P (y ∷ ys) chosen zero x (inl h) at p =
    (0, ap (λ l. slice_get l 0) h.1 ∙ at)
chosen_has P (y ∷ ys) chosen zero x (inr h) at p = absurd (h.0 (subst P (sym (same_Some y x at)) p))
chosen_has P (y ∷ ys) chosen (suc i) x (inl h) at p =
    let rest = chosen_has P ys h.0 i x h.3 at p in
    (suc rest.0, ap (λ l. slice_get l (suc rest.0)) h.1 ∙ rest.1)
chosen_has P (y ∷ ys) chosen (suc i) x (inr h) at p = chosen_has P ys chosen i x h.1 at p

-- a number of a range stands at its place
range_at : (first n i : ℕ) → i < n → slice_get (range_with_len first n) i ≡ Some (first + i)
range_at first zero i lt = absurd (omega (arith, lt))
range_at first (suc n) zero lt =
    let e : first ≡ first + 0 = omega arith in
    ap Some e
range_at first (suc n) (suc i) lt =
    let e : first + 1 + i ≡ first + suc i = omega arith in
    range_at (first + 1) n i (omega (arith, lt)) ∙ ap Some e

pub number_at : (n i : ℕ) → i < n → slice_get (range_with_len 0 n) i ≡ Some i
number_at n i lt =
    let e : 0 + i ≡ i = omega arith in
    range_at 0 n i lt ∙ ap Some e

-- what has a key that stands there
pub of_key : {X : Type 0} (key : X → ℕ) (xs : List X) (j n : ℕ) → slice_get (map key xs) j ≡ Some n →
    (x : X) × (slice_get xs j ≡ Some x) × (key x ≡ n)
of_key key [] j n at = cc
of_key key (x ∷ xs) zero n at = (x, refl, same_Some (key x) n at)
of_key key (x ∷ xs) (suc j) n at = of_key key xs j n at

-- ---- where an operation stands

pub operations_long : (first n : ℕ) → length (operations_from first n) ≡ 2 * n
operations_long first zero = refl
operations_long first (suc n) = omega (arith, operations_long (suc first) n)

pub opening_at : (first n i : ℕ) → i < n → slice_get (operations_from first n) (2 * i) ≡ Some (opening (first + i))
opening_at first zero i lt = absurd (omega (arith, lt))
opening_at first (suc n) zero lt =
    let e : first ≡ first + 0 = omega arith in
    ap (λ k. Some (opening k)) e
opening_at first (suc n) (suc i) lt =
    let place : 2 * suc i ≡ suc (suc (2 * i)) = omega arith in
    let number : suc first + i ≡ first + suc i = omega arith in
    ap (λ k. slice_get (operations_from first (suc n)) k) place
    ∙ (opening_at (suc first) n i (omega (arith, lt)) ∙ ap (λ k. Some (opening k)) number)

pub closing_at : (first n i : ℕ) → i < n →
    slice_get (operations_from first n) (2 * i + 1) ≡ Some (closing (first + i))
closing_at first zero i lt = absurd (omega (arith, lt))
closing_at first (suc n) zero lt =
    let e : first ≡ first + 0 = omega arith in
    ap (λ k. Some (closing k)) e
closing_at first (suc n) (suc i) lt =
    let place : 2 * suc i + 1 ≡ suc (suc (2 * i + 1)) = omega arith in
    let number : suc first + i ≡ first + suc i = omega arith in
    ap (λ k. slice_get (operations_from first (suc n)) k) place
    ∙ (closing_at (suc first) n i (omega (arith, lt)) ∙ ap (λ k. Some (closing k)) number)

-- the operations are of these switches
pub operations_from_first : (first n k : ℕ) (op : Op) → slice_get (operations_from first n) k ≡ Some op →
    first ≤ op.switch.0
operations_from_first first zero k op at = cc
operations_from_first first (suc n) zero op at =
    let is : first ≡ op.switch.0 = ap (λ (x : Op). x.switch.0) (same_Some (opening first) op at) in
    omega (arith, is)
operations_from_first first (suc n) (suc zero) op at =
    let is : first ≡ op.switch.0 = ap (λ (x : Op). x.switch.0) (same_Some (closing first) op at) in
    omega (arith, is)
operations_from_first first (suc n) (suc (suc k)) op at = omega (arith, operations_from_first (suc first) n k op at)

pub operations_in : (first n k : ℕ) (op : Op) → slice_get (operations_from first n) k ≡ Some op →
    op.switch.0 < first + n
operations_in first zero k op at = cc
operations_in first (suc n) zero op at =
    let is : first ≡ op.switch.0 = ap (λ (x : Op). x.switch.0) (same_Some (opening first) op at) in
    omega (arith, is)
operations_in first (suc n) (suc zero) op at =
    let is : first ≡ op.switch.0 = ap (λ (x : Op). x.switch.0) (same_Some (closing first) op at) in
    omega (arith, is)
operations_in first (suc n) (suc (suc k)) op at = omega (arith, operations_in (suc first) n k op at)

-- a switch of the station has its place in the table of places
pub place_within : (n s count places room : ℕ) → n ≡ s → s < count → places ≡ count → room ≡ places → n < room
place_within n s count places room is low len held = omega arith

-- ---- what is set in a list that is made word by word

pub set_still : (xs : List Bool) (b : Bool) (k : ℕ) → IsSet xs k → IsSet (xs ++ b ∷ []) k
set_still [] b k set = let never : false ≡ true = set in cc never
set_still (x ∷ xs) b zero set = set
set_still (x ∷ xs) b (suc k) set = set_still xs b k set

pub set_last : (xs : List Bool) (b : Bool) (k : ℕ) → k ≡ length xs → b ≡ true → IsSet (xs ++ b ∷ []) k
set_last [] b zero at is = is
set_last [] b (suc k) at is = absurd (omega (arith, at))
set_last (x ∷ xs) b zero at is = absurd (omega (arith, at))
set_last (x ∷ xs) b (suc k) at is = set_last xs b k (omega (arith, at)) is
