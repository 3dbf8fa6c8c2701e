-- Lines in order mean the same whatever the variables were before, and in whatever order they stand.
use Rattle.std.proofs.Common.{◌≡◌, ◌≢◌, ◌⊎◌, ◌∙◌, ℕ, zero, suc, List, [], ◌∷◌, Bool, true, false, slice_get, Some, refl, sym}
use Rattle.std.proofs.Common.{ap, subst, inl, inr, arith}
use Rattle.structured_text.specs.declared.name.Name.{Name}
use Rattle.structured_text.specs.declared.name.Name.TheVariants.{Off, On, May, Sure, Opens, Closes}
use Rattle.structured_text.specs.declared.line.Line.{Line}
use Rattle.structured_text.specs.Meaning.{Store, value, same_name, assign, after}
use Rattle.structured_text.specs.Reads.{FormulaReads}
use Rattle.structured_text.specs.Order.{IsSetIn, IsSetBefore, AreInOrder, AreAmong}
use Rattle.structured_text.proofs.StoreLemmas.{eq_true, same_true, chosen, passed}
use Rattle.structured_text.proofs.AgreeLemmas.{value_same}
use Rattle.structured_text.proofs.OrderLemmas.{reads_more}

-- what is given to the lines behind the first one
abbrev Given : (Name → Type 0) → Line → Name → Type 0
Given G x m = G m ⊎ (x.name ≡ m)

module _ (G : Name → Type 0) (x : Line) (xs : List Line) (order : AreInOrder G (x ∷ xs)) where
  -- the first line reads what is given
  first_reads : FormulaReads G x.formula
  first_reads = reads_more (λ m. G m ⊎ IsSetBefore (x ∷ xs) 0 m) G given x.formula (order.reads 0 x refl)
    where
      given : (m : Name) → G m ⊎ IsSetBefore (x ∷ xs) 0 m → G m
      given m (inl g) = g
      given m (inr (k, y, low, at, is)) = absurd (omega (arith, low))

  rest_in_order : AreInOrder (Given G x) xs
  rest_in_order = record {
    reads = λ n y at.
        reads_more (λ m. G m ⊎ IsSetBefore (x ∷ xs) (suc n) m) (λ m. Given G x m ⊎ IsSetBefore xs n m) (given n) y.formula
        (order.reads (suc n) y at);
    once = λ n k y z at_y at_z same.
        let e = order.once (suc n) (suc k) y z at_y at_z same in omega (arith, e);
    own = λ n y at h. elim h [
      | inl g ↦ order.own (suc n) y at g
      | inr is ↦ let e = order.once 0 (suc n) x y refl at is in omega (arith, e)
    ];
  }
    where
      given : (n : ℕ) (m : Name) → G m ⊎ IsSetBefore (x ∷ xs) (suc n) m → Given G x m ⊎ IsSetBefore xs n m
      given n m (inl g) = inl (inl g)
      given n m (inr (zero, y, low, at, is)) =
          let same : x ≡ y = cc at in inl (inr (ap (λ (z : Line). z.name) same ∙ is))
      given n m (inr (suc k, y, low, at, is)) = inr (k, y, omega (arith, low), at, is)

nothing : (y : Line) (k : ℕ) → slice_get [] k ≡ Some y → ⊥
nothing y k at = cc at

set_rest : (x : Line) (xs : List Line) (G : Name → Type 0) (m : Name) → G m ⊎ IsSetIn (x ∷ xs) m → Given G x m ⊎ IsSetIn xs m
set_rest x xs G m (inl g) = inl (inl g)
set_rest x xs G m (inr (zero, y, at, is)) =
    let same : x ≡ y = cc at in inl (inr (ap (λ (z : Line). z.name) same ∙ is))
set_rest x xs G m (inr (suc k, y, at, is)) = inr (k, y, at, is)

-- ---- a store in which a variable gets a value
name_self : (m : Name) → same_name m m ≡ true
name_self (Off i) = eq_true i.0 i.0 refl
name_self (On i) = eq_true i.0 i.0 refl
name_self (May k) = eq_true k k refl
name_self (Sure k) = eq_true k k refl
name_self (Opens i) = eq_true i.0 i.0 refl
name_self (Closes i) = eq_true i.0 i.0 refl

itself : (m : Name) (s : Store) (b : Bool) → assign s m b m ≡ b
itself m s b = chosen (same_name m m) b (s m) (name_self m)

other : (n m : Name) → n ≢ m → (s : Store) (b : Bool) → assign s n b m ≡ s m
other n m far s b = by (same_name n m) refl
  where
    by : (q : Bool) → same_name n m ≡ q → assign s n b m ≡ s m
    by true e = absurd (far (same_true n m e))
    by false e = passed (same_name n m) b (s m) e

-- the variable is none that the first line sets
far_from : (G : Name → Type 0) (x : Line) (xs : List Line) → AreInOrder G (x ∷ xs) → (m : Name) → G m → x.name ≢ m
far_from G x xs order m g e = order.own 0 x refl (subst G (sym e) g)

-- ---- what was before does not matter
pub decided : (G : Name → Type 0) (lines : List Line) → AreInOrder G lines → (s t : Store) → ((m : Name) → G m → s m ≡ t m) →
    (m : Name) → G m ⊎ IsSetIn lines m → after lines s m ≡ after lines t m
decided G [] order s t agree m (inl g) = agree m g
decided G [] order s t agree m (inr (k, y, at, is)) = absurd (nothing y k at)
decided G (x ∷ xs) order s t agree m h =
    let e = value_same G G s t (λ n p q. agree n p) x.formula (first_reads G x xs order) (first_reads G x xs order) in
    decided (Given G x) xs (rest_in_order G x xs order) (assign s x.name (value s x.formula))
    (assign t x.name (value t x.formula)) (λ n k. step n k e) m (set_rest x xs G m h)
  where
    step : (n : Name) → Given G x n → value s x.formula ≡ value t x.formula →
        assign s x.name (value s x.formula) n ≡ assign t x.name (value t x.formula) n
    step n (inl g) e =
        let far = far_from G x xs order n g in
        other x.name n far s (value s x.formula) ∙ (agree n g ∙ sym (other x.name n far t (value t x.formula)))
    step n (inr is) e =
        subst (λ k. assign s x.name (value s x.formula) k ≡ assign t x.name (value t x.formula) k) is
        (itself x.name s (value s x.formula) ∙ (e ∙ sym (itself x.name t (value t x.formula))))

-- ---- each line holds behind all of them
given_stays : (G : Name → Type 0) (lines : List Line) → AreInOrder G lines → (s : Store) (m : Name) → G m →
    after lines s m ≡ s m
given_stays G [] order s m g = refl
given_stays G (x ∷ xs) order s m g =
    given_stays (Given G x) xs (rest_in_order G x xs order) (assign s x.name (value s x.formula)) m (inl g)
    ∙ other x.name m (far_from G x xs order m g) s (value s x.formula)

holds : (G : Name → Type 0) (lines : List Line) → AreInOrder G lines → (s : Store) (n : ℕ) (x : Line) →
    slice_get lines n ≡ Some x → after lines s x.name ≡ value (after lines s) x.formula
holds G [] order s n x at = absurd (nothing x n at)
holds G (x ∷ xs) order s zero y at =
    let same : x ≡ y = cc at in
    let s1 = assign s x.name (value s x.formula) in
    let rest = rest_in_order G x xs order in
    let reads = first_reads G x xs order in
    subst (λ (z : Line). after xs s1 z.name ≡ value (after xs s1) z.formula) same
    (given_stays (Given G x) xs rest s1 x.name (inr refl)
    ∙ (itself x.name s (value s x.formula)
    ∙ value_same G G s (after xs s1)
    (λ m g q.
    sym (given_stays (Given G x) xs rest s1 m (inl g) ∙ other x.name m (far_from G x xs order m g) s (value s x.formula)))
    x.formula reads reads))
holds G (x ∷ xs) order s (suc n) y at =
    holds (Given G x) xs (rest_in_order G x xs order) (assign s x.name (value s x.formula)) n y at

-- ---- lines that hold in a store lead to it
leads_to : (G : Name → Type 0) (lines : List Line) → AreInOrder G lines → (u t : Store) → ((m : Name) → G m → t m ≡ u m) →
    ((n : ℕ) (y : Line) → slice_get lines n ≡ Some y → u y.name ≡ value u y.formula) → (m : Name) →
    G m ⊎ IsSetIn lines m → after lines t m ≡ u m
leads_to G [] order u t agree there m (inl g) = agree m g
leads_to G [] order u t agree there m (inr (k, y, at, is)) = absurd (nothing y k at)
leads_to G (x ∷ xs) order u t agree there m h =
    let reads = first_reads G x xs order in
    let e = value_same G G t u (λ n p q. agree n p) x.formula reads reads ∙ sym (there 0 x refl) in
    leads_to (Given G x) xs (rest_in_order G x xs order) u (assign t x.name (value t x.formula)) (λ n k. step n k e)
    (λ n y at. there (suc n) y at) m (set_rest x xs G m h)
  where
    step : (n : Name) → Given G x n → value t x.formula ≡ u x.name → assign t x.name (value t x.formula) n ≡ u n
    step n (inl g) e = other x.name n (far_from G x xs order n g) t (value t x.formula) ∙ agree n g
    step n (inr is) e =
        subst (λ k. assign t x.name (value t x.formula) k ≡ u k) is (itself x.name t (value t x.formula) ∙ e)

-- ---- lines in another order
pub same_meaning : (G : Name → Type 0) (lines more : List Line) (s : Store) → AreInOrder G lines → AreInOrder G more →
    AreAmong more lines → (m : Name) → IsSetIn more m → after more s m ≡ after lines s m
same_meaning G lines more s one two among m set =
    leads_to G more two (after lines s) s (λ n g. sym (given_stays G lines one s n g))
    (λ n y at.
    let (k, z, at_z, name, formula) = among n y at in
    ap (after lines s) (sym name) ∙ (holds G lines one s k z at_z ∙ ap (value (after lines s)) formula)) m (inr set)
