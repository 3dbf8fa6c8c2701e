-- Terms in order have exactly one solution, and evaluation in order gives it.
use Rattle.std.proofs.Common.{◌≡◌, ◌↔◌, ◌⊎◌, ◌++◌, ◌<◌, ◌≤◌, ◌+◌, ◌&&◌, ◌||◌, ℕ, zero, suc, Bool, true, false, List, [], ◌∷◌}
use Rattle.std.proofs.Common.{length, slice_get, get_or, Some, refl, sym, ◌∙◌, ap, subst, inl, inr, arith, append_assoc}
use Rattle.std.proofs.lemmas.List.{length_push}
use Rattle.std.proofs.lemmas.Option.{slice_get_within, slice_get-get_or, get_or_from_slice_get}
use Rattle.interlock_terms.specs.declared.term.Term.{Term}
use Rattle.interlock_terms.specs.declared.term.Term.TheVariants.{Always, Closed, Both, Either}
use Rattle.interlock_terms.proofs.TermLemmas.{push_cases}
use Rattle.interlock_terms.specs.Terms.{Values, Solves, IsTrueAt, Says, RefersBelow, AreOrdered, value_of, evaluated}

push_old : {X : Type 0} (xs : List X) (y x : X) (i : ℕ) → slice_get xs i ≡ Some x → slice_get (xs ++ y ∷ []) i ≡ Some x
push_old [] y x i e = cc
push_old (z ∷ zs) y x zero e = e
push_old (z ∷ zs) y x (suc i) e = push_old zs y x i e

push_last : {X : Type 0} (xs : List X) (y : X) → slice_get (xs ++ y ∷ []) (length xs) ≡ Some y
push_last [] y = refl
push_last (z ∷ zs) y = push_last zs y

true_read : (xs : List Bool) (n : ℕ) → get_or xs n false ≡ true → slice_get xs n ≡ Some true
true_read [] n e = cc
true_read (x ∷ xs) zero e = ap Some e
true_read (x ∷ xs) (suc n) e = true_read xs n e

both_true : (a b : Bool) → (a && b) ≡ true → (a ≡ true) × (b ≡ true)
both_true true b e = (refl, e)
both_true false b e = cc

true_both : (a b : Bool) → a ≡ true → b ≡ true → (a && b) ≡ true
true_both true b e f = f
true_both false b e f = cc

one_true : (a b : Bool) → (a || b) ≡ true → (a ≡ true) ⊎ (b ≡ true)
one_true true b e = inl refl
one_true false b e = inr e

true_first : (a b : Bool) → a ≡ true → (a || b) ≡ true
true_first true b e = refl
true_first false b e = cc

true_second : (a b : Bool) → b ≡ true → (a || b) ≡ true
true_second true b e = refl
true_second false b e = e

module _ (closed : List Bool) where
  abbrev At : List Bool → Values
  At done = record { closed = closed; terms = done }

  value_says : (done : List Bool) (t : Term) → (value_of closed done t ≡ true) ↔ Says (At done) t
  value_says done Always = (λ e. tt, λ h. refl)
  value_says done (Closed s) = (true_read closed s.0, get_or_from_slice_get closed s.0 true false)
  value_says done (Both a b) = (
    λ e. let h = both_true (get_or done a false) (get_or done b false) e in (true_read done a h.0, true_read done b h.1),
    λ h. true_both (get_or done a false) (get_or done b false) (get_or_from_slice_get done a true false h.0)
        (get_or_from_slice_get done b true false h.1),
  )
  value_says done (Either a b) = (
    λ e. elim (one_true (get_or done a false) (get_or done b false) e) [
      | inl h ↦ inl (true_read done a h)
      | inr h ↦ inr (true_read done b h)
    ],
    λ h. elim h [
      | inl k ↦ true_first (get_or done a false) (get_or done b false) (get_or_from_slice_get done a true false k)
      | inr k ↦ true_second (get_or done a false) (get_or done b false) (get_or_from_slice_get done b true false k)
    ],
  )

  module _ (done : List Bool) (x : Bool) where
    -- a value more changes none before it
    true_more : (n : ℕ) → n < length done → IsTrueAt (At (done ++ x ∷ [])) n ↔ IsTrueAt (At done) n
    true_more n low = (
      λ h. elim (push_cases done x true n h) [
        | inl k ↦ k
        | inr k ↦ let e = k.0 in absurd (omega (arith, e, low))
      ],
      λ h. push_old done x true n h,
    )

    says_more : (n : ℕ) (t : Term) → RefersBelow n t → n ≤ length done → Says (At (done ++ x ∷ [])) t ↔ Says (At done) t
    says_more n Always r low = (λ h. h, λ h. h)
    says_more n (Closed s) r low = (λ h. h, λ h. h)
    says_more n (Both a b) r low =
        let ra = r.0 in
        let rb = r.1 in
        let ha = true_more a (omega (arith, ra, low)) in
        let hb = true_more b (omega (arith, rb, low)) in
        (λ h. (ha.0 h.0, hb.0 h.1), λ h. (ha.1 h.0, hb.1 h.1))
    says_more n (Either a b) r low =
        let ra = r.0 in
        let rb = r.1 in
        let ha = true_more a (omega (arith, ra, low)) in
        let hb = true_more b (omega (arith, rb, low)) in (
          λ h. elim h [ inl k ↦ inl (ha.0 k) | inr k ↦ inr (hb.0 k) ],
          λ h. elim h [ inl k ↦ inl (ha.1 k) | inr k ↦ inr (hb.1 k) ],
        )

  step : (terms : List Term) (done : List Bool) (t : Term) → length done ≡ length terms →
      AreOrdered (terms ++ t ∷ []) → Solves (At done) terms →
      Solves (At (done ++ value_of closed done t ∷ [])) (terms ++ t ∷ [])
  step terms done t len ordered solves n u at =
      let x = value_of closed done t in
      elim (push_cases terms t u n at) [
        | inl old ↦
            let low = slice_get_within terms n u old in
            let r : RefersBelow n u = ordered n u (push_old terms t u n old) in
            let v = true_more done x n (omega (arith, low, len)) in
            let s = says_more done x n u r (omega (arith, low, len)) in
            let h = solves n u old in
            (λ k. s.1 (h.0 (v.0 k)), λ k. v.1 (h.1 (s.0 k)))
        | inr new ↦
            let e : n ≡ length done = new.0 ∙ sym len in
            let r : RefersBelow n t =
            ordered n t (subst (λ (k : ℕ). slice_get (terms ++ t ∷ []) k ≡ Some t) (sym new.0) (push_last terms t)) in
            let s = says_more done x n t r (omega (arith, e)) in
            let last : slice_get (done ++ x ∷ []) n ≡ Some x =
            subst (λ (k : ℕ). slice_get (done ++ x ∷ []) k ≡ Some x) (sym e) (push_last done x) in
            let w = value_says done t in
            subst (λ (z : Term). IsTrueAt (At (done ++ x ∷ [])) n ↔ Says (At (done ++ x ∷ [])) z) new.1 (
              λ k. let y : x ≡ true = cc (last, k) in s.1 (w.0 y),
              λ k. last ∙ ap Some (w.1 (s.0 k)),
            )
      ]

  goes : (terms : List Term) (done : List Bool) (more : List Term) → length done ≡ length terms →
      AreOrdered (terms ++ more) → Solves (At done) terms → Solves (At (evaluated closed done more)) (terms ++ more)
  goes terms done [] len ordered solves = λ n t at. solves n t (nil_right terms n t at)
    where
      nil_right : (xs : List Term) (n : ℕ) (t : Term) → slice_get (xs ++ []) n ≡ Some t → slice_get xs n ≡ Some t
      nil_right [] n t e = e
      nil_right (x ∷ xs) zero t e = e
      nil_right (x ∷ xs) (suc n) t e = nil_right xs n t e
  goes terms done (t ∷ ts) len ordered solves =
      let x = value_of closed done t in
      let split : (terms ++ t ∷ []) ++ ts ≡ terms ++ t ∷ ts = append_assoc terms (t ∷ []) ts in
      let l1 = length_push done x in
      let l2 = length_push terms t in
      let whole : AreOrdered ((terms ++ t ∷ []) ++ ts) = subst AreOrdered (sym split) ordered in
      let front : AreOrdered (terms ++ t ∷ []) = λ n u at. whole n u (front_get (terms ++ t ∷ []) ts n u at) in
      subst (λ (l : List Term). Solves (At (evaluated closed (done ++ x ∷ []) ts)) l) split
      (goes (terms ++ t ∷ []) (done ++ x ∷ []) ts (omega (arith, l1, l2, len)) whole
      (step terms done t len front solves))
    where
      front_get : (xs ys : List Term) (n : ℕ) (u : Term) → slice_get xs n ≡ Some u → slice_get (xs ++ ys) n ≡ Some u
      front_get [] ys n u e = cc
      front_get (z ∷ zs) ys zero u e = e
      front_get (z ∷ zs) ys (suc n) u e = front_get zs ys n u e

  -- EVALUATION IN ORDER SOLVES THE TERMS
  pub evaluated_solves : (terms : List Term) → AreOrdered terms → Solves (At (evaluated closed [] terms)) terms
  evaluated_solves terms ordered = goes [] [] terms refl ordered (λ n t at. cc)

-- MONOTONE: with more switches closed no term is less true. So with the same switches closed there is ONE SOLUTION.
module _ (v w : Values) (terms : List Term) (ordered : AreOrdered terms) (sv : Solves v terms) (sw : Solves w terms)
    (more : (i : ℕ) → slice_get v.closed i ≡ Some true → slice_get w.closed i ≡ Some true) where
  says_over : (u : Term) (n : ℕ) → RefersBelow n u →
      ((a : ℕ) → a < n → IsTrueAt v a → IsTrueAt w a) → Says v u → Says w u
  says_over Always n r below i = tt
  says_over (Closed s) n r below i = more s.0 i
  says_over (Both a b) n r below i = (below a r.0 i.0, below b r.1 i.1)
  says_over (Either a b) n r below (inl i) = inl (below a r.0 i)
  says_over (Either a b) n r below (inr i) = inr (below b r.1 i)

  one : (bound n : ℕ) → n < bound → (t : Term) → slice_get terms n ≡ Some t → IsTrueAt v n → IsTrueAt w n
  one zero n low t at h = absurd (omega (arith, low))
  one (suc k) n low t at h =
      (sw n t at).1 (says_over t n (ordered n t at)
      (λ a less i.
      let n_in = slice_get_within terms n t at in
      let a_in : a < length terms = omega (arith, less, n_in) in
      one k a (omega (arith, less, low)) (get_or terms a Always) (slice_get-get_or terms a Always a_in) i)
      ((sv n t at).0 h))

  pub more_true : (n : ℕ) (t : Term) → slice_get terms n ≡ Some t → IsTrueAt v n → IsTrueAt w n
  more_true n t at h = one (n + 1) n (omega arith) t at h

pub one_solution : (v w : Values) (terms : List Term) → AreOrdered terms → Solves v terms → Solves w terms →
    v.closed ≡ w.closed → (n : ℕ) (t : Term) → slice_get terms n ≡ Some t → IsTrueAt v n → IsTrueAt w n
one_solution v w terms ordered sv sw same =
    more_true v w terms ordered sv sw (λ i e. subst (λ (c : List Bool). slice_get c i ≡ Some true) same e)

-- no more values than terms
evaluated_length : (closed done : List Bool) (terms : List Term) →
    length (evaluated closed done terms) ≡ length done + length terms
evaluated_length closed done [] = omega arith
evaluated_length closed done (t ∷ ts) =
    let e = evaluated_length closed (done ++ value_of closed done t ∷ []) ts in
    let l = length_push done (value_of closed done t) in
    omega (arith, e, l)

pub evaluated_within : (closed : List Bool) (terms : List Term) (n : ℕ) →
    IsTrueAt (record { closed = closed; terms = evaluated closed [] terms }) n → n < length terms
evaluated_within closed terms n h =
    let low = slice_get_within (evaluated closed [] terms) n true h in
    let e = evaluated_length closed [] terms in
    omega (arith, low, e)
