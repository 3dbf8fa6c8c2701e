-- Terms that grow keep their values.
use Rattle.std.proofs.Common.{◌≡◌, ℕ, zero, suc, List, [], ◌∷◌, ◌++◌, slice_get, Some, sym, ◌∙◌, ap, subst, append_assoc, refl}
use Rattle.interlock_terms.specs.declared.term.Term.{Term}
use Rattle.std.proofs.Common.{◌⊎◌, length, Option, None, inl, inr}
use Rattle.interlock_terms.specs.declared.term.Term.TheVariants.{Always, Closed, Both, Either}
use Rattle.interlock_terms.specs.Terms.{Values, Solves, Grew, IsTrueAt, Implies, MeansBoth, MeansEither, IsWeaker}
use Rattle.interlock_terms.specs.Terms.{IsStronger, Says, AreOrdered, RefersBelow}

-- an element of a list with one more at its end is one of the list, or the one more
pub push_cases : {X : Type 0} (xs : List X) (y x : X) (i : ℕ) → slice_get (xs ++ y ∷ []) i ≡ Some x →
    (slice_get xs i ≡ Some x) ⊎ ((i ≡ length xs) × (y ≡ x))
push_cases [] y x zero e = inr (refl, cc)
push_cases [] y x (suc i) e = cc
push_cases (z ∷ zs) y x zero e = inl e
push_cases (z ∷ zs) y x (suc i) e = elim (push_cases zs y x i e) [
  | inl h ↦ inl h
  | inr h ↦ inr (ap suc h.0, h.1)
]

left_get : {X : Type 0} (xs ys : List X) (x : X) (i : ℕ) → slice_get xs i ≡ Some x → slice_get (xs ++ ys) i ≡ Some x
left_get [] ys x i e = cc
left_get (z ∷ zs) ys x zero e = e
left_get (z ∷ zs) ys x (suc i) e = left_get zs ys x i e

pub grew_get : (old new : List Term) → Grew old new → (n : ℕ) (t : Term) → slice_get old n ≡ Some t →
    slice_get new n ≡ Some t
grew_get old new g n t at = subst (λ ts. slice_get ts n ≡ Some t) (sym g.is) (left_get old g.more t n at)

pub grew_solves : (old new : List Term) (v : Values) → Grew old new → Solves v new → Solves v old
grew_solves old new v g s n t at =
    s n t (subst (λ ts. slice_get ts n ≡ Some t) (sym g.is) (left_get old g.more t n at))

right_nil : {X : Type 0} (xs : List X) → xs ≡ xs ++ []
right_nil [] = refl
right_nil (x ∷ xs) = ap (λ ys. x ∷ ys) (right_nil xs)

pub grew_not : (old : List Term) → Grew old old
grew_not old = record { more = []; is = right_nil old }

pub grew_on : (a b c : List Term) → Grew a b → Grew b c → Grew a c
grew_on a b c g h = record {
  more = g.more ++ h.more;
  is = h.is ∙ (ap (λ xs. xs ++ h.more) g.is ∙ append_assoc a g.more h.more);
}

-- what one term tells of another by its form
weaker_says : (v : Values) (t : Term) (n : ℕ) → IsWeaker (Some t) n → IsTrueAt v n → Says v t
weaker_says v Always n w h = tt
weaker_says v (Closed s) n w h = absurd w
weaker_says v (Both a b) n w h = absurd w
weaker_says v (Either a b) n (inl e) h = inl (subst (IsTrueAt v) (sym e) h)
weaker_says v (Either a b) n (inr e) h = inr (subst (IsTrueAt v) (sym e) h)

stronger_says : (v : Values) (t : Term) (n : ℕ) → IsStronger (Some t) n → Says v t → IsTrueAt v n
stronger_says v Always n w h = absurd w
stronger_says v (Closed s) n w h = absurd w
stronger_says v (Both a b) n (inl e) h = subst (IsTrueAt v) e h.0
stronger_says v (Both a b) n (inr e) h = subst (IsTrueAt v) e h.1
stronger_says v (Either a b) n w h = absurd w

pub implies_same : (terms : List Term) (a b : ℕ) → a ≡ b → Implies terms a b
implies_same terms a b e v solves h = subst (IsTrueAt v) e h

pub implies_weaker : (terms : List Term) (a b : ℕ) (o : Option Term) → o ≡ slice_get terms b → IsWeaker o a →
    Implies terms a b
implies_weaker terms a b None at w = absurd w
implies_weaker terms a b (Some t) at w = λ v solves h. (solves b t (sym at)).1 (weaker_says v t a w h)

pub implies_stronger : (terms : List Term) (a b : ℕ) (o : Option Term) → o ≡ slice_get terms a → IsStronger o b →
    Implies terms a b
implies_stronger terms a b None at w = absurd w
implies_stronger terms a b (Some t) at w = λ v solves h. stronger_says v t b w ((solves a t (sym at)).0 h)

pub both_first : (terms : List Term) (a b : ℕ) → Implies terms a b → MeansBoth terms a a b
both_first terms a b i v solves = (λ h. (h, i v solves h), λ h. h.0)

pub both_second : (terms : List Term) (a b : ℕ) → Implies terms b a → MeansBoth terms b a b
both_second terms a b i v solves = (λ h. (i v solves h, h), λ h. h.1)

pub both_made : (terms : List Term) (n a b : ℕ) → slice_get terms n ≡ Some (Both a b) → MeansBoth terms n a b
both_made terms n a b at v solves = solves n (Both a b) at

pub either_first : (terms : List Term) (a b : ℕ) → Implies terms b a → MeansEither terms a a b
either_first terms a b i v solves = (λ h. inl h, λ h. elim h [ inl x ↦ x | inr y ↦ i v solves y ])

pub either_second : (terms : List Term) (a b : ℕ) → Implies terms a b → MeansEither terms b a b
either_second terms a b i v solves = (λ h. inr h, λ h. elim h [ inl x ↦ i v solves x | inr y ↦ y ])

pub either_made : (terms : List Term) (n a b : ℕ) → slice_get terms n ≡ Some (Either a b) → MeansEither terms n a b
either_made terms n a b at v solves = solves n (Either a b) at

pub both_grew : (old new : List Term) (n a b : ℕ) → Grew old new → MeansBoth old n a b → MeansBoth new n a b
both_grew old new n a b g m v solves = m v (grew_solves old new v g solves)

-- the terms grow by one at the end
pub pushed_grew : (terms : List Term) (t : Term) → Grew terms (terms ++ t ∷ [])
pushed_grew terms t = record { more = t ∷ []; is = refl }

-- terms stay in order where one that names earlier ones is put at the end
pub pushed_ordered : (terms : List Term) (t : Term) → AreOrdered terms → RefersBelow (length terms) t →
    AreOrdered (terms ++ t ∷ [])
pushed_ordered terms t ordered below n u at = elim (push_cases terms t u n at) [
  | inl old ↦ ordered n u old
  | inr new ↦ subst (λ k. RefersBelow k u) (sym new.0) (subst (RefersBelow (length terms)) new.1 below)
]
