-- A pool that grows.
use Rattle.std.proofs.Common.{◌≡◌, ℕ, ◌*◌, ◌/◌, ◌<◌, ◌≤◌, List, [], ◌∷◌}
use Rattle.std.proofs.Common.{length, get_or, slice_get, Some, refl, sym, ap, ◌∙◌, inl, inr, arith}
use Rattle.std.proofs.lemmas.Option.{slice_get_within, slice_get-get_or, same_Some}
use Rattle.std.proofs.Math.Nat.{div-mul-le_self, mul-le-mul_left, mul-le-mul_right}
use Rattle.std.proofs.lemmas.Bool.{cases_lt}
use Rattle.contraction.specs.Answers.{Answers}
use Rattle.judge_pool.specs.declared.pool.Pool.{Pool}
use Rattle.judge_pool.specs.Numbered.{letter_lists}
use Rattle.judge_pool.specs.Pooling.{Extends, IsPool, GrewTo, EitherKeeps}
use Rattle.judge_pool.specs.Folding.{AreApartIn, AreRising}
use Rattle.judge_pool.specs.Layering.{no_answers}

-- ---- products

pub at_least : (n w : ℕ) → 0 < w → n ≤ n * w
at_least n w some = omega (arith, mul-le-mul_left n (let h : 1 ≤ w = omega (arith, some) in h))

-- ---- growing

-- No two values are the same, and the nodes that each keeps rise.
pub record AreSound (p : Pool) : Type 0 where
  pub apart : AreApartIn p.view p.values.items
  pub rising : AreRising p.values.items

-- All that the one has is what the other has.
pub record Grows (old new : Pool) : Type 0 where
  pub view : new.view ≡ old.view
  pub keeps : Extends old.keeps.items new.keeps.items
  pub values : Extends old.values.items new.values.items
  pub letters : Extends (letter_lists old) (letter_lists new)

pub sound : (p : Pool) → IsPool p → AreSound p
sound p h = record { apart = h.apart; rising = λ t r at. (h.well t r at).nodes.rises }

pub grows : (p q : Pool) → GrewTo p q → Grows p q
grows p q g = record { view = g.view; keeps = g.keeps; values = g.values; letters = g.letters }

-- a pool of which nothing was taken
pub grew_of : (p q : Pool) → IsPool q → Grows p q → GrewTo p q
grew_of p q h g = record {
  is_pool = h;
  view = g.view;
  keeps = g.keeps;
  values = g.values;
  letters = g.letters;
}

pub grows_same : (p : Pool) → Grows p p
grows_same p = record {
  view = refl;
  keeps = λ k ns at. at;
  values = λ i x at. at;
  letters = λ l ids at. at;
}

pub grows_more : (p q r : Pool) → Grows p q → Grows q r → Grows p r
grows_more p q r a b = record {
  view = b.view ∙ a.view;
  keeps = λ k ns at. b.keeps k ns (a.keeps k ns at);
  values = λ i x at. b.values i x (a.values i x at);
  letters = λ l ids at. b.letters l ids (a.letters l ids at);
}

pub grew_same : (p : Pool) → IsPool p → GrewTo p p
grew_same p h = grew_of p p h (grows_same p)

pub grew_more : (p q r : Pool) → GrewTo p q → GrewTo q r → GrewTo p r
grew_more p q r a b = grew_of p r b.is_pool (grows_more p q r (grows p q a) (grows q r b))

pub value_in : (p q : Pool) (i : ℕ) (d : Answers) → Grows p q → i < length p.values.items → i < length q.values.items
value_in p q i d g lt =
    slice_get_within q.values.items i (get_or p.values.items i d)
    (g.values i (get_or p.values.items i d) (slice_get-get_or p.values.items i d lt))

pub grew_in : (p q : Pool) (i : ℕ) (d : Answers) → GrewTo p q → i < length p.values.items → i < length q.values.items
grew_in p q i d g lt = value_in p q i d (grows p q g) lt

-- lists of nodes that were there are there
pub list_in : (p q : Pool) (k : ℕ) → Grows p q → k < length p.keeps.items → k < length q.keeps.items
list_in p q k g lt =
    slice_get_within q.keeps.items k (get_or p.keeps.items k [])
    (g.keeps k (get_or p.keeps.items k []) (slice_get-get_or p.keeps.items k [] lt))

pub keep_in : (p q : Pool) (k : ℕ) → GrewTo p q → k < length p.keeps.items → k < length q.keeps.items
keep_in p q k g lt = list_in p q k (grows p q g) lt

pub list_was : (p q : Pool) (k : ℕ) (nodes : List ℕ) → Grows p q → k < length p.keeps.items →
    slice_get q.keeps.items k ≡ Some nodes → slice_get p.keeps.items k ≡ Some nodes
list_was p q k nodes g lt at =
    let was = slice_get-get_or p.keeps.items k [] lt in
    was ∙ (sym (g.keeps k (get_or p.keeps.items k []) was) ∙ at)

pub keep_was : (p q : Pool) (k : ℕ) (nodes : List ℕ) → GrewTo p q → k < length p.keeps.items →
    slice_get q.keeps.items k ≡ Some nodes → slice_get p.keeps.items k ≡ Some nodes
keep_was p q k nodes g lt at = list_was p q k nodes (grows p q g) lt at

-- ---- places of edges

pub nil_of_len : {X : Type 0} (xs : List X) → length xs ≡ 0 → xs ≡ []
nil_of_len [] e = refl
nil_of_len (x ∷ xs) e = absurd (omega (arith, e))

pub state_in : (p n w : ℕ) → p < n * w → p / w < n
state_in p n w lt = elim (cases_lt (p / w) n) [
  | inl less ↦ less
  | inr more ↦
      let le : n * w ≤ p / w * w = mul-le-mul_right w (let h : n ≤ p / w = omega arith in h) in
      absurd (omega (arith, lt, le, div-mul-le_self p w))
]

pub either_more : (p q : Pool) (i j k : ℕ) (d : Answers) → GrewTo p q → i < length p.values.items →
    j < length p.values.items → k < length p.keeps.items → EitherKeeps p i j k → EitherKeeps q i j k
either_more p q i j k d g i_in j_in k_in either x y nodes at_x at_y at_n =
    let x0 : Answers = get_or p.values.items i d in
    let y0 : Answers = get_or p.values.items j d in
    let x_was : slice_get p.values.items i ≡ Some x0 = slice_get-get_or p.values.items i d i_in in
    let y_was : slice_get p.values.items j ≡ Some y0 = slice_get-get_or p.values.items j d j_in in
    let x_is : x0 ≡ x = same_Some x0 x (sym (g.values i x0 x_was) ∙ at_x) in
    let y_is : y0 ≡ y = same_Some y0 y (sym (g.values j y0 y_was) ∙ at_y) in
    either x y nodes (x_was ∙ ap Some x_is) (y_was ∙ ap Some y_is) (keep_was p q k nodes g k_in at_n)

-- values that were there are there
pub value_was : (p q : Pool) (i : ℕ) (x : Answers) → Grows p q → i < length p.values.items →
    slice_get q.values.items i ≡ Some x → slice_get p.values.items i ≡ Some x
value_was p q i x g lt at =
    let was = slice_get-get_or p.values.items i no_answers lt in
    was ∙ (sym (g.values i (get_or p.values.items i no_answers) was) ∙ at)
