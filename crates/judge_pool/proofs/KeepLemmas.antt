-- The numbers of lists of nodes, while the pool grows.
use Rattle.std.proofs.Common.{◌≡◌, ℕ, Bool, true, false, cond, [], slice_get, Some, Vec, Global, refl, sym, ap}
use Rattle.std.proofs.Common.{◌∙◌}
use Rattle.std.specs.HashMap.{HashMap, get, Updates}
use Rattle.std.proofs.lemmas.Bool.Decides.{Decides-eqb}
use Rattle.std.proofs.lemmas.Option.{same_Some}
use Rattle.std.proofs.lemmas.Slice.Eq.{slice_eq-Decides}
use Rattle.judge_pool.specs.declared.pool.Pool.{Pool}
use Rattle.judge_pool.specs.Keeping.{same_list, NumbersAreRight}
use Rattle.judge_pool.proofs.LayeringLemmas.{Grows}

list_is : (x y : Vec ℕ Global) → same_list x y ≡ true → x.items ≡ y.items
list_is x y e = (slice_eq-Decides Decides-eqb x.items y.items _ refl).0 e

pub numbers_stay : {S : Type 0} (p q : Pool) → Grows p q → (m : HashMap (Vec ℕ Global) ℕ S) → NumbersAreRight p m →
    NumbersAreRight q m
numbers_stay p q g m right nodes k e = g.keeps k nodes.items (right nodes k e)

pub numbers_more : {S : Type 0} (p : Pool) (old new : HashMap (Vec ℕ Global) ℕ S) (nodes : Vec ℕ Global) (k : ℕ) →
    NumbersAreRight p old → slice_get p.keeps.items k ≡ Some nodes.items → Updates same_list old new nodes (Some k) →
    NumbersAreRight p new
numbers_more p old new nodes k right at updates other t e =
    by_list (same_list nodes other) refl (sym (updates.0 other) ∙ e)
  where
    by_list : (same : Bool) → same_list nodes other ≡ same → cond same (Some k) (get same_list old other) ≡ Some t →
        slice_get p.keeps.items t ≡ Some other.items
    by_list true same is =
        ap (slice_get p.keeps.items) (sym (same_Some k t is)) ∙ (at ∙ ap Some (list_is nodes other same))
    by_list false same is = right other t is

pub none_noted : {S : Type 0} (m : HashMap (Vec ℕ Global) ℕ S) → m.entries ≡ [] → (nodes : Vec ℕ Global) (k : ℕ) →
    get same_list m nodes ≡ Some k → ⊥
none_noted m em nodes k e = let h = rw em at e in cc
