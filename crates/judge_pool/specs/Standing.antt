-- Values that stand on other nodes in place of their own.
use Rattle.std.specs.Prelude.{◌≡◌, ◌↔◌, ℕ, ◌&&◌, Bool, List, length, slice_get, Some, Contains, nat_eq}
use Rattle.std.specs.HashMap.{HashMap, get}
use Rattle.contraction.specs.Answers.{Answers, Keeps, AreNodes}
use Rattle.contraction.specs.Renaming.{renamed}
use Rattle.judge_pool.specs.declared.batch.ListStand.{ListStand}
use Rattle.judge_pool.specs.declared.batch.Stand.{Stand}
use Rattle.judge_pool.specs.declared.pool.Pool.{Pool}
use Rattle.judge_pool.specs.Numbered.{letter_lists}
use Rattle.judge_pool.specs.Shapes.{SameAs}

-- The value of the second number is that of the first on these nodes, in the view of the pool.
pub record IsOn (p : Pool) (keep id t : ℕ) : Type 0 where
  pub x : Answers
  pub y : Answers
  pub nodes : List ℕ
  pub first : slice_get p.values.items id ≡ Some x
  pub second : slice_get p.values.items t ≡ Some y
  pub at : slice_get p.keeps.items keep ≡ Some nodes
  pub same : SameAs p.view (renamed nodes x) y

-- The nodes of this number rise, and are as many as the value keeps.
pub record CanStand (p : Pool) (keep id : ℕ) : Type 0 where
  pub x : Answers
  pub nodes : List ℕ
  pub listed : slice_get p.values.items id ≡ Some x
  pub at : slice_get p.keeps.items keep ≡ Some nodes
  pub are : AreNodes nodes
  pub count : length nodes ≡ length x.kept

-- The value keeps just the nodes of this number, in whichever order they are listed.
pub record KeepsNodes (p : Pool) (keep id : ℕ) : Type 0 where
  pub x : Answers
  pub nodes : List ℕ
  pub listed : slice_get p.values.items id ≡ Some x
  pub at : slice_get p.keeps.items keep ≡ Some nodes
  pub same : (n : ℕ) → Keeps x.kept n ↔ Contains nodes n

-- One by one, these are the values of the others on these nodes.
pub record AreOn (p : Pool) (keep : ℕ) (ids ts : List ℕ) : Type 0 where
  pub len : length ts ≡ length ids
  pub each : (k i t : ℕ) → slice_get ids k ≡ Some i → slice_get ts k ≡ Some t → IsOn p keep i t

-- Both are of the same value and the same nodes.
abbrev pub same_stand : Stand → Stand → Bool
same_stand a b = nat_eq a.id b.id && nat_eq a.keep b.keep

-- Each value that is noted for another on some nodes is so.
abbrev pub StandsAreRight : {S : Type 0} → Pool → HashMap Stand ℕ S → Type 0
StandsAreRight p m = (k : Stand) (t : ℕ) → get same_stand m k ≡ Some t → IsOn p k.keep k.id t

-- The list of the second number is, one by one, the values of the list of the first on these nodes.
pub record ListIsOn (p : Pool) (keep list number : ℕ) : Type 0 where
  pub ids : List ℕ
  pub ts : List ℕ
  pub before : slice_get (letter_lists p) list ≡ Some ids
  pub behind : slice_get (letter_lists p) number ≡ Some ts
  pub on : AreOn p keep ids ts

-- Both are of the same list and the same nodes.
abbrev pub same_list_stand : ListStand → ListStand → Bool
same_list_stand a b = nat_eq a.list b.list && nat_eq a.keep b.keep

-- Each list that is noted for another on some nodes is so.
abbrev pub ListStandsAreRight : {S : Type 0} → Pool → HashMap ListStand ℕ S → Type 0
ListStandsAreRight p m = (k : ListStand) (n : ℕ) → get same_list_stand m k ≡ Some n → ListIsOn p k.keep k.list n
