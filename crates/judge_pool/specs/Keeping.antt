-- The numbers of the lists of nodes that a pool has.
use Rattle.std.specs.Prelude.{◌≡◌, ℕ, Bool, Some, Vec, slice_get, nat_eq}
use Rattle.std.specs.declared.alloc.Global.{Global}
use Rattle.std.specs.Cmp.Lexicographic.{pointwise}
use Rattle.std.specs.HashMap.{HashMap, get}
use Rattle.judge_pool.specs.declared.pool.Pool.{Pool}

-- Both lists have the same numbers in the same order.
abbrev pub same_list : Vec ℕ Global → Vec ℕ Global → Bool
same_list x y = pointwise nat_eq x.items y.items

-- Each list of nodes that is noted has its number.
abbrev pub NumbersAreRight : {S : Type 0} → Pool → HashMap (Vec ℕ Global) ℕ S → Type 0
NumbersAreRight p m =
    (nodes : Vec ℕ Global) (k : ℕ) → get same_list m nodes ≡ Some k → slice_get p.keeps.items k ≡ Some nodes.items
