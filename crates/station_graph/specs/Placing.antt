-- How a table of paths finds them.
use Rattle.std.specs.Prelude.{◌≡◌, ℕ, List, Option, position}
use Rattle.std.specs.Str.{bytes_eq}
use Rattle.std.specs.declared.rc.RcStr.{RcStr}
use Rattle.std.specs.Rc.{rc_str_bytes}
use Rattle.std.specs.Ordering.{nat_cmp}
use Rattle.std.specs.Cmp.Lexicographic.{slice_cmp}
use Rattle.std.specs.BTreeMap.{BTreeMap, get_by}

-- What the table has at a text.
abbrev pub place_of : {Z : Type 0} → BTreeMap (RcStr Z) ℕ → List ℕ → Option ℕ
place_of places path = get_by (λ k. slice_cmp nat_cmp path (rc_str_bytes k)) places

-- The table has each path's place in the list, and no other text.
abbrev pub ArePlaces : {Z : Type 0} → BTreeMap (RcStr Z) ℕ → List (List ℕ) → Type 0
ArePlaces places paths = (path : List ℕ) → place_of places path ≡ position (bytes_eq path) paths
