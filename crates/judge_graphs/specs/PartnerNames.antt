-- The rows by which labels are told apart, and an index of them.
use Rattle.std.specs.Prelude.{◌≡◌, ◌≢◌, ℕ, ◌<◌, List, map, Option, Some, None, Vec, nat_eq}
use Rattle.std.specs.declared.alloc.Global.{Global}
use Rattle.std.specs.Cmp.Lexicographic.{pointwise}
use Rattle.std.specs.HashMap.{HashMap, get}
use Rattle.decision_graphs.specs.Label.{Layered, place_after}
use Rattle.judge_graphs.specs.PartnerLabels.{entry}

-- Where each inner graph leads a label.
abbrev pub entries : List Layered → ℕ → List ℕ
entries inners x = map (λ (g : Layered). place_after g 0 (entry g x)) inners

-- The label that the index names for a row.
abbrev pub label_named : {S : Type 0} → HashMap (Vec ℕ Global) ℕ S → Vec ℕ Global → Option ℕ
label_named m row = get (λ x y. pointwise nat_eq x.items y.items) m row

-- Of the labels with this row the label y is the first.
pub record IsFirstOf (rows : ℕ → List ℕ) (row : List ℕ) (y : ℕ) : Type 0 where
  pub same : rows y ≡ row
  pub first : (z : ℕ) → z < y → rows z ≢ row

-- The index names, for each row of one of the first n labels, the first label with that row, and none for another row.
pub record IsIndexOf {S : Type 0} (rows : ℕ → List ℕ) (n : ℕ) (m : HashMap (Vec ℕ Global) ℕ S) : Type 0 where
  pub found : (row : Vec ℕ Global) (y : ℕ) → label_named m row ≡ Some y → (y < n) × IsFirstOf rows row.items y
  pub missing : (row : Vec ℕ Global) → label_named m row ≡ None → (z : ℕ) → z < n → rows z ≢ row.items
