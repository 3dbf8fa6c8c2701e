-- Where a judge puts the other parts, and over which vectors it decides.
use Rattle.std.specs.Prelude.{ℕ, ◌<◌, Bool, List, Option, IfSome}
use Rattle.std.specs.Borrow.{Bor}
use Rattle.ilk_base.specs.declared.words.Dbpos.{Dbpos}
use Rattle.station_graph.specs.Diagram.{Diagram}
use Rattle.station_graph.specs.Alike.{IsVector}
use Rattle.part_alphabets.specs.PartAlphabets.{Alphabets, StandsAt, IsPosition}
use Rattle.part_alphabets.specs.Alphabets.{HasIndex}
use Rattle.double_points.specs.Words.{BayAgrees}
use Rattle.release_compile.specs.declared.all_words.AllWords.{AllWords}
use Rattle.judge_pool.specs.Lettered.{Lettered}
use Rattle.judge_pool.specs.Graphs.{other_of}
use Rattle.release_compile.specs.Allowed.{Within}

-- The number is a position in which the part has the index; where the words of all switches are known, one that agrees
-- with them.
pub record IsPlaceFor (known : Option (Bor AllWords)) (d : Diagram) (a : Alphabets) (part index n : ℕ) : Type 0 where
  pub position : IsPosition a part n
  pub has : (v : List Bool) → IsVector d v → StandsAt a part n v → HasIndex d a part index v
  pub agrees : IfSome known (λ w. (v : List Bool) → IsVector d v → StandsAt a part n v
      → BayAgrees d part w.now.words.now v)

-- In the vector each of the first n other parts agrees with the words.
abbrev pub OthersAgree : Diagram → ℕ → List Dbpos → ℕ → List Bool → Type 0
OthersAgree d b words n v = (j : ℕ) → j < n → BayAgrees d (other_of 0 b j) words v

-- The vector is allowed; where the words of all switches are known, the n other parts agree with them.
pub record WithinAll (known : Option (Bor AllWords)) (a : Lettered) (b : ℕ) (words : List Dbpos)
    (sets : List (List Bool)) (n : ℕ) (v : List Bool) : Type 0 where
  pub within : Within a b words sets v
  pub agree : IfSome known (λ w. OthersAgree a.diagram b w.now.words.now n v)
