-- What the layers of a graph take in, by the numbers of a pool.
use Rattle.std.specs.Prelude.{◌≡◌, ℕ, suc, ◌+◌, ◌-◌, ◌<◌, ◌↔◌, Bool, true, false, List, [], ◌∷◌, length, map, slice_get}
use Rattle.std.specs.Prelude.{Some, Contains}
use Rattle.station_graph.specs.Diagram.{Diagram, part_count}
use Rattle.station_graph.specs.Connection.{a_switch}
use Rattle.station_graph.specs.Sharing.{Touches}
use Rattle.contraction.specs.Answers.{Answers, Keeps}
use Rattle.contraction.specs.Stands.{Among}
use Rattle.judge_intake.specs.declared.own.BayIntake.{BayIntake}
use Rattle.judge_pool.specs.declared.pool.Pool.{Pool}
use Rattle.judge_pool.specs.Lettered.{Lettered, letters_in}
use Rattle.judge_pool.specs.Seen.{SeenFor}
use Rattle.judge_pool.specs.Pooling.{HasCopy}
use Rattle.judge_pool.specs.Layering.{values_at}
use Rattle.judge_pool.specs.Folding.{AreViews}
use Rattle.judge_pool.specs.Graphs.{other_of, OfOthers}
use Rattle.judge_pool.specs.Listing.{own_links}
use Rattle.judge_pool.specs.Needing.{IsNeededOuter, BayNeeds}

-- The list of this number has exactly the nodes of the kind.
pub record HasNodes (Kind : ℕ → Type 0) (p : Pool) (k : ℕ) : Type 0 where
  pub nodes : List ℕ
  pub listed : slice_get p.keeps.items k ≡ Some nodes
  pub exact : (n : ℕ) → Contains nodes n ↔ Kind n

-- The first n numbers are those of the nodes that are needed before each layer.
pub record AreKeeps (Needed : ℕ → ℕ → Type 0) (p : Pool) (keeps : List ℕ) (n : ℕ) : Type 0 where
  pub len : length keeps ≡ n
  pub each : (j k : ℕ) → slice_get keeps j ≡ Some k → HasNodes (Needed j) p k

-- At this place the list has the number of a copy of the value.
pub record HasCopyAt (p : Pool) (ids : List ℕ) (c : ℕ) (x : Answers) : Type 0 where
  pub id : ℕ
  pub at : slice_get ids c ≡ Some id
  pub copy : HasCopy p x id

-- The numbers are those of copies of the values.
pub record AreCopies (p : Pool) (values : List Answers) (ids : List ℕ) : Type 0 where
  pub len : length ids ≡ length values
  pub each : (c : ℕ) (x : Answers) → slice_get values c ≡ Some x → HasCopyAt p ids c x

-- The first n rows are those of the letters of the parts.
pub record AreLetters (a : Lettered) (p : Pool) (rows : List (List ℕ)) (n : ℕ) : Type 0 where
  pub len : length rows ≡ n
  pub each : (part : ℕ) (ids : List ℕ) → slice_get rows part ≡ Some ids → AreCopies p (letters_in a part) ids

-- The first n rows of the second list are those of the first that are not this one.
pub record AreOtherRows (this : ℕ) (all rows : List (List ℕ)) (n : ℕ) : Type 0 where
  pub len : length rows ≡ n
  pub each : (i : ℕ) (ids : List ℕ) → slice_get rows i ≡ Some ids → slice_get all (other_of 0 this i) ≡ Some ids

-- The first n rows are those of the letters of the other parts.
pub record AreRows (a : Lettered) (b : ℕ) (p : Pool) (rows : List (List ℕ)) (n : ℕ) : Type 0 where
  pub len : length rows ≡ n
  pub each : (j : ℕ) (ids : List ℕ) → slice_get rows j ≡ Some ids → AreCopies p (letters_in a (other_of 0 b j)) ids

-- The value of this number is one of no item, on no nodes.
pub record HasNothing (p : Pool) (id : ℕ) : Type 0 where
  pub value : Answers
  pub listed : slice_get p.values.items id ≡ Some value
  pub bare : value.kept ≡ []
  pub stands : (d : Diagram) (v : List Bool) → SeenFor p.view (Among []) d v value

-- The value of this number is that of the bay's links and taps, on the nodes of the kind.
pub record HasLinks (p : Pool) (d : Diagram) (b : ℕ) (Kind : ℕ → Type 0) (id : ℕ) : Type 0 where
  pub value : Answers
  pub listed : slice_get p.values.items id ≡ Some value
  pub kept : (n : ℕ) → Keeps value.kept n ↔ Kind n
  pub stands : (v : List Bool) → SeenFor p.view (Among (own_links d b)) d v value

-- The value of this number is that of the switch in this position.
pub record HasSwitch (p : Pool) (d : Diagram) (switch : ℕ) (closed : Bool) (id : ℕ) : Type 0 where
  pub value : Answers
  pub listed : slice_get p.values.items id ≡ Some value
  pub kept : (n : ℕ) → Keeps value.kept n ↔ Touches d (a_switch switch) n
  pub stands : (v : List Bool) → slice_get v switch ≡ Some closed →
      SeenFor p.view (Among (a_switch switch ∷ [])) d v value

-- The two numbers are those of the switch's values, open and closed.
pub record HasPair (p : Pool) (d : Diagram) (switch : ℕ) (ids : List ℕ) : Type 0 where
  pub off : ℕ
  pub on : ℕ
  pub two : ids ≡ off ∷ on ∷ []
  pub off_has : HasSwitch p d switch false off
  pub on_has : HasSwitch p d switch true on

-- They are the pairs of so many switches from the first on.
pub record ArePairs (p : Pool) (d : Diagram) (first : ℕ) (pairs : List (List ℕ)) (n : ℕ) : Type 0 where
  pub len : length pairs ≡ n
  pub each : (i : ℕ) (ids : List ℕ) → slice_get pairs i ≡ Some ids → HasPair p d (first + i) ids

-- The first row has the names of the outer graph's labels, and the next n rows the values of the bay's other switches.
pub record AreInnerRows (d : Diagram) (m first : ℕ) (p : Pool) (names : List ℕ) (rows : List (List ℕ))
    (n : ℕ) : Type 0 where
  pub len : length rows ≡ suc n
  pub first_row : slice_get rows 0 ≡ Some names
  pub pairs : (i : ℕ) (ids : List ℕ) → slice_get rows (suc i) ≡ Some ids → HasPair p d (other_of first m i) ids

-- The numbers are those of the distinct views of all other parts, on the nodes that the bay touches and another part
-- touches too.
pub record AreNames (p : Pool) (d : Diagram) (b : ℕ) (names : List ℕ) : Type 0 where
  pub some : 0 < length names
  pub within : (t i : ℕ) → slice_get names t ≡ Some i → i < length p.values.items
  pub kept : (t : ℕ) (x : Answers) → slice_get (values_at p.values.items names) t ≡ Some x → (n : ℕ) → Keeps x.kept n ↔
      IsNeededOuter d b (part_count d - 1) n
  pub views : AreViews p.view (OfOthers d b) d (values_at p.values.items names)

-- What the inner graphs of the bay take in whichever switch is moved.
pub record IsBayIntake (p : Pool) (d : Diagram) (b first count : ℕ) (i : BayIntake) : Type 0 where
  pub links : HasLinks p d b (BayNeeds d b first count) i.start
  pub keep : HasNodes (BayNeeds d b first count) p i.keep
  pub named : AreNames p d b i.names.items
  pub pairs : ArePairs p d first (map (λ v. v.items) i.pairs.items) count
