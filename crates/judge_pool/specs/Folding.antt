-- A graph whose nodes are values, layer by layer: each layer takes more items in.
use Rattle.std.specs.Prelude.{◌≡◌, ℕ, ◌*◌, ◌/◌, ◌%◌, ◌<◌, ◌≤◌, ◌↔◌, Bool, List, length, slice_get, slice_index, Some}
use Rattle.std.specs.Prelude.{Contains}
use Rattle.station_graph.specs.Diagram.{Diagram}
use Rattle.station_graph.specs.Connection.{Item}
use Rattle.station_graph.specs.Alike.{IsVector}
use Rattle.station_graph.specs.Nodes.{Rises}
use Rattle.contraction.specs.Answers.{Answers, Keeps, IsContraction}
use Rattle.contraction.specs.Stands.{Among}
use Rattle.part_alphabets.specs.Counting.{AreSoMany}
use Rattle.decision_graphs.specs.Label.{Layer, leads, AreLayers}
use Rattle.judge_pool.specs.declared.view.View.{View}
use Rattle.judge_pool.specs.Seen.{SeenFor, SameSeen, SameView, ComposesIn}

-- The value of this number is the two together.
pub record Carried (view : View) (x y : Answers) (values : List Answers) (t : ℕ) : Type 0 where
  pub value : Answers
  pub listed : slice_get values t ≡ Some value
  pub composes : ComposesIn view x y value

-- Each value keeps exactly these nodes.
abbrev pub AllKeep : List Answers → List ℕ → Type 0
AllKeep values keep = (t : ℕ) (r : Answers) → slice_get values t ≡ Some r → (n : ℕ) → Keeps r.kept n ↔ Contains keep n

-- Each value is a contraction.
abbrev pub AreWell : List Answers → Type 0
AreWell values = (t : ℕ) (r : Answers) → slice_get values t ≡ Some r → IsContraction r

-- The nodes that each value keeps rise.
abbrev pub AreRising : List Answers → Type 0
AreRising values = (t : ℕ) (r : Answers) → slice_get values t ≡ Some r → Rises r.kept

-- No two values are the same in this view.
abbrev pub AreApartIn : View → List Answers → Type 0
AreApartIn view values =
    (t u : ℕ) (x y : Answers) → slice_get values t ≡ Some x → slice_get values u ≡ Some y → SameSeen view x y → t ≡ u

-- From the states of a layer, by the letters of its choices, to those of the next. The edges stand state by state.
pub record IsStep (view : View) (keep : List ℕ) (states letters next : List Answers) (edges : List ℕ) : Type 0 where
  pub len : length edges ≡ length states * length letters
  pub carried : (p : ℕ) (x y : Answers) → p < length edges → slice_get states (p / length letters) ≡ Some x →
      slice_get letters (p % length letters) ≡ Some y → Carried view x y next (slice_index edges p)
  pub kept : AllKeep next keep
  pub rising : AreRising next
  pub apart : AreApartIn view next
  pub hit : (t : ℕ) (r : Answers) → slice_get next t ≡ Some r → (p : ℕ) × (p < length edges) × (slice_index edges p ≡ t)

-- The value is a state of these and a letter of these together.
pub record IsCarriedOn (view : View) (states letters : List Answers) (r : Answers) : Type 0 where
  pub state : ℕ
  pub letter : ℕ
  pub x : Answers
  pub y : Answers
  pub first : slice_get states state ≡ Some x
  pub second : slice_get letters letter ≡ Some y
  pub composes : ComposesIn view x y r

-- Each of these values comes of a state and a letter.
pub record AreReached (view : View) (keep : List ℕ) (states letters next : List Answers) : Type 0 where
  pub kept : AllKeep next keep
  pub rising : AreRising next
  pub apart : AreApartIn view next
  pub carried : (t : ℕ) (r : Answers) → slice_get next t ≡ Some r → IsCarriedOn view states letters r

-- More values than the limit are reached, though no more than pairs of a state and a letter.
pub record ReachesMore (view : View) (keep : List ℕ) (states letters : List Answers) (limit : ℕ) : Type 0 where
  pub next : List Answers
  pub reached : AreReached view keep states letters next
  pub past : limit < length next
  pub few : length next ≤ length states * length letters

-- The value of this number answers for these items in v.
pub record StandsIn (view : View) (These : Item → Type 0) (d : Diagram) (v : List Bool) (values : List Answers)
    (t : ℕ) : Type 0 where
  pub value : Answers
  pub listed : slice_get values t ≡ Some value
  pub stands : SeenFor view These d v value

-- These are choices that the vector gives, layer by layer from the first.
abbrev pub AreChosen : (ℕ → ℕ → List Bool → Type 0) → List Bool → List ℕ → Type 0
AreChosen Chosen v cs = (i c : ℕ) → slice_get cs i ≡ Some c → Chosen i c v

-- Each value answers for these items in some vector.
abbrev pub EachAnswers : View → (Item → Type 0) → Diagram → List Answers → Type 0
EachAnswers view These d values =
    (t : ℕ) (r : Answers) → slice_get values t ≡ Some r → (v : List Bool) × IsVector d v × SeenFor view These d v r

-- The values are the distinct views of these items: each is that of some vector, and each vector has one.
pub record AreViews (view : View) (These : Item → Type 0) (d : Diagram) (values : List Answers) : Type 0 where
  pub made : EachAnswers view These d values
  pub cover : (v : List Bool) → IsVector d v → (t : ℕ) × StandsIn view These d v values t

-- The layers are exact: for every vector, the choices that it gives lead to a state that answers for the items so far.
-- The states are the distinct views of these items, and each layer has a node for each distinct view of those
-- before it.
-- `Chosen i c v`: v gives choice c in layer i. `items j`: the items before layer j. `Needed j n`: node n is
-- kept before layer j.
pub record IsExact (view : View) (d : Diagram) (Chosen : ℕ → ℕ → List Bool → Type 0) (items : ℕ → List Item)
    (Needed : ℕ → ℕ → Type 0) (j : ℕ) (ls : List Layer) (states : List Answers) : Type 0 where
  pub count : length ls ≡ j
  pub fits : AreLayers (length states) ls
  pub kept : (t : ℕ) (r : Answers) → slice_get states t ≡ Some r → (n : ℕ) → Keeps r.kept n ↔ Needed j n
  pub rising : AreRising states
  pub apart : AreApartIn view states
  pub stands : (v : List Bool) (cs : List ℕ) → IsVector d v → length cs ≡ j → AreChosen Chosen v cs →
      StandsIn view (Among (items j)) d v states (leads ls 0 cs)
  pub views : AreViews view (Among (items j)) d states
  pub counted : (i : ℕ) (l : Layer) → slice_get ls i ≡ Some l →
      AreSoMany d (SameView view (Needed i) (Among (items i)) d) (length l.rows)
