-- Values of one view, found again by their rows, and the batches that were composed of them.
use Rattle.std.specs.Prelude.{◌≡◌, ℕ, ◌↔◌, ◌⊎◌, ◌+◌, ◌*◌, ◌/◌, ◌%◌, ◌<◌, ◌≤◌, List, length, slice_get, Option}
use Rattle.std.specs.Prelude.{Some, None, Contains, Bool, slice_index}
use Rattle.std.specs.Str.{bytes_eq}
use Rattle.std.specs.HashMap.{HashMap, get}
use Rattle.station_graph.specs.Diagram.{Diagram}
use Rattle.station_graph.specs.Connection.{Item}
use Rattle.contraction.specs.Answers.{Answers, Keeps, IsContraction}
use Rattle.contraction.specs.Selecting.{Selected}
use Rattle.contraction.specs.Stands.{Among}
use Rattle.judge_pool.specs.declared.view.View.{View}
use Rattle.judge_pool.specs.declared.batch.Made.{Made}
use Rattle.judge_pool.specs.declared.batch.Batch.{Batch}
use Rattle.judge_pool.specs.declared.notes.Note.{Note}
use Rattle.judge_pool.specs.declared.known.LayerKey.{LayerKey}
use Rattle.judge_pool.specs.declared.known.KnownLayer.{KnownLayer}
use Rattle.judge_pool.specs.declared.pool.Pool.{Pool}
use Rattle.judge_pool.specs.Seen.{SeenFor, SameSeen, ComposesIn, seen_row}
use Rattle.judge_pool.specs.Folding.{AreApartIn, AreWell}
use Rattle.judge_pool.specs.Numbered.{letter_lists}
use Rattle.judge_pool.specs.Standing.{StandsAreRight, ListStandsAreRight}
use Rattle.judge_pool.specs.Keeping.{NumbersAreRight}

-- The number that the index has for a row.
abbrev pub number_in : {S : Type 0} → HashMap (List ℕ) ℕ S → List ℕ → Option ℕ
number_in m row = get bytes_eq m row

-- The index has the number of each value by its row, and no other number.
pub record IsRowIndex {S : Type 0} (view : View) (values : List Answers) (m : HashMap (List ℕ) ℕ S) : Type 0 where
  pub found : (row : List ℕ) (i : ℕ) → number_in m row ≡ Some i →
      (x : Answers) × (slice_get values i ≡ Some x) × (row ≡ seen_row view x)
  pub missing : (row : List ℕ) → number_in m row ≡ None → (i : ℕ) (x : Answers) → slice_get values i ≡ Some x →
      row ≡ seen_row view x → ⊥

-- The second list begins with the first.
abbrev pub Extends : {X : Type 0} → List X → List X → Type 0
Extends {X} old new = (i : ℕ) (x : X) → slice_get old i ≡ Some x → slice_get new i ≡ Some x

-- The value of this number was made of two others on these nodes.
pub record IsMadeOf (view : View) (x y : Answers) (keep : List ℕ) (values : List Answers) (t : ℕ) : Type 0 where
  pub value : Answers
  pub listed : slice_get values t ≡ Some value
  pub composes : ComposesIn view x y value
  pub kept : (n : ℕ) → Keeps value.kept n ↔ Contains keep n

-- The value of this number was made as the key says.
pub record WasMade (view : View) (values : List Answers) (keeps : List (List ℕ)) (k : Made) (t : ℕ) : Type 0 where
  pub x : Answers
  pub y : Answers
  pub keep : List ℕ
  pub first : slice_get values k.first ≡ Some x
  pub second : slice_get values k.second ≡ Some y
  pub nodes : slice_get keeps k.keep ≡ Some keep
  pub made : IsMadeOf view x y keep values t

-- The composition of the batch at one of its letters.
abbrev pub composition : Batch → ℕ → Made
composition b letter = record { first = b.first; second = letter; keep = b.keep }

-- Letter by letter, these are the numbers of what the value of the batch and the letter make together.
pub record MakesEach (p : Pool) (b : Batch) (letters ids : List ℕ) : Type 0 where
  pub len : length ids ≡ length letters
  pub made : (c j t : ℕ) → slice_get letters c ≡ Some j → slice_get ids c ≡ Some t →
      WasMade p.view p.values.items p.keeps.items (composition b j) t

-- From this place on stand the numbers of the batch, one behind the other.
pub record HasBatch (p : Pool) (b : Batch) (start : ℕ) : Type 0 where
  pub letters : List ℕ
  pub ids : List ℕ
  pub listed : slice_get (letter_lists p) b.letters ≡ Some letters
  pub made : MakesEach p b letters ids
  pub at : (c t : ℕ) → slice_get ids c ≡ Some t → slice_get p.made.items (start + c) ≡ Some t

-- The batch of a note.
abbrev pub noted : Note → Batch
noted n = record { first = n.first; letters = n.letters; keep = n.keep }

-- Each batch that is noted begins where it is noted.
abbrev pub NotesAreRight : Pool → List Note → Type 0
NotesAreRight p notes = (i : ℕ) (n : Note) → slice_get notes i ≡ Some n → HasBatch p (noted n) n.start

-- No number stands twice.
abbrev pub NoneTwice : List ℕ → Type 0
NoneTwice ids = (a b id : ℕ) → slice_get ids a ≡ Some id → slice_get ids b ≡ Some id → a ≡ b

-- The value at a place of the next layer was made of two values on these nodes.
pub record LeadsToMade (view : View) (values : List Answers) (keep next : List ℕ) (i j place : ℕ) : Type 0 where
  pub id : ℕ
  pub at : slice_get next place ≡ Some id
  pub x : Answers
  pub y : Answers
  pub first : slice_get values i ≡ Some x
  pub second : slice_get values j ≡ Some y
  pub made : IsMadeOf view x y keep values id

-- The first n edges, state by state, lead to the values that were made of a state and a letter; the next layer has
-- the numbers of these alone, each once.
pub record AreEdges (view : View) (values : List Answers) (keep states letters next edges : List ℕ)
    (n : ℕ) : Type 0 where
  pub len : length edges ≡ n
  pub made : (p i j : ℕ) → p < n → slice_get states (p / length letters) ≡ Some i →
      slice_get letters (p % length letters) ≡ Some j → LeadsToMade view values keep next i j (slice_index edges p)
  pub none_twice : NoneTwice next
  pub hit : (b id : ℕ) → slice_get next b ≡ Some id →
      (p i j : ℕ) × (p < n) × (slice_get states (p / length letters) ≡ Some i)
      × (slice_get letters (p % length letters) ≡ Some j) × (slice_index edges p ≡ b)

-- From these states, by these letters and on these nodes, these edges lead to these states.
pub record LeadsOn (p : Pool) (keep : ℕ) (states row next edges : List ℕ) : Type 0 where
  pub nodes : List ℕ
  pub kept : slice_get p.keeps.items keep ≡ Some nodes
  pub few : length next ≤ length states * length row
  pub edges_lead : AreEdges p.view p.values.items nodes states row next edges (length states * length row)

-- The key names these lists of the pool, and the nodes of this number.
pub record IsKeyOf (p : Pool) (states row : List ℕ) (keep : ℕ) (k : LayerKey) : Type 0 where
  pub before : slice_get (letter_lists p) k.states ≡ Some states
  pub by : slice_get (letter_lists p) k.letters ≡ Some row
  pub behind : k.keep ≡ keep

-- Both keys name the same.
pub record SameKey (a b : LayerKey) : Type 0 where
  pub states : a.states ≡ b.states
  pub letters : a.letters ≡ b.letters
  pub keep : a.keep ≡ b.keep

-- The layer was made of what its key names, and leads on as its edges say.
pub record IsKnown (p : Pool) (l : KnownLayer) : Type 0 where
  pub states : List ℕ
  pub row : List ℕ
  pub next : List ℕ
  pub key : IsKeyOf p states row l.key.keep l.key
  pub listed : slice_get (letter_lists p) l.next ≡ Some next
  pub leads : LeadsOn p l.key.keep states row next l.edges

-- Each layer that is known is so.
abbrev pub AreKnown : Pool → List KnownLayer → Type 0
AreKnown p layers = (i : ℕ) (l : KnownLayer) → slice_get layers i ≡ Some l → IsKnown p l

-- The pool has each value once, its notes are right, and so are the layers that it knows.
pub record IsPool (p : Pool) : Type 0 where
  pub index : IsRowIndex p.view p.values.items p.index
  pub apart : AreApartIn p.view p.values.items
  pub well : AreWell p.values.items
  pub notes : NotesAreRight p p.notes.list.items
  pub layers : AreKnown p p.layers.items
  pub stands : StandsAreRight p p.stands
  pub list_stands : ListStandsAreRight p p.list_stands
  pub numbers : NumbersAreRight p p.keep_numbers

-- The pool has what it had, and maybe more values, lists of nodes and lists of numbers. Batches may be forgotten.
pub record GrewTo (old new : Pool) : Type 0 where
  pub is_pool : IsPool new
  pub view : new.view ≡ old.view
  pub keeps : Extends old.keeps.items new.keeps.items
  pub values : Extends old.values.items new.values.items
  pub letters : Extends (letter_lists old) (letter_lists new)

-- The pool has a value that is the same as this one in its view.
pub record HasSame (p : Pool) (value : Answers) (t : ℕ) : Type 0 where
  pub same : Answers
  pub listed : slice_get p.values.items t ≡ Some same
  pub is_same : SameSeen p.view value same
  pub well : IsContraction value
  pub well_same : IsContraction same

-- The value of this number keeps the same nodes as this one, and answers for all that it answers for.
pub record HasCopy (p : Pool) (x : Answers) (t : ℕ) : Type 0 where
  pub value : Answers
  pub listed : slice_get p.values.items t ≡ Some value
  pub kept : (n : ℕ) → Keeps value.kept n ↔ Keeps x.kept n
  pub stands : (items : List Item) (d : Diagram) (v : List Bool) → SeenFor p.view (Among items) d v x →
      SeenFor p.view (Among items) d v value

-- Each of the nodes of this number is kept by one of the two values.
abbrev pub EitherKeeps : Pool → ℕ → ℕ → ℕ → Type 0
EitherKeeps p first second keep =
    (x y : Answers) (nodes : List ℕ) → slice_get p.values.items first ≡ Some x →
    slice_get p.values.items second ≡ Some y → slice_get p.keeps.items keep ≡ Some nodes → (n : ℕ) → Contains nodes n →
    Keeps x.kept n ⊎ Keeps y.kept n

-- The pool has both values and the list of nodes, each of which one of the two keeps.
pub record CanCompose (p : Pool) (k : Made) : Type 0 where
  pub first : k.first < length p.values.items
  pub second : k.second < length p.values.items
  pub keep : k.keep < length p.keeps.items
  pub either : EitherKeeps p k.first k.second k.keep

-- So for each letter of the batch.
abbrev pub LettersFit : Pool → Batch → List ℕ → Type 0
LettersFit p b letters = (c j : ℕ) → slice_get letters c ≡ Some j → CanCompose p (composition b j)

-- The values of these numbers keep the same nodes.
abbrev pub KeepAlike : List Answers → List ℕ → Type 0
KeepAlike values ids =
    (a b i j : ℕ) (x y : Answers) → slice_get ids a ≡ Some i → slice_get ids b ≡ Some j → slice_get values i ≡ Some x →
    slice_get values j ≡ Some y → x.kept ≡ y.kept

-- The selection is that of these of the nodes that two values keep.
pub record Selects (x y : Answers) (nodes : List ℕ) (s : Selected) : Type 0 where
  pub first : s.first ≡ x.kept
  pub second : s.second ≡ y.kept
  pub asked : s.nodes ≡ nodes

-- So for the two values and the nodes of these numbers.
abbrev pub SelectsFor : Pool → Made → Selected → Type 0
SelectsFor p k s =
    (x y : Answers) (nodes : List ℕ) → slice_get p.values.items k.first ≡ Some x →
    slice_get p.values.items k.second ≡ Some y → slice_get p.keeps.items k.keep ≡ Some nodes → Selects x y nodes s

-- So for each letter of the batch.
abbrev pub SelectsAll : Pool → Batch → List ℕ → Selected → Type 0
SelectsAll p b letters s = (c j : ℕ) → slice_get letters c ≡ Some j → SelectsFor p (composition b j) s

-- The pool has each of the states and letters and the list of nodes, each of which one of the two keeps.
abbrev pub CanComposeEach : Pool → List ℕ → List ℕ → ℕ → Type 0
CanComposeEach p states letters keep =
    (k c i j : ℕ) → slice_get states k ≡ Some i → slice_get letters c ≡ Some j →
    CanCompose p (record { first = i; second = j; keep = keep })

-- The selection is that for each of the states with each of the letters.
abbrev pub SelectsEach : Pool → List ℕ → List ℕ → ℕ → Selected → Type 0
SelectsEach p states letters keep s =
    (k c i j : ℕ) → slice_get states k ≡ Some i → slice_get letters c ≡ Some j →
    SelectsFor p (record { first = i; second = j; keep = keep }) s

-- The bytes are the row of a value on exactly these nodes that is two values together in this view.
pub record IsRowOfBoth (view : View) (nodes : List ℕ) (x y : Answers) (bytes : List ℕ) : Type 0 where
  pub value : Answers
  pub contraction : IsContraction value
  pub kept : (n : ℕ) → Keeps value.kept n ↔ Contains nodes n
  pub composes : ComposesIn view x y value
  pub row : bytes ≡ seen_row view value

-- The bytes are the row of a contraction in this view.
pub record IsRowIn (view : View) (bytes : List ℕ) : Type 0 where
  pub value : Answers
  pub contraction : IsContraction value
  pub row : bytes ≡ seen_row view value

-- The value has this row, and it is two values together wherever these have it together.
pub record IsToldBy (view : View) (bytes : List ℕ) (r : Answers) : Type 0 where
  pub contraction : IsContraction r
  pub row : bytes ≡ seen_row view r
  pub composes : (nodes : List ℕ) (x y : Answers) → IsRowOfBoth view nodes x y bytes → ComposesIn view x y r
  pub kept : (nodes : List ℕ) (x y : Answers) → IsRowOfBoth view nodes x y bytes →
      (n : ℕ) → Keeps r.kept n ↔ Contains nodes n
