-- The alphabet of a part: the list of its distinct contractions on the nodes that it shares, each placed
-- by the least position that gives it.
use Rattle.std.specs.Prelude.{◌≡◌, ℕ, ◌<◌, ◌≤◌, ◌↔◌, Bool, List, Option, Some, length, slice_get}
use Rattle.ilk_base.specs.declared.words.Dbpos.{Dbpos}
use Rattle.double_points.specs.Words.{BayAgrees}
use Rattle.station_graph.specs.Diagram.{Diagram, AreSwitchesOf, part_count}
use Rattle.station_graph.specs.Sharing.{OfPart, IsShared}
use Rattle.station_graph.specs.Alike.{IsVector}
use Rattle.contraction.specs.Answers.{Answers, IsContraction, Keeps, SameGap, SameLoad}
use Rattle.contraction.specs.Stands.{StandsFor}
use Rattle.part_alphabets.specs.declared.limits.TheConstants.{LETTERS}
use Rattle.part_alphabets.specs.Diagrams.{ForksLeadTo}
use Rattle.part_alphabets.specs.Counting.{AreStepSizes}
use Rattle.part_alphabets.specs.PartAlphabets.{Alphabets, letters_of, size_of, example_of, forks_of, first_switch_of}
use Rattle.part_alphabets.specs.PartAlphabets.{count_of, IsPosition, StandsAt, rank_of}

-- A contraction on the nodes that the part shares.
pub record IsLetter (d : Diagram) (part : ℕ) (c : Answers) : Type 0 where
  pub well : IsContraction c
  pub kept : (n : ℕ) → Keeps c.kept n ↔ IsShared d part n

-- In v the part has this index: the letter at this place is the contraction of the part's items.
pub record HasIndex (d : Diagram) (a : Alphabets) (part index : ℕ) (v : List Bool) : Type 0 where
  pub letter : Answers
  pub listed : slice_get (letters_of a part) index ≡ Some letter
  pub stands : StandsFor (OfPart d part) d v letter

-- The number is the least position that has this index: off comes before on, and positions are compared
-- from the first switch.
pub record IsExample (d : Diagram) (a : Alphabets) (part index n : ℕ) : Type 0 where
  pub position : IsPosition a part n
  pub has : (v : List Bool) → IsVector d v → StandsAt a part n v → HasIndex d a part index v
  pub least : (v w : List Bool) → IsVector d v → IsVector d w → HasIndex d a part index v → StandsAt a part n w
      → rank_of a part w ≤ rank_of a part v

-- The alphabet of a part: no two letters answer the same, the part has an index in each vector, and each
-- letter has its example, in whose order they stand. Its forks lead each vector to its index.
pub record IsAlphabet (d : Diagram) (a : Alphabets) (part : ℕ) : Type 0 where
  pub switches : AreSwitchesOf d part (first_switch_of a part) (count_of a part)
  pub some : 0 < size_of a part
  pub few : size_of a part ≤ LETTERS
  pub letters : (i : ℕ) (c : Answers) → slice_get (letters_of a part) i ≡ Some c → IsLetter d part c
  pub apart : (i k : ℕ) (x y : Answers) → slice_get (letters_of a part) i ≡ Some x
      → slice_get (letters_of a part) k ≡ Some y → SameGap x y → SameLoad x y → i ≡ k
  pub indexed : (v : List Bool) → IsVector d v → (i : ℕ) × HasIndex d a part i v
  pub examples : (i : ℕ) → i < size_of a part → IsExample d a part i (example_of a part i)
  pub ordered : (i k : ℕ) (v w : List Bool) → i < k → k < size_of a part → IsVector d v → IsVector d w
      → StandsAt a part (example_of a part i) v → StandsAt a part (example_of a part k) w
      → rank_of a part v < rank_of a part w
  pub given : (i : ℕ) → i < size_of a part → (v : List Bool) × IsVector d v × StandsAt a part (example_of a part i) v
  pub leads : (v : List Bool) (i : ℕ) → IsVector d v → HasIndex d a part i v ↔ ForksLeadTo (forks_of a part) v i
  pub steps : AreStepSizes d part (length (forks_of a part))

-- Each part of the station has its alphabet.
pub record AreAlphabets (d : Diagram) (a : Alphabets) : Type 0 where
  pub switches : a.switches ≡ length d.switches
  pub parts : length a.parts ≡ part_count d
  pub each : (part : ℕ) → part < part_count d → IsAlphabet d a part

-- Some vector in which the part agrees with the words has this index.
pub record CanHave (d : Diagram) (a : Alphabets) (part : ℕ) (words : List Dbpos) (index : ℕ) : Type 0 where
  pub vector : List Bool
  pub whole : IsVector d vector
  pub agrees : BayAgrees d part words vector
  pub has : HasIndex d a part index vector

-- The number is a position that agrees with the words and has this index.
pub record IsAgreeing (d : Diagram) (a : Alphabets) (part : ℕ) (words : List Dbpos) (index n : ℕ) : Type 0 where
  pub position : IsPosition a part n
  pub agrees : (v : List Bool) → IsVector d v → StandsAt a part n v → BayAgrees d part words v
  pub has : (v : List Bool) → IsVector d v → StandsAt a part n v → HasIndex d a part index v

-- The set keeps this position for the index.
abbrev pub KeepsPosition : List (Option ℕ) → ℕ → ℕ → Type 0
KeepsPosition set index n = slice_get set index ≡ Some (Some n)

-- The index is in the set: a position is kept for it.
abbrev pub InSet : List (Option ℕ) → ℕ → Type 0
InSet set index = (n : ℕ) × KeepsPosition set index n

-- The set has a place for each index of the part. In it are exactly those that the part can have by the
-- words, each with a position that agrees with them.
pub record IsPossible (d : Diagram) (a : Alphabets) (part : ℕ) (words : List Dbpos)
    (set : List (Option ℕ)) : Type 0 where
  pub count : length set ≡ size_of a part
  pub exact : (i : ℕ) → InSet set i ↔ CanHave d a part words i
  pub placed : (i n : ℕ) → KeepsPosition set i n → IsAgreeing d a part words i n
