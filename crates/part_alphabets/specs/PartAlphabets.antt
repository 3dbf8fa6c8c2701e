-- The alphabets of the parts of a station, as callers see them.
use Rattle.std.specs.Prelude.{◌≡◌, ℕ, ◌^◌, ◌<◌, Bool, List, [], Option, Some, None, length, slice_get, slice_index}
use Rattle.contraction.specs.Answers.{Answers}
use Rattle.part_alphabets.specs.declared.fork.Fork.{Fork}
use Rattle.part_alphabets.specs.Layers.{rank, bits}

-- The alphabet of one part: how many switches the station has, the part's first switch and how many it
-- has, its letters, for each of them an example, and the forks of its decision diagram.
pub record PartAlphabet : Type 0 where
  pub switches : ℕ
  pub first : ℕ
  pub count : ℕ
  pub letters : List Answers
  pub examples : List ℕ
  pub forks : List Fork

-- The alphabets of all parts, and how many switches the station has.
pub record Alphabets : Type 0 where
  pub switches : ℕ
  pub parts : List PartAlphabet

-- The alphabet without letters.
abbrev pub nothing : PartAlphabet
nothing = record { switches = 0; first = 0; count = 0; letters = []; examples = []; forks = [] }

-- The alphabet that is there, or the one without letters.
abbrev pub or_nothing : Option PartAlphabet → PartAlphabet
or_nothing (Some x) = x
or_nothing None = nothing

-- The alphabet of this part.
abbrev pub part_at : Alphabets → ℕ → PartAlphabet
part_at a part = or_nothing (slice_get a.parts part)

-- The letters of a part are the contractions of its indices.
abbrev pub letters_of : Alphabets → ℕ → List Answers
letters_of a part = (part_at a part).letters

-- How many letters the part has.
abbrev pub size_of : Alphabets → ℕ → ℕ
size_of a part = length (letters_of a part)

-- The least position of the part that has this index.
abbrev pub example_of : Alphabets → ℕ → ℕ → ℕ
example_of a part index = slice_index (part_at a part).examples index

-- The steps of the part's decision diagram.
abbrev pub forks_of : Alphabets → ℕ → List Fork
forks_of a part = (part_at a part).forks

-- The part's first switch.
abbrev pub first_switch_of : Alphabets → ℕ → ℕ
first_switch_of a part = (part_at a part).first

-- How many switches the part has.
abbrev pub count_of : Alphabets → ℕ → ℕ
count_of a part = (part_at a part).count

-- The number is a position of the part: it has no bit but one for each of its switches.
abbrev pub IsPosition : Alphabets → ℕ → ℕ → Type 0
IsPosition a part n = n < 2 ^ count_of a part

-- In v the part stands at this position: bit i is set exactly where switch i of the part is closed.
abbrev pub StandsAt : Alphabets → ℕ → ℕ → List Bool → Type 0
StandsAt a part n v = bits (first_switch_of a part) (count_of a part) v ≡ n

-- The part's position in v, compared with others from the first switch on, off before on.
abbrev pub rank_of : Alphabets → ℕ → List Bool → ℕ
rank_of a part v = rank (first_switch_of a part) (count_of a part) v
