-- A layer by the numbers of values in a pool.
use Rattle.std.specs.Prelude.{◌≡◌, ℕ, suc, ◌⊎◌, ◌+◌, ◌<◌, ◌≤◌, List, [], ◌++◌, length, map, slice_get, slice_index}
use Rattle.std.specs.Prelude.{slice_index_or, Some}
use Rattle.contraction.specs.Answers.{Answers}
pub use Rattle.judge_pool.specs.Pooling.{NoneTwice}
use Rattle.judge_pool.specs.Pooling.{Extends}

-- In the seat of each number of the list stands its place. What stands in the seats of others does not matter.
abbrev pub AreSeats : List ℕ → List ℕ → Type 0
AreSeats list seats = (b t : ℕ) → slice_get list b ≡ Some t → slice_get seats t ≡ Some b

-- The number has its place in the list, which has no other new number.
pub record IsPlaced (old new : List ℕ) (id place : ℕ) : Type 0 where
  pub at : slice_get new place ≡ Some id
  pub stays : Extends old new
  pub only : (b t : ℕ) → slice_get new b ≡ Some t → (slice_get old b ≡ Some t) ⊎ ((b ≡ place) × (t ≡ id))
  pub none_twice : NoneTwice old → NoneTwice new
  pub grown : length new ≤ suc (length old)

-- Behind the edges stand as many as there are numbers here, each to its number; the list has these numbers too, each
-- once.
pub record AreAdded (old edges ids next edges' : List ℕ) : Type 0 where
  pub to : List ℕ
  pub behind : edges' ≡ edges ++ to
  pub len : length to ≡ length ids
  pub at : (c id : ℕ) → slice_get ids c ≡ Some id → slice_get next (slice_index to c) ≡ Some id
  pub stays : Extends old next
  pub only : (b t : ℕ) → slice_get next b ≡ Some t → (slice_get old b ≡ Some t)
      ⊎ ((c : ℕ) × (slice_get ids c ≡ Some t) × (slice_index to c ≡ b))
  pub none_twice : NoneTwice old → NoneTwice next
  pub grown : length next ≤ length old + length ids

-- The numbers are places in a list of so many, each of which is named.
pub record NameAll (n : ℕ) (places : List ℕ) : Type 0 where
  pub within : (c k : ℕ) → slice_get places c ≡ Some k → k < n
  pub each : (k : ℕ) → k < n → (c : ℕ) × (slice_get places c ≡ Some k)
  pub few : n ≤ length places

-- What stands at each of these places.
abbrev pub at_places : List ℕ → List ℕ → List ℕ
at_places ids places = map (λ k. slice_index ids k) places

-- The contraction of no items that keeps no node.
abbrev pub no_answers : Answers
no_answers = record {
  kept = [];
  coupled = [];
  joined = [];
  bonded = [];
  energisable = [];
  earthable = [];
  fed = [];
  loaded = [];
}

-- The values of these numbers.
abbrev pub values_at : List Answers → List ℕ → List Answers
values_at values ids = map (λ i. slice_index_or values i no_answers) ids
