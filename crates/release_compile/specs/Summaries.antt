-- The summary of an index set.
use Rattle.std.specs.Prelude.{◌≡◌, ℕ, ◌+◌, ◌-◌, ◌*◌, ◌/◌, ◌%◌, ◌^◌, ◌<◌, ◌==◌, ◌⊎◌, ◌↔◌, suc, Bool, true, List, []}
use Rattle.std.specs.Prelude.{length, slice_get, slice_index, Option, Some, None}
use Rattle.ilk_base.specs.declared.words.Dbpos.{Dbpos}
use Rattle.station_graph.specs.Diagram.{part_count}
use Rattle.station_graph.specs.Alike.{Irrelevant, Partner}
use Rattle.part_alphabets.specs.Alphabets.{CanHave}
use Rattle.decision_graphs.specs.Reaching.{IsSet, set_at}
use Rattle.judge_pool.specs.Graphs.{other_of}
use Rattle.judge_pool.specs.Lettered.{Lettered, index_count, PartHas}
use Rattle.release_compile.specs.Judging.{Judging, ground}
use Rattle.central_rules.specs.Meaning.{Meaning}

-- Index i has bit i, of which bit 0 is the highest bit of the first byte.
abbrev pub has_bit : List ℕ → ℕ → Bool
has_bit s i = ((slice_index s (i / 8) / 2 ^ (7 - i % 8)) % 2) == 1

-- As many bytes as hold a bit for each of so many indices.
abbrev pub byte_count : ℕ → ℕ
byte_count size = (size + 7) / 8

-- The bytes are an index set of the part: so many bytes as its indices need, some index, and no other bit.
pub record IsIndexSet (a : Lettered) (b : ℕ) (s : List ℕ) : Type 0 where
  pub count : length s ≡ byte_count (index_count a b)
  pub some : (i : ℕ) × (i < index_count a b) × (has_bit s i ≡ true)
  pub no_more : (i : ℕ) → i < 8 * length s → has_bit s i ≡ true → i < index_count a b

-- The set allows each vector in which the part has an index of it.
pub record SetAllows (a : Lettered) (b : ℕ) (s : List ℕ) (v : List Bool) : Type 0 where
  pub index : ℕ
  pub has : PartHas a b index v
  pub bit : has_bit s index ≡ true

-- A partner tells an index set, and every other bay the empty summary.
abbrev pub BayTells : Lettered → ℕ → ℕ → List ℕ → Type 0
BayTells a b to s = (Partner a.diagram b to × IsIndexSet a b s) ⊎ (Irrelevant a.diagram b to × (s ≡ []))

-- The empty summary allows each vector.
abbrev pub SummaryAllows : Lettered → ℕ → List ℕ → List Bool → Type 0
SummaryAllows a b s v = SetAllows a b s v ⊎ (s ≡ [])

-- What the summaries of the graph judge mean: exactly the partners of a bay tell it.
abbrev pub by_indices : Lettered → Meaning
by_indices a = record {
  diagram = a.diagram;
  Silent = λ b to. Irrelevant a.diagram b to;
  Fits = λ b to s. BayTells a b to s;
  Allows = λ b s v. SummaryAllows a b s v;
}

-- What the summaries of a judge mean.
abbrev pub judges : Judging → Meaning
judges j = by_indices (ground j)

-- What was heard of a part allows the index.
abbrev pub HeardAllows : Option (Option (List ℕ)) → ℕ → Type 0
HeardAllows (Some (Some s)) c = (has_bit s c ≡ true) ⊎ (s ≡ [])
HeardAllows (Some None) c = Unit {0}
HeardAllows None c = Unit {0}

-- The sets allow, of each other part, the indices that what was heard of it allows.
abbrev pub AreHeardSets : Lettered → ℕ → List (Option (List ℕ)) → List (List Bool) → Type 0
AreHeardSets a bay heard sets =
    (j c : ℕ) → suc j < part_count a.diagram → IsSet (set_at sets j) c ↔
    ((c < index_count a (other_of 0 bay j)) × HeardAllows (slice_get heard (other_of 0 bay j)) c)

-- The sets allow, of each other part, the indices of positions that agree with the words.
abbrev pub ArePossibleSets : Lettered → ℕ → List Dbpos → List (List Bool) → Type 0
ArePossibleSets a bay words sets =
    (j c : ℕ) → suc j < part_count a.diagram → IsSet (set_at sets j) c ↔
    CanHave a.diagram a.alphabets (other_of 0 bay j) words c
