-- What lines define, and whether what lines name is there.
use Rattle.std.specs.Prelude.{◌≡◌, ◌<◌, ◌≤◌, ◌^◌, ◌↔◌, ◌++◌, ◌⊎◌, ℕ, Bool, false, List, IsTrue}
use Rattle.std.specs.declared.cmp.Ordering.{Ordering}
use Rattle.std.specs.Ordering.{nat_cmp, ordering_then}
use Rattle.std.specs.BTreeSet.{contains}
use Rattle.station_graph.specs.Diagram.{Diagram}
use Rattle.text_lines.specs.Decimals.{IsDecimal}
use Rattle.equation_text.specs.declared.entries.Step.{Step}
use Rattle.equation_text.specs.declared.entries.Kind.{Kind}
use Rattle.equation_text.specs.declared.entries.Kind.TheVariants.{StepsOf, Nodes}
use Rattle.equation_text.specs.declared.entries.Entries.{Entries}
use Rattle.equation_text.specs.Faults.{Entry, step_of, node_of, head_of, IsDefined, IsNextWord, HasNumber, HasHead}
use Rattle.equation_text.specs.Faults.{LeadsIn, feeds, Names, NamesUndefined, IsLine, HasUndefined}

-- Steps go by their parts, and then by their numbers.
abbrev pub step_order : Step → Step → Ordering
step_order a b = ordering_then (nat_cmp a.part b.part) (nat_cmp a.number b.number)

-- The entry is there.
abbrev pub has_entry : Entries → Entry → Bool
has_entry entries (step_of p m) = contains step_order entries.steps (record { part = p; number = m })
has_entry entries (node_of n) = contains nat_cmp entries.nodes n

-- The entry of the kind with this number.
abbrev pub entry_in : Kind → ℕ → Entry
entry_in (StepsOf p) m = step_of p m
entry_in Nodes n = node_of n

-- Its numbers have 32 bits.
abbrev pub IsEntry32 : Entry → Type 0
IsEntry32 (step_of p m) = (p < 2 ^ 32) × (m < 2 ^ 32)
IsEntry32 (node_of n) = n < 2 ^ 32

-- The line defines the entry, whose numbers have 32 bits.
pub record Defines (line : List ℕ) (entry : Entry) : Type 0 where
  pub small : IsEntry32 entry
  pub rest : List ℕ
  pub is : line ≡ head_of entry ++ rest

-- What is there now was there before, or the line defines it.
abbrev pub AddsLine : List ℕ → (Entry → Bool) → (Entry → Bool) → Type 0
AddsLine line old new = (x : Entry) → IsEntry32 x
    → IsTrue (new x) ↔ (((rest : List ℕ) × (line ≡ head_of x ++ rest)) ⊎ IsTrue (old x))

-- An entry is there exactly where a line of the text defines it.
abbrev pub AreDefined : List ℕ → (Entry → Bool) → Type 0
AreDefined text has = (x : Entry) → IsEntry32 x → IsTrue (has x) ↔ IsDefined text x

-- The entry of the number that the word is is not there.
abbrev pub NumberIsLost : (Entry → Bool) → Kind → List ℕ → Type 0
NumberIsLost has kind word = (m : ℕ) × IsDecimal word m × (has (entry_in kind m) ≡ false)

-- That of each number of the words is.
abbrev pub NumbersKept : (Entry → Bool) → Kind → List ℕ → Type 0
NumbersKept has kind words = (m : ℕ) → HasNumber words m → IsTrue (has (entry_in kind m))

-- That of one is not.
abbrev pub NumberLost : (Entry → Bool) → Kind → List ℕ → Type 0
NumberLost has kind words = (m : ℕ) × HasNumber words m × (has (entry_in kind m) ≡ false)

-- The line begins with this word, and next stands this number.
pub record InPart (head line : List ℕ) (p : ℕ) (more : List ℕ) : Type 0 where
  pub rest : List ℕ
  pub word : List ℕ
  pub is : line ≡ head ++ rest
  pub next : IsNextWord rest word more
  pub number : IsDecimal word p

-- Each step that such a line names is there.
abbrev pub StepsKept : (Entry → Bool) → List ℕ → ℕ → List ℕ → Type 0
StepsKept has head skipped line = (p m : ℕ) (words : List ℕ) → LeadsIn head p skipped line words → HasNumber words m
    → IsTrue (has (step_of p m))

-- One is not.
pub record StepLost (has : Entry → Bool) (head : List ℕ) (skipped : ℕ) (line : List ℕ) : Type 0 where
  pub part : ℕ
  pub number : ℕ
  pub words : List ℕ
  pub leads : LeadsIn head part skipped line words
  pub named : HasNumber words number
  pub lost : has (step_of part number) ≡ false

-- Each node that such a line names is there.
abbrev pub NodesKept : (Entry → Bool) → List ℕ → ℕ → List ℕ → Type 0
NodesKept has head skipped line = (n : ℕ) (words : List ℕ) → HasHead head skipped line words → HasNumber words n
    → IsTrue (has (node_of n))

-- One is not.
pub record NodeLost (has : Entry → Bool) (head : List ℕ) (skipped : ℕ) (line : List ℕ) : Type 0 where
  pub number : ℕ
  pub words : List ℕ
  pub leads : HasHead head skipped line words
  pub named : HasNumber words number
  pub lost : has (node_of number) ≡ false

-- All that the line names is there.
abbrev pub AllKept : (Entry → Bool) → List ℕ → Type 0
AllKept has line = (x : Entry) → Names line x → IsTrue (has x)

-- Something that the line names is not.
pub record OneLost (has : Entry → Bool) (line : List ℕ) : Type 0 where
  pub entry : Entry
  pub named : Names line entry
  pub lost : has entry ≡ false

-- So many lines of the text stand before the first that names an entry which none defines.
pub record IsFirstUndefined (text : List ℕ) (count : ℕ) : Type 0 where
  pub before : List ℕ
  pub line : List ℕ
  pub stands : IsLine text before line
  pub names : NamesUndefined text line
  pub count_is : count ≡ feeds before
  pub first : (b l : List ℕ) → IsLine text b l → NamesUndefined text l → count ≤ feeds b

-- No line names an entry which none defines.
abbrev pub NoneUndefined : List ℕ → Type 0
NoneUndefined text = (before line : List ℕ) → IsLine text before line → ¬ NamesUndefined text line

-- The line of this number is the first that names an entry which none defines.
pub record IsFirstWithout (d : Diagram) (text : List ℕ) (k : ℕ) : Type 0 where
  pub has : HasUndefined d text k
  pub first : (j : ℕ) → HasUndefined d text j → k ≤ j

-- No line does.
abbrev pub NoneWithout : Diagram → List ℕ → Type 0
NoneWithout d text = (j : ℕ) → ¬ HasUndefined d text j
