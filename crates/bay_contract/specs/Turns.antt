-- How values go on after one more switch, whatever the part.
use Rattle.std.specs.Prelude.{◌≡◌, ℕ, ◌*◌, ◌/◌, ◌%◌, ◌<◌, ◌≤◌, ◌==◌, Bool, true, false, List, length, slice_get, Some}
use Rattle.contraction.specs.Answers.{Answers, IsContraction}
use Rattle.contraction.specs.Composing.{ComposesGap, ComposesLoad}
use Rattle.bay_contract.specs.declared.course.Turn.{Turn}
use Rattle.part_alphabets.specs.declared.fork.Fork.{Fork}
use Rattle.bay_contract.specs.Sorting.{AreSorted}
use Rattle.bay_contract.specs.Building.{Forked, Ranked}

-- The value keeps these nodes.
pub record KeepsThese (nodes : List ℕ) (c : Answers) : Type 0 where
  pub value : IsContraction c
  pub kept : c.kept ≡ nodes

-- The third value is the first two together, on some of their nodes.
pub record AreTogether (x y c : Answers) : Type 0 where
  pub gap : ComposesGap x y c
  pub load : ComposesLoad x y c

-- The value of a switch in this position.
abbrev pub positioned : Answers → Answers → Bool → Answers
positioned off on true = on
positioned off on false = off

-- Place s is value s / 2 together with the switch, open or closed as s is even or odd.
abbrev pub GoesOn : Answers → Answers → List Answers → ℕ → Answers → Type 0
GoesOn off on last s c = (x : Answers) → slice_get last (s / 2) ≡ Some x → AreTogether x (positioned off on
    (s % 2 == 1)) c

-- The values after the switch, sorted.
abbrev pub AreTurned : List ℕ → Answers → Answers → List Answers → List Answers → List ℕ → List ℕ → ℕ → Type 0
AreTurned nodes off on last = AreSorted (KeepsThese nodes) (GoesOn off on last)

-- The values after switch j of a part with the rank of each, and the steps to them.
pub record Turns (j : ℕ) (t : Turn) (values : List Answers) (ranks : List ℕ) (forks : List Fork) (news : List Answers)
    (newranks : List ℕ) (more : List Fork) : Type 0 where
  pub targets : List ℕ
  pub origins : List ℕ
  pub sorted : AreTurned t.kept t.off t.on values news targets origins (2 * length values)
  pub forked : Forked j (length values) targets forks more
  pub ranked : Ranked ranks origins newranks

-- After the switch there are more values than the limit.
pub record TurnsPast (t : Turn) (values : List Answers) (limit : ℕ) : Type 0 where
  pub news : List Answers
  pub targets : List ℕ
  pub origins : List ℕ
  pub places : ℕ
  pub most : places ≤ 2 * length values
  pub sorted : AreTurned t.kept t.off t.on values news targets origins places
  pub past : limit < length news
