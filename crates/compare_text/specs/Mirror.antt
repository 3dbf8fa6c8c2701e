-- The texts of two stations compared with each other both ways round.
use Rattle.std.specs.Prelude.{◌≡◌, ◌↔◌, ℕ, Bool, true, List, slice_get, Option, Some, option_map}
use Rattle.station_graph.specs.Diagram.{Diagram}
use Rattle.station_changes.specs.Compare.{SameSwitch}
use Rattle.change_search.specs.declared.part.Shown.{Shown}
use Rattle.station_compare.specs.declared.found.RuleChanges.{RuleChanges}
use Rattle.station_compare.specs.declared.found.OperationChanges.{OperationChanges}
use Rattle.station_compare.specs.declared.found.Found.{Found}
use Rattle.station_compare.specs.declared.found.Found.TheVariants.{OnlyNew, InBoth}
use Rattle.station_compare.specs.declared.found.Comparison.{Comparison}
use Rattle.station_compare.specs.declared.bays.BayWord.TheVariants.{Common}
use Rattle.station_compare.specs.declared.bays.BayWords.{BayWords}
use Rattle.station_compare.specs.declared.word.Word.{Word}
use Rattle.station_compare.specs.Words.{word_of}

-- Whether a position is shown, and if so whether it is isolated.
abbrev pub shown_as : Option Shown → Option Bool
shown_as found = option_map (λ (s : Shown). s.isolated) found

-- By each rule a position is shown in both or in neither, isolated in both or in neither.
pub record AreShownAlike (x y : RuleChanges) : Type 0 where
  pub first : shown_as x.by_r1 ≡ shown_as y.by_r1
  pub second : shown_as x.by_r2 ≡ shown_as y.by_r2
  pub third : shown_as x.by_r3 ≡ shown_as y.by_r3

-- The words of the operation are the same, and what is stricter in the one is looser in the other.
pub record AreMirrored (x y : OperationChanges) : Type 0 where
  pub word : word_of x ≡ word_of y
  pub stricter : AreShownAlike x.stricter y.looser
  pub looser : AreShownAlike x.looser y.stricter

-- Both are found to be in both stations, and so are opening and closing.
abbrev pub AreMirrorImages : Found → Found → Type 0
AreMirrorImages (InBoth x) (InBoth y) = AreMirrored x.opening y.opening × AreMirrored x.closing y.closing
AreMirrorImages one other = ⊥

-- The one comparison is of a new station with an old one, the other of the old one with the new one. Of a switch that both
-- have, both say the same with stricter for looser; a switch that only the new one has is gone in the other.
pub record AreTurnedRound (o n : Diagram) (c d : Comparison) : Type 0 where
  pub both : (i k : ℕ) (f g : Found) → SameSwitch o n i k → slice_get c.here.items k ≡ Some f →
      slice_get d.here.items i ≡ Some g → AreMirrorImages f g
  pub new_is_gone : (k : ℕ) → (slice_get c.here.items k ≡ Some OnlyNew) ↔ (slice_get d.gone.items k ≡ Some true)
  pub gone_is_new : (i : ℕ) → (slice_get c.gone.items i ≡ Some true) ↔ (slice_get d.here.items i ≡ Some OnlyNew)

-- A bay of both stations with a switch that both have has the same word in both.
pub record AreBaysTurnedRound (o n : Diagram) (b c : BayWords) : Type 0 where
  pub common : (p q : ℕ) (path : List ℕ) (w : Word) → slice_get n.part_paths p ≡ Some path →
      slice_get o.part_paths q ≡ Some path → slice_get b.here.items p ≡ Some (Common w) →
      slice_get c.here.items q ≡ Some (Common w)
  pub back : (p q : ℕ) (path : List ℕ) (w : Word) → slice_get n.part_paths p ≡ Some path →
      slice_get o.part_paths q ≡ Some path → slice_get c.here.items q ≡ Some (Common w) →
      slice_get b.here.items p ≡ Some (Common w)
