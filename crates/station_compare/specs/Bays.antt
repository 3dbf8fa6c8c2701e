-- The words of bays.
use Rattle.std.specs.Prelude.{◌≡◌, ℕ, ◌<◌, ◌≤◌, ◌⊎◌, Bool, true, false, List, slice_get, Option, Some, None}
use Rattle.ilk_base.specs.declared.words.Op.{Op}
use Rattle.station_graph.specs.Diagram.{Diagram, part_count, switches_in}
use Rattle.station_graph.specs.Connection.{a_switch}
use Rattle.station_graph.specs.Sharing.{OfPart}
use Rattle.station_changes.specs.Compare.{IsCommon}
use Rattle.station_compare.specs.Each.{AreEach}
use Rattle.station_compare.specs.declared.bays.BayWord.{BayWord}
use Rattle.station_compare.specs.declared.bays.BayWord.TheVariants.{NoBay, New, Common}
use Rattle.station_compare.specs.declared.bays.BayWords.{BayWords}
use Rattle.station_compare.specs.declared.word.Word.{Word}
use Rattle.station_compare.specs.Words.{IsWord, worse}

-- An operation that both stations have, of one of these switches of the new one.
pub record IsCommonOf (o n : Diagram) (These : ℕ → Type 0) (a b : Op) : Type 0 where
  pub common : IsCommon o n a b
  pub among : These b.switch.0

-- The word of one of these operations, than which none of them has a worse one.
pub record IsWorst (o n : Diagram) (These : ℕ → Type 0) (w : Word) : Type 0 where
  pub old : Op
  pub new : Op
  pub operation : IsCommonOf o n These old new
  pub word : IsWord o n old new w
  pub worst : (a b : Op) (x : Word) → IsCommonOf o n These a b → IsWord o n a b x → worse x w ≡ w

-- The worst word, and none where there is no such operation.
abbrev pub WorstOf : Diagram → Diagram → (ℕ → Type 0) → Option Word → Type 0
WorstOf o n These None = (a b : Op) → ¬ IsCommonOf o n These a b
WorstOf o n These (Some w) = IsWorst o n These w

-- The numbers from the first on and before the last.
abbrev pub Between : ℕ → ℕ → ℕ → Type 0
Between first last k = (first ≤ k) × (k < last)

-- The switch is one of the part.
abbrev pub InPart : Diagram → ℕ → ℕ → Type 0
InPart d part k = OfPart d part (a_switch k)

-- The word of a part of the new station.
abbrev pub IsBayWord : Diagram → Diagram → ℕ → BayWord → Type 0
IsBayWord o n p NoBay = switches_in n p ≡ 0
IsBayWord o n p New = (0 < switches_in n p) × WorstOf o n (InPart n p) None
IsBayWord o n p (Common w) = IsWorst o n (InPart n p) w

-- Those of all its parts.
abbrev pub AreBayWords : Diagram → Diagram → List BayWord → Type 0
AreBayWords o n words = AreEach (IsBayWord o n) (part_count n) words

-- A bay of the new station has the path of part q of the old one.
pub record HasBay (o n : Diagram) (q : ℕ) : Type 0 where
  pub part : ℕ
  pub path : List ℕ
  pub old_at : slice_get o.part_paths q ≡ Some path
  pub new_at : slice_get n.part_paths part ≡ Some path
  pub bay : 0 < switches_in n part

-- Whether part q of the old station is a bay, and no bay of the new one has its path.
abbrev pub IsGoneBay : Diagram → Diagram → ℕ → Bool → Type 0
IsGoneBay o n q true = (0 < switches_in o q) × (¬ HasBay o n q)
IsGoneBay o n q false = (switches_in o q ≡ 0) ⊎ HasBay o n q

-- So for each part of the old station.
abbrev pub AreGoneBays : Diagram → Diagram → List Bool → Type 0
AreGoneBays o n gone = AreEach (IsGoneBay o n) (part_count o) gone

-- What is found of the bays of both.
pub record AreBays (o n : Diagram) (b : BayWords) : Type 0 where
  pub here : AreBayWords o n b.here.items
  pub gone : AreGoneBays o n b.gone.items
