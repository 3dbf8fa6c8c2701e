-- The text of `explain` where no operation is named: for each operation of the station that is denied, in document
-- order, what `explain` tells of it. It is a relation, as the text of one operation is.
use Rattle.std.specs.Prelude.{◌≡◌, ◌<◌, ◌++◌, ℕ, List, [], length, slice_index_or}
use Rattle.std.specs.List.{flat_map}
use Rattle.ilk_base.specs.declared.words.Dbpos.{Dbpos}
use Rattle.ilk_base.specs.declared.words.Direction.{Direction}
use Rattle.ilk_base.specs.declared.words.Direction.TheVariants.{ToOff, ToOn}
use Rattle.ilk_base.specs.declared.words.Op.{Op}
use Rattle.station_graph.specs.Diagram.{Diagram}
use Rattle.central_rules.specs.declared.verdict.Verdict.{Verdict}
use Rattle.central_rules.specs.declared.verdict.Verdict.TheVariants.{Release, Denied}
use Rattle.central_rules.specs.Readings.{Decides, IsReading}
use Rattle.release_texts.specs.ExplainText.{TellsVerdict}

-- What is told of a verdict where releases are left out: nothing of a release, and of a denial what `explain` tells.
abbrev pub TellsUnlessReleased : Diagram → List Dbpos → Op → List ℕ → Verdict → Type 0
TellsUnlessReleased d words op text Release = text ≡ []
TellsUnlessReleased d words op text (Denied rule v) = TellsVerdict d words op text (Denied rule v)

-- The text tells so of the verdict on the operation over every reading of the words.
pub record TellsIfDenied (d : Diagram) (words : List Dbpos) (op : Op) (text : List ℕ) : Type 0 where
  pub verdict : Verdict
  pub decides : Decides d (IsReading words) op verdict
  pub tells : TellsUnlessReleased d words op text verdict

-- The operation that moves switch i so.
abbrev pub operation_on : ℕ → Direction → Op
operation_on i direction = record { switch = record { 0 = i }; direction = direction }

-- The text of switch i: what is told of opening it, and then of closing it.
pub record SwitchDenials (d : Diagram) (words : List Dbpos) (i : ℕ) (text : List ℕ) : Type 0 where
  pub opening : List ℕ
  pub closing : List ℕ
  pub opens : TellsIfDenied d words (operation_on i ToOff) opening
  pub closes : TellsIfDenied d words (operation_on i ToOn) closing
  pub text_is : text ≡ opening ++ closing

-- These are the texts of the first n switches, and this is all of them.
pub record AreDenials (n : ℕ) (d : Diagram) (words : List Dbpos) (texts : List (List ℕ)) (text : List ℕ) : Type 0 where
  pub count : length texts ≡ n
  pub each : (i : ℕ) → i < n → SwitchDenials d words i (slice_index_or texts i [])
  pub text_is : text ≡ flat_map (λ t. t) texts

-- The text of each switch, in document order.
abbrev pub IsDenialsText : Diagram → List Dbpos → List ℕ → Type 0
IsDenialsText d words text = (texts : List (List ℕ)) × AreDenials (length d.switches) d words texts text

-- Behind the old text stands one that is such.
abbrev pub Adds : (List ℕ → Type 0) → List ℕ → List ℕ → Type 0
Adds IsSuch old new = (more : List ℕ) × (new ≡ old ++ more) × IsSuch more
