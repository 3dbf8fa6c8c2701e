-- Which unknown positions do not matter alone to the denial of an operation. It is a relation, since any verdict that
-- decides may be taken; all of them say the same.
use Rattle.std.specs.Prelude.{◌≡◌, ◌<◌, ◌++◌, ◌&&◌, ◌==◌, ℕ, Bool, true, false, List, [], length, slice_get, slice_set}
use Rattle.std.specs.Prelude.{slice_index_or, Option, Some, None, codes, if◌then◌else◌}
use Rattle.std.specs.List.{flat_map}
use Rattle.ilk_base.specs.declared.words.Dbpos.{Dbpos}
use Rattle.ilk_base.specs.declared.words.Dbpos.TheVariants.{Off, On}
use Rattle.ilk_base.specs.declared.words.Op.{Op}
use Rattle.station_graph.specs.Diagram.{Diagram, switch_path}
use Rattle.central_rules.specs.declared.verdict.Verdict.{Verdict}
use Rattle.central_rules.specs.declared.verdict.Verdict.TheVariants.{Release, Denied}
use Rattle.central_rules.specs.Readings.{Decides, IsReading}
use Rattle.central_rules.specs.Names.{is_uncertain}

-- The word is one that leaves the position open.
abbrev pub leaves_open : Option Dbpos → Bool
leaves_open None = false
leaves_open (Some word) = is_uncertain word

-- Switch i is another than the one that is moved, and its position is not known.
abbrev pub is_unknown : List Dbpos → ℕ → ℕ → Bool
is_unknown words moved i = if i == moved then false else leaves_open (slice_get words i)

-- A verdict is a denial.
abbrev pub is_denial : Verdict → Bool
is_denial Release = false
is_denial (Denied rule v) = true

-- Whether the operation is denied where this is the word of switch i, the others being as they are.
pub record DeniedWith (d : Diagram) (words : List Dbpos) (op : Op) (i : ℕ) (word : Dbpos) (denied : Bool) : Type 0 where
  pub verdict : Verdict
  pub decides : Decides d (IsReading (slice_set words i word)) op verdict
  pub denied_is : denied ≡ is_denial verdict

-- Whether the operation is denied with switch i off, and denied with it on.
pub record DeniedWithBoth (d : Diagram) (words : List Dbpos) (op : Op) (i : ℕ) (both : Bool) : Type 0 where
  pub off : Bool
  pub on : Bool
  pub with_off : DeniedWith d words op i Off off
  pub with_on : DeniedWith d words op i On on
  pub both_is : both ≡ off && on

-- The line `whatever PATH`.
abbrev pub whatever_line : Diagram → ℕ → List ℕ
whatever_line d i = codes "whatever " ++ switch_path d i ++ codes "\n"

-- Of a switch whose position is known there is no line; of another there is the line where both are denials.
abbrev pub LineWhere : Bool → Diagram → List Dbpos → Op → ℕ → List ℕ → Type 0
LineWhere false d words op i line = line ≡ []
LineWhere true d words op i line =
    (both : Bool) × DeniedWithBoth d words op i both × (line ≡ (if both then whatever_line d i else []))

-- The line of switch i, if it has one.
abbrev pub IsWhateverLine : Diagram → List Dbpos → Op → ℕ → List ℕ → Type 0
IsWhateverLine d words op i line = LineWhere (is_unknown words op.switch.0 i) d words op i line

-- These are the lines of the first n switches, and this is their text.
pub record AreWhateverLines (n : ℕ) (d : Diagram) (words : List Dbpos) (op : Op) (lines : List (List ℕ))
    (text : List ℕ) : Type 0 where
  pub count : length lines ≡ n
  pub each : (i : ℕ) → i < n → IsWhateverLine d words op i (slice_index_or lines i [])
  pub text_is : text ≡ flat_map (λ l. l) lines

-- The line of each switch that does not matter alone, in document order.
abbrev pub IsWhateverText : Diagram → List Dbpos → Op → List ℕ → Type 0
IsWhateverText d words op text =
    (lines : List (List ℕ)) × AreWhateverLines (length d.switches) d words op lines text
