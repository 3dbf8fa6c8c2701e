-- The plain summary: a row of words, one for each switch of the bay.
use Rattle.std.specs.Prelude.{◌≡◌, ◌<◌, ◌≤◌, ◌==◌, ℕ, Bool, List, length, EachIndex, Option, Some, None, slice_get}
use Rattle.std.specs.Prelude.{slice_index, slice_index_or, if◌then◌else◌}
use Rattle.std.proofs.Common.{◌∙◌}
use Rattle.ilk_base.specs.declared.words.Dbpos.{Dbpos}
use Rattle.ilk_base.specs.declared.words.Dbpos.TheVariants.{Intermediate, Off, On, Bad, Lost}
use Rattle.double_points.specs.Words.{Agrees}
use Rattle.station_graph.specs.Diagram.{Diagram, switches_in, place_in}
use Rattle.station_graph.specs.Connection.{a_switch}
use Rattle.station_graph.specs.Sharing.{OfPart}
use Rattle.central_rules.specs.Meaning.{Meaning, Laws, bay_of}

-- The code of a word in a row: the double-point values of the common data class DPC (IEC 61850-7-3), and 4
-- for lost.
abbrev pub code_of_word : Dbpos → ℕ
code_of_word Intermediate = 0
code_of_word Off = 1
code_of_word On = 2
code_of_word Bad = 3
code_of_word Lost = 4

-- The word of a code.
abbrev pub word_of_code : ℕ → Dbpos
word_of_code c = if c == 0 then Intermediate else if c == 1 then Off else if c == 2 then On else if c == 3 then
    Bad else Lost

-- The bytes are a row of words of the bay: one code for each of its switches.
pub record IsRow (d : Diagram) (b : ℕ) (s : List ℕ) : Type 0 where
  pub each_switch : length s ≡ switches_in d b
  pub codes : EachIndex s (λ k. slice_index s k ≤ 4)

-- A row allows the positions in which each switch of the bay agrees with the word in its place.
abbrev pub RowAllows : Diagram → ℕ → List ℕ → List Bool → Type 0
RowAllows d b s v = (i code : ℕ) (closed : Bool) → OfPart d b (a_switch i) → slice_get s (place_in d b i) ≡ Some code →
    slice_get v i ≡ Some closed → Agrees (word_of_code code) closed

-- What the summaries of the plain judge of a station mean: every bay tells every other, and a summary is a
-- row of words.
abbrev pub by_rows : Diagram → Meaning
by_rows d = record {
  diagram = d;
  Silent = λ b to. ⊥;
  Fits = λ b to s. IsRow d b s;
  Allows = λ b s v. RowAllows d b s v;
}

-- The law of a judge holds of it.
pub by_rows_lawful : (d : Diagram) → Laws (by_rows d)
by_rows_lawful d = record {
  local = λ b s v w whole_v whole_w same allows i code closed of_b at_s at_w. allows i code closed of_b at_s
      (same i of_b ∙ at_w);
  irrelevant = λ b to other never. absurd never;
  empty_fits = λ b to s other never. absurd never;
  empty_allows = λ b to v other never. absurd never;
}

-- The word in a place of what was heard of a bay; lost where nothing was heard.
abbrev pub heard_word : Option (Option (List ℕ)) → ℕ → Dbpos
heard_word (Some (Some s)) k = word_of_code (slice_index_or s k 4)
heard_word (Some None) k = Lost
heard_word None k = Lost

-- The word that a bay knows of a switch: its own word of its own switches, and of the others the one heard.
abbrev pub known_word : Diagram → ℕ → List Dbpos → List (Option (List ℕ)) → ℕ → Dbpos
known_word d bay own heard i = if bay_of d i == bay then slice_index_or own i Lost else heard_word
    (slice_get heard (bay_of d i)) (place_in d (bay_of d i) i)

-- The first places of the list hold what the function gives.
abbrev pub FirstAre : {X : Type 0} → (ℕ → X) → ℕ → List X → Type 0
FirstAre f n xs = (k : ℕ) → k < n → slice_get xs k ≡ Some (f k)

-- The bytes are the row of these words.
pub record IsRowOf (d : Diagram) (b : ℕ) (words : List Dbpos) (s : List ℕ) : Type 0 where
  pub row : IsRow d b s
  pub each : (i : ℕ) (word : Dbpos) → OfPart d b (a_switch i) → slice_get words i ≡ Some word →
      slice_get s (place_in d b i) ≡ Some (code_of_word word)
