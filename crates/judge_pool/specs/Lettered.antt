-- A station and the alphabets of its parts.
use Rattle.std.specs.Prelude.{ℕ, Bool, List}
use Rattle.station_graph.specs.Diagram.{Diagram, IsStation}
use Rattle.contraction.specs.Answers.{Answers}
use Rattle.part_alphabets.specs.PartAlphabets.{Alphabets, letters_of, size_of}
use Rattle.part_alphabets.specs.Alphabets.{AreAlphabets, HasIndex}

-- A station and the alphabets of its parts.
pub record Lettered : Type 0 where
  pub diagram : Diagram
  pub alphabets : Alphabets

-- These two.
abbrev pub lettered : Diagram → Alphabets → Lettered
lettered d a = record { diagram = d; alphabets = a }

-- It is a station, and each of its parts has its alphabet.
pub record AreLettered (a : Lettered) : Type 0 where
  pub station : IsStation a.diagram
  pub alphabets : AreAlphabets a.diagram a.alphabets

-- The letters of a part, and how many indices it has.
abbrev pub letters_in : Lettered → ℕ → List Answers
letters_in a part = letters_of a.alphabets part

-- How many indices a part has.
abbrev pub index_count : Lettered → ℕ → ℕ
index_count a part = size_of a.alphabets part

-- In the vector the part has this index.
abbrev pub PartHas : Lettered → ℕ → ℕ → List Bool → Type 0
PartHas a part index v = HasIndex a.diagram a.alphabets part index v
