-- For which station a text stands.
use Rattle.std.specs.Prelude.{◌+◌, ◌≡◌, ℕ, ◌<◌, ◌≤◌, ◌⊎◌, List, [], length, Option, Result, Ok, Err}
use Rattle.std.specs.Option.{option_or, option_map_or}
use Rattle.ilk_base.specs.declared.limits.TheConstants.{FILE_BYTES}
use Rattle.station_graph.specs.declared.fault.What.TheVariants.{Bytes}
use Rattle.station_graph.specs.Diagram.{Diagram}
use Rattle.ssd_text.specs.declared.refusal.TextRefusal.{TextRefusal}
use Rattle.ssd_text.specs.Nesting.{Entry, Spells}
use Rattle.ssd_read.specs.declared.refusal.SsdRefusal.{SsdRefusal}
use Rattle.ssd_read.specs.declared.refusal.SsdRefusal.TheVariants.{Limit, Memory}
use Rattle.ssd_read.specs.Elements.{Element, elements_of}
use Rattle.ssd_read.specs.Names.{root_fault, name_fault, first_fault}
use Rattle.ssd_read.specs.PathBytes.{paths_fault}
use Rattle.ssd_read.specs.Ends.{end_fault}
use Rattle.ssd_read.specs.Steps.{steps_of, built}
use Rattle.station_graph.specs.Diagram.{empty}
use Rattle.ssd_read.specs.Seen.{AnswersRefusal, refusal_of_text}

-- The first fault of the elements: of all paths together, then of names, then of ends.
abbrev pub fault_of : List Element → Option SsdRefusal
fault_of all =
    option_or (paths_fault all) (option_or (first_fault name_fault [] all) (first_fault (end_fault all) [] all))

-- The station of the elements, or their first fault.
abbrev pub station_of : List Element → Result Diagram SsdRefusal
station_of all = option_map_or Err (fault_of all) (built empty (steps_of all))

-- The answer is the outcome of these elements; want of memory has no cause.
abbrev pub ElementsAnswer : List Element → Result Diagram SsdRefusal → Type 0
ElementsAnswer all (Ok d) = station_of all ≡ Ok d
ElementsAnswer all (Err e) = AnswersRefusal e (station_of all)

-- The station of a tree, or its first fault.
abbrev pub outcome_of : List Entry → Result Diagram SsdRefusal
outcome_of tree = option_map_or Err (root_fault tree) (station_of (elements_of tree))

-- What a call answers for a tree is its outcome, unless memory ran out.
abbrev pub TreeAnswers : List Entry → Result Diagram SsdRefusal → Type 0
TreeAnswers tree (Ok d) = outcome_of tree ≡ Ok d
TreeAnswers tree (Err e) = AnswersRefusal e (outcome_of tree)

-- The outcome of a text, by the tree that it spells or its first fault.
abbrev pub after_text : Result (List Entry) TextRefusal → Result Diagram SsdRefusal
after_text (Ok tree) = outcome_of tree
after_text (Err fault) = Err (refusal_of_text fault)

-- The text has this outcome: the station for which it stands, or its first fault.
abbrev pub Stands : List ℕ → Result Diagram SsdRefusal → Type 0
Stands text outcome =
    ((FILE_BYTES < length text) × (outcome ≡ Err (Limit Bytes (FILE_BYTES + 1))))
    ⊎ ((length text ≤ FILE_BYTES) × (read : Result (List Entry) TextRefusal) × Spells text read
    × (outcome ≡ after_text read))

-- The tree stands for this station.
abbrev pub TreeStandsFor : List Entry → Diagram → Type 0
TreeStandsFor tree d = outcome_of tree ≡ Ok d

-- What a call answers is the outcome, unless memory ran out.
abbrev pub TellsStation : List ℕ → Result Diagram SsdRefusal → Type 0
TellsStation text (Err Memory) = Unit {0}
TellsStation text outcome = Stands text outcome
