-- What is kept of an index that is possible.
use Rattle.std.proofs.Common.{ℕ, Option, None, Some, List, MatchOption, IfSome}
use Rattle.ilk_base.specs.declared.words.Dbpos.{Dbpos}
use Rattle.station_graph.specs.Diagram.{Diagram}
use Rattle.part_alphabets.specs.PartAlphabets.{Alphabets}
use Rattle.part_alphabets.specs.Alphabets.{CanHave, IsAgreeing, KeepsPosition, InSet, IsPossible}

-- it is a position, where all that are kept are
pub kept_position : (Position : ℕ → Type 0) (set : List (Option ℕ)) (i : ℕ) (o : Option ℕ)
    → ((k p : ℕ) → KeepsPosition set k p → Position p) → MatchOption o (¬ InSet set i) (KeepsPosition set i)
    → IfSome o Position
kept_position Position set i None are none = tt
kept_position Position set i (Some p) are at = are i p at

-- it agrees with the words
pub kept_agreeing : (d : Diagram) (a : Alphabets) (part : ℕ) (words : List Dbpos) (set : List (Option ℕ)) (i : ℕ)
    (o : Option ℕ) → IsPossible d a part words set → MatchOption o (¬ InSet set i) (KeepsPosition set i)
    → MatchOption o (¬ CanHave d a part words i) (IsAgreeing d a part words i)
kept_agreeing d a part words set i None is none = λ c. none ((is.exact i).1 c)
kept_agreeing d a part words set i (Some p) is at = is.placed i p at
