-- What the lines of blocks say, and which line is the first with a fault.
use Rattle.std.specs.Prelude.{◌≡◌, ◌≢◌, ◌<◌, ◌≤◌, ◌+◌, ◌++◌, ◌⊎◌, ⊤, ℕ, Bool, List, [], ◌∷◌, length, map, flat_map}
use Rattle.std.specs.Prelude.{slice_get, Option, Some, None, Contains, All, codes, option_to_list}
use Rattle.std.specs.List.{AllZip}
use Rattle.std.specs.Str.Lines.{lines}
use Rattle.ilk_base.specs.declared.words.Op.{Op}
use Rattle.ilk_base.specs.declared.words.InputRefusal.{InputRefusal}
use Rattle.station_graph.specs.Diagram.{Diagram}
use Rattle.central_rules.specs.Names.{position_name}
use Rattle.text_lines.specs.Lines.{filled_lines, Continues}
use Rattle.operation_lines.specs.OperationLines.{NamesOperation, HasFault, fault_number}
use Rattle.operation_lines.specs.declared.operation.LineFault.{LineFault}
use Rattle.operation_lines.specs.declared.operation.LineFault.TheVariants.{Form, Unknown}
use Rattle.equation_audit.specs.declared.condition.Condition.{Condition}
use Rattle.ilk_base.specs.declared.limits.TheConstants.{FILE_BYTES}
use Rattle.equation_audit.specs.Equations.{Equation, HasFewOwn, IsBroad}

-- What a line says: it begins the block of an operation, it is `never`, `or` or `end`, or it is a condition.
pub data Statement : Type 0 where
  Begins : Op → Statement
  Never : Statement
  Or : Statement
  When : Condition → Statement
  End : Statement

-- The line is `when on PATH` or `when off PATH`, and the path is not empty.
abbrev pub IsConditionLine : Bool → List ℕ → List ℕ → Type 0
IsConditionLine closed path line = Continues (codes "when " ++ position_name closed ++ codes " ") path line

-- The line is this condition on a switch of the station.
pub record NamesCondition (d : Diagram) (line : List ℕ) (c : Condition) : Type 0 where
  pub path : List ℕ
  pub written : IsConditionLine c.closed path line
  pub named : slice_get d.switch_paths c.switch.0 ≡ Some path

-- The line says this.
abbrev pub LineSays : Diagram → List ℕ → Statement → Type 0
LineSays d line (Begins op) = NamesOperation d line op
LineSays d line Never = line ≡ codes "never"
LineSays d line Or = line ≡ codes "or"
LineSays d line (When c) = NamesCondition d line c
LineSays d line End = line ≡ codes "end"

-- The lines say these, one each.
abbrev pub Say : Diagram → List (ℕ × List ℕ) → List Statement → Type 0
Say d numbered statements = AllZip (λ line s. LineSays d line.1 s) numbered statements

-- What a body says: `never`, or the conditions of each alternative, with `or` between each two.
abbrev pub body : List (List Condition) → List Statement
body [] = Never ∷ []
body (conditions ∷ []) = map When conditions
body (conditions ∷ next ∷ rest) = map When conditions ++ Or ∷ body (next ∷ rest)

-- What the lines of a block say before its `end`.
abbrev pub front : Equation → List Statement
front e = Begins e.op ∷ body e.alternatives

-- What the lines of a block say.
abbrev pub whole : Equation → List Statement
whole e = front e ++ End ∷ []

-- One of the equations is of this operation.
abbrev pub HasBlock : List Equation → Op → Type 0
HasBlock [] op = ⊥
HasBlock (e ∷ es) op = (e.op ≡ op) ⊎ HasBlock es op

-- No two equations are of one operation.
abbrev pub OneEach : List Equation → Type 0
OneEach [] = ⊤
OneEach (e ∷ es) = (¬ HasBlock es e.op) × OneEach es

-- Each has few enough own switches.
abbrev pub AllFew : List Equation → Type 0
AllFew es = All (λ e. HasFewOwn e.alternatives) es

-- The bytes are blocks of these equations.
pub record AreBlocks (d : Diagram) (bytes : List ℕ) (es : List Equation) : Type 0 where
  pub few_bytes : length bytes ≤ FILE_BYTES
  pub say : Say d (filled_lines bytes) (flat_map whole es)
  pub one_each : OneEach es
  pub few : AllFew es

-- Why a line between blocks begins none: it is no operation of the station (10 or 2), or one that has a
-- block (4).
abbrev pub HasHeadFault : Diagram → List Equation → List ℕ → ℕ → Type 0
HasHeadFault d es line number =
    ((fault : LineFault) × HasFault d line fault × (number ≡ fault_number fault))
    ⊎ ((op : Op) × NamesOperation d line op × HasBlock es op × (number ≡ 4))

-- The line may not stand in a body that says this so far: it is not `end`; where it is `never`, the body has
-- begun; where it is `or` or a condition, the body is `never`.
pub record IsOutOfPlace (alternatives : List (List Condition)) (line : List ℕ) : Type 0 where
  pub no_end : line ≢ codes "end"
  pub no_never : line ≡ codes "never" → alternatives ≢ [] ∷ []
  pub no_or : line ≡ codes "or" → alternatives ≡ []
  pub no_condition : (closed : Bool) (path : List ℕ) → IsConditionLine closed path line → alternatives ≡ []

-- The line is a condition on a path that no switch has.
pub record NamesUnknown (d : Diagram) (line : List ℕ) : Type 0 where
  pub closed : Bool
  pub path : List ℕ
  pub written : IsConditionLine closed path line
  pub unknown : ¬ Contains d.switch_paths path

-- Why a line is no condition on a switch of the station: it is not of the form, or no switch has its path.
abbrev pub HasConditionFault : Diagram → List ℕ → LineFault → Type 0
HasConditionFault d line Form = (closed : Bool) (path : List ℕ) → ¬ IsConditionLine closed path line
HasConditionFault d line Unknown = NamesUnknown d line

-- Why a line does not go on a body that says this so far: it may not stand there (10), its switch is
-- unknown (2), or its switch is one more than the few (13).
abbrev pub HasBodyFault : Diagram → List (List Condition) → List ℕ → ℕ → Type 0
HasBodyFault d alternatives line number =
    (IsOutOfPlace alternatives line × (number ≡ 10))
    ⊎ ((alternatives ≢ []) × NamesUnknown d line × (number ≡ 2))
    ⊎ ((alternatives ≢ []) × (c : Condition) × NamesCondition d line c × IsBroad alternatives c.switch.0
    × (number ≡ 13))

-- The refusal is of this line, and this holds of its number.
abbrev pub InLine : ℕ → (ℕ → Type 0) → InputRefusal → Type 0
InLine number Fault r = (r.line ≡ number) × Fault r.number

-- After these lines comes one of which this holds, with the refusal's number.
pub record FaultAfter (before all : List (ℕ × List ℕ)) (Fault : List ℕ → ℕ → Type 0) (r : InputRefusal) : Type 0 where
  pub line : List ℕ
  pub rest : List (ℕ × List ℕ)
  pub stands : all ≡ before ++ (r.line, line) ∷ rest
  pub fault : Fault line r.number

-- After these lines nothing comes; the refusal is 10, in the line after the last of so many.
pub record EndsAfter (before all : List (ℕ × List ℕ)) (count : ℕ) (r : InputRefusal) : Type 0 where
  pub nothing : all ≡ before
  pub refused : r ≡ record { number = 10; line = count + 1 }

-- In a body that says this so far comes a fault, at a line or at the end of the text.
abbrev pub BodyFaultAfter : Diagram → List (List Condition) → List (ℕ × List ℕ) → List (ℕ × List ℕ) → ℕ →
    InputRefusal → Type 0
BodyFaultAfter d alternatives before all count r = FaultAfter before all (HasBodyFault d alternatives) r
    ⊎ EndsAfter before all count r

-- What is wrong after whole blocks, and after those and one that is begun.
abbrev pub HasFaultAfter : Diagram → List Equation → Option Equation → List (ℕ × List ℕ) → List (ℕ × List ℕ) → ℕ →
    InputRefusal → Type 0
HasFaultAfter d es None before all count r = FaultAfter before all (HasHeadFault d es) r
HasFaultAfter d es (Some e) before all count r = BodyFaultAfter d e.alternatives before all count r

-- What the lines of a block that is begun say, if there is one.
abbrev pub begun_lines : Option Equation → List Statement
begun_lines None = []
begun_lines (Some e) = front e

-- The first fault of the text: the lines before it are whole blocks, and perhaps one that is begun.
pub record IsFirstBlockFault (d : Diagram) (bytes : List ℕ) (r : InputRefusal) : Type 0 where
  pub before : List (ℕ × List ℕ)
  pub blocks : List Equation
  pub begun : Option Equation
  pub say : Say d before (flat_map whole blocks ++ begun_lines begun)
  pub one_each : OneEach (blocks ++ option_to_list begun)
  pub few : AllFew (blocks ++ option_to_list begun)
  pub fault : HasFaultAfter d blocks begun before (filled_lines bytes) (length (lines bytes)) r

-- Why the bytes are no blocks: they are too many (5, in no line), else by the first fault.
abbrev pub IsBlocksFault : Diagram → List ℕ → InputRefusal → Type 0
IsBlocksFault d bytes r =
    ((FILE_BYTES < length bytes) × (r ≡ record { number = 5; line = 0 }))
    ⊎ ((length bytes ≤ FILE_BYTES) × IsFirstBlockFault d bytes r)

-- The next line was `end`.
pub record IsEndPassed (old new : List (ℕ × List ℕ)) : Type 0 where
  pub line : ℕ × List ℕ
  pub those : old ≡ line ∷ new
  pub is_end : line.1 ≡ codes "end"

-- The lines that a reader has passed are the rest of a block: the body of these alternatives, and `end`.
pub record IsRest (d : Diagram) (old new : List (ℕ × List ℕ)) (alternatives : List (List Condition)) : Type 0 where
  pub passed : List (ℕ × List ℕ)
  pub those : old ≡ passed ++ new
  pub say : Say d passed (body alternatives ++ End ∷ [])

-- The first fault of the rest of a block, of which these lines are left.
pub record IsRestFault (d : Diagram) (left : List (ℕ × List ℕ)) (count : ℕ) (r : InputRefusal) : Type 0 where
  pub before : List (ℕ × List ℕ)
  pub alternatives : List (List Condition)
  pub say : Say d before (body alternatives)
  pub few : HasFewOwn alternatives
  pub fault : BodyFaultAfter d alternatives before left count r

-- The line goes on a body that says the old, so that it says the new.
pub record GoesOn (d : Diagram) (line : List ℕ) (old new : List (List Condition)) : Type 0 where
  pub statement : Statement
  pub says : LineSays d line statement
  pub more : body new ≡ body old ++ statement ∷ []
