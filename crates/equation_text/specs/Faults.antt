-- Which lines of a text have a fault: the line that cannot stand where it does, and each that names a step or
-- node that no line defines.
use Rattle.std.specs.Prelude.{◌≡◌, ◌≤◌, ◌==◌, ◌++◌, ◌⊎◌, zero, suc, ℕ, List, [], ◌∷◌, length, map, codes, decimal}
use Rattle.std.specs.Prelude.{count_by}
use Rattle.station_graph.specs.Diagram.{Diagram}
use Rattle.text_lines.specs.Decimals.{IsDecimal}
use Rattle.station_equations.specs.EquationLines.{EquationLines, goal_count}
use Rattle.station_equations.specs.EquationText.{lines_of, text_of}
use Rattle.equation_text.specs.Words.{Lacks, EndsWord}
use Rattle.equation_text.specs.Reading.{front_text, MayBeOps, MayBeNodes}
use Rattle.equation_text.specs.ReadText.{MayBeParts}

-- How many lines end in the text.
abbrev pub feeds : List ℕ → ℕ
feeds text = count_by (λ byte. byte == 10) text

-- The text is empty or ends with LF.
abbrev pub EndsInLf : List ℕ → Type 0
EndsInLf text = (text ≡ []) ⊎ ((before : List ℕ) × (text ≡ before ++ 10 ∷ []))

-- The lines are of the form, but for numbers that no line defines.
pub record AreFormed (d : Diagram) (e : EquationLines) : Type 0 where
  pub parts : MayBeParts d e.parts
  pub ops : MayBeOps (length d.switches) e.ops
  pub nodes : MayBeNodes (length d.switches) (map goal_count e.parts) e.nodes

-- A text of such lines begins so.
pub record BeginsText (d : Diagram) (before : List ℕ) : Type 0 where
  pub lines : EquationLines
  pub formed : AreFormed d lines
  pub rest : List ℕ
  pub is : text_of (lines_of d lines) ≡ before ++ rest

-- A text of such lines can begin with the lines before this place, and not with the line at it as well; no whole
-- text of such lines ends at it.
pub record IsWrongAt (d : Diagram) (before left : List ℕ) : Type 0 where
  pub whole : EndsInLf before
  pub begins : BeginsText d before
  pub none : (line rest : List ℕ) → Lacks 10 line → left ≡ line ++ 10 ∷ rest
      → ¬ BeginsText d (before ++ (line ++ 10 ∷ []))
  pub not_all : left ≡ [] → (e : EquationLines) → AreFormed d e → ¬ (before ≡ text_of (lines_of d e))

-- What a line defines: step m of a part, or a node.
pub data Entry : Type 0 where
  step_of : ℕ → ℕ → Entry
  node_of : ℕ → Entry

-- The words with which the line begins that defines it, whatever stands behind them.
abbrev pub head_of : Entry → List ℕ
head_of (step_of p m) = codes "step " ++ (decimal p ++ (codes " " ++ (decimal m ++ codes " ")))
head_of (node_of n) = codes "node " ++ (decimal n ++ codes " ")

-- A line of the text begins with the words.
pub record HasLine (text head : List ℕ) : Type 0 where
  pub before : List ℕ
  pub whole : EndsInLf before
  pub rest : List ℕ
  pub is : text ≡ before ++ (head ++ rest)

-- A line of the text defines the entry.
abbrev pub IsDefined : List ℕ → Entry → Type 0
IsDefined text x = HasLine text (head_of x)

-- The text begins with a blank and the word, and goes on so.
pub record IsNextWord (text word rest : List ℕ) : Type 0 where
  pub is : text ≡ 32 ∷ (word ++ rest)
  pub first : Lacks 32 word
  pub ends : EndsWord rest

-- What stands behind the first words of the text, so many, each after a blank.
abbrev pub Behind : ℕ → List ℕ → List ℕ → Type 0
Behind zero text rest = text ≡ rest
Behind (suc n) text rest = (word more : List ℕ) × IsNextWord text word more × Behind n more rest

-- A word of the text, after a blank, is this number.
pub record HasNumber (text : List ℕ) (n : ℕ) : Type 0 where
  pub before : List ℕ
  pub after : List ℕ
  pub word : List ℕ
  pub is : text ≡ before ++ 32 ∷ (word ++ after)
  pub first : Lacks 32 word
  pub ends : EndsWord after
  pub number : IsDecimal word n

-- The line begins with this word, and behind so many more these words stand.
pub record HasHead (head : List ℕ) (skipped : ℕ) (line words : List ℕ) : Type 0 where
  pub rest : List ℕ
  pub is : line ≡ head ++ rest
  pub behind : Behind skipped rest words

-- The same where the first word behind the head is this number.
pub record LeadsIn (head : List ℕ) (p skipped : ℕ) (line words : List ℕ) : Type 0 where
  pub rest : List ℕ
  pub word : List ℕ
  pub more : List ℕ
  pub is : line ≡ head ++ rest
  pub next : IsNextWord rest word more
  pub number : IsDecimal word p
  pub behind : Behind skipped more words

-- A number of the line names the entry: where it is the line of a part, a step, an operation or a node, one of
-- the words that say where it leads.
abbrev pub Names : List ℕ → Entry → Type 0
Names line (step_of p m) = (words : List ℕ)
    × (LeadsIn (codes "part") p 0 line words ⊎ LeadsIn (codes "step") p 2 line words) × HasNumber words m
Names line (node_of n) = (words : List ℕ) × (HasHead (codes "op") 2 line words ⊎ HasHead (codes "node") 3 line words)
    × HasNumber words n

-- The line names an entry that no line of the text defines.
pub record NamesUndefined (text line : List ℕ) : Type 0 where
  pub entry : Entry
  pub named : Names line entry
  pub undefined : ¬ IsDefined text entry

-- The text has this line behind whole lines.
pub record IsLine (text before line : List ℕ) : Type 0 where
  pub whole : EndsInLf before
  pub lacks : Lacks 10 line
  pub rest : List ℕ
  pub is : text ≡ before ++ (line ++ 10 ∷ rest)

-- The line of this number cannot stand where it does, or is the one behind the text.
pub record IsWrong (d : Diagram) (text : List ℕ) (k : ℕ) : Type 0 where
  pub before : List ℕ
  pub left : List ℕ
  pub is : text ≡ before ++ left
  pub wrong : IsWrongAt d before left
  pub number : k ≡ suc (feeds before)

-- The line of this number, behind those of the switches, names an entry that no line behind them defines.
pub record HasUndefined (d : Diagram) (text : List ℕ) (k : ℕ) : Type 0 where
  pub body : List ℕ
  pub is : text ≡ front_text d ++ body
  pub before : List ℕ
  pub line : List ℕ
  pub stands : IsLine body before line
  pub names : NamesUndefined body line
  pub number : k ≡ suc (feeds (front_text d ++ before))

-- The line of this number, from 1, has a fault.
abbrev pub HasFault : Diagram → List ℕ → ℕ → Type 0
HasFault d text k = IsWrong d text k ⊎ HasUndefined d text k

-- It is the first line that has one.
pub record IsFirstFault (d : Diagram) (text : List ℕ) (k : ℕ) : Type 0 where
  pub has : HasFault d text k
  pub first : (j : ℕ) → HasFault d text j → k ≤ j
