-- The form of a command: what it is given, in the order in which it is judged, and what it then writes or serves.
-- What a form means is said here once, for all commands.
use Rattle.std.specs.Prelude.{◌≡◌, ◌⊎◌, ⊤, ℕ, List, Option, IfSome}
use Rattle.ilk_base.specs.Outside.{Rose}
use Rattle.station_graph.specs.Diagram.{Diagram}
use Rattle.interlock_cli.specs.Formats.{Format, Value, AcceptsAs, Refuses}
use Rattle.interlock_cli.specs.declared.end.Outcome.{Outcome}
use Rattle.interlock_cli.specs.declared.end.Output.{Output}
use Rattle.interlock_cli.specs.declared.end.End.{End}
use Rattle.interlock_cli.specs.declared.end.End.TheVariants as e

-- Where a content comes from: a file of this name; or it is this text itself, a word or one that the program makes.
pub data Origin : Type 0 where
  File : List ℕ → Origin
  Word : List ℕ → Origin

-- What a command is given, judged in this order, and what it then writes or serves.
pub data Form : Type 1 where
  -- all is accepted: the command writes a text, and ends so
  Write : (Outcome → List ℕ → Type 0) → Form
  -- this content is judged next, and what it is accepted as says how the command goes on
  Take : Origin → (f : Format) → (Value f → Form) → Form
  -- all is accepted: the node of this bay of the station answers each line of the input, before it asks for the
  -- next
  Serve : Diagram → ℕ → Form

-- The content of the origin is this, where it is told.
abbrev pub IsContent : (List ℕ → Option (List ℕ)) → Origin → List ℕ → Type 0
IsContent held (File name) content = IfSome (held name) (λ h. h ≡ content)
IsContent held (Word word) content = word ≡ content

-- A content of the origin is accepted, as this.
abbrev pub Given : (List ℕ → Option (List ℕ)) → Origin → (f : Format) → Value f → Type 0
Given held origin f value = (content : List ℕ) × IsContent held origin content × AcceptsAs f content value

-- A content of the origin is refused, and the call ends so.
abbrev pub Refused : (List ℕ → Option (List ℕ)) → Origin → Format → End → Type 0
Refused held origin f end = (content : List ℕ) × IsContent held origin content × Refuses f content end

-- The count of faults of the origin rose.
abbrev pub ReadRose : (List ℕ → ℕ) → (List ℕ → ℕ) → Origin → Type 0
ReadRose before after (File name) = Rose (before name) (after name)
ReadRose before after (Word word) = ⊥

-- Why a content is not accepted: for memory, by a fault of its read, or it is refused.
abbrev pub Fails : (List ℕ → Option (List ℕ)) → (List ℕ → ℕ) → (List ℕ → ℕ) → Origin → Format → End → Type 0
Fails held before after origin f e.Memory = ⊤
Fails held before after origin f e.ReadFault = ReadRose before after origin
Fails held before after origin f end = Refused held origin f end

-- All that the form names is accepted, and it then writes this text and ends so.
abbrev pub FormSays : Form → (List ℕ → Option (List ℕ)) → Outcome → List ℕ → Type 0
FormSays (Write writes) held outcome text = writes outcome text
FormSays (Serve d b) held outcome text = ⊥
FormSays (Take origin f next) held outcome text =
    (value : Value f) × Given held origin f value × FormSays (next value) held outcome text

-- The same, of what a call has to write.
abbrev pub Gives : Form → (List ℕ → Option (List ℕ)) → Output → Type 0
Gives form held output = FormSays form held output.outcome output.text

-- The form ends before it writes or serves: at the first content that is not accepted, or for memory.
abbrev pub FormStops : Form → (List ℕ → Option (List ℕ)) → (List ℕ → ℕ) → (List ℕ → ℕ) → End → Type 0
FormStops (Write writes) held before after end = end ≡ e.Memory
FormStops (Serve d b) held before after end = ⊥
FormStops (Take origin f next) held before after end =
    Fails held before after origin f end
    ⊎ ((value : Value f) × Given held origin f value × FormStops (next value) held before after end)

-- The form asks for the input.
abbrev pub AsksInput : Form → Type 0
AsksInput (Write writes) = ⊥
AsksInput (Serve d b) = ⊤
AsksInput (Take origin f next) = (value : Value f) × AsksInput (next value)
