-- A call without faults of the outside, whose files are told and accepted, goes through, or wants memory.
use Rattle.std.specs.Prelude.{◌≡◌, ◌⊎◌, ⊤, ℕ, List, Option, Some, None}
use Rattle.ilk_base.specs.Outside.{Rose}
use Rattle.node_session.specs.SessionEnds.{IsInput}
use Rattle.interlock_cli.specs.Formats.{Format, Value, AcceptsAs}
use Rattle.interlock_cli.specs.Form.{Form, Write, Take, Serve, Origin, File, Word, ReadRose, FormSays}
use Rattle.interlock_cli.specs.Commands.{Command, form_of}
use Rattle.interlock_cli.specs.Ends.{Call, Serves}
use Rattle.interlock_cli.specs.Lines.{outcome_status}
use Rattle.interlock_cli.specs.declared.end.Outcome.{Outcome}
use Rattle.interlock_cli.specs.declared.end.Outcome.TheVariants.{Done}
use Rattle.interlock_cli.specs.declared.end.End.TheVariants.{Written}
use Rattle.interlock_cli.specs.declared.status.Status.{Status}
use Rattle.interlock_cli.specs.declared.status.Status.TheVariants.{Memory}

-- The content of the origin is told, and is this.
abbrev pub OriginTells : (List ℕ → Option (List ℕ)) → Origin → List ℕ → Type 0
OriginTells held (File name) content = held name ≡ Some content
OriginTells held (Word word) content = word ≡ content

-- The content is accepted as something.
abbrev pub IsAcceptable : Format → List ℕ → Type 0
IsAcceptable f content = (value : Value f) × AcceptsAs f content value

-- All that the form names is told and accepted: this content, and the rest by what it is accepted as; where the
-- input is served, it is told too, and of lines that are not refused.
abbrev pub IsAnswered : Form → (List ℕ → Option (List ℕ)) → Option (List ℕ) → Type 0
IsAnswered (Write writes) held input = ⊤
IsAnswered (Serve d b) held input = (content : List ℕ) × (input ≡ Some content) × IsInput d b content
IsAnswered (Take origin f next) held input =
    (content : List ℕ) × OriginTells held origin content × IsAcceptable f content
    × ((value : Value f) → AcceptsAs f content value → IsAnswered (next value) held input)

-- No count rose of what the form reads.
abbrev pub ReadsCalm : Form → Call → Type 0
ReadsCalm (Write writes) c = ⊤
ReadsCalm (Serve d b) c = ¬ Rose c.before.reads c.after.reads
ReadsCalm (Take origin f next) c =
    (¬ ReadRose c.reads_before c.reads_after origin) × ((value : Value f) → ReadsCalm (next value) c)

-- The call goes through: it ends as its text says, or has served the whole input; or it wants memory.
abbrev pub GoesThrough : Form → Call → Status → Type 0
GoesThrough form c status =
    ((outcome : Outcome) × (text : List ℕ) × FormSays form c.held outcome text × (status ≡ outcome_status outcome))
    ⊎ (Serves form c (Written Done) × (status ≡ outcome_status Done)) ⊎ (status ≡ Memory)

-- Where all is told, accepted and calm, the call goes through.
abbrev pub Completes : Status → Option Command → Call → Type 0
Completes status None c = ⊤
Completes status (Some command) c =
    IsAnswered (form_of command) c.held c.before.input → ReadsCalm (form_of command) c →
    ¬ Rose c.before.writes c.after.writes
    → GoesThrough (form_of command) c status
