-- What a code says, with what is told beside it.
use Rattle.std.specs.Prelude.{◌≡◌, ◌<◌, ◌⊎◌, ℕ, Bool, true, false, List, length, take, Result, Ok, Err, IfOk, IfErr}
use Rattle.ilk_base.specs.declared.words.InputRefusal.{InputRefusal}
use Rattle.ilk_base.specs.declared.input_fault.InputFault.{InputFault}
use Rattle.ilk_base.specs.declared.input_fault.InputFault.TheVariants.{Memory, Refused}
use Rattle.ilk_base.specs.Inputs.{ForRefused}
use Rattle.page_questions.specs.declared.answers.Answer.{Answer}
use Rattle.page_judge.specs.declared.told.Told.{Told}
use Rattle.page_judge.specs.declared.told.TheConstants.{DONE, DIFFERS, INPUT, MEMORY, ROOM}

-- The code of a text that is given: whether what was judged differs from the rules.
abbrev pub done_code : Bool → ℕ
done_code false = DONE
done_code true = DIFFERS

-- The length of the text is told, and the text is in the room from its first byte on; or the room is too small for it.
abbrev pub IsGiven : Bool → List ℕ → ℕ → Told → List ℕ → Type 0
IsGiven differs text code told room =
    (told.length ≡ length text)
    × (((code ≡ done_code differs) × (take (length text) room ≡ text)) ⊎ ((code ≡ ROOM) × (length room < length text)))

-- There is no text: for memory, or an input is refused with this number, in this line.
abbrev pub IsStopped : InputFault → ℕ → Told → Type 0
IsStopped Memory code told = code ≡ MEMORY
IsStopped (Refused refusal) code told =
    (code ≡ INPUT) × (told.number ≡ refusal.number) × (told.place ≡ refusal.line)

-- The answer is told so.
abbrev pub IsTold : Result Answer InputFault → ℕ → Told → List ℕ → Type 0
IsTold (Ok answer) code told room = IsGiven answer.differs answer.text code told room
IsTold (Err fault) code told room = IsStopped fault code told

-- A question that has these texts and these refusals ends so: it has one of them, or wants memory, and that is told.
pub record Ends (Says : Bool → List ℕ → Type 0) (Refuses : InputRefusal → Type 0) (code : ℕ) (told : Told)
    (room : List ℕ) : Type 0 where
  pub answer : Result Answer InputFault
  pub says : IfOk answer (λ a. Says a.differs a.text)
  pub refuses : IfErr answer (λ fault. ForRefused fault Refuses)
  pub is_told : IsTold answer code told room
