-- What is said of a call over the files of the system, which tell little of what they hold.
use Rattle.std.specs.Prelude.{◌≡◌, ◌≢◌, ◌⊎◌, ℕ, List, Option, Some, None}
use Rattle.node_session.specs.SessionEnds.{Streams}
use Rattle.interlock_cli.specs.Commands.{command_of}
use Rattle.interlock_cli.specs.Ends.{Call}
use Rattle.interlock_cli.specs.StoredWords.{StoredWords, stored_of}
use Rattle.interlock_cli.specs.StoredEnding.{SaysAsRun}
use Rattle.interlock_cli.specs.declared.status.Status.{Status}
use Rattle.interlock_cli.specs.declared.status.Status.TheVariants as t

-- No file tells what it holds. What `run` says of these words it says of a call from these streams to those, in which
-- `err` took so much, with these counts; and words of a stored session are never Usage.
pub record SaysOver (status : Status) (words : List (List ℕ)) (before after : Streams) (err_old err_new : Option (List ℕ))
    (err_before err_after : ℕ) : Type 0 where
  pub call : Call
  pub files : (name : List ℕ) → call.held name ≡ None
  pub before_is : call.before ≡ before
  pub after_is : call.after ≡ after
  pub says : stored_of words ≡ None → SaysAsRun status (command_of words) call err_old err_new err_before err_after
  pub stored : (w : StoredWords) → stored_of words ≡ Some w → status ≢ t.Usage

-- The same, unless memory was wanting.
abbrev pub SaysWords : Status → List (List ℕ) → Streams → Streams → Option (List ℕ) → Option (List ℕ) → ℕ → ℕ →
    Type 0
SaysWords status words before after err_old err_new err_before err_after =
    SaysOver status words before after err_old err_new err_before err_after ⊎ (status ≡ t.Memory)
