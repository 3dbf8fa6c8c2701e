use Rattle.std.proofs.Common.{◌∙◌, inr, refl}
use Rattle.interlock_cli.proofs.tests_command.tests_output.Goals as goal

pub returns-in-Err-Wide : goal.returns-in-Err-Wide
returns-in-Err-Wide c =
    inr (record {
      bay = c.in-Err-Wide.bay;
      too_wide = rw c.in-Err-Wide.field-0-is at c.in-Err-Wide.ensures.refusal;
      outcome_is = rw c.in-Err-Wide.field-0-is refl;
      nothing = c.whole.ensures ∙ c.new.ensures;
    })
