use Rattle.std.proofs.Common.{◌∙◌, inl, inr, refl}
use Rattle.interlock_cli.proofs.compare_command.compare_output.Goals as goal

pub returns-in_ok-text-in-Ok : goal.returns-in_ok-text-in-Ok
returns-in_ok-text-in-Ok c =
    inl (record {
      report = c.in-Ok.report;
      is_report = c.in-Ok.ensures.report;
      outcome_is = c.outcome_of-outcome.ensures;
      text_is = c.in_ok-text-in-Ok.ensures;
    })

pub returns-in-Err-Wide : goal.returns-in-Err-Wide
returns-in-Err-Wide c =
    inr (record {
      bay = c.in-Err-Wide.bay;
      too_wide = rw c.in-Err-Wide.field-0-is at c.in-Err-Wide.ensures.refusal;
      outcome_is = refl;
      nothing = c.whole.ensures ∙ c.new.ensures;
    })
