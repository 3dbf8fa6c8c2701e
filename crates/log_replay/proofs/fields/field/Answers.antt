use Rattle.std.proofs.Common.{sym}
use Rattle.log_replay.proofs.FieldLemmas.{field_there, field_past}
use Rattle.log_replay.proofs.fields.field.Goals as goal

pub returns-in-Some : goal.returns-in-Some
returns-in-Some c = sym (field_there _ _ _ (sym c.in-Some.ensures.value))

pub returns-in-None : goal.returns-in-None
returns-in-None c = sym (field_past _ _ (sym c.in-None.ensures.value))
