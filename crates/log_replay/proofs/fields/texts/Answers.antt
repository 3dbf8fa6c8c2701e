use Rattle.std.proofs.Common.{◌∙◌, sym, ap}
use Rattle.std.specs.Str.{is_utf8}
use Rattle.csv.specs.Records.{fields_of}
use Rattle.log_replay.proofs.FieldLemmas.{texts_at, has_form}
use Rattle.log_replay.proofs.fields.texts.Goals as goal

pub returns-in_default-text_of-clause-none : goal.returns-in_default-text_of-clause-none
returns-in_default-text_of-clause-none c = λ form.
    let yes = texts_at (fields_of c.args.row.now) 2 form.texts in
    let no = ap is_utf8 (sym c.field-2.ensures) ∙ c.in_default-text_of.ensures.none in
    cc (yes, no)

pub returns-clause-form : goal.returns-clause-form
returns-clause-form c = has_form c.args.kind (fields_of c.args.row.now) c.requires
    (sym c.len.ensures ∙ c.if-len-field_count.false ∙ c.field_count.ensures)
    (ap is_utf8 (sym c.field.ensures) ∙ c.in-Some.ensures.some)
    (ap is_utf8 (sym c.field-2.ensures) ∙ c.in-Some-text_of.ensures.some)
