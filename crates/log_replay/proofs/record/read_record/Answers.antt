use Rattle.std.proofs.Common.{◌∙◌, sym}
use Rattle.log_replay.proofs.RecordLemmas.{fault_of_kind}
use Rattle.log_replay.proofs.record.read_record.Goals as goal

pub returns-clause-err : goal.returns-clause-err
returns-clause-err c = fault_of_kind c.args.station.now c.args.before.now c.in-Some.kind _ c.read_of_kind.result
    c.if-before-ge-MOST_RECORDS.false (sym c.field.ensures ∙ c.in-Some.ensures.some) c.read_of_kind.ensures.err
