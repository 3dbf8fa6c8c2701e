use Rattle.std.proofs.Common.{◌≡◌, ◌∙◌, sym, subst, refl}
use Rattle.csv.specs.Records.{fields_of}
use Rattle.log_replay.specs.RecordFaults.{IsKnown, IsWord, IsAgain, KindFault, field}
use Rattle.log_replay.proofs.RecordLemmas.{told_again}
use Rattle.log_replay.proofs.record.read_of_kind.Goals as goal

pub returns-then-is_again-clause-err : goal.returns-then-is_again-clause-err
returns-then-is_again-clause-err c =
    let d = c.args.station.now in
    let before = c.args.before.now in
    let k = c.args.kind in
    let t = told_again d before k c.in-Some.first.now c.in-Some.second.now c.in_ok-event.event c.is_station.ensures
    c.in_ok-event.ensures.ok (sym c.is_again.ensures ∙ c.if-is_again.true) in
    let first : c.in-Some.first.now ≡ field (fields_of c.args.row.now) 1 = c.in-Some.ensures.some.0 in
    let second : c.in-Some.second.now ≡ field (fields_of c.args.row.now) 2 = c.in-Some.ensures.some.1 in
    KindFault.again c.in-Some.ensures.form (λ late. let yes = c.is_late.ensures.1 late in let no = c.if-is_late.false in
    cc (yes, no))
    (subst (IsKnown d k) first t.known) (subst (IsWord k) second t.word) (subst (IsAgain d before k) first t.again) refl

pub returns-clause-text : goal.returns-clause-text
returns-clause-text c = c.in-Some.ensures.form.texts
