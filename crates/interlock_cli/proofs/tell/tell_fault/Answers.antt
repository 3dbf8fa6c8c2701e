use Rattle.std.proofs.Common.{rules, OnOk, OnErr, List, ℕ, subst}
use Rattle.std.specs.Io.KnownBytes.{Appends}
use Rattle.ilk_base.specs.Outside.{AppendsFront}
use Rattle.interlock_cli.proofs.Pieces.{line_is}
use Rattle.interlock_cli.proofs.tell.tell_fault.Goals as goal

pub returns-clause-ok : goal.returns-clause-ok
returns-clause-ok g c =
    let whole =
    line_is c.args.number c.args.place c.args.limit c.args.count c.as_slice.result.now c.as_bytes.result.now
    c.label_of.result.now c.digits_of.result.now
    c.label_of-2.result.now c.digits_of-2.result.now c.label_of-3.result.now c.digits_of-3.result.now
    c.as_slice-2.result.now (record {
      head_is = search rules;
      digits_is = search rules;
      at_label = search rules;
      at_digits = search rules;
      what_label = search rules;
      what_digits = search rules;
      many_label = search rules;
      many_digits = search rules;
      last_is = search rules;
    }) in
    subst (λ (x : List ℕ). OnOk c.write_pieces.result
    (Appends (g.S.Sink.took c.args.sink.now) (g.S.Sink.took c.write_pieces.new.sink) x)) whole c.write_pieces.ensures.ok

pub returns-clause-err : goal.returns-clause-err
returns-clause-err g c =
    let whole =
    line_is c.args.number c.args.place c.args.limit c.args.count c.as_slice.result.now c.as_bytes.result.now
    c.label_of.result.now c.digits_of.result.now
    c.label_of-2.result.now c.digits_of-2.result.now c.label_of-3.result.now c.digits_of-3.result.now
    c.as_slice-2.result.now (record {
      head_is = search rules;
      digits_is = search rules;
      at_label = search rules;
      at_digits = search rules;
      what_label = search rules;
      what_digits = search rules;
      many_label = search rules;
      many_digits = search rules;
      last_is = search rules;
    }) in
    subst (λ (x : List ℕ). OnErr c.write_pieces.result
    (AppendsFront (g.S.Sink.took c.args.sink.now) (g.S.Sink.took c.write_pieces.new.sink) x)) whole
    c.write_pieces.ensures.err
