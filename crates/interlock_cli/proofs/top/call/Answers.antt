use Rattle.std.proofs.Common.{◌≡◌, ◌∙◌, refl, sym, ap, subst, inl, map, string_bytes, Some}
use Rattle.station_graph.specs.Diagram.{empty}
use Rattle.interlock_cli.specs.Commands.{command_of, form_of, Node}
use Rattle.interlock_cli.specs.Seen.{seen_command}
use Rattle.interlock_cli.specs.Ends.{Call, Ends}
use Rattle.interlock_cli.proofs.Asked.{reads_none}
use Rattle.interlock_cli.proofs.Stopping.{appends_nothing, keeps_same, stops_end, unread_ends, wrote_end}
use Rattle.interlock_cli.proofs.top.call.Goals as goal

pub returns-in-Err-clause-ends : goal.returns-in-Err-clause-ends
returns-in-Err-clause-ends g c =
    let x : Call = record {
      held = g.F.Shelf.held c.args.shelf.now;
      reads_before = g.F.Shelf.faults c.args.shelf.now;
      reads_after = g.F.Shelf.faults c.args.shelf.now;
      before = record {
        input = g.I.Source.left c.args.input.now;
        asked = g.I.Source.left_before c.args.input.now;
        reads = g.I.Source.faults c.args.input.now;
        out = g.O.Sink.took c.args.out.now;
        writes = g.O.Sink.faults c.args.out.now;
      };
      after = record {
        input = g.I.Source.left c.args.input.now;
        asked = g.I.Source.left_before c.args.input.now;
        reads = g.I.Source.faults c.args.input.now;
        out = g.O.Sink.took c.args.out.now;
        writes = g.O.Sink.faults c.args.out.now;
      };
    } in
    unread_ends (command_of (map string_bytes c.args.words.now)) x c.in-Err.end
    (appends_nothing (g.O.Sink.took c.args.out.now))
    record { left = keeps_same (g.I.Source.left c.args.input.now); reads = refl } c.in-Err.ensures.err

pub returns-in-Ok-node-clause-input : goal.returns-in-Ok-node-clause-input
returns-in-Ok-node-clause-input g c = λ other.
    let named : command_of (map string_bytes c.args.words.now) ≡ Some (seen_command c.in-Ok.command) =
    c.in-Ok.ensures.ok in
    absurd (other (rw (named, c.in-Node.is) (empty, (0, tt))))

pub returns-in-Err-node-clause-ends : goal.returns-in-Err-node-clause-ends
returns-in-Err-node-clause-ends g c =
    let named : command_of (map string_bytes c.args.words.now) ≡ Some (seen_command c.in-Ok.command) =
    c.in-Ok.ensures.ok in
    let node : command_of (map string_bytes c.args.words.now) ≡ Some (Node c.in-Node.station.now c.in-Node.bay.now) =
    named ∙ ap (λ k. Some (seen_command k)) c.in-Node.is in
    let x : Call = record {
      held = g.F.Shelf.held c.args.shelf.now;
      reads_before = g.F.Shelf.faults c.args.shelf.now;
      reads_after = g.F.Shelf.faults c.node.new.shelf;
      before = record {
        input = g.I.Source.left c.args.input.now;
        asked = g.I.Source.left_before c.args.input.now;
        reads = g.I.Source.faults c.args.input.now;
        out = g.O.Sink.took c.args.out.now;
        writes = g.O.Sink.faults c.args.out.now;
      };
      after = record {
        input = g.I.Source.left c.node.new.input;
        asked = g.I.Source.left_before c.node.new.input;
        reads = g.I.Source.faults c.node.new.input;
        out = g.O.Sink.took c.node.new.out;
        writes = g.O.Sink.faults c.node.new.out;
      };
    } in
    let stopped = c.in-Err-node in
    subst (λ k. Ends k x stopped.end) (sym node)
    (inl (
      stops_end (form_of (Node c.in-Node.station.now c.in-Node.bay.now)) x stopped.end
          (rw stopped.ensures.unwritten (appends_nothing (g.O.Sink.took c.args.out.now))) stopped.ensures.err,
      record {
        left = rw stopped.ensures.unasked (keeps_same (g.I.Source.left c.args.input.now));
        reads = rw stopped.ensures.unasked refl;
      },
    ))

pub returns-in-Ok-output_of : goal.returns-in-Ok-output_of
returns-in-Ok-output_of g c =
    let named : command_of (map string_bytes c.args.words.now) ≡ Some (seen_command c.in-Ok.command) =
    c.in-Ok.ensures.ok in
    let x : Call = record {
      held = g.F.Shelf.held c.args.shelf.now;
      reads_before = g.F.Shelf.faults c.args.shelf.now;
      reads_after = g.F.Shelf.faults c.output_of.new.shelf;
      before = record {
        input = g.I.Source.left c.args.input.now;
        asked = g.I.Source.left_before c.args.input.now;
        reads = g.I.Source.faults c.args.input.now;
        out = g.O.Sink.took c.args.out.now;
        writes = g.O.Sink.faults c.args.out.now;
      };
      after = record {
        input = g.I.Source.left c.args.input.now;
        asked = g.I.Source.left_before c.args.input.now;
        reads = g.I.Source.faults c.args.input.now;
        out = g.O.Sink.took c.write_output.new.out;
        writes = g.O.Sink.faults c.write_output.new.out;
      };
    } in
    record {
      ends = subst (λ k. Ends k x c.write_output.result) (sym named)
          (inl (
            wrote_end (form_of (seen_command c.in-Ok.command)) x c.in-Ok-output_of.output c.write_output.result
                c.in-Ok-output_of.ensures.ok c.write_output.ensures,
            record {
              left = keeps_same (g.I.Source.left c.args.input.now);
              reads = refl {a = g.I.Source.faults c.args.input.now};
            },
          ));
      unread = λ none. cc (named, none);
      reads = rw named c.output_of.ensures.reads;
      input = λ other. refl {a = c.args.input.now};
    }

pub returns-in-Err-output_of : goal.returns-in-Err-output_of
returns-in-Err-output_of g c =
    let named : command_of (map string_bytes c.args.words.now) ≡ Some (seen_command c.in-Ok.command) =
    c.in-Ok.ensures.ok in
    let x : Call = record {
      held = g.F.Shelf.held c.args.shelf.now;
      reads_before = g.F.Shelf.faults c.args.shelf.now;
      reads_after = g.F.Shelf.faults c.output_of.new.shelf;
      before = record {
        input = g.I.Source.left c.args.input.now;
        asked = g.I.Source.left_before c.args.input.now;
        reads = g.I.Source.faults c.args.input.now;
        out = g.O.Sink.took c.args.out.now;
        writes = g.O.Sink.faults c.args.out.now;
      };
      after = record {
        input = g.I.Source.left c.args.input.now;
        asked = g.I.Source.left_before c.args.input.now;
        reads = g.I.Source.faults c.args.input.now;
        out = g.O.Sink.took c.args.out.now;
        writes = g.O.Sink.faults c.args.out.now;
      };
    } in
    record {
      ends = subst (λ k. Ends k x c.in-Err-output_of.end) (sym named)
          (inl (
            stops_end (form_of (seen_command c.in-Ok.command)) x c.in-Err-output_of.end
                (appends_nothing (g.O.Sink.took c.args.out.now)) c.in-Err-output_of.ensures.err,
            record {
              left = keeps_same (g.I.Source.left c.args.input.now);
              reads = refl {a = g.I.Source.faults c.args.input.now};
            },
          ));
      unread = λ none. cc (named, none);
      reads = rw named c.output_of.ensures.reads;
      input = λ other. refl {a = c.args.input.now};
    }

pub returns-in-Err-clause-reads : goal.returns-in-Err-clause-reads
returns-in-Err-clause-reads g c = reads_none _ _

pub returns-in-Ok-node-clause-reads : goal.returns-in-Ok-node-clause-reads
returns-in-Ok-node-clause-reads g c =
    let named : command_of (map string_bytes c.args.words.now) ≡ Some (seen_command c.in-Ok.command) =
    c.in-Ok.ensures.ok in
    rw (named, c.in-Node.is) c.node.ensures.reads

pub returns-in-Err-node-clause-reads : goal.returns-in-Err-node-clause-reads
returns-in-Err-node-clause-reads g c =
    let named : command_of (map string_bytes c.args.words.now) ≡ Some (seen_command c.in-Ok.command) =
    c.in-Ok.ensures.ok in
    rw (named, c.in-Node.is) c.node.ensures.reads
