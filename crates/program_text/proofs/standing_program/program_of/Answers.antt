use Rattle.std.proofs.Common.{◌++◌, List, subst}
use Rattle.structured_text.specs.declared.line.Line.{Line}
use Rattle.program_blocks.specs.Standing.{StandFor}
use Rattle.program_text.proofs.StandLemmas.{program_interlocks}
use Rattle.program_text.proofs.WithinLemmas.{within_both}
use Rattle.program_text.proofs.standing_program.program_of.Goals as goal

pub lines_by_bays-requires-clause-within : goal.lines_by_bays-requires-clause-within
lines_by_bays-requires-clause-within c =
    let d = c.args.station.now in
    let p = c.in_ok-program.program in
    within_both d p.may.items _ c.in_ok-program.ensures.may
    (within_both d p.sure.items p.releases.items c.in_ok-program.ensures.sure c.in_ok-program.ensures.releases)

pub returns : goal.returns
returns c =
    let d = c.args.station.now in
    let p = c.in_ok-program.program in
    let lines = c.in_ok-lines.lines.items in
    let blocks = c.in_ok-formed.formed.blocks.items in
    let steps = c.in_ok-formed.formed.steps.items in
    let variables = c.in_ok-formed.formed.variables.items in
    let stand : StandFor d lines blocks steps variables =
    subst (λ (ls : List Line). StandFor d ls blocks steps variables) c.deref.ensures.value c.in_ok-formed.ensures in record {
      lines = lines;
      stand = stand;
      interlocks = λ stores.
          program_interlocks d (p.may.items ++ (p.sure.items ++ p.releases.items)) lines blocks steps variables
          c.in_ok-program.ensures.order c.in_ok-program.ensures.sets c.in_ok-lines.ensures.reordered stand stores
          c.in_ok-program.ensures.interlocks;
      cautious = λ k b at. c.missing_signals.ensures b.lines.items (stand.sided k b at);
    }
