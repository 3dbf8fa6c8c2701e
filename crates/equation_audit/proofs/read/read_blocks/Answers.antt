use Rattle.std.proofs.Common.{◌∙◌, sym, subst, List, inr}
use Rattle.std.specs.Prelude.{flat_map}
use Rattle.std.proofs.lemmas.Result.{err_from_is_err_and}
use Rattle.std.proofs.lemmas.List.Elements.{All-push}
use Rattle.text_lines.specs.Lines.{filled_lines, filled_left, line_count}
use Rattle.operation_lines.specs.OperationLines.{NamesOperation}
use Rattle.station_graph.specs.CentralRules.{IsOperation}
use Rattle.equation_audit.specs.Equations.{Equation, IsOfStation, AreOfStation}
use Rattle.equation_audit.specs.BlockLines.{HasBlock, HasHeadFault, OneEach, AllFew, whole}
use Rattle.equation_audit.proofs.RestLemmas.{HasSaid, first_head_fault, first_body_fault, block_read, OneEach-push}
use Rattle.equation_audit.proofs.RestLemmas.{AllFew-push, for_refused_weaker}
use Rattle.equation_audit.proofs.read.read_blocks.Goals as goal

pub returns-in_err-op-clause-err : goal.returns-in_err-op-clause-err
returns-in_err-op-clause-err c =
    let p = err_from_is_err_and c.from_residual.result c.from_residual.ensures.1 in
    rw (p.1, p.2) (for_refused_weaker c.in_err-op.field-0.0 _ _ (λ r fault. inr (
      c.loop-number.invariant.short,
      first_head_fault c.args.station.now c.args.bytes.now (filled_left c.loop-number.lines) c.in-Some.number
          c.in-Some.line.now (filled_left c.next_filled.new.self) c.loop-number.blocks.items r c.in-Some.ensures.some (
            fault.0,
            subst (λ (es : List Equation). HasHeadFault c.args.station.now es c.in-Some.line.now r.number)
                c.deref.ensures.value fault.1,
          )
          c.loop-number.invariant.one_each c.loop-number.invariant.few c.loop-number.invariant.said,
    ))
    c.in_err-op.ensures.err)

pub returns-in_err-block-clause-err : goal.returns-in_err-block-clause-err
returns-in_err-block-clause-err c =
    let new = subst (λ (es : List Equation). ¬ HasBlock es c.in_ok-op.op) c.deref.ensures.value
    c.in_ok-op.ensures.first in
    let p = err_from_is_err_and c.from_residual-in_err-block.result c.from_residual-in_err-block.ensures.1 in
    rw (p.1, p.2) (for_refused_weaker c.in_err-block.field-0.0 _ _ (λ r fault. inr (
      c.loop-number.invariant.short,
      first_body_fault c.args.station.now c.args.bytes.now (filled_left c.loop-number.lines) (
        c.in-Some.number,
        c.in-Some.line.now,
      ) (filled_left c.next_filled.new.self) c.loop-number.blocks.items c.in_ok-op.op
          (line_count c.next_filled.new.self) r c.in-Some.ensures.some c.in_ok-op.ensures.ok
          (c.in-Some.ensures.count ∙ c.loop-number.invariant.count) fault c.loop-number.invariant.one_each new
          c.loop-number.invariant.few c.loop-number.invariant.said,
    ))
    c.in_err-block.ensures.err)

pub loop-number-preserved : goal.loop-number-preserved
loop-number-preserved c =
    let items = c.in_ok-push.ensures.items in
    let new = subst (λ (es : List Equation). ¬ HasBlock es c.in_ok-op.op) c.deref.ensures.value
    c.in_ok-op.ensures.first in
    let is = sym c.in_ok-block.ensures.op in
    record {
      short = c.loop-number.invariant.short;
      said = subst (λ (es : List Equation). HasSaid c.args.station.now (filled_lines c.args.bytes.now)
          (filled_left c.read_rest.new.lines) (flat_map whole es)) (sym items)
          (block_read c.args.station.now (filled_lines c.args.bytes.now) (filled_left c.loop-number.lines)
          (c.in-Some.number, c.in-Some.line.now) (filled_left c.next_filled.new.self)
          (filled_left c.read_rest.new.lines) c.loop-number.blocks.items c.in_ok-block.block c.in-Some.ensures.some
          (subst (NamesOperation c.args.station.now c.in-Some.line.now) is c.in_ok-op.ensures.ok)
          c.in_ok-block.ensures.ok c.loop-number.invariant.said);
      one_each = subst OneEach (sym items) (OneEach-push c.loop-number.blocks.items c.in_ok-block.block
          c.loop-number.invariant.one_each
          (λ has. new (subst (HasBlock c.loop-number.blocks.items) c.in_ok-block.ensures.op has)));
      few = subst AllFew (sym items) (AllFew-push c.loop-number.blocks.items c.in_ok-block.block
          c.loop-number.invariant.few c.in_ok-block.ensures.few);
      of_station = subst (AreOfStation c.args.station.now) (sym items) (All-push (IsOfStation c.args.station.now)
          c.loop-number.blocks.items c.in_ok-block.block c.loop-number.invariant.of_station (record {
            op = subst (IsOperation c.args.station.now) is c.in_ok-op.ensures.within;
            own = c.in_ok-block.ensures.own;
          }));
      count = c.read_rest.ensures.count ∙ c.in-Some.ensures.count ∙ c.loop-number.invariant.count;
    }
