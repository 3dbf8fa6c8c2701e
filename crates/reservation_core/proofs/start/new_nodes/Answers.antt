use Rattle.std.proofs.Common.{List, [], ◌∷◌, length, slice_get, Option, sym, ap, ◌∙◌, arith}
use Rattle.std.proofs.lemmas.List.{length-append}
use Rattle.bay_protocol.specs.State.{State}
use Rattle.reservation_core.specs.Start.{IsNew}
use Rattle.reservation_core.proofs.ForCode.{pushed_each}
use Rattle.reservation_core.proofs.start.new_nodes.Goals as goal

pub loop-part-init : goal.loop-part-init
loop-part-init c = record {
  count = ap length c.new-nodes.ensures.items;
  each =
      λ b place got. absurd
      (cc (ap (λ (xs : List (Option State)). slice_get xs b) (sym c.new-nodes.ensures.items) ∙ got));
}

pub loop-part-preserved : goal.loop-part-preserved
loop-part-preserved c = record {
  count =
      let more =
      ap length c.in_ok-push.ensures.items ∙ length-append c.loop-part.nodes.items (c.in_ok-new_node.field-0 ∷ []) in
      omega (arith, more, c.loop-part.invariant.count);
  each =
      λ b place got. pushed_each (IsNew c.args.station.now) c.loop-part.nodes.items c.in_ok-new_node.field-0
      c.loop-part.part c.loop-part.invariant.count c.loop-part.invariant.each c.in_ok-new_node.ensures b place
      (ap (λ (xs : List (Option State)). slice_get xs b) (sym c.in_ok-push.ensures.items) ∙ got);
}

pub returns : goal.returns
returns c = record {
  count = omega (
    arith,
    c.loop-part.invariant.count,
    c.loop-part-test.false,
    c.loop-part.auto.part-end,
    c.part_count-part-end.ensures,
  );
  each = c.loop-part.invariant.each;
}
