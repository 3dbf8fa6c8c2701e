use Rattle.std.proofs.Common.{Bool, false, Option, sym, ap, ◌∙◌, arith}
use Rattle.std.specs.Prelude.{slice_index_or}
use Rattle.station_compare.specs.declared.found.Found.{Found}
use Rattle.compare_text.specs.CompareText.{new_with, new_with_of, new_with_at}
use Rattle.compare_text.proofs.TextLemmas.{more, at_index}
use Rattle.compare_text.proofs.vector_lines.push_new_withs.Goals as goal

pub loop-k-preserved : goal.loop-k-preserved
loop-k-preserved c =
    let n = c.args.new.now in
    let moved = c.args.moved.0 in
    let here = c.args.here.now in
    let closed = c.args.closed.now in
    let k = c.loop-k.k in
    let f = c.index-here-from.result in
    let at =
    at_index here c.from.result k f c.index-here-from.is c.from.ensures (omega (
      arith,
      c.loop-k-test.true,
      c.loop-k.auto.k-end,
      c.switch_count-k-end.ensures.count,
      c.requires.count,
    )) in
    record {
      text = more (new_with_at n moved here closed) k c.args.text.now.text c.loop-k.text.text
          c.push_new_with.new.text.text _ c.loop-k.invariant.text c.in_ok-push_new_with.ensures.ok
          (ap (λ (b : Bool). new_with n moved f b k) c.is_set.ensures
          ∙ sym (ap (λ (o : Option Found). new_with_of n moved o (slice_index_or closed k false) k) at));
      names = c.push_new_with.ensures.names ∙ c.loop-k.invariant.names;
      same = c.push_new_with.ensures.names ∙ c.loop-k.invariant.same;
    }
