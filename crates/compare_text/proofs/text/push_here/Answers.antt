use Rattle.std.proofs.Common.{Option, sym, ap, ◌∙◌, arith}
use Rattle.station_compare.specs.declared.found.Found.{Found}
use Rattle.compare_text.specs.CompareText.{found_lines_of, found_at}
use Rattle.compare_text.proofs.TextLemmas.{more, at_index}
use Rattle.compare_text.proofs.text.push_here.Goals as goal

pub loop-k-preserved : goal.loop-k-preserved
loop-k-preserved c =
    let o = c.args.old.now in
    let n = c.args.new.now in
    let found = c.args.found.now in
    let k = c.loop-k.k in
    let at =
    at_index found.here.items c.from.result k c.index-of_switch.result.now c.index-of_switch.ensures c.from.ensures
    (omega (
      arith,
      c.loop-k-test.true,
      c.loop-k.auto.k-end,
      c.switch_count-k-end.ensures.count,
      c.requires.comparison.here.count,
    )) in
    record {
      text = more (found_at o n found) k c.args.text.now.text c.loop-k.text.text c.push_found.new.text.text _
          c.loop-k.invariant.text c.in_ok-push_found.ensures.ok
          (sym (ap (λ (x : Option Found). found_lines_of o n found x k) at));
      names = c.push_found.ensures.names ∙ c.loop-k.invariant.names;
      same = c.push_found.ensures.names ∙ c.loop-k.invariant.same;
    }
