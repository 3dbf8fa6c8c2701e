use Rattle.std.proofs.Common.{ℕ, ◌+◌, Bool, cond, take, ap, ◌∙◌, sym, arith}
use Rattle.std.specs.List.{count_by}
use Rattle.drawing_remarks.specs.Station.{link_ends}
use Rattle.drawing_remarks.proofs.Loops.{count_next}
use Rattle.drawing_remarks.proofs.nodes.links_ending.Goals as goal

pub loop-i-preserved : goal.loop-i-preserved
loop-i-preserved c =
    let p = link_ends c.args.node in
    let xs = c.args.station.now.links in
    record {
      count = ap (λ (n : ℕ). n + c.one_if-count.result) c.loop-i.invariant.count
          ∙ (ap (λ (n : ℕ). count_by p (take c.loop-i.i xs) + n) c.one_if-count.ensures.value
          ∙ (ap (λ (b : Bool). count_by p (take c.loop-i.i xs) + cond b 1 0) (c.link_ends.ensures)
          ∙ sym (count_next p xs c.loop-i.i c.link.result c.link.ensures.value)));
      few = omega arith;
    }
