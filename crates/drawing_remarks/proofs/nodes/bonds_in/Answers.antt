use Rattle.std.proofs.Common.{ℕ, ◌+◌, Bool, cond, take, ap, ◌∙◌, sym, arith, refl}
use Rattle.std.specs.List.{count_by}
use Rattle.station_graph.specs.declared.items.Link.{Link}
use Rattle.drawing_remarks.proofs.Loops.{count_next}
use Rattle.drawing_remarks.proofs.nodes.bonds_in.Goals as goal

pub loop-i-preserved : goal.loop-i-preserved
loop-i-preserved c =
    let p = (λ (x : Link). x.bond) in
    let xs = c.args.station.now.links in
    record {
      count = ap (λ (n : ℕ). n + c.one_if-count.result) c.loop-i.invariant.count
          ∙ (ap (λ (n : ℕ). count_by p (take c.loop-i.i xs) + n) c.one_if-count.ensures.value
          ∙ (ap (λ (b : Bool). count_by p (take c.loop-i.i xs) + cond b 1 0) (refl)
          ∙ sym (count_next p xs c.loop-i.i c.link.result c.link.ensures.value)));
      few = omega arith;
    }
