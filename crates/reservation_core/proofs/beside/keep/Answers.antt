use Rattle.std.proofs.Common.{sym, ◌∙◌, arith}
use Rattle.reservation_core.specs.World.{kept_beside}
use Rattle.reservation_core.proofs.Added.{beside_same}
use Rattle.reservation_core.proofs.ForCode.{map_more}
use Rattle.reservation_core.proofs.beside.keep.Goals as goal

pub loop-frame-preserved : goal.loop-frame-preserved
loop-frame-preserved c = record {
  kept =
      map_more (λ f. kept_beside c.args.copy f.body) c.args.sent.now c.loop-frame.frame-index c.frame-item.result
      c.note_for.result c.args.beside.now.items c.loop-frame.beside.items c.push_reserved.new.self.items
      c.loop-frame-test.true c.frame-item.is
      (c.note_for.ensures ∙ beside_same c.loop-frame.copy c.args.copy c.frame-item.result.body (λ s is.
      let one =
      c.requires.alone c.frame-item.result s (c.loop-frame.frame-index, c.loop-frame-test.true, sym c.frame-item.is)
      is in
      c.loop-frame.invariant.fresh (omega (arith, one, c.loop-frame-test.true))))
      c.loop-frame.invariant.kept c.push_reserved.ensures.items;
  len = omega (arith, c.push_reserved.ensures.len, c.loop-frame.invariant.len);
  capacity = c.push_reserved.ensures.capacity ∙ c.loop-frame.invariant.capacity;
  fresh = λ zero. absurd (omega (arith, zero));
}
