use Rattle.decision_graphs.proofs.WayLemmas.{marks_more, notes_more}
use Rattle.decision_graphs.proofs.ways.mark_ways.Goals as goal

pub loop-to-preserved : goal.loop-to-preserved
loop-to-preserved c =
    let n = c.loop-to.to in
    record {
      marks = marks_more n c.args.next c.args.seen.now c.loop-to.seen c.mark_way.new.seen c.loop-to.invariant.marks
          c.mark_way.ensures.marks;
      notes = notes_more n c.args.shape c.args.ways.now c.args.next c.args.seen.now c.loop-to.seen c.mark_way.new.seen
          c.args.arrivals.now c.loop-to.arrivals c.mark_way.new.arrivals c.loop-to.invariant.notes
          c.mark_way.ensures.notes;
    }
