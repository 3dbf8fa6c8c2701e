use Rattle.std.proofs.Common.{arith, true}
use Rattle.std.proofs.lemmas.Option.{slice_get_within}
use Rattle.station_graph.proofs.MarkLemmas.{Gathers-push, Gathers-pass, is_marked, not_marked}
use Rattle.station_graph.proofs.marks.marked_twice.Goals as goal
use Rattle.station_graph.proofs.marks.marked_twice.Goals.{then-here-i+then-elsewhere-i+in_ok-push, else-here-i}
use Rattle.station_graph.proofs.marks.marked_twice.Goals.{else-here-i-via-then-here-i+else-elsewhere-i}
use Rattle.station_graph.proofs.marks.marked_twice.Goals.{else-here-i-via-else-here-i}

pub loop-i-preserved : goal.loop-i-preserved
loop-i-preserved c =
    let here = c.args.here.now in
    let elsewhere = c.args.elsewhere.now in
    let i = c.loop-i.i in
    let nodes = c.loop-i.nodes in
    elim c.if-here-i.branch [
      | then-here-i+then-elsewhere-i+in_ok-push w ↦
          rw (w.nodes-is, w.in_ok-push.ensures.ok)
          (Gathers-push here elsewhere i nodes c.loop-i.invariant (is_marked here i (omega arith) w.if-here-i.true)
          (is_marked elsewhere i (omega (arith, c.requires.len)) w.if-elsewhere-i.true))
      | else-here-i w ↦
          rw w.nodes-is
          (Gathers-pass here elsewhere i nodes c.loop-i.invariant (elim w.else-here-i.branch [
            | else-here-i-via-then-here-i+else-elsewhere-i v ↦ λ h. not_marked elsewhere i v.if-elsewhere-i.false h.1
            | else-here-i-via-else-here-i v ↦ λ h. not_marked here i v.if-here-i.false h.0
          ]))
    ]

pub returns-clause-exact : goal.returns-clause-exact
returns-clause-exact c = λ n. (
  λ h. let w = (c.loop-i.invariant.exact n).0 h in (w.1, w.2),
  λ h. (c.loop-i.invariant.exact n).1 (omega (arith, slice_get_within c.args.here.now n true h.0), h.0, h.1),
)
