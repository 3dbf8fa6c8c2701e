use Rattle.std.proofs.Common.{◌≡◌, ◌∙◌, ◌-◌, length, arith}
use Rattle.judge_pool.specs.Graphs.{other_of}
use Rattle.judge_intake.proofs.OtherLemmas.{other_in}
use Rattle.change_search.proofs.AllowLemmas.{free_next}
use Rattle.change_search.proofs.free.free_steps.Goals as goal

pub loop-j-preserved : goal.loop-j-preserved
loop-j-preserved c =
    let old = c.args.old_steps.now in
    let new = c.args.new_steps.now in
    let at : c.from-at.result ≡ other_of 0 c.args.place c.loop-j.j = c.from-at.ensures ∙ c.other_number.ensures in
    let within = other_in 0 c.args.place (length old - 1) c.loop-j.j
    (omega (arith, c.loop-j-test.true, c.requires.few, c.requires.place)) in
    rw c.in_ok-push.ensures.items (free_next old new c.args.place c.loop-j.j c.from-at.result c.loop-j.free.items _ _
    c.is_alone.result c.loop-j.invariant at (omega (arith, at, within.1, c.requires.place))
    (omega (arith, at, within.1, c.requires.place, c.requires.same)) c.is_alone.ensures)
