use Rattle.std.proofs.lemmas.Option.{slice_get-get_or}
use Rattle.ilk_base.specs.declared.words.Direction.TheVariants.{ToOff, ToOn}
use Rattle.station_equations.specs.declared.goal.Goal.TheVariants.{Node}
use Rattle.station_equations.specs.declared.goal.SwitchGoals.{SwitchGoals}
use Rattle.station_equations.specs.EquationText.{op_line}
use Rattle.station_equations.proofs.TextLemmas.{two_more}
use Rattle.station_equations.proofs.writing.push_all_ops.Goals as goal

pub loop-i-preserved : goal.loop-i-preserved
loop-i-preserved c =
    let ops = c.args.ops.now in
    let none : SwitchGoals = record { opening = Node 0; closing = Node 0 } in
    two_more (λ s (x : SwitchGoals). op_line ToOff s x) (λ s (x : SwitchGoals). op_line ToOn s x) ops c.loop-i.i _ _ _ _
    (slice_get-get_or ops c.loop-i.i none c.loop-i-test.true) c.loop-i.invariant c.in_ok-push_ops.ensures
