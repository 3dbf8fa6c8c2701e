use Rattle.std.proofs.Common.{ap, ◌∙◌}
use Rattle.ssd_read.specs.Elements.{element_at, counted_as}
use Rattle.ssd_read.proofs.Taken.{uncounted_new, uncounted_added, counted_new, counted_added}
use Rattle.ssd_read.proofs.names.add_path.Goals as goal

pub returns-in-None-clause-new : goal.returns-in-None-clause-new
returns-in-None-clause-new c = λ before same. uncounted_new (element_at c.args.drawing.now c.args.i) before
    (c.in-None.ensures ∙ ap counted_as c.role.ensures)

pub returns-in-None-clause-added : goal.returns-in-None-clause-added
returns-in-None-clause-added c = λ before same. uncounted_added (element_at c.args.drawing.now c.args.i) before _
    (c.in-None.ensures ∙ ap counted_as c.role.ensures) same

pub returns-in_ok-new-in-Some-clause-new : goal.returns-in_ok-new-in-Some-clause-new
returns-in_ok-new-in-Some-clause-new c = λ before same.
    counted_new (element_at c.args.drawing.now c.args.i) before c.args.paths.now c.in-Some.kind c.path.result.now
    c.in_ok-new-in-Some.new (c.in-Some.ensures ∙ ap counted_as c.role.ensures) c.path.ensures
    c.in_ok-new-in-Some.ensures.new same

pub returns-in_ok-new-in-Some-clause-added : goal.returns-in_ok-new-in-Some-clause-added
returns-in_ok-new-in-Some-clause-added c = λ before same.
    counted_added (element_at c.args.drawing.now c.args.i) before c.args.paths.now c.add.new.self c.in-Some.kind
    c.path.result.now (c.in-Some.ensures ∙ ap counted_as c.role.ensures) c.path.ensures
    c.in_ok-new-in-Some.ensures.added same
