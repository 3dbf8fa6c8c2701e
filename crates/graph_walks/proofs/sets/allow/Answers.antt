use Rattle.std.proofs.Common.{◌∙◌, sym, ap}
use Rattle.std.specs.Prelude.{slice_set}
use Rattle.graph_walks.specs.Walks.{set_for}
use Rattle.graph_walks.proofs.SetLemmas.{allowed_one, allowed_two}
use Rattle.graph_walks.proofs.sets.allow.Goals as goal

pub returns-then-free : goal.returns-then-free
returns-then-free c =
    allowed_two c.args.sets.now c.allow.new.self c.allow-then-free.new.self c.args.layer c.requires.layer c.requires.none
    c.allow.ensures.allowed c.allow-then-free.ensures.allowed
    ∙ ap (λ f. slice_set c.args.sets.now c.args.layer (set_for f)) (sym c.if-free.true)

pub returns-else-free : goal.returns-else-free
returns-else-free c =
    allowed_one c.args.sets.now c.allow.new.self c.args.layer c.requires.none c.allow.ensures.allowed
    ∙ ap (λ f. slice_set c.args.sets.now c.args.layer (set_for f)) (sym c.if-free.false)
