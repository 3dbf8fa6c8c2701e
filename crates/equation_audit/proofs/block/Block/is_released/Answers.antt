use Rattle.std.proofs.Common.{sym, ap, subst, ◌∙◌, length}
use Rattle.equation_audit.specs.Equations.{Equation, OwnBelow}
use Rattle.equation_audit.proofs.block.Block.is_released.Goals as goal

pub is_released-requires : goal.is_released-requires
is_released-requires c = subst (OwnBelow (length c.args.vector.now))
    (sym (c.deref.ensures.value ∙ ap (λ (e : Equation). e.alternatives) c.self.view_is)) c.requires
