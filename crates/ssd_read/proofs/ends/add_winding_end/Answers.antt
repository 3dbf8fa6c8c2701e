use Rattle.std.proofs.Common.{ap, sym, ◌∙◌, ◌++◌, ◌∷◌, [], get_or, cond, arith, ◌<◌, length}
use Rattle.ssd_read.specs.declared.role.Role.TheVariants.{TransformerWinding}
use Rattle.ssd_read.specs.Elements.{element_at}
use Rattle.ssd_read.proofs.Lists.{like}
use Rattle.ssd_read.proofs.Ended.{orphan_test, far_test, near_test, put_none, put_at}
use Rattle.ssd_read.proofs.ends.add_winding_end.Goals as goal

pub returns-in_default-clause-windings : goal.returns-in_default-clause-windings
returns-in_default-clause-windings c = λ j h. put_none _ c.args.end _ (orphan_test c.args.drawing.now j
    (element_at c.args.drawing.now c.args.i) c.args.holder c.requires.is_terminal c.requires.holder
    c.requires.holder_within c.in_default.ensures)

pub returns-then-outer-count-clause-windings : goal.returns-then-outer-count-clause-windings
returns-then-outer-count-clause-windings c = λ j h. put_none _ c.args.end _ (far_test c.args.drawing.now j
    (element_at c.args.drawing.now c.args.i) c.args.holder c.in-Some.outer c.requires.is_terminal c.requires.holder
    c.requires.holder_within (c.in-Some.ensures) h (omega arith))

pub returns-clause-windings : goal.returns-clause-windings
returns-clause-windings c = λ j h.
    let all = c.args.drawing.now in
    let x = element_at all c.args.i in
    let inside : c.in-Some.outer < length c.args.windings.now = omega arith in
    let test = near_test all j x c.args.holder c.in-Some.outer c.requires.is_terminal c.requires.holder
    c.requires.holder_within c.in-Some.ensures (like c.within.result x.within TransformerWinding c.ne.result
    c.within.ensures c.ne.ensures c.if-ne.false) in
    put_at c.args.windings.now c.push.new.self c.in-Some.outer j c.args.end c.in_ok-push.ensures.added inside
    ∙ ap (λ b. get_or c.args.windings.now j [] ++ cond b (c.args.end ∷ []) []) (sym test)
