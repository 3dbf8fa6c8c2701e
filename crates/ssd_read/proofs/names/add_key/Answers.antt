use Rattle.std.specs.String.{string_bytes}
use Rattle.ssd_read.specs.declared.role.Role.TheVariants.{ConnectivityNode}
use Rattle.ssd_read.specs.Elements.{element_at}
use Rattle.ssd_read.specs.Names.{keys_of}
use Rattle.ssd_read.proofs.Lists.{unlike, like}
use Rattle.ssd_read.proofs.Taken.{unkeyed_new, keyed_new, unkeyed_added, keyed_added}
use Rattle.ssd_read.proofs.names.add_key.Goals as goal

pub returns-then-ne-clause-new : goal.returns-then-ne-clause-new
returns-then-ne-clause-new c = λ before e.
    unkeyed_new (element_at c.args.drawing.now c.args.i) before
    (unlike c.role.result (element_at c.args.drawing.now c.args.i).role ConnectivityNode c.ne.result c.role.ensures
    c.ne.ensures c.if-ne.true)

pub returns-then-ne-clause-added : goal.returns-then-ne-clause-added
returns-then-ne-clause-added c = λ t before e.
    unkeyed_added (element_at c.args.drawing.now c.args.i) before c.args.keys.now
    (unlike c.role.result (element_at c.args.drawing.now c.args.i).role ConnectivityNode c.ne.result c.role.ensures
    c.ne.ensures c.if-ne.true) e

pub returns-clause-new : goal.returns-clause-new
returns-clause-new c = λ before e.
    keyed_new (element_at c.args.drawing.now c.args.i) before (string_bytes c.in_ok-key.key) c.in_ok-new.new
    (like c.role.result (element_at c.args.drawing.now c.args.i).role ConnectivityNode c.ne.result
    c.role.ensures c.ne.ensures c.if-ne.false)
    c.in_ok-key.ensures (c.in_ok-new.ensures.new (keys_of before) e)

pub returns-clause-added : goal.returns-clause-added
returns-clause-added c = λ t before e.
    keyed_added (element_at c.args.drawing.now c.args.i) before c.add.new.self (string_bytes c.in_ok-key.key)
    (like c.role.result (element_at c.args.drawing.now c.args.i).role ConnectivityNode c.ne.result c.role.ensures
    c.ne.ensures c.if-ne.false)
    c.in_ok-key.ensures (c.in_ok-new.ensures.added t (keys_of before) e)
