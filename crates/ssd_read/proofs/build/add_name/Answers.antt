use Rattle.std.proofs.Common.{◌∙◌, sym, true, false}
use Rattle.ssd_read.specs.declared.role.Role.TheVariants.{ConnectivityNode}
use Rattle.ssd_read.specs.Elements.{element_at}
use Rattle.ssd_read.proofs.Lists.{alike}
use Rattle.ssd_read.proofs.Stepped.{part_built, part_refused, node_built, node_refused, nothing_built}
use Rattle.ssd_read.proofs.Items.{new_part, new_node}
use Rattle.ssd_read.proofs.build.add_name.Goals as goal

pub part-requires : goal.part-requires
part-requires c = record {
  new = new_part c.args.drawing.now c.args.i c.args.builder.now c.path.result.now
      c.requires.names c.requires.within c.requires.before (sym c.if-is_part.true ∙ c.is_part.ensures) c.path.ensures;
}

pub node-requires : goal.node-requires
node-requires c =
    let x = element_at c.args.drawing.now c.args.i in
    record {
      new = new_node c.args.drawing.now c.args.i c.args.builder.now c.path-then-eq.result.now c.requires.names
          c.requires.within c.requires.before (alike c.role.result x.role ConnectivityNode c.eq.result true
          c.role.ensures
          c.eq.ensures c.if-eq.true) c.path-then-eq.ensures;
    }

pub returns-in-Ok : goal.returns-in-Ok
returns-in-Ok c = part_built c.args.builder.now c.part.new.self (element_at c.args.drawing.now c.args.i)
    c.path.result.now (sym c.if-is_part.true ∙ c.is_part.ensures) c.path.ensures c.in-Ok.ensures.within
    c.in-Ok.ensures.added

pub returns-in-Err : goal.returns-in-Err
returns-in-Err c = part_refused c.args.builder.now (element_at c.args.drawing.now c.args.i) c.path.result.now
    c.in-Err.fault c.from.result (sym c.if-is_part.true ∙ c.is_part.ensures) c.path.ensures c.from.ensures
    c.in-Err.ensures.fault

pub returns-in-Ok-node : goal.returns-in-Ok-node
returns-in-Ok-node c =
    let x = element_at c.args.drawing.now c.args.i in
    node_built c.args.builder.now c.node.new.self x c.path-then-eq.result.now (sym c.if-is_part.false
    ∙ c.is_part.ensures) (alike c.role.result x.role ConnectivityNode c.eq.result true c.role.ensures c.eq.ensures
    c.if-eq.true) c.path-then-eq.ensures
    c.in-Ok-node.ensures.within c.in-Ok-node.ensures.added

pub returns-in-Err-node : goal.returns-in-Err-node
returns-in-Err-node c =
    let x = element_at c.args.drawing.now c.args.i in
    node_refused c.args.builder.now x c.path-then-eq.result.now c.in-Err-node.fault c.from-in-Err-node.result
    (sym c.if-is_part.false ∙ c.is_part.ensures) (alike c.role.result x.role ConnectivityNode c.eq.result true
    c.role.ensures c.eq.ensures c.if-eq.true) c.path-then-eq.ensures
    c.from-in-Err-node.ensures c.in-Err-node.ensures.fault

pub returns-else-eq : goal.returns-else-eq
returns-else-eq c =
    let x = element_at c.args.drawing.now c.args.i in
    nothing_built c.args.builder.now x (sym c.if-is_part.false ∙ c.is_part.ensures)
    (alike c.role.result x.role ConnectivityNode c.eq.result false c.role.ensures c.eq.ensures c.if-eq.false)
