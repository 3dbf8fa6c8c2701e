use Rattle.std.proofs.Common.{◌<◌, ap, ◌∙◌, sym, subst, ℕ}
use Rattle.station_graph.specs.Diagram.{part_count}
use Rattle.ssd_read.specs.Elements.{element_at, element_name}
use Rattle.ssd_read.specs.Seen.{MayTakeSwitch}
use Rattle.ssd_read.specs.Steps.{built}
use Rattle.ssd_read.proofs.Stepped.{built_none}
use Rattle.ssd_read.proofs.Ready.{ends_good, equipment_part_in, transformer_part_in, follows, new_switch}
use Rattle.ssd_read.proofs.Items.{own_below, windings_below, gives_nothing}
use Rattle.ssd_read.proofs.equipment.add_item.Goals as goal

pub add_equipment-requires-clause-fault : goal.add_equipment-requires-clause-fault
add_equipment-requires-clause-fault c = ends_good c.args.drawing.now c.args.i c.args.own.now c.requires.ends
    c.requires.within c.requires.own

pub add_equipment-requires-clause-part : goal.add_equipment-requires-clause-part
add_equipment-requires-clause-part c =
    subst (λ (n : ℕ). n < part_count c.args.builder.now) (sym c.requires.part) (equipment_part_in c.args.drawing.now
    c.args.i c.args.builder.now c.requires.drawn c.requires.within (sym c.in-ConductingEquipment.ensures)
    c.requires.before)

pub add_equipment-requires-clause-nodes : goal.add_equipment-requires-clause-nodes
add_equipment-requires-clause-nodes c = own_below c.args.drawing.now c.args.i c.args.builder.now c.args.own.now
    c.requires.own c.requires.before

pub add_equipment-requires-clause-room : goal.add_equipment-requires-clause-room
add_equipment-requires-clause-room c =
    let name = element_name (element_at c.args.drawing.now c.args.i).entry in
    subst (λ (n : ℕ). MayTakeSwitch c.args.builder.now n name) (sym c.requires.part) (record {
      order = follows c.args.drawing.now c.args.i c.args.builder.now c.requires.drawn c.requires.within
          (sym c.in-ConductingEquipment.ensures) c.requires.before;
      new = new_switch c.args.drawing.now c.args.i c.args.builder.now c.requires.drawn c.requires.within
          c.requires.names (sym c.in-ConductingEquipment.ensures) c.requires.before;
    })

pub add_transformer-requires-clause-part : goal.add_transformer-requires-clause-part
add_transformer-requires-clause-part c =
    subst (λ (n : ℕ). n < part_count c.args.builder.now) (sym c.requires.part) (transformer_part_in c.args.drawing.now
    c.args.i c.args.builder.now c.requires.drawn c.requires.within (sym c.in-PowerTransformer.ensures)
    c.requires.before)

pub add_transformer-requires-clause-nodes : goal.add_transformer-requires-clause-nodes
add_transformer-requires-clause-nodes c = windings_below c.args.drawing.now c.args.i c.args.builder.now
    c.args.windings.now c.deref.result.now (c.deref.ensures.value ∙ c.in_ok-nodes-in-PowerTransformer.ensures)
    c.requires.windings c.requires.before

pub returns-in_default : goal.returns-in_default
returns-in_default c =
    ap (built c.args.builder.now) (gives_nothing c.args.drawing.now c.args.i (λ e. c.in_default.not-ConductingEquipment
    (c.role.ensures ∙ e)) (λ e. c.in_default.not-PowerTransformer (c.role.ensures ∙ e)))
    ∙ built_none c.args.builder.now
