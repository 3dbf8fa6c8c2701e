use Rattle.std.proofs.Common.{arith, sym, ◌∙◌, ◌<◌, length}
use Rattle.ssd_read.proofs.Items.{parent_before, outer_number}
use Rattle.ssd_read.proofs.equipment.part_of.Goals as goal

pub bounds-numbers-parent : goal.bounds-numbers-parent
bounds-numbers-parent c = omega (
  arith,
  parent_before c.args.drawing.now c.args.i c.in-Some.parent c.requires.drawn
      c.requires.within c.in-Some.ensures,
  c.requires.count,
)

pub returns-in-Some : goal.returns-in-Some
returns-in-Some c =
    let before : c.in-Some.parent < c.args.i = parent_before c.args.drawing.now c.args.i c.in-Some.parent
    c.requires.drawn c.requires.within c.in-Some.ensures in
    let inside : c.in-Some.parent < length c.args.drawing.now = omega arith in
    outer_number c.args.drawing.now c.args.i c.in-Some.parent _ (sym c.if-is_part.false ∙ c.is_part.ensures)
    c.in-Some.ensures (c.requires.numbers c.in-Some.parent inside)
