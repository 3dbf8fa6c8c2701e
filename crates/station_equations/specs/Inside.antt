-- How the fields of equations are seen.
use Rattle.station_equations.specs.EquationLines.{PartLines, NodeLine, part_node, switch_node, EquationLines}
use Rattle.station_equations.specs.declared.node.Lead.{Lead}
use Rattle.station_equations.specs.declared.node.Lead.TheVariants.{Part, Switch}
use Rattle.station_equations.specs.declared.node.Node.TheInside.{Inside as NodeInside}
use Rattle.station_equations.specs.declared.part.PartSteps.TheInside.{Inside as PartInside}
use Rattle.station_equations.specs.declared.equations.Equations.TheInside.{Inside as EquationsInside}

-- The lines of a part, as a contract sees them.
abbrev pub part_lines_of : PartInside → PartLines
part_lines_of p = record { start = p.start; steps = p.steps.items }

-- The line of what a node looks at.
abbrev pub lead_line : Lead → NodeLine
lead_line (Part part goals) = part_node part.0 goals.items
lead_line (Switch switch off on) = switch_node switch.0 off on

-- The line of a node.
abbrev pub node_line_of : NodeInside → NodeLine
node_line_of n = lead_line n.lead

-- All lines, as a contract sees them.
abbrev pub equation_lines_of : EquationsInside → EquationLines
equation_lines_of e = record { parts = e.parts.items; ops = e.ops.items; nodes = e.nodes.items }
