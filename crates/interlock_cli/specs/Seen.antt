-- What a contract sees of a command.
use Rattle.interlock_cli.specs.Commands as c
use Rattle.interlock_cli.specs.declared.command.Command.{Command}
use Rattle.interlock_cli.specs.declared.command.Command.TheVariants.{Check, Explain, State, Order, Replay, Audit, Node}
use Rattle.interlock_cli.specs.declared.command.Command.TheVariants.{Compile, Trips, Plan, Program, Make, Work, Station}
use Rattle.interlock_cli.specs.declared.command.Command.TheVariants.{BayProgram, Compare, Tests, StationTests, Why, Denials}

-- A command, as the definitions name it.
abbrev pub seen_command : Command → c.Command
seen_command (Check station positions) = c.Check station.now positions.now
seen_command (Explain station asked) =
    c.Explain station.now asked.positions.now asked.direction asked.switch.now
seen_command (Denials station positions) = c.Denials station.now positions.now
seen_command (State station positions) = c.State station.now positions.now
seen_command (Order station positions order) = c.Order station.now positions.now order.now
seen_command (Replay station log) = c.Replay station.now log.now
seen_command (Audit station equations) = c.Audit station.now equations.now
seen_command (Node station bay) = c.Node station.now bay.now
seen_command (Compile station) = c.Compile station.now
seen_command (Trips station log) = c.Trips station.now log.now
seen_command (Plan station) = c.Plan station.now
seen_command (Program station) = c.Program station.now
seen_command (BayProgram station bay) = c.BayProgram station.now bay.now
seen_command (Make feeders text) = c.Make feeders.number text
seen_command (Work feeders) = c.Work feeders.number
seen_command (Station station) = c.Station station.now
seen_command (Compare old new) = c.Compare old.now new.now
seen_command (Tests station bay) = c.Tests station.now bay.now
seen_command (Why station asked) =
    c.Why station.now asked.positions.now asked.direction asked.switch.now
seen_command (StationTests station) = c.StationTests station.now
