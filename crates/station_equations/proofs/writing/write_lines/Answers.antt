use Rattle.station_equations.proofs.TextLemmas.{whole_text}
use Rattle.station_equations.proofs.writing.write_lines.Goals as goal

pub returns : goal.returns
returns c =
    whole_text c.args.station.now (record { parts = c.args.parts.now; ops = c.args.ops.now; nodes = c.args.nodes.now })
    c.args.text.now _ _ _ _ _ _ _ c.in_ok-push.ensures.ok c.in_ok-push_switches.ensures c.in_ok-push_parts.ensures
    c.in_ok-push_all_steps.ensures c.in_ok-push_all_ops.ensures c.in_ok-push_nodes.ensures c.in_ok-push-2.ensures.ok
