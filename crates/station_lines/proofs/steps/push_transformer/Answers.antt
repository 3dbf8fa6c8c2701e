use Rattle.std.proofs.Common.{false}
use Rattle.std.proofs.lemmas.Result.{on_ok_weaker}
use Rattle.ssd_read.specs.Steps.{links_along, tap_steps}
use Rattle.station_lines.proofs.StepsText.{adds_both}
use Rattle.station_lines.proofs.steps.push_transformer.Goals as goal

pub returns : goal.returns
returns c = λ part.
    let ns = c.args.nodes.now in
    on_ok_weaker c.push_taps.result
    (λ h. adds_both c.args.station.now.node_paths c.args.word.now c.args.path.now (links_along false part ns)
    (tap_steps part ns) c.args.text.now c.push_links.new.text c.push_taps.new.text (c.in_ok-push_links.ensures part) h)
    (c.push_taps.ensures part)
