use Rattle.std.proofs.Common.{List, ap, ◌∙◌, sym, subst}
use Rattle.std.specs.Prelude.{OnOk}
use Rattle.ssd_read.specs.Types.{is_tapless_type}
use Rattle.ssd_read.specs.Steps.{Step}
use Rattle.ssd_read.proofs.Linked.{loaded_lone}
use Rattle.station_lines.specs.Lines.{AddsSteps}
use Rattle.station_lines.proofs.links.push_lone_tap.Goals as goal

pub returns : goal.returns
returns c = λ e part k.
    subst (λ (ss : List Step). OnOk c.push_tap.result (AddsSteps c.args.station.now.node_paths c.args.word.now
    c.args.path.now ss c.args.text.now c.push_tap.new.text))
    (loaded_lone e part c.args.nodes.now (sym c.if-is_tapless.false ∙ (c.is_tapless.ensures ∙ ap is_tapless_type k))
    c.if-nodes-ne1.false) (c.push_tap.ensures part)
