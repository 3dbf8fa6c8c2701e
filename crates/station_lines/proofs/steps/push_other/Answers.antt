use Rattle.std.proofs.Common.{List, Bool, sym, ap, ◌∙◌, subst}
use Rattle.std.proofs.lemmas.Result.{on_ok_weaker}
use Rattle.ssd_read.specs.Types.{is_bond_type}
use Rattle.ssd_read.specs.Steps.{links_along, lone_tap, is_bond}
use Rattle.station_lines.specs.Lines.{AddsSteps}
use Rattle.station_lines.proofs.StepsText.{adds_both}
use Rattle.station_lines.proofs.steps.push_other.Goals as goal

pub returns : goal.returns
returns c = λ e part k.
    let nodes = c.args.station.now.node_paths in
    let word = c.args.word.now in
    let path = c.args.path.now in
    let ns = c.args.nodes.now in
    let first : AddsSteps nodes word path (links_along (is_bond e) part ns) c.args.text.now c.push_links.new.text =
    subst (λ (b : Bool). AddsSteps nodes word path (links_along b part ns) c.args.text.now c.push_links.new.text)
    (c.is_bond.ensures ∙ ap is_bond_type k) (c.in_ok-push_links.ensures part) in
    on_ok_weaker c.push_lone_tap.result
    (λ h. adds_both nodes word path (links_along (is_bond e) part ns) (lone_tap e part ns) c.args.text.now
    c.push_links.new.text c.push_lone_tap.new.text first h) (c.push_lone_tap.ensures e part k)
