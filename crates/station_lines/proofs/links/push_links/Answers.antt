use Rattle.std.proofs.Common.{◌≡◌, ℕ, ◌≤◌, List, [], ◌∷◌, length, get_or, drop, Bool, refl, arith, ap, ◌∙◌, subst}
use Rattle.std.proofs.lemmas.List.{take_rest}
use Rattle.std.specs.Prelude.{OnOk}
use Rattle.ssd_read.specs.Steps.{Step, links_after, links_along}
use Rattle.station_lines.specs.Lines.{AddsSteps}
use Rattle.station_lines.proofs.links.push_links.Goals as goal

along : (bond : Bool) (part : ℕ) (ns : List ℕ) → 1 ≤ length ns →
    links_after bond part (get_or ns 0 0) (drop 1 ns) ≡ links_along bond part ns
along bond part [] h = absurd (omega arith)
along bond part (a ∷ ns) h = refl

pub returns-in-len1-up : goal.returns-in-len1-up
returns-in-len1-up c = λ part.
    subst (λ (ss : List Step). OnOk c.push_links_after.result (AddsSteps c.args.station.now.node_paths c.args.word.now
    c.args.path.now ss c.args.text.now c.push_links_after.new.text))
    (ap (links_after c.args.bond part (get_or c.args.nodes.now 0 0)) (take_rest c.args.nodes.now 1)
    ∙ along c.args.bond part c.args.nodes.now c.in-len1-up.len_at_least) (c.push_links_after.ensures part)
