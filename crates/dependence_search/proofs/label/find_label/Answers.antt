use Rattle.std.proofs.Common.{◌≡◌, true, map, replicate, ap, ◌∙◌, arith}
use Rattle.graph_walks.specs.Walks.{set_for}
use Rattle.dependence_search.proofs.LabelLemmas.{led_some, led_none}
use Rattle.dependence_search.proofs.WantedLemmas.{set_within}
use Rattle.dependence_search.proofs.label.find_label.Goals as goal

pub returns-in-Some : goal.returns-in-Some
returns-in-Some c =
    let are : c.in_ok-sets.sets ≡ map set_for (replicate c.args.n true) =
    c.in_ok-sets.ensures.sets ∙ ap (map set_for) (c.deref.ensures.value ∙ c.in_ok-free.ensures) in
    led_some c.args.graph.now c.in_ok-sets.sets c.reach.new.marks c.args.wanted.now c.args.n are c.in-Some.label
    c.in_ok-path_to-in-Some.field-0 c.reach.ensures.paths
    (omega (arith, set_within c.args.wanted.now c.in-Some.label c.in-Some.ensures.shows, c.requires.labels))
    c.in-Some.ensures.found c.in-Some.ensures.shows c.in_ok-path_to-in-Some.ensures.path

pub returns : goal.returns
returns c =
    let are : c.in_ok-sets.sets ≡ map set_for (replicate c.args.n true) =
    c.in_ok-sets.ensures.sets ∙ ap (map set_for) (c.deref.ensures.value ∙ c.in_ok-free.ensures) in
    led_none c.args.graph.now c.in_ok-sets.sets c.reach.new.marks c.args.wanted.now c.args.n are c.reach.ensures.exact
    c.requires.labels c.in-None.ensures.none
