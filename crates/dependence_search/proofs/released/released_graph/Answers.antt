use Rattle.std.proofs.Common.{◌≡◌, ◌<◌, ℕ, List, map, sym, ap, ◌∙◌, subst, arith}
use Rattle.std.specs.Prelude.{slice_index}
use Rattle.decision_graphs.specs.Label.{label_of}
use Rattle.dependence_search.specs.Released.{released_name}
use Rattle.dependence_search.proofs.ReleasedLemmas.{names_small, released_of}
use Rattle.dependence_search.proofs.released.released_graph.Goals as goal

pub rename-requires-clause-within : goal.rename-requires-clause-within
rename-requires-clause-within c x lt =
    let is : c.deref-2.result.now ≡ map (released_name c.args.direction) c.args.walk.now.codes.items =
    c.deref-2.ensures.value
    ∙ (c.in_ok-names.ensures ∙ ap (map (released_name c.args.direction)) c.deref.ensures.value) in
    subst (λ (l : List ℕ). slice_index l x < 2) (sym is)
    (names_small c.args.direction c.args.walk.now.codes.items x (omega (arith, lt, c.requires.labels)))

pub returns : goal.returns
returns c =
    let is : c.deref-2.result.now ≡ map (released_name c.args.direction) c.args.walk.now.codes.items =
    c.deref-2.ensures.value
    ∙ (c.in_ok-names.ensures ∙ ap (map (released_name c.args.direction)) c.deref.ensures.value) in
    released_of c.args.walk.now.graph c.in_ok-named.named c.in_ok-reduced.reduced c.args.walk.now.codes.items
    c.args.direction c.requires c.in_ok-named.ensures.choices
    (λ some cs fits.
    subst (λ (l : List ℕ). label_of c.in_ok-named.named cs ≡ slice_index l (label_of c.args.walk.now.graph cs)) is
    (c.in_ok-named.ensures.label some cs fits)) c.in_ok-reduced.ensures.choices c.in_ok-reduced.ensures.label
    c.in_ok-reduced.ensures.reduced
