use Rattle.std.proofs.Common.{◌∙◌, ℕ, List, map, length, ap, subst, arith}
use Rattle.std.proofs.lemmas.List.{length-map}
use Rattle.contraction.specs.Answers.{Answers, Keeps}
use Rattle.contraction.specs.Renaming.{renamed}
use Rattle.contraction.proofs.MergeLemmas.{few_nodes}
use Rattle.judge_pool.specs.Places.{node_listed}
use Rattle.judge_intake.proofs.PlacesLemmas.{places_are_nodes}
use Rattle.judge_intake.proofs.places.in_places.Goals as goal

pub places_of-requires-clause-few : goal.places_of-requires-clause-few
places_of-requires-clause-few c = few_nodes c.args.list.now c.requires.nodes

pub places_of-requires-clause-has : goal.places_of-requires-clause-has
places_of-requires-clause-has c n kept = c.requires.has n (subst (λ xs. Keeps xs n) c.nodes-nodes.ensures.nodes kept)

pub renamed-requires-clause-nodes : goal.renamed-requires-clause-nodes
renamed-requires-clause-nodes c =
    let list = c.args.list.now in
    places_are_nodes list c.requires.nodes c.in_ok-places.places c.args.value.now.kept
    (c.in_ok-places.ensures ∙ c.nodes-nodes.ensures.nodes) c.nodes-nodes.ensures.answers.nodes.rises c.requires.has

pub renamed-requires-clause-count : goal.renamed-requires-clause-count
renamed-requires-clause-count c = omega (
  arith,
  length-map c.in_ok-places.places (node_listed c.args.list.now),
  ap length (c.in_ok-places.ensures ∙ c.nodes-nodes.ensures.nodes),
)

pub returns-clause-mapped : goal.returns-clause-mapped
returns-clause-mapped c =
    let f : ℕ → ℕ = node_listed c.args.list.now in
    let x : Answers = c.args.value.now in
    ap (λ (z : Answers). renamed (map f z.kept) z) c.in_ok-moved.ensures.renamed
    ∙ ap (λ (ks : List ℕ). renamed ks x) (c.in_ok-places.ensures ∙ c.nodes-nodes.ensures.nodes)
