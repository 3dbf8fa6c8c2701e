use Rattle.std.proofs.Common.{◌≡◌, ◌∙◌, ℕ, List, map, length, sym, ap, subst, arith}
use Rattle.std.proofs.lemmas.List.{length-map}
use Rattle.contraction.specs.Answers.{Answers, Keeps, AreNodes}
use Rattle.contraction.specs.Renaming.{renamed}
use Rattle.judge_pool.specs.Places.{node_listed}
use Rattle.judge_intake.proofs.PlacesLemmas.{nodes_are_nodes}
use Rattle.judge_intake.proofs.places.on_nodes.Goals as goal

pub nodes_at-requires : goal.nodes_at-requires
nodes_at-requires c p kept = c.requires.within p (subst (λ xs. Keeps xs p) c.nodes-places.ensures.nodes kept)

pub renamed-requires-clause-nodes : goal.renamed-requires-clause-nodes
renamed-requires-clause-nodes c =
    let list = c.args.list.now in
    let x : Answers = c.args.value.now in
    let is : c.in_ok-nodes.nodes ≡ map (node_listed list) x.kept =
    c.in_ok-nodes.ensures ∙ ap (map (node_listed list)) c.nodes-places.ensures.nodes in
    subst AreNodes (sym is)
    (nodes_are_nodes list c.requires.nodes x.kept c.nodes-places.ensures.answers.nodes c.requires.within)

pub renamed-requires-clause-count : goal.renamed-requires-clause-count
renamed-requires-clause-count c =
    let list = c.args.list.now in
    let x : Answers = c.args.value.now in
    let is : c.in_ok-nodes.nodes ≡ map (node_listed list) x.kept =
    c.in_ok-nodes.ensures ∙ ap (map (node_listed list)) c.nodes-places.ensures.nodes in
    omega (arith, ap length is, length-map x.kept (node_listed list))

pub returns : goal.returns
returns c =
    let list = c.args.list.now in
    let x : Answers = c.args.value.now in
    let is : c.in_ok-nodes.nodes ≡ map (node_listed list) x.kept =
    c.in_ok-nodes.ensures ∙ ap (map (node_listed list)) c.nodes-places.ensures.nodes in
    c.in_ok-actual.ensures.renamed ∙ ap (λ (ks : List ℕ). renamed ks x) is
