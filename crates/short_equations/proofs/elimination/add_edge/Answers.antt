use Rattle.std.proofs.Common.{◌≡◌, ◌∙◌, subst}
use Rattle.std.proofs.lemmas.Option.{get_or_from_slice_get}
use Rattle.short_equations.specs.declared.edge.Edge.{Edge}
use Rattle.interlock_terms.specs.Terms.{MeansEither}
use Rattle.short_equations.specs.Edges.{IsPlaceOf}
use Rattle.short_equations.proofs.EliminateLemmas.{adds_pushed, edges_pushed, adds_set}
use Rattle.short_equations.proofs.elimination.add_edge.Goals as goal

pub returns-in_ok-term-in-Some-clause-adds : goal.returns-in_ok-term-in-Some-clause-adds
returns-in_ok-term-in-Some-clause-adds c =
    let edges = c.args.edges.now.items in
    let e = c.args.edge in
    let place = c.in-Some.place in
    let n = c.in_ok-term-in-Some.term in
    let terms = c.either.new.self in
    let h : IsPlaceOf edges e.first e.second place =
    subst (λ es. IsPlaceOf es e.first e.second place) c.deref.ensures.value c.in-Some.ensures in
    let same : c.index-old.result.now ≡ h.edge =
    c.index-old.ensures ∙ get_or_from_slice_get edges place h.edge _ h.listed in
    let means : MeansEither terms n h.edge.term e.term =
    subst (λ (x : Edge). MeansEither terms n x.term e.term) same c.in_ok-term-in-Some.ensures.means in
    adds_set terms edges e place n h means

pub returns-in_ok-push-in-None-clause-edges : goal.returns-in_ok-push-in-None-clause-edges
returns-in_ok-push-in-None-clause-edges c =
    rw c.in_ok-push-in-None.ensures.items
    (edges_pushed c.args.edges.now.items c.args.edge c.requires.edges c.requires.edge)

pub returns-in_ok-push-in-None-clause-adds : goal.returns-in_ok-push-in-None-clause-adds
returns-in_ok-push-in-None-clause-adds c =
    rw c.in_ok-push-in-None.ensures.items
    (adds_pushed c.args.terms.now c.args.edges.now.items c.args.edge)
