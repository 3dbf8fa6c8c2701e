use Rattle.std.proofs.Common.{◌≡◌, ℕ, List, Bool, false, get_or, MatchBool, sym, ap, ◌∙◌, subst}
use Rattle.station_graph.specs.Alike.{Irrelevant, Partner}
use Rattle.judge_pool.specs.Graphs.{other_of}
use Rattle.judge_graphs.specs.Built.{BayOf, AreTold}
use Rattle.release_compile.proofs.TellsLemmas.{told_of}
use Rattle.release_compile.proofs.told.is_partner.Goals as goal

pub returns-clause-partner : goal.returns-clause-partner
returns-clause-partner c told =
    let j = c.args.judge.now in
    let list : List Bool = c.bay-graphs.result.now.told.items in
    let are : AreTold j.diagram c.args.to.0 list =
    subst (λ (g : BayOf). AreTold j.diagram c.args.to.0 g.told) (sym c.bay-graphs.ensures.value)
    c.bay-graphs.ensures.graphs.told in
    let reads : (k : ℕ) → other_of 0 c.args.to.0 k ≡ c.args.bay.0 → c.told_at.result ≡ get_or list k false =
    λ k e. c.told_at.ensures k e ∙ ap (λ (t : List Bool). get_or t k false) c.deref.ensures.value in
    let is : MatchBool c.told_at.result (Partner j.diagram c.args.bay.0 c.args.to.0)
    (Irrelevant j.diagram c.args.bay.0 c.args.to.0) =
    told_of j.diagram c.args.to.0 c.args.bay.0 list c.told_at.result are c.requires.other c.requires.bay.0
    c.requires.to.0 reads in
    subst (λ (t : Bool). MatchBool t (Partner j.diagram c.args.bay.0 c.args.to.0)
    (Irrelevant j.diagram c.args.bay.0 c.args.to.0)) told is

pub returns-clause-other : goal.returns-clause-other
returns-clause-other c untold =
    let j = c.args.judge.now in
    let list : List Bool = c.bay-graphs.result.now.told.items in
    let are : AreTold j.diagram c.args.to.0 list =
    subst (λ (g : BayOf). AreTold j.diagram c.args.to.0 g.told) (sym c.bay-graphs.ensures.value)
    c.bay-graphs.ensures.graphs.told in
    let reads : (k : ℕ) → other_of 0 c.args.to.0 k ≡ c.args.bay.0 → c.told_at.result ≡ get_or list k false =
    λ k e. c.told_at.ensures k e ∙ ap (λ (t : List Bool). get_or t k false) c.deref.ensures.value in
    let is : MatchBool c.told_at.result (Partner j.diagram c.args.bay.0 c.args.to.0)
    (Irrelevant j.diagram c.args.bay.0 c.args.to.0) =
    told_of j.diagram c.args.to.0 c.args.bay.0 list c.told_at.result are c.requires.other c.requires.bay.0
    c.requires.to.0 reads in
    subst (λ (t : Bool). MatchBool t (Partner j.diagram c.args.bay.0 c.args.to.0)
    (Irrelevant j.diagram c.args.bay.0 c.args.to.0)) untold is
