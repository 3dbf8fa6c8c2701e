use Rattle.std.proofs.Common.{ℕ, suc, List, sym, subst}
use Rattle.dependence_search.specs.Parting.{LeadApart}
use Rattle.dependence_search.proofs.TellingLemmas.{apart_first, apart_all}
use Rattle.dependence_search.proofs.telling.labels_apart.Goals as goal

pub lead_apart-requires-clause-before : goal.lead_apart-requires-clause-before
lead_apart-requires-clause-before c =
    subst (λ (l : List ℕ). LeadApart c.args.graph.now c.args.layer (suc c.args.layer) l c.next_place-one.result
    c.next_place-other.result) (sym c.in_ok-push.ensures.items)
    (apart_first c.args.graph.now c.args.layer c.args.choices.now.items c.args.node c.next_place-one.result
    c.next_place-other.result c.labels-fits.ensures.layered c.requires.layer
    (c.requires.twos.choices c.args.layer c.requires.layer) c.requires.before c.next_place-one.ensures
    c.next_place-other.ensures)

pub returns : goal.returns
returns c =
    let (one, (other, w)) = c.in_ok-lead_apart.ensures in
    apart_all c.args.graph.now c.args.layer c.lead_apart.new.choices.items one other w
