use Rattle.std.proofs.Common.{sym, subst}
use Rattle.contraction.specs.Restricting.{FirstAt}
use Rattle.contraction.proofs.FirstLemmas.{restricts_by_firsts}
use Rattle.contraction.proofs.labels.label_at.Goals as goal

pub returns : goal.returns
returns c =
    let labels = c.args.labels.now in
    let places = c.args.places.now in
    restricts_by_firsts labels places c.spread_firsts.new.row c.spread_firsts.ensures.len (λ k k_in.
    subst (λ f. FirstAt labels places k f) (sym (c.spread_firsts.ensures.told k k_in)) (c.note_firsts.ensures k k_in))
