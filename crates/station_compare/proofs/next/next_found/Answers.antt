use Rattle.std.proofs.Common.{Option, MatchOption, refl, subst}
use Rattle.station_compare.specs.declared.found.Found.{Found}
use Rattle.station_compare.specs.Orders.{IsCarried}
use Rattle.station_compare.specs.Turning.{likes_of}
use Rattle.station_compare.proofs.OrderLemmas.{narrow_here, narrow_next}
use Rattle.station_compare.proofs.next.next_found.Goals as goal

pub walked_found-requires-clause-not_carried : goal.walked_found-requires-clause-not_carried
walked_found-requires-clause-not_carried c =
    subst (λ (p : Option Found). MatchOption p (¬ IsCarried (likes_of c.args.walks.now c.args.walks.now.bay.0) c.args.id.0)
    (λ (f : Found). IsCarried (likes_of c.args.walks.now c.args.walks.now.bay.0) c.args.id.0)) c.in-None.is c.in_ok-taken.ensures.carried

pub returns-in-Some-clause-before : goal.returns-in-Some-clause-before
returns-in-Some-clause-before c =
    let o = c.args.old.now in
    let n = c.args.new.now in
    let w = c.args.walks.now in
    let k = c.args.id.0 in
    let carried =
    subst (λ (p : Option Found). MatchOption p (¬ IsCarried (likes_of w w.bay.0) k) (λ (f : Found). IsCarried (likes_of w w.bay.0) k)) c.in-Some.is
    c.in_ok-taken.ensures.carried in
    narrow_next o n w k c.requires.before c.requires.bay _ refl refl refl
    (narrow_here o n w k c.requires.before c.requires.bay (λ none. absurd (none carried)))
