use Rattle.std.proofs.Common.{subst}
use Rattle.station_compare.specs.declared.found.Found.{Found}
use Rattle.station_compare.specs.Comparing.{IsFound}
use Rattle.station_compare.proofs.LikeLemmas.{alone_new}
use Rattle.station_compare.proofs.exchanged.exchanged_found.Goals as goal

pub returns-in-OnlyNew : goal.returns-in-OnlyNew
returns-in-OnlyNew c k found i same =
    alone_new c.args.old.now c.args.new.now c.args.like.now c.requires k
    (subst (λ (f : Found). IsFound c.args.old.now c.args.new.now k f) c.in-OnlyNew.is found) i same

pub returns-in_ok-moved-in-InBoth : goal.returns-in_ok-moved-in-InBoth
returns-in_ok-moved-in-InBoth c k found =
    c.in_ok-moved-in-InBoth.ensures k
    (subst (λ (f : Found). IsFound c.args.old.now c.args.new.now k f) c.in-InBoth.is found)
