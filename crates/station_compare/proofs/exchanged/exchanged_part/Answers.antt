use Rattle.std.proofs.Common.{Option, option_map, subst}
use Rattle.change_search.specs.declared.part.Shown.{Shown}
use Rattle.change_search.specs.Showing.{witness_of}
use Rattle.station_changes.specs.Compare.{IsPart}
use Rattle.station_compare.proofs.LikeLemmas.{none_to, shown_to}
use Rattle.station_compare.proofs.exchanged.exchanged_part.Goals as goal

pub returns-in_ok-moved-in-Some : goal.returns-in_ok-moved-in-Some
returns-in_ok-moved-in-Some c a b x y change rule ops part =
    let o = c.args.old.now in
    let n = c.args.new.now in
    let e = c.in_ok-moved-in-Some.ensures in
    shown_to o n c.args.like.now c.requires a b x y ops change rule (witness_of c.in-Some.shown)
    (witness_of c.in_ok-moved-in-Some.moved) e.old e.new e.isolated e.old_exchanged e.new_exchanged
    (subst (λ (p : Option Shown). IsPart o n a b change rule (option_map witness_of p)) c.in-Some.is part)

pub returns-in-None : goal.returns-in-None
returns-in-None c a b x y change rule ops part =
    let o = c.args.old.now in
    let n = c.args.new.now in
    none_to o n c.args.like.now c.requires a b x y ops change rule
    (subst (λ (p : Option Shown). IsPart o n a b change rule (option_map witness_of p)) c.in-None.is part)
