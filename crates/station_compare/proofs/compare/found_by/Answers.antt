use Rattle.std.proofs.Common.{List, sym, subst, arith}
use Rattle.station_compare.specs.declared.found.Found.{Found}
use Rattle.station_compare.specs.Each.{AreEach}
use Rattle.station_compare.specs.Comparing.{IsFound}
use Rattle.station_compare.proofs.ListLemmas.{each_first, each_next}
use Rattle.station_compare.proofs.OrderLemmas.{first_orders, all_narrow, bay_next}
use Rattle.station_compare.proofs.compare.found_by.Goals as goal

pub loop-k-init : goal.loop-k-init
loop-k-init c = (
  c.requires,
  (
    subst (λ (xs : List Found). AreEach (IsFound c.args.old.now c.args.new.now) 0 xs) (sym c.new-list.ensures.items)
        (each_first (IsFound c.args.old.now c.args.new.now)),
    (
      λ j e. absurd (omega (arith, e)),
      first_orders c.args.old.now c.args.new.now c.args.walks.now c.requires,
    ),
  ),
)

pub loop-k-preserved : goal.loop-k-preserved
loop-k-preserved c = (
  c.in_ok-found.ensures.walks,
  (
    rw c.in_ok-push.ensures.items (each_next (IsFound c.args.old.now c.args.new.now) c.loop-k.k c.loop-k.list.items
        c.in_ok-found.found c.loop-k.invariant.1.0 c.in_ok-found.ensures.found),
    (
      bay_next c.args.new.now c.loop-k.k _ _ c.in_ok-found.ensures.bay c.in_ok-turn_to.ensures.bay,
      c.in_ok-found.ensures.before,
    ),
  ),
)

pub next_found-requires-clause-list : goal.next_found-requires-clause-list
next_found-requires-clause-list c =
    subst (λ (xs : List Found). AreEach (IsFound c.args.old.now c.args.new.now) c.loop-k.k xs)
    (sym c.deref.ensures.value) c.loop-k.invariant.1.0

pub returns-clause-narrow : goal.returns-clause-narrow
returns-clause-narrow c =
    all_narrow c.args.old.now c.args.new.now c.loop-k.walks c.loop-k.k c.loop-k.invariant.1.1.1
    (omega (arith, c.switch_count-k-end.ensures.count, c.loop-k.auto.k-end, c.loop-k-test.false))
