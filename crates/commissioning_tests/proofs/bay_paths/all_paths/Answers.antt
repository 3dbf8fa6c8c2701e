use Rattle.std.proofs.Common.{◌≡◌, ◌+◌, ℕ, ap, subst, sym, length, arith}
use Rattle.std.proofs.lemmas.List.{length_push}
use Rattle.commissioning_tests.specs.Refusing.{AllAreNarrow}
use Rattle.commissioning_tests.proofs.HeldLemmas.{held_more}
use Rattle.commissioning_tests.proofs.RefusalLemmas.{narrow_more}
use Rattle.commissioning_tests.proofs.bay_paths.all_paths.Goals as goal

pub loop-i-preserved : goal.loop-i-preserved
loop-i-preserved c =
    let d = c.args.station.now in
    let steps = c.args.steps.now.old_steps.items in
    let first = c.args.first.0 in
    let i = c.loop-i.i in
    let items = c.in_ok-push.ensures.items in
    let long : length c.push.new.self.items ≡ i + 1 =
    omega (arith, ap length items, length_push c.loop-i.all.items c.in_ok-one.one, c.loop-i.invariant.1) in (
      c.in_ok-one.ensures.stocks,
      long,
      held_more d steps first i c.loop-i.all.items c.push.new.self.items c.in_ok-one.one items c.loop-i.invariant.1
          c.loop-i.invariant.2 c.in_ok-one.ensures.held,
      subst (λ (n : ℕ). AllAreNarrow d steps first n c.args.limit) (sym long)
          (narrow_more d steps first i c.args.limit
          (subst (λ (n : ℕ). AllAreNarrow d steps first n c.args.limit) c.loop-i.invariant.1 c.loop-i.invariant.3)
          c.in_ok-one.ensures.narrow),
    )
