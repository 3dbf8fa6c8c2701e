use Rattle.std.proofs.Common.{sym, subst, arith}
use Rattle.short_equations.specs.declared.part_set.PartSet.TheVariants.{Below}
use Rattle.short_equations.specs.Fragments.{InParts, StandsForItems}
use Rattle.short_equations.proofs.ChainLemmas.{stands_nobody}
use Rattle.short_equations.proofs.chain.view_pairs.Goals as goal

pub walk-requires-clause-stands : goal.walk-requires-clause-stands
walk-requires-clause-stands c =
    let d = c.args.station.now in
    subst (λ es. StandsForItems c.args.view d c.args.terms.now (InParts d (Below 0)) es) (sym c.deref.ensures.value)
    (subst (λ es. StandsForItems c.args.view d c.args.terms.now (InParts d (Below 0)) es) (sym c.new-edges.ensures.items)
    (stands_nobody c.args.view d c.switch_count.ensures.station c.args.terms.now (Below 0)
    (λ p within low. omega (arith, low))))
