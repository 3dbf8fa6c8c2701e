use Rattle.short_equations.specs.declared.view.View.TheVariants.{Gap}
use Rattle.program_text.proofs.InterlockingLemmas.{pairs_grew}
use Rattle.program_text.proofs.program.may_formulas.Goals as goal

pub returns-clause-gap : goal.returns-clause-gap
returns-clause-gap c =
    pairs_grew Gap c.args.station.now c.view_pairs.new.terms c.view_pairs-2.new.terms c.in_ok-gap.gap.items
    c.in_ok-load.ensures.grew c.in_ok-gap.ensures.exact
