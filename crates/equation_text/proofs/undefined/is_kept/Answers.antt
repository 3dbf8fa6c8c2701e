use Rattle.std.proofs.Common.{◌∙◌, sym, subst}
use Rattle.std.specs.Prelude.{IsTrue}
use Rattle.equation_text.specs.Entries.{has_entry, entry_in}
use Rattle.equation_text.proofs.NumberLemmas.{decimal_once}
use Rattle.equation_text.proofs.undefined.is_kept.Goals as goal

pub returns-clause-yes : goal.returns-clause-yes
returns-clause-yes c = λ yes m is.
    let same = decimal_once c.args.word.now c.in-Some.number m c.in-Some.ensures.some is in
    subst (λ k. IsTrue (has_entry c.args.entries.now (entry_in c.args.kind k))) same (sym c.has.ensures ∙ yes)
