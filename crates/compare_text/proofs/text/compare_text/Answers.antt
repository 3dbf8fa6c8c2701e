use Rattle.compare_text.proofs.text.compare_text.Goals as goal

pub returns-clause-report : goal.returns-clause-report
returns-clause-report c = record {
  found = c.in_ok-found.found;
  is = c.in_ok-found.ensures.comparison;
  narrow = c.in_ok-found.ensures.narrow;
  text = c.in_ok-lines.ensures;
  extends = c.extends-extends.ensures;
}
