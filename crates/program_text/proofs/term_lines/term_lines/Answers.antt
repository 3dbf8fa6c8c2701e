use Rattle.std.proofs.Common.{None, ◌≡◌, ◌∙◌, ◌<◌, ◌^◌, length, ap, subst, sym, arith}
use Rattle.structured_text.specs.declared.line.Line.{Line}
use Rattle.structured_text.specs.declared.line.Formula.{Formula}
use Rattle.structured_text.specs.Within.{LineWithin}
use Rattle.program_text.specs.Names.{name_in}
use Rattle.program_text.specs.TermLines.{formula_in}
use Rattle.program_text.proofs.TermLineLemmas.{means_skip, means_push}
use Rattle.program_text.proofs.WithinLemmas.{within_pushed, term_within}
use Rattle.program_text.proofs.term_lines.term_lines.Goals as goal
use Rattle.program_text.proofs.term_lines.term_lines.Goals.{then-is_named+in_ok-push, else-is_named}

pub loop-k-preserved : goal.loop-k-preserved
loop-k-preserved c =
    let r = c.args.reading in
    let count = c.args.count in
    let terms = c.args.terms.now in
    let places = c.args.places.now in
    let k = c.loop-k.k in
    let test = c.loop-k-test.true in
    let ends = c.len-k-end.ensures.count in
    let within : k < length terms = omega (arith, test, ends) in
    let small : k < 2 ^ 64 = omega (arith, test) in
    elim c.if-is_named.branch [
      | then-is_named+in_ok-push w ↦
          let t = w.get-term.result in
          let l : Line = record { heading = None; name = w.name_of-name.result; formula = w.formula_of-formula.result } in
          let same : l ≡ record { heading = None; name = name_in r k; formula = formula_in r count terms places t } =
          ap (λ n. record { heading = None; name = n; formula = w.formula_of-formula.result }) w.name_of-name.ensures
          ∙ ap (λ (f : Formula). record { heading = None; name = name_in r k; formula = f }) w.formula_of-formula.ensures in
          rw (w.lines-is, w.in_ok-push.ensures.items) (
            means_push r count terms places c.requires k c.loop-k.lines.items c.loop-k.invariant.0
                w.get-term.ensures.ordered t w.get-term.ensures.value (c.is_named.ensures.yes w.if-is_named.true) None l same,
            λ d counted. within_pushed d c.loop-k.lines.items l (c.loop-k.invariant.1 d counted)
                (subst (LineWithin d) (sym same)
                (term_within r terms places w.get-term.ensures.ordered k within small d count counted None tt t (w.get-term.ensures.ordered k t w.get-term.ensures.value))),
          )
      | else-is_named w ↦
          rw (w.lines-is) (
            means_skip r count terms places k c.loop-k.lines.items c.loop-k.invariant.0
                (λ named. let e = c.is_named.ensures.no named in let f = w.if-is_named.false in cc),
            c.loop-k.invariant.1,
          )
    ]
