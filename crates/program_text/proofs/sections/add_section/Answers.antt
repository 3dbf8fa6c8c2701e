use Rattle.std.proofs.Common.{◌≡◌, slice_get, get_or, Some, None, sym, ◌∙◌, arith}
use Rattle.std.proofs.lemmas.Option.{slice_get-get_or}
use Rattle.structured_text.specs.declared.name.Name.TheVariants.{Off}
use Rattle.structured_text.specs.declared.line.Line.{Line}
use Rattle.structured_text.specs.declared.line.Formula.TheVariants.{Always}
use Rattle.program_text.proofs.SortLemmas.{sorted_pass, sorted_next, sorted_push}
use Rattle.program_text.proofs.WithinLemmas.{within_pushed}
use Rattle.program_text.proofs.sections.add_section.Goals as goal
use Rattle.program_text.proofs.sections.add_section.Goals.{then-section_of-section+in_ok-push, else-section_of-section}

abbrev none : Line
none = record { heading = None; name = Off (record { 0 = 0 }); formula = Always }

pub loop-i-preserved : goal.loop-i-preserved
loop-i-preserved c =
    let lines = c.args.lines.now in
    let keys = c.args.keys.now in
    let section = c.args.section in
    let n = c.loop-i.i in
    let test = c.loop-i-test.true in
    let sorted = c.loop-i.sorted.items in
    let x = get_or lines n none in
    let listed : slice_get lines n ≡ Some x = slice_get-get_or lines n none (omega (arith, test)) in
    elim c.if-section_of-section.branch [
      | then-section_of-section+in_ok-push w ↦
          let hd = w.heading_at.result in
          rw (w.sorted-is, w.in_ok-push.ensures.items) (
            sorted_push lines keys section c.requires.order c.requires.rise n x listed
                (sym c.section_of.ensures ∙ w.if-section_of-section.true) hd sorted c.loop-i.invariant.0,
            within_pushed c.args.station.now sorted (record { heading = hd; name = x.name; formula = x.formula })
                c.loop-i.invariant.1 (record {
                  heading = w.heading_at.ensures;
                  name = (c.requires.within n x listed).name;
                  formula = (c.requires.within n x listed).formula;
                }),
          )
      | else-section_of-section w ↦
          rw (w.sorted-is) (
            sorted_pass lines keys section n sorted c.loop-i.invariant.0
                (λ e. w.if-section_of-section.false (c.section_of.ensures ∙ e)),
            c.loop-i.invariant.1,
          )
    ]

pub returns-clause-taken : goal.returns-clause-taken
returns-clause-taken c =
    let test = c.loop-i-test.false in
    sorted_next c.args.lines.now c.args.keys.now c.args.section c.loop-i.i c.loop-i.sorted.items (omega (arith, test))
    c.loop-i.invariant.0
