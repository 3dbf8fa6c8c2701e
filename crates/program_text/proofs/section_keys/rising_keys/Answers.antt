use Rattle.std.proofs.Common.{◌≡◌, ◌∙◌, slice_get, get_or, Some, None, List, ap, arith}
use Rattle.std.proofs.lemmas.List.{length_push}
use Rattle.std.proofs.lemmas.Option.{slice_get-get_or}
use Rattle.structured_text.specs.declared.name.Name.{Name}
use Rattle.structured_text.specs.declared.name.Name.TheVariants.{Off}
use Rattle.structured_text.specs.declared.line.Line.{Line}
use Rattle.structured_text.specs.declared.line.Formula.TheVariants.{Always}
use Rattle.program_text.specs.ReadNames.{formula_names}
use Rattle.program_text.proofs.RisingLemmas.{keys_small, noted_more, rise_more}
use Rattle.program_text.proofs.section_keys.rising_keys.Goals as goal

abbrev none : Line
none = record { heading = None; name = Off (record { 0 = 0 }); formula = Always }

pub loop-i-preserved : goal.loop-i-preserved
loop-i-preserved c =
    let lines = c.args.lines.now in
    let n = c.loop-i.i in
    let test = c.loop-i-test.true in
    let x = get_or lines n none in
    let listed : slice_get lines n ≡ Some x = slice_get-get_or lines n none (omega (arith, test)) in
    let xs = c.loop-i.sections.items in
    let s = c.key_behind-section.result in
    let count = c.loop-i.invariant.0 in
    let pushed = length_push xs s in
    let old = c.loop-i.keys in
    let new = c.raise.new.keys in
    let names : c.deref.result.now ≡ formula_names x.formula = c.deref.ensures.value ∙ c.in_ok-names.ensures in
    rw (c.in_ok-push.ensures.items) (
      omega (arith, count, pushed),
      keys_small xs s c.key_behind-section.ensures.small c.loop-i.invariant.1,
      c.raise.ensures.small,
      noted_more lines xs s n count x listed old new c.loop-i.invariant.3 c.raise.ensures.kept c.raise.ensures.raised,
      rise_more lines xs s n count x listed old new c.loop-i.invariant.3 c.loop-i.invariant.4
          (λ k m at. c.key_behind-section.ensures.names k m (ap (λ (l : List Name). slice_get l k) names ∙ at)),
    )
