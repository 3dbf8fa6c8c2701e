use Rattle.std.proofs.Common.{◌∙◌, ◌++◌, ◌∷◌, [], ◌<◌, length, refl, subst, arith}
use Rattle.std.proofs.lemmas.Option.{slice_get_read}
use Rattle.std.specs.Prelude.{slice_index_or}
use Rattle.ilk_base.specs.declared.words.Direction.TheVariants.{ToOff, ToOn}
use Rattle.release_compile.specs.Reaches.{AreVerdictsOf, AreVerdicts}
use Rattle.release_texts.specs.CheckText.{release_line, reading_lines}
use Rattle.release_texts.proofs.AllLines.{one_line}
use Rattle.release_texts.proofs.check.check_lines.Goals as goal

pub told-requires-clause-verdicts : goal.told-requires-clause-verdicts
told-requires-clause-verdicts c =
    let d = c.args.station.now in
    let words = c.args.readings.now in
    let list = c.in_ok-verdicts.verdicts.items in
    let place = c.from-place.result in
    let both = c.index-both.result.now in
    let are : AreVerdicts d words list (length d.switches) = subst (λ e. AreVerdicts e words list (length e.switches))
    c.requires.same c.in_ok-verdicts.ensures in
    let lt : place < length list = omega (
      arith,
      are.len,
      c.from-place.ensures,
      c.loop-i-test.true,
      c.switch_count-i-end.ensures.count,
    ) in
    subst (λ i. AreVerdictsOf d words i both) c.from-place.ensures
    (are.each place both (slice_get_read list _ place both refl lt c.index-both.ensures))

pub loop-i-preserved : goal.loop-i-preserved
loop-i-preserved c =
    let d = c.args.station.now in
    let words = c.args.readings.now in
    let both = c.index-both.result.now in
    let line =
    release_line both.opening both.closing (slice_index_or d.switch_paths c.loop-i.i [])
    ++ reading_lines ToOff c.loop-i.i words d both.opening
    ++ reading_lines ToOn c.loop-i.i words d both.closing in
    let (lines, are) = c.loop-i.invariant.lines in
    record {
      names = c.in_ok-push_switch.ensures.names ∙ c.loop-i.invariant.names;
      lines = (
        lines ++ line ∷ [],
        rw c.in_ok-push_switch.ensures.ok
            (one_line c.loop-i.i d words lines c.loop-i.text.text line are (record {
              opening = both.opening;
              closing = both.closing;
              opens = c.told.ensures.opens;
              closes = c.told.ensures.closes;
              text_is = refl;
            })),
      );
    }
