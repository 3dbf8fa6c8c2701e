use Rattle.std.proofs.Common.{◌∙◌, ◌++◌, ◌∷◌, [], ◌<◌, length, refl, subst, arith}
use Rattle.std.proofs.lemmas.Option.{slice_get_read}
use Rattle.release_compile.specs.Reaches.{AreVerdictsOf, AreVerdicts}
use Rattle.release_texts.proofs.AllLines.{one_denial}
use Rattle.release_texts.proofs.denials.denial_lines.Goals as goal

pub push_switch-requires-clause-verdicts : goal.push_switch-requires-clause-verdicts
push_switch-requires-clause-verdicts c =
    let d = c.args.station.now in
    let words = c.args.readings.now in
    let list = c.in_ok-verdicts.verdicts.items in
    let place = c.from-place.result in
    let both = c.index-both.result.now in
    let are : AreVerdicts d words list (length d.switches) = subst (λ e. AreVerdicts e words list (length e.switches))
    c.requires.same c.in_ok-verdicts.ensures in
    let lt : place < length list = omega (
      arith,
      are.len,
      c.from-place.ensures,
      c.loop-i-test.true,
      c.switch_count-i-end.ensures.count,
    ) in
    subst (λ i. AreVerdictsOf d words i both) c.from-place.ensures
    (are.each place both (slice_get_read list _ place both refl lt c.index-both.ensures))

pub loop-i-preserved : goal.loop-i-preserved
loop-i-preserved c =
    let (texts, are) = c.loop-i.invariant.texts in
    let (more, is, denials) = c.in_ok-push_switch.ensures.ok in
    record {
      names = c.in_ok-push_switch.ensures.names ∙ c.loop-i.invariant.names;
      texts = (
        texts ++ more ∷ [],
        rw is (one_denial c.loop-i.i c.args.station.now c.args.readings.now texts c.loop-i.text.text more are denials),
      );
    }
