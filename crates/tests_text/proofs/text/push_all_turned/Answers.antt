use Rattle.std.proofs.Common.{Option, None, arith, ◌∙◌}
use Rattle.std.specs.List.{zip}
use Rattle.std.proofs.lemmas.Option.{slice_get-get_or}
use Rattle.ilk_base.specs.declared.words.Op.{Op}
use Rattle.ilk_base.specs.declared.words.Rule.{Rule}
use Rattle.ilk_base.specs.declared.words.Direction.TheVariants.{ToOff}
use Rattle.tests_text.specs.TestsText.{turned_line}
use Rattle.tests_text.proofs.GrowingLemmas.{one_more, all_lines, paired_at, paired_end}
use Rattle.tests_text.proofs.text.push_all_turned.Goals as goal

pub loop-k-preserved : goal.loop-k-preserved
loop-k-preserved c =
    let d = c.args.station.now in
    let ops = c.args.ops.now in
    let before = c.args.before.now in
    let after = c.args.after.now in
    let k = c.loop-k.k in
    let any : Op = record { switch = record { 0 = 0 }; direction = ToOff } in
    record {
      text = one_more (λ (p : Op × (Option Rule × Option Rule)). turned_line d p.0 p.1.0 p.1.1) (zip ops (zip before after)) k _
          c.args.text.now.text c.loop-k.text.text c.push_turned.new.text.text
          (paired_at ops (zip before after) k _ _ (slice_get-get_or ops k any c.loop-k-test.true)
          (paired_at before after k _ _
          (slice_get-get_or before k None (omega (arith, c.requires.before, c.loop-k-test.true)))
          (slice_get-get_or after k None (omega (arith, c.requires.after, c.loop-k-test.true)))))
          c.loop-k.invariant.text c.in_ok-push_turned.ensures.ok;
      names = c.push_turned.ensures.names ∙ c.loop-k.invariant.names;
      same = c.push_turned.ensures.names ∙ c.loop-k.invariant.same;
    }

pub returns-clause-ok : goal.returns-clause-ok
returns-clause-ok c =
    let d = c.args.station.now in
    let ops = c.args.ops.now in
    let before = c.args.before.now in
    let after = c.args.after.now in
    all_lines (λ (p : Op × (Option Rule × Option Rule)). turned_line d p.0 p.1.0 p.1.1) (zip ops (zip before after))
    c.loop-k.k c.args.text.now.text c.loop-k.text.text (paired_end ops (zip before after) c.loop-k.k c.loop-k-test.false)
    c.loop-k.invariant.text
