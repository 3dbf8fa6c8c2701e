use Rattle.std.proofs.Common.{ℕ, ◌+◌, length, refl, arith, ◌∙◌}
use Rattle.std.specs.List.{enumerate_from}
use Rattle.std.proofs.lemmas.Option.{slice_get_read}
use Rattle.commissioning_tests.specs.declared.values.TestPosition.{TestPosition}
use Rattle.tests_text.specs.TestsText.{position_lines}
use Rattle.tests_text.proofs.GrowingLemmas.{one_more, all_lines, numbered_at, numbered_end}
use Rattle.tests_text.proofs.text.push_positions.Goals as goal

pub loop-i-preserved : goal.loop-i-preserved
loop-i-preserved c =
    let d = c.args.station.now in
    let ops = c.args.ops.now in
    let positions = c.args.positions.now in
    let i = c.loop-i.i in
    let p = c.index-positions-i.result in
    record {
      text = one_more (λ (x : ℕ × TestPosition). position_lines d ops x.0 x.1) (enumerate_from 1 positions) i (i + 1, p)
          c.args.text.now.text c.loop-i.text.text c.push_position.new.text.text
          (numbered_at 1 (i + 1) positions i p
          (slice_get_read positions (length positions) i p refl c.loop-i-test.true c.index-positions-i.is) (omega arith))
          c.loop-i.invariant.text c.in_ok-push_position.ensures.ok;
      names = c.push_position.ensures.names ∙ c.loop-i.invariant.names;
      same = c.push_position.ensures.names ∙ c.loop-i.invariant.same;
    }

pub returns-clause-ok : goal.returns-clause-ok
returns-clause-ok c =
    let d = c.args.station.now in
    let ops = c.args.ops.now in
    let positions = c.args.positions.now in
    all_lines (λ (x : ℕ × TestPosition). position_lines d ops x.0 x.1) (enumerate_from 1 positions) c.loop-i.i
    c.args.text.now.text c.loop-i.text.text (numbered_end 1 positions c.loop-i.i c.loop-i-test.false) c.loop-i.invariant.text
