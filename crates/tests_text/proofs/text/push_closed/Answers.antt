use Rattle.std.proofs.Common.{ℕ, Bool, false, arith, ◌∙◌}
use Rattle.std.specs.List.{enumerate_from}
use Rattle.std.proofs.lemmas.Option.{slice_get-get_or}
use Rattle.tests_text.specs.TestsText.{with_line}
use Rattle.tests_text.proofs.GrowingLemmas.{one_more, all_lines, numbered_at, numbered_end}
use Rattle.tests_text.proofs.text.push_closed.Goals as goal

pub loop-i-preserved : goal.loop-i-preserved
loop-i-preserved c =
    let d = c.args.station.now in
    let v = c.args.closed.now in
    let i = c.loop-i.i in
    record {
      text = one_more (λ (s : ℕ × Bool). with_line d s.0 s.1) (enumerate_from 0 v) i _ c.args.text.now.text c.loop-i.text.text
          c.push_with.new.text.text
          (numbered_at 0 i v i _ (slice_get-get_or v i false (omega (
            arith,
            c.requires.vector,
            c.switch_count-i-end.ensures.count,
            c.loop-i-test.true,
          ))) (omega arith))
          c.loop-i.invariant.text c.in_ok-push_with.ensures.ok;
      names = c.push_with.ensures.names ∙ c.loop-i.invariant.names;
      same = c.push_with.ensures.names ∙ c.loop-i.invariant.same;
    }

pub returns-clause-ok : goal.returns-clause-ok
returns-clause-ok c =
    let d = c.args.station.now in
    let v = c.args.closed.now in
    all_lines (λ (s : ℕ × Bool). with_line d s.0 s.1) (enumerate_from 0 v) c.loop-i.i c.args.text.now.text c.loop-i.text.text
    (numbered_end 0 v c.loop-i.i (omega (arith, c.requires.vector, c.switch_count-i-end.ensures.count, c.loop-i-test.false)))
    c.loop-i.invariant.text
