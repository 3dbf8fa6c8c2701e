use Rattle.contraction.specs.Answers.{Answers}
use Rattle.step_graphs.proofs.EndLemmas.{IsWhole, keeps_ends, end_says}
use Rattle.step_graphs.proofs.ends.state_code.Goals as goal

pub end_code-code-requires-clause-ends : goal.end_code-code-requires-clause-ends
end_code-code-requires-clause-ends c =
    let both : IsWhole c.args.value.now c.args.ends.now c.in_ok-whole.whole = record {
      kept = c.in_ok-whole.ensures.composes.kept;
      gap = c.in_ok-whole.ensures.gap;
      load = c.in_ok-whole.ensures.load;
    } in
    keeps_ends c.args.station.now c.args.id.0 c.args.value.now c.args.ends.now c.in_ok-whole.whole c.requires.ends both

pub returns-clause-says : goal.returns-clause-says
returns-clause-says c =
    let both : IsWhole c.args.value.now c.args.ends.now c.in_ok-whole.whole = record {
      kept = c.in_ok-whole.ensures.composes.kept;
      gap = c.in_ok-whole.ensures.gap;
      load = c.in_ok-whole.ensures.load;
    } in
    end_says c.args.station.now c.args.id.0 c.args.value.now c.args.ends.now c.in_ok-whole.whole c.requires.ends both
    c.args.view c.end_code-code.result c.end_code-code.ensures.says
