use Rattle.std.proofs.Common.{sym, ap, ◌∙◌, subst, ◌≡◌}
use Rattle.station_graph.specs.Diagram.{Diagram}
use Rattle.central_rules.specs.Meaning.{bay_of}
use Rattle.part_alphabets.specs.PartAlphabets.{Alphabets}
use Rattle.judge_pool.specs.Lettered.{lettered}
use Rattle.release_compile.specs.Judging.{ground}
use Rattle.release_compile.specs.Summaries.{BayTells}
use Rattle.release_compile.proofs.judge.GraphJudgeJudge.judge.Goals as goal

pub judge_heard-requires-clause-fits : goal.judge_heard-requires-clause-fits
judge_heard-requires-clause-fits c b s ne at =
    let j = c.args.self.now in
    let i = c.args.op.switch.0 in
    let same = c.station-station.ensures.value in
    let is : bay_of j.diagram i ≡ c.switch_bay-bay.result.0 =
    ap (λ (d : Diagram). bay_of d i) (sym same) ∙ sym c.switch_bay-bay.ensures.value in
    let to = c.switch_bay-bay.result.0 in
    let fits : BayTells (ground j) b to s =
    subst (λ k. BayTells (ground j) b k s) is (c.requires.fits b s (λ e. ne (e ∙ is)) at) in
    subst (λ (d : Diagram). BayTells (lettered d c.parts.result.now) b to s) (sym same)
    (subst (λ (x : Alphabets). BayTells (lettered j.diagram x) b to s) (sym c.parts.ensures.value) fits)
