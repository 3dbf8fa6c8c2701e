use Rattle.std.proofs.Common.{sym, subst}
use Rattle.station_graph.specs.Alike.{Partner}
use Rattle.central_rules.specs.Meaning.{Summarises}
use Rattle.part_alphabets.specs.PartAlphabets.{Alphabets}
use Rattle.part_alphabets.specs.Alphabets.{AreAlphabets}
use Rattle.judge_pool.specs.Lettered.{lettered}
use Rattle.release_compile.specs.Summaries.{by_indices}
use Rattle.release_compile.proofs.judge.GraphJudgeJudge.summarise.Goals as goal

pub returns : goal.returns
returns c =
    let j = c.args.self.now in
    let e = c.parts.ensures.value in
    let are = subst (λ (a : Alphabets). AreAlphabets j.diagram a) (sym e) c.parts.ensures.alphabets in
    let partner : Partner j.diagram c.args.bay.0 c.args.to.0 = c.is_partner.ensures.partner c.if-not-is_partner.false in
    subst (λ (a : Alphabets). Summarises (by_indices (lettered j.diagram a)) c.args.bay.0 c.args.to.0
    c.args.readings.now c.in_ok-summary.summary) e
    (c.in_ok-summary.ensures j.diagram c.args.to.0 c.diagram_is_station.ensures are partner)
