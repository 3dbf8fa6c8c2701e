use Rattle.std.proofs.Common.{sym, subst, ap, ◌∙◌, ◌≡◌, ℕ}
use Rattle.station_graph.specs.Diagram.{Diagram}
use Rattle.central_rules.specs.Meaning.{bay_of}
use Rattle.part_alphabets.specs.PartAlphabets.{Alphabets}
use Rattle.judge_pool.specs.Lettered.{lettered}
use Rattle.judge_graphs.specs.Built.{BayOf}
use Rattle.release_compile.specs.Chaining.{HasReached}
use Rattle.release_compile.specs.Judging.{ground, bay_at}
use Rattle.release_compile.specs.Summaries.{ArePossibleSets}
use Rattle.release_compile.proofs.station.judge_switch.Goals as goal

-- the bay of the switch, in the station and in the diagram of the judge
same_bay : (d e : Diagram) (a b switch : ℕ) → e ≡ d → a ≡ bay_of d switch → b ≡ bay_of e switch → a ≡ b
same_bay d e a b switch station first second =
    first ∙ (ap (λ (x : Diagram). bay_of x switch) (sym station) ∙ sym second)

pub judge_both-requires-clause-sets : goal.judge_both-requires-clause-sets
judge_both-requires-clause-sets c =
    let j = c.args.judge.now in
    let words = c.args.all.now.words.now in
    let reach = c.args.reach.now in
    let e = same_bay j.diagram _ reach.bay.0 _ c.args.switch.0 c.station-station.ensures.value
    c.requires.bay c.switch_bay-bay.ensures.value in
    subst (λ (d : Diagram). ArePossibleSets (lettered d c.parts-parts.result.now) c.switch_bay-bay.result.0 words
    reach.reached.sets) (sym c.station-station.ensures.value)
    (subst (λ (a : Alphabets). ArePossibleSets (lettered j.diagram a) c.switch_bay-bay.result.0 words
    reach.reached.sets) (sym c.parts-parts.ensures.value)
    (subst (λ (b : ℕ). ArePossibleSets (ground j) b words reach.reached.sets) e c.requires.reach.sets))

pub judge_both-requires-clause-reached : goal.judge_both-requires-clause-reached
judge_both-requires-clause-reached c =
    let j = c.args.judge.now in
    let reach = c.args.reach.now in
    let e = same_bay j.diagram _ reach.bay.0 _ c.args.switch.0 c.station-station.ensures.value
    c.requires.bay c.switch_bay-bay.ensures.value in
    subst (λ (g : BayOf). HasReached g.gap.merged g.load.merged reach.reached) (sym c.bay-graphs.ensures.value)
    (subst (λ (b : ℕ). HasReached (bay_at j b).gap.merged (bay_at j b).load.merged reach.reached) e
    c.requires.reach.reached)
