use Rattle.std.proofs.Common.{◌<◌, ◌-◌, length, arith}
use Rattle.std.proofs.lemmas.Option.{slice_get-get_or}
use Rattle.ilk_base.specs.declared.words.Dbpos.TheVariants.{Intermediate}
use Rattle.station_graph.proofs.PlaceLemmas.{placed}
use Rattle.double_points.proofs.bay_words.BayWords.word.Goals as goal

pub returns : goal.returns
returns c =
    let first = c.switches_of.result.0.0 in
    let p = placed c.args.station.now c.args.bay.0 first c.switches_of.result.1 c.args.id.0 c.switches_of.ensures.value
    c.requires.switch in
    let within : c.args.id.0 - first < length c.args.self.now =
    omega (arith, p.from, p.below, c.requires.all, c.switches_of.ensures.value.counted) in
    rw p.place (rw c.from.ensures (rw c.self.view_is (slice_get-get_or c.args.self.now (c.args.id.0 - first)
    Intermediate within)))
