use Rattle.std.proofs.Common.{◌∙◌, refl}
use Rattle.station_graph.proofs.PlaceLemmas.{placed}
use Rattle.central_rules.proofs.plain.word_heard.Goals as goal

pub returns-in-Some : goal.returns-in-Some
returns-in-Some c =
    let p = placed c.args.station.now c.args.bay.0 c.switches_of.result.0.0 c.switches_of.result.1 c.args.id.0
    c.switches_of.ensures.value c.requires.switch in
    rw p.place (rw c.get.ensures (rw c.in-Some.is (c.word_in.ensures ∙ rw c.bytes.ensures.value
    (rw c.from.ensures refl))))
