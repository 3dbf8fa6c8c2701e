use Rattle.std.proofs.Common.{◌+◌, sym, subst}
use Rattle.station_graph.specs.Diagram.{Diagram}
use Rattle.station_graph.specs.Supply.{Live}
use Rattle.station_state.specs.State.{Earthed, Between, IsBetween, AreBetween}
use Rattle.station_state.proofs.StateLemmas.{between_next}
use Rattle.station_state.proofs.states.states_between.Goals as goal

pub loop-i-preserved : goal.loop-i-preserved
loop-i-preserved c =
    let d = c.args.station.now in
    let low = c.args.least.now in
    let high = c.args.greatest.now in
    let s = c.state_of.result in
    let here : IsBetween d low.vector high.vector c.loop-i.i s = record {
      live = subst (λ (g : Diagram). Between (Live d low.vector c.loop-i.i) (Live g high.vector c.loop-i.i) s.live)
          c.requires.of_greatest
          (subst (λ (g : Diagram). Between (Live g low.vector c.loop-i.i) (Live high.station.now high.vector c.loop-i.i)
          s.live) c.requires.of_least c.state_of.ensures.live);
      earthed = subst (λ (g : Diagram). Between (Earthed d low.vector c.loop-i.i) (Earthed g high.vector c.loop-i.i)
          s.earthed) c.requires.of_greatest
          (subst (λ (g : Diagram). Between (Earthed g low.vector c.loop-i.i) (Earthed high.station.now high.vector
          c.loop-i.i) s.earthed) c.requires.of_least c.state_of.ensures.earthed);
    } in
    subst (AreBetween (c.loop-i.i + 1) d low.vector high.vector) (sym c.in_ok-push.ensures.items)
    (between_next d low.vector high.vector c.loop-i.i c.loop-i.states.items s c.loop-i.invariant here)
