use Rattle.std.proofs.Common.{◌↔◌, IsTrue, List, subst}
use Rattle.station_graph.specs.declared.items.Switch.{Switch}
use Rattle.station_graph.specs.declared.items.Tap.{Tap}
use Rattle.station_graph.specs.Diagram.{Diagram, AllTapped}
use Rattle.station_graph.proofs.builder.Builder.is_complete.Goals as goal

pub returns : goal.returns
returns c =
    let result = c.all_tapped.result in
    let seen = subst (λ (xs : List Switch). IsTrue result ↔ AllTapped xs c.deref-2.result.now) c.deref.ensures.value
    c.all_tapped.ensures in
    let both = subst (λ (ts : List Tap). IsTrue result ↔ AllTapped c.self.inside.switches.items ts)
    c.deref-2.ensures.value seen in
    subst (λ (d : Diagram). IsTrue result ↔ AllTapped d.switches d.taps) c.self.view_is both
