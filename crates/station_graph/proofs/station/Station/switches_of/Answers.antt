use Rattle.std.proofs.Common.{◌≡◌, ◌↔◌, ◌+◌, ◌-◌, ◌<◌, ◌≤◌, ℕ, List, length, slice_get, Some, subst}
use Rattle.station_graph.specs.declared.items.Switch.{Switch}
use Rattle.station_graph.specs.Diagram.{Diagram, AreSwitchesOf}
use Rattle.station_graph.specs.Inside.{diagram_of}
use Rattle.station_graph.proofs.PartLemmas.{first_before_next, AreSwitchesOf-between}
use Rattle.station_graph.proofs.station.Station.switches_of.Goals as goal

pub overflow_sub-result : goal.overflow_sub-result
overflow_sub-result c =
    let d = diagram_of c.self.inside in
    let first = c.first_from-first.result in
    let next = c.first_from-next.result in
    first_before_next d c.args.part.0 first next
    (subst (λ (xs : List Switch). next ≤ length xs) c.deref-2.ensures.value c.first_from-next.ensures.within)
    (subst (λ (xs : List Switch). first ≤ length xs) c.deref.ensures.value c.first_from-first.ensures.within)
    (subst (λ (xs : List Switch). (i : ℕ) (x : Switch) → slice_get xs i ≡ Some x →
    (i < first) ↔ (x.bay.0 < c.args.part.0)) c.deref.ensures.value c.first_from-first.ensures.before)
    (subst (λ (xs : List Switch). (i : ℕ) (x : Switch) → slice_get xs i ≡ Some x →
    (i < next) ↔ (x.bay.0 < c.args.part.0 + 1)) c.deref-2.ensures.value c.first_from-next.ensures.before)

pub returns-clause-value : goal.returns-clause-value
returns-clause-value c =
    let d = diagram_of c.self.inside in
    let first = c.first_from-first.result in
    let next = c.first_from-next.result in
    let next_in = subst (λ (xs : List Switch). next ≤ length xs) c.deref-2.ensures.value
    c.first_from-next.ensures.within in
    let first_in = subst (λ (xs : List Switch). first ≤ length xs) c.deref.ensures.value
    c.first_from-first.ensures.within in
    let at_first = subst (λ (xs : List Switch). (i : ℕ) (x : Switch) → slice_get xs i ≡ Some x →
    (i < first) ↔ (x.bay.0 < c.args.part.0)) c.deref.ensures.value c.first_from-first.ensures.before in
    let at_next = subst (λ (xs : List Switch). (i : ℕ) (x : Switch) → slice_get xs i ≡ Some x →
    (i < next) ↔ (x.bay.0 < c.args.part.0 + 1)) c.deref-2.ensures.value c.first_from-next.ensures.before in
    subst (λ (e : Diagram). AreSwitchesOf e c.args.part.0 first (next - first)) c.self.view_is
    (AreSwitchesOf-between d c.args.part.0 first next next_in first_in at_first at_next
    (first_before_next d c.args.part.0 first next next_in first_in at_first at_next))
