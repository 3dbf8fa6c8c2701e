use Rattle.std.proofs.Common.{◌≡◌, ◌↔◌, ◌<◌, ℕ, List, Bool, true, Contains, slice_get, Some, subst, sym}
use Rattle.std.proofs.lemmas.Result.{IfOk-weaker}
use Rattle.station_graph.specs.Diagram.{node_count}
use Rattle.station_graph.specs.Sharing.{IsShared}
use Rattle.station_graph.proofs.PartLemmas.{IsShared-from_marks, marks_from_IsShared}
use Rattle.station_graph.proofs.TouchLemmas.{shared_in}
use Rattle.station_graph.proofs.parts.shared.Goals as goal

pub returns-clause-exact : goal.returns-clause-exact
returns-clause-exact c =
    let d = c.args.station.now in
    let part = c.args.part.0 in
    let here = c.deref.result.now in
    let elsewhere = c.deref-2.result.now in
    IfOk-weaker c.marked_twice.result
    (λ l. (n : ℕ) → Contains l n ↔ ((slice_get here n ≡ Some true) × (slice_get elsewhere n ≡ Some true)))
    (λ l. (n : ℕ) → Contains l n ↔ IsShared d part n)
    (λ l h n.
    let in_here = subst (λ (xs : List Bool). slice_get xs n ≡ Some true) c.deref.ensures.value in
    let in_elsewhere = subst (λ (xs : List Bool). slice_get xs n ≡ Some true) c.deref-2.ensures.value in
    let out_here = subst (λ (xs : List Bool). slice_get xs n ≡ Some true) (sym c.deref.ensures.value) in
    let out_elsewhere = subst (λ (xs : List Bool). slice_get xs n ≡ Some true) (sym c.deref-2.ensures.value) in (
      λ there.
          let w = (h n).0 there in
          IsShared-from_marks d part n (
            (c.in_ok-here.ensures.exact n).0 (in_here w.0),
            (c.in_ok-elsewhere.ensures.exact n).0 (in_elsewhere w.1),
          ),
      λ shared.
          let w = marks_from_IsShared d part n shared in
          (h n).1 (
            out_here ((c.in_ok-here.ensures.exact n).1 w.0),
            out_elsewhere ((c.in_ok-elsewhere.ensures.exact n).1
                w.1),
          ),
    ))
    c.marked_twice.ensures.exact

pub returns-clause-within : goal.returns-clause-within
returns-clause-within c =
    let d = c.args.station.now in
    let part = c.args.part.0 in
    IfOk-weaker c.marked_twice.result
    (λ l. (n : ℕ) → Contains l n ↔ IsShared d part n)
    (λ l. (n : ℕ) → Contains l n → n < node_count d)
    (λ l exact n there. shared_in d c.is_station.ensures part n ((exact n).0 there))
    (returns-clause-exact c)
