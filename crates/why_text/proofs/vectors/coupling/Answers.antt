use Rattle.std.proofs.Common.{◌≡◌, ◌∙◌, length, ap, List, Bool}
use Rattle.std.proofs.lemmas.Result.{IfOk-weaker}
use Rattle.station_graph.specs.Connection.{with_breakers_closed}
use Rattle.station_graph.proofs.BreakerLemmas.{length-close_breakers}
use Rattle.why_text.proofs.vectors.coupling.Goals as goal

pub returns-clause-whole : goal.returns-clause-whole
returns-clause-whole c =
    let d = c.args.station.now in
    IfOk-weaker c.with_breakers_closed.result (λ v. v ≡ with_breakers_closed d c.args.vector.now)
    (λ v. length v ≡ length d.switches)
    (λ v e. ap (λ (u : List Bool). length u) e ∙ length-close_breakers d.switches c.args.vector.now ∙ c.requires)
    c.with_breakers_closed.ensures
