use Rattle.std.proofs.Common.{refl}
use Rattle.step_graphs.proofs.TouchLemmas.{upto_none}
use Rattle.step_graphs.proofs.spans.bare_span.Goals as goal

pub returns : goal.returns
returns c =
    upto_none c.args.station.now c.args.steps.now c.args.moved c.args.others c.args.node _ refl refl
    c.touched_at-own.ensures
