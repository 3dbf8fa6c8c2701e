use Rattle.std.proofs.Common.{◌∙◌, sym, ap}
use Rattle.bay_protocol.specs.declared.values.Kept.{Kept}
use Rattle.bay_protocol.specs.State.{kept_of, resumed}
use Rattle.node_store.proofs.Records.{stands_once}
use Rattle.node_store.proofs.laws.stop_is_restart.Goals as goal

pub returns : goal.returns
returns c = λ d s image read node stands opened.
    ap (λ (k : Kept). resumed d s.bay k) (stands_once image read (kept_of s) opened stands)
    ∙ sym (c.restart_is_resume.ensures d s node)
