use Rattle.std.proofs.Common.{⊎_elim, inr, subst}
use Rattle.bay_protocol.specs.declared.values.Kept.{Kept}
use Rattle.bay_protocol.specs.Fits.{KeptFits}
use Rattle.node_store.proofs.Records.{stands_once}
use Rattle.node_store.proofs.Writes.{not_true}
use Rattle.stored_session.proofs.opening.open_for_bay.Goals as goal

pub returns-then-kept_fits-clause-fit : goal.returns-then-kept_fits-clause-fit
returns-then-kept_fits-clause-fit g c image told unfit = ⊎_elim
    (λ h. c.in-Ok.ensures.none_refused image told h.0 h.1)
    (λ h. h.2 (subst (λ (k : Kept). KeptFits c.args.station.now c.args.bay.0 k)
    (stands_once image c.in-Ok.opened.kept h.0 (c.in-Ok.ensures.stands image told) h.1)
    (c.kept_fits.ensures.0 c.if-kept_fits.true)))
    unfit

pub returns-clause-unfit : goal.returns-clause-unfit
returns-clause-unfit g c _ image told = inr
    (c.in-Ok.opened.kept, c.in-Ok.ensures.stands image told, not_true c.if-kept_fits.false c.kept_fits.ensures)
