use Rattle.std.proofs.Common.{inr}
use Rattle.stored_session.proofs.Beginning.{begun}
use Rattle.stored_session.proofs.session.serve.Goals as goal

pub returns : goal.returns
returns g c = inr (
  c.in-Ok.opened.kept,
  record { fits = c.in-Ok.ensures.fits; stands = c.in-Ok.ensures.stands; fit = c.in-Ok.ensures.fit },
  begun _ g.met.D.Device.time _ _ c.in-Ok.ensures.same c.in-Ok.ensures.crash c.in-Ok.ensures.past
      c.in-Ok.ensures.counted
      _ _ _ _ _ _ _ _ _ c.in-Ok-resume.ensures.value c.in-Ok.ensures.write_grows c.in-Ok.ensures.stands
      c.run.ensures.ends,
)
