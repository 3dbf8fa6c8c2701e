use Rattle.std.proofs.Common.{◌⊎◌, ℕ, List, inl, sym, subst}
use Rattle.std.proofs.lemmas.Result.{IfOk-weaker}
use Rattle.bay_protocol.specs.declared.values.Kept.{Kept}
use Rattle.node_store.specs.Image.{IsImageOf}
use Rattle.node_store.proofs.Runs.{begins}
use Rattle.stored_session.proofs.Changing.{is_new, is_old, may_put, is_put}
use Rattle.stored_session.proofs.putting.put_changed.Goals as goal

pub returns-in-Some-clause-crash : goal.returns-in-Some-clause-crash
returns-in-Some-clause-crash g c image told old new stands keep =
    may_put g.D.Device.moment g.D.Device.left_between g.D.Device.left_since c.args.device.now c.put.new.device old
    new c.in-Some.kept (is_new old new c.in-Some.kept c.args.keep c.in-Some.is keep)
    (c.put.ensures.crash image told old stands)

pub returns-in-Some-clause-kept : goal.returns-in-Some-clause-kept
returns-in-Some-clause-kept g c = IfOk-weaker c.put.result _ _ (λ s put. record {
  told = λ image told.
      let done = put.told image told in (
        done.0,
        done.1,
        λ old new stands keep. is_put g.D.Device.moment g.D.Device.left_between g.D.Device.left_since
            c.put.new.device s done.0 new c.in-Some.kept
            (is_new old new c.in-Some.kept c.args.keep c.in-Some.is keep) done.2,
      );
  untold = put.untold;
}) c.put.ensures.put

pub returns-in-None-clause-crash : goal.returns-in-None-clause-crash
returns-in-None-clause-crash g c image told old new stands keep =
    begins g.D.Device.moment g.D.Device.left_between g.D.Device.left_since g.met.D.Device.time c.args.device.now image
    (λ (d : List ℕ). IsImageOf d old ⊎ IsImageOf d new) (c.requires.matches image told).1 (inl stands)

pub returns-in-None-clause-kept : goal.returns-in-None-clause-kept
returns-in-None-clause-kept g c = record {
  told = λ image told.
      let knows = c.requires.matches image told in (
        image,
        told,
        λ old new stands keep. record {
          settled = knows.1;
          matches = knows.0;
          stands = subst (λ (k : Kept). IsImageOf image k) (sym (is_old old new c.args.keep c.in-None.is keep)) stands;
        },
      );
  untold = λ after told. (after, told);
}
