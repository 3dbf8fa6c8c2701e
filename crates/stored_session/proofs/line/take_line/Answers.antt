use Rattle.std.proofs.Common.{◌⊎◌, List, ℕ, inl, refl}
use Rattle.bay_protocol.specs.State.{kept_of}
use Rattle.node_store.specs.Image.{IsImageOf}
use Rattle.node_session.proofs.Going.{appends_nothing}
use Rattle.node_store.proofs.Runs.{begins}
use Rattle.stored_session.proofs.Changing.{left_alone, leaves_now}
use Rattle.stored_session.proofs.line.take_line.Goals as goal

pub returns-in-Err-Memory-clause-crash : goal.returns-in-Err-Memory-clause-crash
returns-in-Err-Memory-clause-crash g c image told =
    let kept = c.requires.kept image told in
    begins g.D.Device.moment g.D.Device.left_between g.D.Device.left_since g.met.D.Device.time c.args.device.now image
    (λ (d : List ℕ). IsImageOf d (kept_of c.args.node.now) ⊎ IsImageOf d (kept_of c.act.new.node)) kept.settled
    (inl kept.stands)

pub returns-in-Err-Refused-clause-crash : goal.returns-in-Err-Refused-clause-crash
returns-in-Err-Refused-clause-crash g c image told =
    let kept = c.requires.kept image told in
    begins g.D.Device.moment g.D.Device.left_between g.D.Device.left_since g.met.D.Device.time c.args.device.now image
    (λ (d : List ℕ). IsImageOf d (kept_of c.args.node.now) ⊎ IsImageOf d (kept_of c.act.new.node)) kept.settled
    (inl kept.stands)

pub returns-in-Err-Memory-clause-taken : goal.returns-in-Err-Memory-clause-taken
returns-in-Err-Memory-clause-taken g c image told some = absurd (some refl)

pub returns-in-Err-Refused-clause-taken : goal.returns-in-Err-Refused-clause-taken
returns-in-Err-Refused-clause-taken g c image told some = absurd (some refl)

pub returns-in_default-clause-taken : goal.returns-in_default-clause-taken
returns-in_default-clause-taken g c image told some = absurd (some refl)

pub returns-in_default-put_changed-clause-taken : goal.returns-in_default-put_changed-clause-taken
returns-in_default-put_changed-clause-taken g c image told some = absurd (some refl)

pub returns-in-Err-Memory-clause-fails : goal.returns-in-Err-Memory-clause-fails
returns-in-Err-Memory-clause-fails g c = appends_nothing (g.O.Sink.took c.args.out.now)

pub returns-in_default-clause-fails : goal.returns-in_default-clause-fails
returns-in_default-clause-fails g c = appends_nothing (g.O.Sink.took c.args.out.now)

pub returns-in_default-put_changed-clause-fails : goal.returns-in_default-put_changed-clause-fails
returns-in_default-put_changed-clause-fails g c = (
  c.in_default-put_changed.ensures.failed,
  (
    c.in-Ok-shown_text.text,
    record {
      output = c.in-Ok.output;
      asked = c.in-Ok.ensures.turn;
      text_is = c.in-Ok-shown_text.ensures;
    },
  ),
  appends_nothing (g.O.Sink.took c.args.out.now),
)

pub returns-in_default-write_all-clause-fails : goal.returns-in_default-write_all-clause-fails
returns-in_default-write_all-clause-fails g c = (
  c.in_default-write_all.ensures.failed,
  record {
    text = c.in-Ok-shown_text.text;
    answers = record {
      output = c.in-Ok.output;
      asked = c.in-Ok.ensures.turn;
      text_is = c.in-Ok-shown_text.ensures;
    };
    wrote = rw c.bytes.ensures at c.in_default-write_all.ensures.err;
  },
)

pub returns-clause-answers : goal.returns-clause-answers
returns-clause-answers g c = record {
  text = c.in-Ok-shown_text.text;
  answers = record {
    output = c.in-Ok.output;
    asked = c.in-Ok.ensures.turn;
    text_is = c.in-Ok-shown_text.ensures;
  };
  wrote = rw c.bytes.ensures at c.in-Ok-write_all.ensures.ok;
}

pub returns-in_default-clause-crash : goal.returns-in_default-clause-crash
returns-in_default-clause-crash g c image told =
    let kept = c.requires.kept image told in
    begins g.D.Device.moment g.D.Device.left_between g.D.Device.left_since g.met.D.Device.time c.args.device.now image
    (λ (d : List ℕ). IsImageOf d (kept_of c.args.node.now) ⊎ IsImageOf d (kept_of c.act.new.node)) kept.settled
    (inl kept.stands)

pub returns-in_default-put_changed-clause-crash : goal.returns-in_default-put_changed-clause-crash
returns-in_default-put_changed-clause-crash g c image told = c.put_changed.ensures.crash image told
    (kept_of c.args.node.now) (kept_of c.act.new.node) (c.requires.kept image told).stands c.in-Ok.ensures.keep

pub returns-in_default-write_all-clause-crash : goal.returns-in_default-write_all-clause-crash
returns-in_default-write_all-clause-crash g c image told = c.put_changed.ensures.crash image told
    (kept_of c.args.node.now) (kept_of c.act.new.node) (c.requires.kept image told).stands c.in-Ok.ensures.keep

pub returns-in_default-write_all-clause-taken : goal.returns-in_default-write_all-clause-taken
returns-in_default-write_all-clause-taken g c image told some d left =
    let kept = c.requires.kept image told in
    let done = c.in-Ok-put_changed.ensures.kept.told image told in
    leaves_now g.D.Device.moment g.D.Device.left_between g.D.Device.left_since c.put_changed.new.device
    c.in-Ok-put_changed.next done.0 (kept_of c.act.new.node) (done.2 (kept_of c.args.node.now)
    (kept_of c.act.new.node) kept.stands c.in-Ok.ensures.keep) d left

pub returns-in_default-write_all-clause-stored : goal.returns-in_default-write_all-clause-stored
returns-in_default-write_all-clause-stored g c _ image told d left =
    let kept = c.requires.kept image told in
    let done = c.in-Ok-put_changed.ensures.kept.told image told in
    leaves_now g.D.Device.moment g.D.Device.left_between g.D.Device.left_since c.put_changed.new.device
    c.in-Ok-put_changed.next done.0 (kept_of c.act.new.node) (done.2 (kept_of c.args.node.now)
    (kept_of c.act.new.node) kept.stands c.in-Ok.ensures.keep) d left

pub returns-clause-crash : goal.returns-clause-crash
returns-clause-crash g c image told = c.put_changed.ensures.crash image told (kept_of c.args.node.now)
    (kept_of c.act.new.node) (c.requires.kept image told).stands c.in-Ok.ensures.keep

pub returns-clause-taken : goal.returns-clause-taken
returns-clause-taken g c image told some d left =
    let kept = c.requires.kept image told in
    let done = c.in-Ok-put_changed.ensures.kept.told image told in
    leaves_now g.D.Device.moment g.D.Device.left_between g.D.Device.left_since c.put_changed.new.device
    c.in-Ok-put_changed.next done.0 (kept_of c.act.new.node) (done.2 (kept_of c.args.node.now)
    (kept_of c.act.new.node) kept.stands c.in-Ok.ensures.keep) d left

pub returns-clause-kept : goal.returns-clause-kept
returns-clause-kept g c = record {
  told = λ image told.
      let kept = c.requires.kept image told in
      let done = c.in-Ok-put_changed.ensures.kept.told image told in
      (done.0, done.1, done.2 (kept_of c.args.node.now) (kept_of c.act.new.node) kept.stands c.in-Ok.ensures.keep);
  untold = c.in-Ok-put_changed.ensures.kept.untold;
}

pub returns-in_default-put_changed-clause-unchanged : goal.returns-in_default-put_changed-clause-unchanged
returns-in_default-put_changed-clause-unchanged g c = λ same.
    left_alone (kept_of c.args.node.now) (kept_of c.act.new.node) _ _ c.in-Ok.ensures.keep
    c.put_changed.ensures.unchanged same

pub returns-in_default-write_all-clause-unchanged : goal.returns-in_default-write_all-clause-unchanged
returns-in_default-write_all-clause-unchanged g c = λ same.
    left_alone (kept_of c.args.node.now) (kept_of c.act.new.node) _ _ c.in-Ok.ensures.keep
    c.put_changed.ensures.unchanged same

pub returns-clause-unchanged : goal.returns-clause-unchanged
returns-clause-unchanged g c = λ same.
    left_alone (kept_of c.args.node.now) (kept_of c.act.new.node) _ _ c.in-Ok.ensures.keep
    c.put_changed.ensures.unchanged same
