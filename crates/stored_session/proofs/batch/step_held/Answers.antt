use Rattle.std.proofs.Common.{◌∙◌, ◌+◌, Err, position, take, drop, refl, sym, ap, arith}
use Rattle.std.specs.Str.Lines.{strip_carriage_return}
use Rattle.node_session.specs.Reading.{is_feed}
use Rattle.stored_session.specs.declared.batch.Batch.{Batch}
use Rattle.stored_session.proofs.Holding.{holds_first, has_feed}
use Rattle.stored_session.proofs.Stepping.{not_none, steps_more, stopped}
use Rattle.stored_session.proofs.batch.step_held.Goals as goal

pub returns-in_default-clause-some : goal.returns-in_default-clause-some
returns-in_default-clause-some g c = λ going. not_none c.loop-batch.batch.count (λ none.
    has_feed c.args.reader.now c.requires.holds
    (ap (position is_feed) (sym (c.held.ensures ∙ c.loop-batch.invariant.still none)) ∙ sym c.first_feed.ensures
    ∙ c.in_default.is))

pub returns-in-Err-clause-steps : goal.returns-in-Err-clause-steps
returns-in-Err-clause-steps g c =
    let at = ap (position is_feed) (sym c.held.ensures) ∙ sym c.first_feed.ensures ∙ c.in-Some.is in
    let line = c.without_return.ensures
    ∙ ap strip_carriage_return (c.split_at.ensures.front ∙ ap (take c.in-Some.len) c.held-in-loop-batch.ensures) in
    let same = c.in-Err.ensures.err in
    stopped _ _ _ _ c.args.reader.now c.loop-batch.node c.loop-batch.reader _ _ c.without_return.result.now
    (drop (c.in-Some.len + 1) c.loop-batch.reader) c.loop-batch.batch _ c.in-Err.trouble c.loop-batch.invariant.steps
    (ap (λ (b : Batch). b.text) same) (ap (λ (b : Batch). b.kept) same) (ap (λ (b : Batch). b.count) same) refl
    (holds_first c.loop-batch.reader c.in-Some.len c.without_return.result.now _ at line refl)
    (λ is. c.in-Err.ensures.refused (ap Err is))

pub loop-batch-preserved : goal.loop-batch-preserved
loop-batch-preserved g c =
    let at = ap (position is_feed) (sym c.held.ensures) ∙ sym c.first_feed.ensures ∙ c.in-Some.is in
    let line = c.without_return.ensures
    ∙ ap strip_carriage_return (c.split_at.ensures.front ∙ ap (take c.in-Some.len) c.held-in-loop-batch.ensures) in
    let adds = c.in_default-add.ensures.ok in
    let found = c.loop-batch.invariant in
    record {
      steps = steps_more _ _ _ _ c.args.reader.now c.loop-batch.node c.loop-batch.reader c.without_return.result.now
          c.add.new.node c.pass.new.self c.loop-batch.batch c.add.new.self found.steps adds
          (holds_first c.loop-batch.reader c.in-Some.len c.without_return.result.now _ at line c.pass.ensures);
      going = adds.stop_is ∙ found.going;
      few = omega (arith, adds.count_is, c.loop-batch-test.true);
      still = λ none. absurd (omega (arith, none, adds.count_is));
      node = c.in_default-add.ensures.node;
      fits = c.in_default-add.ensures.fits;
      bay = c.in_default-add.ensures.bay;
    }
