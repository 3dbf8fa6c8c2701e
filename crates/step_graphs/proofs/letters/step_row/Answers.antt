use Rattle.std.proofs.Common.{◌++◌, ◌∷◌, [], refl, ap, ◌∙◌, false}
use Rattle.judge_pool.proofs.LayeringLemmas.{grew_more, grows}
use Rattle.step_graphs.proofs.StepLemmas.{letter_stays}
use Rattle.step_graphs.proofs.letters.step_row.Goals as goal

pub returns-clause-grew : goal.returns-clause-grew
returns-clause-grew c =
    grew_more c.args.pool.now c.step_id.new.pool c.step_id-2.new.pool c.in_ok-off.ensures.grew c.in_ok-on.ensures.grew

pub returns-clause-row : goal.returns-clause-row
returns-clause-row c =
    let (x, off) = c.in_ok-off.ensures.letter in
    let (y, on) = c.in_ok-on.ensures.letter in (
      x ∷ y ∷ [],
      record {
        open_letter = x;
        closed_letter = y;
        open_id = c.in_ok-off.off;
        closed_id = c.in_ok-on.on;
        both = refl;
        two =
            c.in_ok-push-2.ensures.items
            ∙ (ap (λ xs. xs ++ c.in_ok-on.on ∷ [])
            (c.in_ok-push.ensures.items ∙ ap (λ xs. xs ++ c.in_ok-off.off ∷ []) c.new-ids.ensures.items));
        open_has =
            letter_stays c.step_id.new.pool c.step_id-2.new.pool
            (grows c.step_id.new.pool c.step_id-2.new.pool c.in_ok-on.ensures.grew) c.args.station.now c.args.step false x
            c.in_ok-off.off off;
        closed_has = on;
      },
    )
