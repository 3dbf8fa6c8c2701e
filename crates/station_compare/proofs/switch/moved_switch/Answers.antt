use Rattle.std.proofs.Common.{sym, ◌∙◌}
use Rattle.judge_pool.proofs.ErrorLemmas.{passed_on}
use Rattle.station_joints.proofs.ChoiceLemmas.{one_place}
use Rattle.station_compare.proofs.WalkLemmas.{one_walk}
use Rattle.station_compare.proofs.switch.moved_switch.Goals as goal

pub walk_switch-requires-clause-moved : goal.walk_switch-requires-clause-moved
walk_switch-requires-clause-moved c = record {
  steps = c.requires.steps;
  walk = record {
    same = c.requires.same;
    old_at = c.requires.place;
    new_at =
        one_place c.args.old.now c.args.new.now c.args.steps.now.old_steps.items c.args.steps.now.new_steps.items
        c.args.place c.args.id.0 c.args.new_id.0 c.is_station-2.ensures c.requires.steps.steps c.requires.same
        c.requires.place;
    others = c.requires.some;
  };
  limit = c.requires.few;
}

pub returns-clause-narrow : goal.returns-clause-narrow
returns-clause-narrow c =
    let o = c.args.old.now in
    let n = c.args.new.now in
    let ss = c.args.steps.now.old_steps.items in
    let ts = c.args.steps.now.new_steps.items in
    let b = c.args.place in
    one_walk o n ss ts b c.args.id.0 c.args.new_id.0 c.args.limit c.is_station.ensures c.requires.steps.steps
    c.requires.same c.requires.place c.in_ok-walked.ensures.keeps

pub returns-in_err-walked-clause-wide : goal.returns-in_err-walked-clause-wide
returns-in_err-walked-clause-wide c =
    let o = c.args.old.now in
    let n = c.args.new.now in
    let ss = c.args.steps.now.old_steps.items in
    let ts = c.args.steps.now.new_steps.items in
    let b = c.args.place in
    passed_on _ _ c.from_residual.result c.from_residual.ensures.1 (λ trouble same is. record {
      place = b;
      old = c.args.id.0;
      walk = record {
        same = c.requires.same;
        old_at = c.requires.place;
        new_at = one_place o n ss ts b c.args.id.0 c.args.new_id.0 c.is_station-2.ensures c.requires.steps.steps
            c.requires.same c.requires.place;
        others = c.requires.some;
      };
      passes = c.in_err-walked.ensures.wide (sym same ∙ is);
    })

pub returns-in_err-closing-clause-wide : goal.returns-in_err-closing-clause-wide
returns-in_err-closing-clause-wide c =
    passed_on _ _ c.from_residual-in_err-closing.result c.from_residual-in_err-closing.ensures.1
    (λ trouble same is. cc)
