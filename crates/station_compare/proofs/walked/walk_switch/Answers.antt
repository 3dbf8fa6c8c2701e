use Rattle.std.proofs.Common.{◌≡◌, ◌-◌, Bool, true, List, length, map, sym, ap, ◌∙◌, subst, arith}
use Rattle.std.proofs.Math.ListN.{replicate}
use Rattle.std.proofs.lemmas.List.{length-replicate}
use Rattle.std.proofs.lemmas.Option.{slice_get_within}
use Rattle.judge_pool.proofs.ErrorLemmas.{passed_on}
use Rattle.graph_walks.specs.Walks.{set_for}
use Rattle.step_graphs.specs.declared.step.Step.{Step}
use Rattle.change_search.specs.Showing.{AreFree, AllowIsolating, AllowAll}
use Rattle.station_compare.proofs.walked.walk_switch.Goals as goal

pub free_steps-requires-clause-place : goal.free_steps-requires-clause-place
free_steps-requires-clause-place c =
    omega (
      arith,
      slice_get_within c.args.moved.now.steps.now.old_steps.items c.args.moved.now.place c.requires.moved.walk.old_at.step
          c.requires.moved.walk.old_at.at,
      ap length c.as_slice-olds.ensures.value,
    )

pub reached-requires-2 : goal.reached-requires-2
reached-requires-2 c =
    let w = c.in_ok-walk.ensures.walk in
    let count : length c.deref-2.result.now ≡ w.others =
    omega (
      arith,
      ap length (c.deref-2.ensures.value ∙ c.in_ok-open.ensures),
      length-replicate (length c.as_slice-olds.result.now - 1) true,
      ap length c.as_slice-olds.ensures.value,
      w.count,
    ) in
    w.walked.choices ∙ ap (λ k. replicate k 2) (sym count)

pub returns-clause-walked : goal.returns-clause-walked
returns-clause-walked c =
    let ss : List Step = c.args.moved.now.steps.now.old_steps.items in
    let ts : List Step = c.args.moved.now.steps.now.new_steps.items in
    let b = c.args.moved.now.place in
    let w = c.in_ok-walk.ensures.walk in
    let free : List Bool = c.in_ok-free.free.items in
    let are : AreFree ss ts b free =
    subst (λ (xs : List Step). AreFree xs ts b free) c.as_slice-olds.ensures.value
    (subst (λ (ys : List Step). AreFree c.as_slice-olds.result.now ys b free) c.as_slice-news.ensures.value
    c.in_ok-free.ensures) in
    let count : length c.as_slice-olds.result.now - 1 ≡ w.others =
    omega (arith, ap length c.as_slice-olds.ensures.value, w.count) in
    record {
      walk = w;
      isolated = c.in_ok-isolated.ensures.reached;
      isolating =
          subst (λ (sets : List (List Bool)). AllowIsolating ss ts b sets)
          (sym (c.in_ok-isolated.ensures.sets ∙ ap (λ (xs : List Bool). map set_for xs) c.deref.ensures.value))
          (c.free_steps_allow.ensures.isolating ss ts b free c.requires.moved.steps.steps.len are);
      all = c.in_ok-all.ensures.reached;
      allowed =
          subst (λ (sets : List (List Bool)). AllowAll ss sets)
          (sym (c.in_ok-all.ensures.sets
          ∙ ap (λ (xs : List Bool). map set_for xs) (c.deref-2.ensures.value ∙ (c.in_ok-open.ensures
          ∙ ap (λ k. replicate k true) count))))
          (c.free_steps_allow.ensures.all ss w.others w.count);
    }

pub returns-in_err-walk-clause-wide : goal.returns-in_err-walk-clause-wide
returns-in_err-walk-clause-wide c =
    passed_on _ _ c.from_residual.result c.from_residual.ensures.1
    (λ trouble same is. c.in_err-walk.ensures.wide (sym same ∙ is))
