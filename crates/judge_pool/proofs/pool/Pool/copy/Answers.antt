use Rattle.contraction.specs.Answers.{Answers}
use Rattle.judge_pool.proofs.PoolLemmas.{kept_view, copy_of}
use Rattle.judge_pool.proofs.pool.Pool.copy.Goals as goal

pub keep_only-requires : goal.keep_only-requires
keep_only-requires c n h = (c.requires.nodes n).1 h

pub returns-clause-copy : goal.returns-clause-copy
returns-clause-copy c =
    let q = c.intern.new.self in
    let x : Answers = c.args.value.now in
    let y : Answers = c.in_ok-same.same in
    copy_of q x y c.in_ok-id.id c.in_ok-id.ensures.same
    (λ n. (let k = c.in_ok-same.ensures.kept n in let r = c.requires.nodes n in (λ h. r.1 (k.0 h), λ h. k.1 (r.0 h))))
    (λ view. kept_view view x y c.in_ok-same.ensures.gap c.in_ok-same.ensures.load)
