use Rattle.std.proofs.Common.{suc, List, Bool, ◌∙◌, subst, arith}
use Rattle.decision_graphs.specs.Reaching.{IsSet, set_at}
use Rattle.release_compile.proofs.VerdictLemmas.{sets_at}
use Rattle.release_compile.proofs.SetsLemmas.{empty_none}
use Rattle.release_compile.proofs.own_words.own_sets.Goals as goal

pub allow_own-requires-clause-two : goal.allow_own-requires-clause-two
allow_own-requires-clause-two c i lt =
    c.allow_marked.ensures.lens (suc i)
    ∙ (sets_at c.args.inner.now.layers c.in_ok-sets.sets (suc i) c.in_ok-sets.ensures.sets ∙ c.requires.two i lt)

pub allow_own-requires-clause-bare : goal.allow_own-requires-clause-bare
allow_own-requires-clause-bare c i k h =
    let same = c.allow_marked.ensures.others (suc i) (λ e. omega (arith, e)) in
    empty_none c.args.inner.now.layers (suc i) k (subst (λ (ss : List (List Bool)). IsSet (set_at ss (suc i)) k)
    c.in_ok-sets.ensures.empty (subst (λ s. IsSet s k) same h))
