use Rattle.std.proofs.Common.{◌≡◌, ◌<◌, length, slice_get, Some, subst, sym, ap, ◌∙◌}
use Rattle.std.proofs.lemmas.Option.{slice_get_within, slice_get-get_or}
use Rattle.judge_pool.specs.Lying.{AllKeepAs}
use Rattle.judge_pool.proofs.StandLemmas.{all_own}
use Rattle.judge_pool.proofs.pool.Pool.are_on.Goals as goal

pub all_keep-requires : goal.all_keep-requires
all_keep-requires c k i at_i =
    let h = c.requires.can k i at_i in
    subst (λ vs. i < length vs) (sym c.deref-in-Some.ensures.value)
    (slice_get_within c.args.self.now.values.items i h.x h.listed)

pub returns-in-Some : goal.returns-in-Some
returns-in-Some c told =
    let p = c.args.self.now in
    let nodes = c.in-Some.nodes.now in
    let at : slice_get p.keeps.items c.args.keep ≡ Some nodes =
    subst (λ ks. slice_get ks c.args.keep ≡ Some nodes) c.deref.ensures.value
    (slice_get-get_or c.deref.result.now c.args.keep nodes c.in-Some.ensures.lookup.3.0
    ∙ ap Some (sym c.in-Some.ensures.lookup.1)) in
    let all : AllKeepAs p.values.items c.args.ids.now nodes =
    subst (λ vs. AllKeepAs vs c.args.ids.now nodes) c.deref-in-Some.ensures.value
    (subst (λ ns. AllKeepAs c.deref-in-Some.result.now c.args.ids.now ns) c.numbers.ensures (c.all_keep.ensures told)) in
    all_own p c.args.keep c.args.ids.now nodes at c.requires.can all
