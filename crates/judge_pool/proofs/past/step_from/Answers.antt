use Rattle.std.proofs.Common.{◌≡◌, ◌*◌, List, Some, length, slice_get, sym, ap, ◌∙◌, subst}
use Rattle.std.proofs.lemmas.Option.{slice_get_within, same_Some}
use Rattle.judge_pool.specs.declared.known.KnownLayer.{KnownLayer}
use Rattle.judge_pool.specs.Pooling.{AreEdges}
use Rattle.judge_pool.proofs.PastLemmas.{leads_again}
use Rattle.judge_pool.proofs.past.step_from.Goals as goal
use Rattle.std.proofs.Common.{◌≡◌, ◌*◌, List, Some, length, slice_get, sym, ap, ◌∙◌, subst}
use Rattle.std.proofs.lemmas.Option.{slice_get_within, same_Some}
use Rattle.judge_pool.specs.declared.known.KnownLayer.{KnownLayer}
use Rattle.judge_pool.specs.Pooling.{AreEdges}
use Rattle.judge_pool.proofs.PastLemmas.{leads_again}
use Rattle.judge_pool.proofs.past.step_from.Goals as goal

pub layer_again-requires-clause-place : goal.layer_again-requires-clause-place
layer_again-requires-clause-place c =
    let p = c.args.pool.now in
    let found = c.in-Some.ensures in
    let at : slice_get p.layers.items c.in-Some.place ≡ Some found.0 =
    ap (λ (ls : List KnownLayer). slice_get ls c.in-Some.place) (sym c.deref.ensures.value) ∙ found.1 in
    slice_get_within p.layers.items c.in-Some.place found.0 at

pub returns-in_ok-step-in-Some-clause-few : goal.returns-in_ok-step-in-Some-clause-few
returns-in_ok-step-in-Some-clause-few c =
    let p = c.args.pool.now in
    let found = c.in-Some.ensures in
    let l : KnownLayer = found.0 in
    let at : slice_get p.layers.items c.in-Some.place ≡ Some l =
    ap (λ (ls : List KnownLayer). slice_get ls c.in-Some.place) (sym c.deref.ensures.value) ∙ found.1 in
    let step = c.in_ok-step-in-Some.step in
    let leads = leads_again p l c.args.key c.args.states.now c.args.row.now step.next.items step.edges
    c.args.key.keep (c.requires.pool.layers c.in-Some.place l at) found.2 c.requires.key
    (c.in_ok-step-in-Some.ensures.next l at) (c.in_ok-step-in-Some.ensures.edges l at) in
    leads.few

pub returns-in_ok-step-in-Some-clause-edges : goal.returns-in_ok-step-in-Some-clause-edges
returns-in_ok-step-in-Some-clause-edges c nodes at_nodes =
    let p = c.args.pool.now in
    let found = c.in-Some.ensures in
    let l : KnownLayer = found.0 in
    let at : slice_get p.layers.items c.in-Some.place ≡ Some l =
    ap (λ (ls : List KnownLayer). slice_get ls c.in-Some.place) (sym c.deref.ensures.value) ∙ found.1 in
    let step = c.in_ok-step-in-Some.step in
    let leads = leads_again p l c.args.key c.args.states.now c.args.row.now step.next.items step.edges
    c.args.key.keep (c.requires.pool.layers c.in-Some.place l at) found.2 c.requires.key
    (c.in_ok-step-in-Some.ensures.next l at) (c.in_ok-step-in-Some.ensures.edges l at) in
    subst (λ ns. AreEdges p.view p.values.items ns c.args.states.now c.args.row.now step.next.items step.edges
    (length c.args.states.now * length c.args.row.now)) (same_Some leads.nodes nodes (sym leads.kept ∙ at_nodes))
    leads.edges_lead
