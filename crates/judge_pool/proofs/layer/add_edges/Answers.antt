use Rattle.std.proofs.Common.{◌≡◌, ◌∷◌, [], ◌++◌, take, get_or, sym, ap, ◌∙◌, subst, arith}
use Rattle.std.proofs.lemmas.List.{append-nil, append_assoc, map_more, take_all}
use Rattle.judge_pool.specs.Layering.{at_places}
use Rattle.judge_pool.proofs.layer.add_edges.Goals as goal

pub loop-c-init : goal.loop-c-init
loop-c-init c = sym (append-nil c.args.edges.now.items)

pub loop-c-preserved : goal.loop-c-preserved
loop-c-preserved c =
    let ends = c.args.ends.now in
    let places = c.args.places.now in
    let old = c.args.edges.now.items in
    let k = c.loop-c.c in
    let x = get_or ends (get_or places k 0) 0 in
    c.in_ok-push.ensures.items ∙ (ap (λ l. l ++ x ∷ []) c.loop-c.invariant
    ∙ (append_assoc old (at_places ends (take k places)) (x ∷ [])
    ∙ ap (λ l. old ++ l) (sym (map_more (λ n. get_or ends n 0) places k 0 c.loop-c-test.true))))

pub returns : goal.returns
returns c =
    subst (λ l. c.loop-c.edges.items ≡ c.args.edges.now.items ++ at_places c.args.ends.now l)
    (take_all c.loop-c.c c.args.places.now (omega (arith, c.loop-c-test.false))) c.loop-c.invariant
