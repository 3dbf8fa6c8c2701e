use Rattle.std.proofs.Common.{◌≡◌, ◌+◌, List, [], ◌∷◌, ◌++◌, map, take, get_or, slice_get, Some, sym, ap, ◌∙◌}
use Rattle.std.proofs.Common.{add-one, arith}
use Rattle.std.proofs.lemmas.List.{take_all}
use Rattle.std.proofs.lemmas.Option.{slice_get-get_or}
use Rattle.graph_products.specs.declared.pair.Pair.{Pair}
use Rattle.graph_products.specs.Products.{no_pair}
use Rattle.graph_walks.specs.declared.codes.Codes.{Codes}
use Rattle.graph_walks.specs.Walks.{codes_at}
use Rattle.graph_walks.proofs.WalkLemmas.{map_take_more}
use Rattle.graph_walks.proofs.walk.codes.Goals as goal

pub loop-t-preserved : goal.loop-t-preserved
loop-t-preserved c =
    let one = c.args.one.now in
    let other = c.args.other.now in
    let pairs = c.args.pairs.now in
    let t = c.loop-t.t in
    let x : Pair = get_or pairs t no_pair in
    let at : slice_get pairs t ≡ Some x = slice_get-get_or pairs t no_pair c.loop-t-test.true in
    let more : map (codes_at one other) (take (t + 1) pairs)
    ≡ map (codes_at one other) (take t pairs) ++ codes_at one other x ∷ [] =
    ap (λ n. map (codes_at one other) (take n pairs)) (add-one t) ∙ map_take_more (codes_at one other) pairs t x at in
    c.in_ok-push.ensures.items
    ∙ (ap (λ (y : Codes). c.loop-t.list.items ++ y ∷ []) c.code.ensures
    ∙ (ap (λ (ys : List Codes). ys ++ codes_at one other x ∷ []) c.loop-t.invariant ∙ sym more))

pub returns : goal.returns
returns c =
    c.loop-t.invariant
    ∙ ap (map (codes_at c.args.one.now c.args.other.now))
    (take_all c.loop-t.t c.args.pairs.now (omega (arith, c.loop-t-test.false)))
