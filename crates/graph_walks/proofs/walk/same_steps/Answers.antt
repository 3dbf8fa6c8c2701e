use Rattle.std.proofs.Common.{◌≡◌, List, [], ◌∷◌, ◌++◌, Vec, Global, map, sym, ap, ◌∙◌, add-one, arith}
use Rattle.std.proofs.lemmas.List.{map-append}
use Rattle.graph_products.specs.declared.row.Row.{Row}
use Rattle.graph_walks.specs.Walks.{same_rows, same_steps}
use Rattle.graph_walks.proofs.WalkLemmas.{replicate_more}
use Rattle.graph_walks.proofs.walk.same_steps.Goals as goal

pub loop-j-preserved : goal.loop-j-preserved
loop-j-preserved c =
    let j = c.loop-j._j in
    let held : List (List Row) = map (λ (v : Vec Row Global). v.items) c.loop-j.steps.items in
    ap (map (λ (v : Vec Row Global). v.items)) c.in_ok-push.ensures.items
    ∙ (map-append (λ (v : Vec Row Global). v.items) c.loop-j.steps.items _
    ∙ (ap (λ (r : List Row). held ++ r ∷ []) c.in_ok-rows.ensures
    ∙ (ap (λ (rs : List (List Row)). rs ++ same_rows ∷ []) c.loop-j.invariant
    ∙ (sym (replicate_more j same_rows) ∙ ap same_steps (sym (add-one j))))))

pub returns : goal.returns
returns c =
    let done : c.loop-j._j ≡ c.args.n = omega (arith, c.loop-j.auto._j-end, c.loop-j-test.false) in
    c.loop-j.invariant ∙ ap same_steps done
