use Rattle.std.proofs.Common.{◌≡◌, ◌≤◌, ℕ, length, map, get_or, slice_get, Some, ap, ◌∙◌, arith}
use Rattle.std.proofs.lemmas.List.{take_all}
use Rattle.std.proofs.lemmas.Option.{slice_get-get_or}
use Rattle.judge_pool.specs.Places.{node_listed}
use Rattle.judge_intake.proofs.PlacesLemmas.{nodes_more}
use Rattle.judge_intake.proofs.places.nodes_at.Goals as goal

pub loop-k-init : goal.loop-k-init
loop-k-init c = c.new-nodes.ensures

pub get-requires : goal.get-requires
get-requires c =
    let places = c.args.places.now in
    let k = c.loop-k.k in
    let p : ℕ = get_or places k 0 in
    let at : slice_get places k ≡ Some p = slice_get-get_or places k 0 c.loop-k-test.true in
    omega (arith, c.from-place.ensures, c.requires p (record { place = k; at = at }))

pub loop-k-preserved : goal.loop-k-preserved
loop-k-preserved c =
    let list = c.args.list.now in
    let places = c.args.places.now in
    let k = c.loop-k.k in
    let p : ℕ = get_or places k 0 in
    let at : slice_get places k ≡ Some p = slice_get-get_or places k 0 c.loop-k-test.true in
    let here : c.get.result.0 ≡ get_or list p 0 = c.get.ensures ∙ ap (λ i. get_or list i 0) c.from-place.ensures in
    c.in_ok-push.ensures.ok
    ∙ nodes_more list places c.loop-k.nodes k p c.get.result.0 c.loop-k.invariant at
    (c.requires p (record { place = k; at = at })) here

pub returns : goal.returns
returns c =
    let places = c.args.places.now in
    let done : length places ≤ c.loop-k.k = omega (arith, c.loop-k.auto.k-end, c.loop-k-test.false) in
    c.loop-k.invariant ∙ ap (map (node_listed c.args.list.now)) (take_all c.loop-k.k places done)
