use Rattle.std.proofs.Common.{◌≡◌, ◌≤◌, ℕ, length, map, get_or, slice_get, Some, sym, ap, ◌∙◌, arith}
use Rattle.std.proofs.lemmas.List.{take_all}
use Rattle.std.proofs.lemmas.Option.{slice_get-get_or}
use Rattle.contraction.proofs.PlaceLemmas.{keeps_from_has}
use Rattle.judge_pool.specs.Places.{node_listed}
use Rattle.judge_intake.proofs.PlacesLemmas.{places_more}
use Rattle.judge_intake.proofs.places.places_of.Goals as goal

pub loop-k-init : goal.loop-k-init
loop-k-init c = ap (map (node_listed c.args.list.now)) c.new-places.ensures

pub place_in-place-requires : goal.place_in-place-requires
place_in-place-requires c =
    let list = c.args.list.now in
    let nodes = c.args.nodes.now in
    let k = c.loop-k.k in
    let n : ℕ = get_or nodes k 0 in
    let at : slice_get nodes k ≡ Some n = slice_get-get_or nodes k 0 c.loop-k-test.true in
    rw c.numbers-all.ensures (keeps_from_has list n (c.requires.has n (record { place = k; at = at })))

pub loop-k-preserved : goal.loop-k-preserved
loop-k-preserved c =
    let list = c.args.list.now in
    let nodes = c.args.nodes.now in
    let k = c.loop-k.k in
    let n : ℕ = get_or nodes k 0 in
    let at : slice_get nodes k ≡ Some n = slice_get-get_or nodes k 0 c.loop-k-test.true in
    let found : slice_get list c.place_in-place.result ≡ Some n =
    ap (λ xs. slice_get xs c.place_in-place.result) (sym c.numbers-all.ensures) ∙ c.place_in-place.ensures in
    ap (map (node_listed list)) c.in_ok-push.ensures.ok
    ∙ places_more list c.loop-k.places nodes k c.place_in-place.result n c.loop-k.invariant found at

pub returns : goal.returns
returns c =
    let nodes = c.args.nodes.now in
    let done : length nodes ≤ c.loop-k.k = omega (arith, c.loop-k.auto.k-end, c.loop-k-test.false) in
    c.loop-k.invariant ∙ take_all c.loop-k.k nodes done
