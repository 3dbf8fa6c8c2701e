use Rattle.std.proofs.Common.{◌≡◌, ◌+◌, ℕ, List, slice_get, Some, length, map, get_or, refl, sym, ap, ◌∙◌, subst, arith}
use Rattle.std.proofs.lemmas.List.{length-map}
use Rattle.std.proofs.lemmas.Option.{slice_get_read, slice_get-get_or}
use Rattle.contraction.specs.Answers.{Answers}
use Rattle.contraction.specs.Renaming.{mapped}
use Rattle.judge_pool.specs.Places.{node_listed}
use Rattle.judge_pool.specs.Layering.{values_at, no_answers}
use Rattle.judge_pool.proofs.BridgeLemmas.{number_at}
use Rattle.judge_pool.proofs.MappedPools.{at_mapped}
use Rattle.judge_intake.proofs.CodeLemmas.{CodesBelow, codes_none, codes_more, codes_all}
use Rattle.judge_intake.proofs.codes.codes.Goals as goal

pub loop-t-init : goal.loop-t-init
loop-t-init c =
    let values : List Answers =
    values_at (map (mapped (node_listed c.args.list.now)) c.args.pool.now.values.items) c.args.states.now in
    subst (λ (xs : List ℕ). CodesBelow c.args.pool.now.view c.args.station.now c.args.id.0 values xs 0)
    (sym c.new-codes.ensures.items) (codes_none c.args.pool.now.view c.args.station.now c.args.id.0 values)

pub on_nodes-requires-clause-within : goal.on_nodes-requires-clause-within
on_nodes-requires-clause-within c p kept =
    let values = c.args.pool.now.values.items in
    let states = c.args.states.now in
    let t = c.loop-t.t in
    let st : ℕ = get_or states t 0 in
    let y : Answers = c.index-value.result.now in
    let at_st : slice_get states t ≡ Some st = slice_get-get_or states t 0 (omega (arith, c.loop-t-test.true)) in
    let at : slice_get values st ≡ Some y =
    slice_get_read values _ st y refl (c.requires.within t st at_st) c.index-value.ensures in
    c.requires.places t p y (number_at values states t st y at_st at) kept

pub code-label-requires-clause-ends : goal.code-label-requires-clause-ends
code-label-requires-clause-ends c =
    let f : ℕ → ℕ = node_listed c.args.list.now in
    let values = c.args.pool.now.values.items in
    let states = c.args.states.now in
    let t = c.loop-t.t in
    let st : ℕ = get_or states t 0 in
    let y : Answers = c.index-value.result.now in
    let at_st : slice_get states t ≡ Some st = slice_get-get_or states t 0 (omega (arith, c.loop-t-test.true)) in
    let at : slice_get values st ≡ Some y =
    slice_get_read values _ st y refl (c.requires.within t st at_st) c.index-value.ensures in
    let on : slice_get (map (mapped f) values) st ≡ Some c.in_ok-actual.actual =
    at_mapped (mapped f) values st y at ∙ ap Some (sym c.in_ok-actual.ensures) in
    c.requires.ends t c.in_ok-actual.actual
    (number_at (map (mapped f) values) states t st c.in_ok-actual.actual at_st on)

pub loop-t-preserved : goal.loop-t-preserved
loop-t-preserved c =
    let f : ℕ → ℕ = node_listed c.args.list.now in
    let view = c.args.pool.now.view in
    let d = c.args.station.now in
    let m = c.args.id.0 in
    let values = c.args.pool.now.values.items in
    let states = c.args.states.now in
    let t = c.loop-t.t in
    let st : ℕ = get_or states t 0 in
    let y : Answers = c.index-value.result.now in
    let z : Answers = c.in_ok-actual.actual in
    let at_st : slice_get states t ≡ Some st = slice_get-get_or states t 0 (omega (arith, c.loop-t-test.true)) in
    let at : slice_get values st ≡ Some y =
    slice_get_read values _ st y refl (c.requires.within t st at_st) c.index-value.ensures in
    let on : slice_get (map (mapped f) values) st ≡ Some z =
    at_mapped (mapped f) values st y at ∙ ap Some (sym c.in_ok-actual.ensures) in
    subst (λ (xs : List ℕ). CodesBelow view d m (values_at (map (mapped f) values) states) xs (t + 1))
    (sym c.in_ok-push.ensures.items)
    (codes_more view d m (values_at (map (mapped f) values) states) c.loop-t.codes.items t c.code-label.result z
    c.loop-t.invariant (number_at (map (mapped f) values) states t st z at_st on) c.code-label.ensures.says
    c.code-label.ensures.small)

pub returns : goal.returns
returns c =
    let values : List Answers = map (mapped (node_listed c.args.list.now)) c.args.pool.now.values.items in
    let states = c.args.states.now in
    codes_all c.args.pool.now.view c.args.station.now c.args.id.0 (values_at values states) c.loop-t.codes.items
    c.loop-t.t c.loop-t.invariant
    (length-map states (λ i. get_or values i no_answers)
    ∙ (let done : length states ≡ c.loop-t.t = omega (arith, c.loop-t.auto.t-end, c.loop-t-test.false) in done))
