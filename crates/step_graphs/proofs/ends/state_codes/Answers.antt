use Rattle.std.proofs.Common.{◌≡◌, ◌+◌, ℕ, List, slice_get, Some, length, get_or, refl, sym, ◌∙◌, subst, arith}
use Rattle.std.proofs.lemmas.List.{length-map}
use Rattle.std.proofs.lemmas.Option.{slice_get_read, slice_get-get_or}
use Rattle.contraction.specs.Answers.{Answers}
use Rattle.judge_pool.specs.Layering.{values_at, no_answers}
use Rattle.judge_pool.proofs.BridgeLemmas.{number_at}
use Rattle.step_graphs.proofs.EndLemmas.{EndCodesBelow, end_codes_none, end_codes_more, end_codes_all}
use Rattle.step_graphs.proofs.ends.state_codes.Goals as goal

pub loop-t-init : goal.loop-t-init
loop-t-init c =
    let values : List Answers = values_at c.args.pool.now.values.items c.args.states.now in
    subst (λ (xs : List ℕ). EndCodesBelow c.args.pool.now.view c.args.station.now c.args.id.0 values xs 0)
    (sym c.new-codes.ensures.items) (end_codes_none c.args.pool.now.view c.args.station.now c.args.id.0 values)

pub loop-t-preserved : goal.loop-t-preserved
loop-t-preserved c =
    let view = c.args.pool.now.view in
    let d = c.args.station.now in
    let m = c.args.id.0 in
    let values = c.args.pool.now.values.items in
    let states = c.args.states.now in
    let t = c.loop-t.t in
    let st : ℕ = get_or states t 0 in
    let y : Answers = c.index-value.result.now in
    let at_st : slice_get states t ≡ Some st = slice_get-get_or states t 0 (omega (arith, c.loop-t-test.true)) in
    let at : slice_get values st ≡ Some y =
    slice_get_read values _ st y refl (c.requires.within t st at_st) c.index-value.ensures in
    subst (λ (xs : List ℕ). EndCodesBelow view d m (values_at values states) xs (t + 1)) (sym c.in_ok-push.ensures.items)
    (end_codes_more view d m (values_at values states) c.loop-t.codes.items t c.in_ok-code.code y c.loop-t.invariant
    (number_at values states t st y at_st at) c.in_ok-code.ensures.says c.in_ok-code.ensures.small)

pub returns : goal.returns
returns c =
    let values : List Answers = c.args.pool.now.values.items in
    let states = c.args.states.now in
    end_codes_all c.args.pool.now.view c.args.station.now c.args.id.0 (values_at values states) c.loop-t.codes.items
    c.loop-t.t c.loop-t.invariant
    (length-map states (λ i. get_or values i no_answers)
    ∙ (let done : length states ≡ c.loop-t.t = omega (arith, c.loop-t.auto.t-end, c.loop-t-test.false) in done))
