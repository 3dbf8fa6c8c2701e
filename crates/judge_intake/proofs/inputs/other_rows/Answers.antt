use Rattle.std.proofs.Common.{◌≡◌, ◌+◌, ◌<◌, ℕ, List, [], ◌∷◌, ◌++◌, slice_get, Some, Vec, Global, length, map, refl}
use Rattle.std.proofs.Common.{sym, ap, ◌∙◌, subst, arith}
use Rattle.std.specs.Prelude.{option_map}
use Rattle.std.proofs.lemmas.List.{map-append}
use Rattle.std.proofs.lemmas.Option.{slice_get_read, slice_get-map}
use Rattle.judge_pool.specs.Graphs.{other_of}
use Rattle.judge_intake.specs.Inputs.{AreOtherRows}
use Rattle.judge_intake.proofs.OtherLemmas.{other_in}
use Rattle.judge_intake.proofs.InputsLemmas.{other_none, other_more}
use Rattle.judge_intake.proofs.inputs.other_rows.Goals as goal

pub loop-i-init : goal.loop-i-init
loop-i-init c =
    let all : List (List ℕ) = map (λ (v : Vec ℕ Global). v.items) c.args.rows.now in
    subst (λ (rs : List (Vec ℕ Global)). AreOtherRows c.args.this all (map (λ (v : Vec ℕ Global). v.items) rs) 0)
    (sym c.new-list.ensures.items) (other_none c.args.this all)

pub loop-i-preserved : goal.loop-i-preserved
loop-i-preserved c =
    let this = c.args.this in
    let i = c.loop-i.i in
    let all : List (List ℕ) = map (λ (v : Vec ℕ Global). v.items) c.args.rows.now in
    let rows : List (List ℕ) = map (λ (v : Vec ℕ Global). v.items) c.loop-i.list.items in
    let row : List ℕ = c.in_ok-copy.copy.items in
    let e : c.from-place.result ≡ other_of 0 this i = c.from-place.ensures ∙ c.other_number.ensures in
    let lt : c.from-place.result < length c.args.rows.now =
    omega (arith, e, (other_in 0 this c.args.others i c.loop-i-test.true).1, c.requires) in
    let at0 : slice_get c.args.rows.now c.from-place.result ≡ Some c.index-rows-place.result =
    slice_get_read c.args.rows.now _ c.from-place.result c.index-rows-place.result refl lt c.index-rows-place.is in
    let at : slice_get all (other_of 0 this i) ≡ Some row =
    ap (slice_get all) (sym e)
    ∙ (slice_get-map (λ (v : Vec ℕ Global). v.items) c.args.rows.now c.from-place.result
    ∙ (ap (option_map (λ (v : Vec ℕ Global). v.items)) at0
    ∙ ap Some (sym (c.in_ok-copy.ensures.items ∙ c.deref.ensures.value)))) in
    let items : map (λ (v : Vec ℕ Global). v.items) c.push.new.self.items ≡ rows ++ row ∷ [] =
    ap (map (λ (v : Vec ℕ Global). v.items)) c.in_ok-push.ensures.items
    ∙ map-append (λ (v : Vec ℕ Global). v.items) c.loop-i.list.items _ in
    subst (λ (rs : List (List ℕ)). AreOtherRows this all rs (i + 1)) (sym items)
    (other_more this all rows i row c.loop-i.invariant at)

pub returns : goal.returns
returns c =
    let done : c.loop-i.i ≡ c.args.others = omega (arith, c.loop-i.auto.i-end, c.loop-i-test.false) in
    subst (λ n. AreOtherRows c.args.this (map (λ (v : Vec ℕ Global). v.items) c.args.rows.now)
    (map (λ (v : Vec ℕ Global). v.items) c.loop-i.list.items) n) done c.loop-i.invariant
