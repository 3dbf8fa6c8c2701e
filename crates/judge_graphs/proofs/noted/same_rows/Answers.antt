use Rattle.std.proofs.Common.{◌≡◌, ℕ, ◌<◌, suc, List, [], ◌∷◌, Vec, Global, slice_get, Some, length, map, refl, sym, ap}
use Rattle.std.proofs.Common.{◌∙◌, subst, inl, inr, arith, rules, IsTrue, true}
use Rattle.std.proofs.lemmas.Option.{slice_get_read, slice_get_within, same_Some}
use Rattle.std.proofs.lemmas.Bool.{cases_lt}
use Rattle.judge_graphs.proofs.noted.same_rows.Goals as goal

all_same : (xs ys : List (Vec ℕ Global)) → length xs ≡ length ys →
    ((k : ℕ) (v w : Vec ℕ Global) → slice_get xs k ≡ Some v → slice_get ys k ≡ Some w → v.items ≡ w.items) →
    map (λ (v : Vec ℕ Global). v.items) xs ≡ map (λ (v : Vec ℕ Global). v.items) ys
all_same [] [] len h = refl
all_same [] (y ∷ ys) len h = absurd (omega (arith, len))
all_same (x ∷ xs) [] len h = absurd (omega (arith, len))
all_same (x ∷ xs) (y ∷ ys) len h =
    ap (λ (r : List ℕ). r ∷ map (λ (v : Vec ℕ Global). v.items) xs) (h 0 x y refl refl) ∙
    ap (λ (rs : List (List ℕ)). y.items ∷ rs) (all_same xs ys (omega (arith, len)) (λ k v w a b. h (suc k) v w a b))

pub loop-place-preserved : goal.loop-place-preserved
loop-place-preserved c k v w lt at_v at_w = elim (cases_lt k c.loop-place.place) [
  | inl less ↦ c.loop-place.invariant k v w less at_v at_w
  | inr more ↦
      let place = c.loop-place.place in
      let holds : IsTrue true = search rules in
      let e : place ≡ k = omega (arith, lt, more) in
      let x : Vec ℕ Global = c.index-one-place.result in
      let y : Vec ℕ Global = c.index-other-place.result in
      let there : place < length c.args.other.now = omega (arith, c.loop-place-test.true, c.if-one-other.false) in
      let at_x : slice_get c.args.one.now place ≡ Some x =
      slice_get_read c.args.one.now _ place x refl c.loop-place-test.true c.index-one-place.is in
      let at_y : slice_get c.args.other.now place ≡ Some y =
      slice_get_read c.args.other.now _ place y refl there c.index-other-place.is in
      let x_is : x ≡ v = same_Some x v (sym at_x ∙ (ap (slice_get c.args.one.now) e ∙ at_v)) in
      let y_is : y ≡ w = same_Some y w (sym at_y ∙ (ap (slice_get c.args.other.now) e ∙ at_w)) in
      ap (λ (z : Vec ℕ Global). z.items) (sym x_is)
      ∙ (c.same_row.ensures (subst IsTrue (sym c.if-not-same_row.false) holds)
      ∙ ap (λ (z : Vec ℕ Global). z.items) y_is)
]

pub returns : goal.returns
returns c done =
    all_same c.args.one.now c.args.other.now c.if-one-other.false
    (λ k v w at_v at_w. c.loop-place.invariant k v w
    (omega (arith, slice_get_within c.args.one.now k v at_v, c.loop-place-test.false)) at_v at_w)
