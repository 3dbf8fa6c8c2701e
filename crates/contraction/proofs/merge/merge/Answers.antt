use Rattle.std.proofs.Common.{◌≡◌, List, ℕ, length, arith, subst}
use Rattle.contraction.specs.Merging.{Advances, IsLeastNext}
use Rattle.contraction.proofs.MergeLemmas.{short_of_next, merging_step, merging_smaller}
use Rattle.contraction.proofs.merge.merge.Goals as goal

least_at : (a b : List ℕ) (i j k l x : ℕ) → i ≡ k → j ≡ l → IsLeastNext a b i j x → IsLeastNext a b k l x
least_at a b i j k l x e f h = subst (λ n. IsLeastNext a b n l x) e (subst (λ n. IsLeastNext a b i n x) f h)

pub overflow_cast-place : goal.overflow_cast-place
overflow_cast-place c =
    let a = c.args.first.now in
    let b = c.args.second.now in
    let kept = c.merging.kept.items in
    let p = c.merging.first_places.items in
    let q = c.merging.second_places.items in
    let least : IsLeastNext a b (length p) (length q) c.in-Some.node =
    least_at a b c.len.result c.len-in-merging.result (length p) (length q) c.in-Some.node (omega arith) (omega arith)
    c.in-Some.ensures in
    let short = short_of_next a b kept p q c.in-Some.node c.requires.first c.requires.second
    c.merging.invariant least in
    omega arith

pub merging-preserved : goal.merging-preserved
merging-preserved c =
    let a = c.args.first.now in
    let b = c.args.second.now in
    let kept = c.merging.kept.items in
    let p = c.merging.first_places.items in
    let q = c.merging.second_places.items in
    let x = c.in-Some.node in
    let least : IsLeastNext a b (length p) (length q) x =
    least_at a b c.len.result c.len-in-merging.result (length p) (length q) x (omega arith) (omega arith)
    c.in-Some.ensures in
    let at : c.len-place.result ≡ length kept = omega arith in
    let p1 = c.advance.new.places.items in
    let q1 = c.advance-in-Some.new.places.items in
    let in_a : Advances a x (length kept) p p1 = subst (λ n. Advances a x n p p1) at c.in_ok-advance.ensures in
    let in_b : Advances b x (length kept) q q1 = subst (λ n. Advances b x n q q1) at c.in_ok-advance-2.ensures in
    rw c.in_ok-push.ensures.items
    (merging_step a b kept p q p1 q1 x c.requires.first.rises c.requires.second.rises c.merging.invariant least
    in_a in_b)

pub merging-smaller : goal.merging-smaller
merging-smaller c =
    let a = c.args.first.now in
    let b = c.args.second.now in
    let kept = c.merging.kept.items in
    let p = c.merging.first_places.items in
    let q = c.merging.second_places.items in
    let x = c.in-Some.node in
    let least : IsLeastNext a b (length p) (length q) x =
    least_at a b c.len.result c.len-in-merging.result (length p) (length q) x (omega arith) (omega arith)
    c.in-Some.ensures in
    let at : c.len-place.result ≡ length kept = omega arith in
    let p1 = c.advance.new.places.items in
    let q1 = c.advance-in-Some.new.places.items in
    let in_a : Advances a x (length kept) p p1 = subst (λ n. Advances a x n p p1) at c.in_ok-advance.ensures in
    let in_b : Advances b x (length kept) q q1 = subst (λ n. Advances b x n q q1) at c.in_ok-advance-2.ensures in
    merging_smaller a b kept p q p1 q1 x c.requires.first.rises c.requires.second.rises c.merging.invariant least
    in_a in_b
