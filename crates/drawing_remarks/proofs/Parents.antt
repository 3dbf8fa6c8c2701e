-- The element in which one stands comes before it.
use Rattle.std.proofs.Common.{◌≡◌, ℕ, ◌<◌, List, length, Some, arith, ap, subst}
use Rattle.ssd_read.specs.Elements.{Element, element_at, elements_of, front_of_tree}
use Rattle.ssd_read.specs.Drawn.{IsDrawn}
use Rattle.ssd_read.specs.Laws.{StandsIn}
use Rattle.ssd_read.proofs.Drawn.{stands_in, drawn_len}

pub parent_in : (all : List Element) (i p : ℕ) → IsDrawn all → i < length all →
    (element_at all i).entry.parent ≡ Some p → p < length all
parent_in all i p (tree, o, same) h e =
    let there : (element_at (elements_of tree) i).entry.parent ≡ Some p =
    subst (λ (xs : List Element). (element_at xs i).entry.parent ≡ Some p) same e in
    let inside : i < length tree = omega (arith, h, ap length same, drawn_len tree) in
    let s : StandsIn (elements_of tree) i p (front_of_tree tree) = stands_in tree i p o inside there in
    let before : p < i = s.before in
    omega (arith, before, h)
