-- The lines of the states, node by node.
use Rattle.std.proofs.Common.{◌≡◌, ◌++◌, ◌+◌, ℕ, zero, suc, List, [], ◌∷◌, take, slice_get, Some, sym, ◌∙◌, ap}
use Rattle.std.proofs.Common.{arith}
use Rattle.std.proofs.lemmas.List.{append_assoc, append-nil}
use Rattle.std.proofs.lemmas.Option.{same_Some}
use Rattle.station_state.specs.declared.certainty.NodeState.{NodeState}
use Rattle.station_state.specs.StateText.{state_line, state_lines}

-- the lines of the first k states
abbrev pub first_lines : ℕ → List NodeState → List (List ℕ) → List ℕ
first_lines k states paths = state_lines (take k states) (take k paths)

lines_next : (states : List NodeState) (paths : List (List ℕ)) (i : ℕ) (s : NodeState) (p : List ℕ) →
    slice_get states i ≡ Some s → slice_get paths i ≡ Some p → first_lines (suc i) states paths ≡ first_lines i states
    paths ++ state_line s p
lines_next [] paths i s p at_s at_p = cc
lines_next (x ∷ xs) [] i s p at_s at_p = cc
lines_next (x ∷ xs) (q ∷ qs) zero s p at_s at_p =
    let same_s : x ≡ s = same_Some x s at_s in
    let same_p : q ≡ p = same_Some q p at_p in
    append-nil (state_line x q) ∙ ap (λ (y : NodeState). state_line y q) same_s ∙ ap (state_line s) same_p
lines_next (x ∷ xs) (q ∷ qs) (suc i) s p at_s at_p =
    ap (λ rest. state_line x q ++ rest) (lines_next xs qs i s p at_s at_p)
    ∙ sym (append_assoc (state_line x q) (first_lines i xs qs) (state_line s p))

pub lines_more : (states : List NodeState) (paths : List (List ℕ)) (i : ℕ) (s : NodeState) (p : List ℕ) →
    slice_get states i ≡ Some s → slice_get paths i ≡ Some p → first_lines (i + 1) states paths ≡ first_lines i states
    paths ++ state_line s p
lines_more states paths i s p at_s at_p =
    let e : i + 1 ≡ suc i = omega arith in
    ap (λ k. first_lines k states paths) e ∙ lines_next states paths i s p at_s at_p
