-- The number of a node by its path.
use Rattle.std.proofs.Common.{◌≡◌, ℕ, ◌<◌, ◌≤◌, List, [], length, get_or, Option, Some, None, Bool, true, false, cond}
use Rattle.std.proofs.Common.{refl, ap, ◌∙◌, sym, arith, inl, inr}
use Rattle.std.specs.List.{slice_get, position_or_len}
use Rattle.std.specs.Option.{unwrap_or}
use Rattle.std.specs.Str.{bytes_eq}
use Rattle.std.specs.Prelude.{nat_lt}
use Rattle.std.proofs.lemmas.Bool.{cases_Bool, lt-ltb}
use Rattle.std.proofs.lemmas.Option.{slice_get-get_or}
use Rattle.std.proofs.lemmas.Slice.Eq.{bytes_eq-Decides}
use Rattle.std.proofs.lemmas.List.Sums.{position_or_len_is}
use Rattle.station_graph.specs.Diagram.{Differ}
use Rattle.station_lines.specs.Lines.{node_in}
use Rattle.station_lines.specs.ReadBack.{number_in}

pub number_of : (nodes : List (List ℕ)) (n : ℕ) → Differ nodes → n < length nodes →
    number_in nodes (node_in nodes n) ≡ n
number_of nodes n differ l =
    let p : List ℕ = get_or nodes n [] in
    let here : slice_get nodes n ≡ Some p = slice_get-get_or nodes n [] l in
    let place : position_or_len (bytes_eq p) nodes ≡ n = position_or_len_is (bytes_eq p) nodes n [] (omega arith)
    (λ k m. elim (cases_Bool (bytes_eq p (get_or nodes k []))) [
      | inr fails ↦ fails
      | inl holds ↦
          let same : p ≡ get_or nodes k [] = (bytes_eq-Decides p (get_or nodes k [])).0 holds in
          let there : slice_get nodes k ≡ Some p = slice_get-get_or nodes k [] (omega arith) ∙ ap Some (sym same) in
          let e : k ≡ n = differ k n p there here in
          absurd (omega arith)
    ]) (λ m. (bytes_eq-Decides p p).1 refl) in
    ap (λ (m : ℕ). unwrap_or (cond (nat_lt m (length nodes)) (Some m) None) 0) place
    ∙ ap (λ (b : Bool). unwrap_or (cond b (Some n) None) 0) (lt-ltb n (length nodes) l)
