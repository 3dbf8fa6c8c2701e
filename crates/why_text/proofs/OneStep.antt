-- One node more of a way.
use Rattle.std.proofs.Common.{◌≡◌, ◌+◌, ℕ, Bool, List, [], ◌∷◌, ◌++◌, length, get_or, arith}
use Rattle.std.proofs.Common.{length-append, below_more}
use Rattle.std.proofs.lemmas.Grind.{flat_map-append}
use Rattle.std.proofs.Math.Seq.{get_or-append_seam}
use Rattle.std.proofs.lemmas.List.{get_or_append_left, append-nil}
use Rattle.station_graph.specs.Diagram.{Diagram}
use Rattle.why_text.specs.WhyLines.{AreSteps, IsStepText}

pub one_step : (i : ℕ) (d : Diagram) (v counted : List Bool) (nodes : List ℕ) (lines : List (List ℕ)) (text line : List ℕ)
    → AreSteps i d v counted nodes lines text → IsStepText d v counted nodes i line →
    AreSteps (i + 1) d v counted nodes (lines ++ line ∷ []) (text ++ line)
one_step i d v counted nodes lines text line are new = record {
  count = simp length-append (omega (arith, are.count));
  each = below_more _ _
      (λ k lt.
      let e : get_or (lines ++ line ∷ []) k [] ≡ get_or lines k [] =
      get_or_append_left lines (line ∷ []) [] k (omega (arith, lt, are.count)) in
      rw e (are.each k lt))
      (let e : get_or (lines ++ line ∷ []) i [] ≡ line = rw (← are.count) (get_or-append_seam lines line [] []) in
      rw e new);
  text_is = rw (are.text_is, flat_map-append, append-nil);
}
