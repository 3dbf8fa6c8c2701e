-- One line more.
use Rattle.std.proofs.Common.{◌≡◌, ◌+◌, ℕ, List, [], ◌∷◌, ◌++◌, get_or, arith, length-append, below_more}
use Rattle.std.proofs.lemmas.Grind.{flat_map-append}
use Rattle.std.proofs.Math.Seq.{get_or-append_seam}
use Rattle.std.proofs.lemmas.List.{get_or_append_left, append-nil}
use Rattle.ilk_base.specs.declared.words.Dbpos.{Dbpos}
use Rattle.ilk_base.specs.declared.words.Op.{Op}
use Rattle.station_graph.specs.Diagram.{Diagram}
use Rattle.whatever_text.specs.Whatever.{AreWhateverLines, IsWhateverLine}

pub one_line : (i : ℕ) (d : Diagram) (words : List Dbpos) (op : Op) (lines : List (List ℕ)) (text line : List ℕ) →
    AreWhateverLines i d words op lines text → IsWhateverLine d words op i line
    → AreWhateverLines (i + 1) d words op (lines ++ line ∷ []) (text ++ line)
one_line i d words op lines text line are new = record {
  count = simp length-append (omega (arith, are.count));
  each = below_more _ _
      (λ k lt.
      let e : get_or (lines ++ line ∷ []) k [] ≡ get_or lines k [] =
      get_or_append_left lines (line ∷ []) [] k (omega (arith, lt, are.count)) in
      rw e (are.each k lt))
      (let e : get_or (lines ++ line ∷ []) i [] ≡ line = rw (← are.count) (get_or-append_seam lines line [] []) in
      rw e new);
  text_is = rw (are.text_is, flat_map-append, append-nil);
}
