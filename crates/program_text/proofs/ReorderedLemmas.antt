-- Lines in another order are an interlocking too.
use Rattle.std.proofs.Common.{◌≡◌, ◌∙◌, List, sym}
use Rattle.ilk_base.specs.declared.words.Op.{Op}
use Rattle.station_graph.specs.declared.items.Switch.{Switch}
use Rattle.station_graph.specs.Diagram.{Diagram}
use Rattle.station_graph.specs.CentralRules.{Moves}
use Rattle.structured_text.specs.declared.line.Line.{Line}
use Rattle.structured_text.specs.Meaning.{Store, after}
use Rattle.structured_text.specs.Order.{IsInput, AreInOrder}
use Rattle.structured_text.proofs.OrderLaws.{same_meaning}
use Rattle.program_text.specs.Sections.{AreReordered}
use Rattle.program_text.specs.Interlocking.{release_name, IsInterlocking, SetsReleases}

module _ (d : Diagram) (lines sorted : List Line) (order : AreInOrder IsInput lines) (sets : SetsReleases d lines)
    (same : AreReordered lines sorted) where
  pub release_same : (s : Store) (op : Op) (x : Switch) → Moves d op x →
      after sorted s (release_name op) ≡ after lines s (release_name op)
  release_same s op x moves =
      same_meaning IsInput lines sorted s order same.order same.among (release_name op)
      (same.sets (release_name op) (sets op x moves))

-- so is what releases the same
pub still_interlocks : (d : Diagram) (f g : Store → Store) →
    ((s : Store) (op : Op) (x : Switch) → Moves d op x → g s (release_name op) ≡ f s (release_name op)) →
    IsInterlocking d f → IsInterlocking d g
still_interlocks d f g same h = record {
  safe = λ s op x v moves reads e. h.safe s op x v moves reads (sym (same s op x moves) ∙ e);
  exact = λ s op x v moves reads known.
      let k = h.exact s op x v moves reads known in
      let bit = same s op x moves in
      (λ e. k.0 (sym bit ∙ e), λ b. bit ∙ k.1 b);
  tight = λ s op x moves other.
      let k = h.tight s op x moves other in
      let bit = same s op x moves in
      (λ e. k.0 (sym bit ∙ e), λ b. bit ∙ k.1 b);
}
