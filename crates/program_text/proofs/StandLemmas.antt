-- Steps that stand for the lines of an interlocking release what the lines do.
use Rattle.std.proofs.Common.{◌∙◌, ℕ, List, [], true, sym, subst}
use Rattle.ilk_base.specs.declared.words.Direction.{Direction}
use Rattle.ilk_base.specs.declared.words.Direction.TheVariants.{ToOff, ToOn}
use Rattle.ilk_base.specs.declared.words.Op.{Op}
use Rattle.ilk_base.specs.declared.words.SwitchId.{SwitchId}
use Rattle.station_graph.specs.declared.items.Switch.{Switch}
use Rattle.station_graph.specs.Diagram.{Diagram}
use Rattle.station_graph.specs.CentralRules.{Moves}
use Rattle.structured_text.specs.declared.name.Name.{Name}
use Rattle.structured_text.specs.declared.line.Line.{Line}
use Rattle.structured_text.specs.Meaning.{Store, after}
use Rattle.structured_text.specs.Order.{IsInput, IsRelease, AreInOrder}
use Rattle.program_blocks.specs.declared.block.Block.{Block}
use Rattle.program_blocks.specs.declared.block.Step.{Step}
use Rattle.program_blocks.specs.Calls.{program_after}
use Rattle.program_blocks.specs.Wiring.{IsGiven, known_after}
use Rattle.program_blocks.specs.Standing.{StandFor}
use Rattle.program_blocks.proofs.StepLemmas.{program_same}
use Rattle.program_text.specs.Sections.{AreReordered}
use Rattle.program_text.specs.Interlocking.{towards, release_name, IsInterlocking, SetsReleases}
use Rattle.program_text.proofs.ReorderedLemmas.{release_same, still_interlocks}

is_towards : (i : SwitchId) (to : Direction) → IsRelease (towards i to)
is_towards i ToOff = tt
is_towards i ToOn = tt

module _ (d : Diagram) (whole lines : List Line) (bs : List Block) (steps : List Step) (variables : List Name)
    (order : AreInOrder IsInput whole) (sets : SetsReleases d whole) (same : AreReordered whole lines)
    (stand : StandFor d lines bs steps variables) where
  given : (op : Op) (x : Switch) → Moves d op x → IsGiven true (known_after bs [] steps) (release_name op)
  given op x moves =
      let (k, y, at, e) = same.sets (release_name op) (sets op x moves) in
      subst (IsGiven true (known_after bs [] steps)) e
      (stand.released k y at (subst IsRelease (sym e) (is_towards op.switch op.direction)))

  pub program_interlocks : (stores : ℕ → Store) → IsInterlocking d (after whole) →
      IsInterlocking d (program_after bs steps stores)
  program_interlocks stores h =
      still_interlocks d (after whole) (program_after bs steps stores)
      (λ s op x moves.
      program_same bs steps lines stores s (release_name op) stand.wired stand.same (given op x moves)
      ∙ release_same d whole lines order sets same s op x moves)
      h
