use Rattle.std.proofs.Common.{◌∙◌}
use Rattle.std.specs.Prelude.{codes}
use Rattle.program_text.specs.ProgramText.{section_text}
use Rattle.program_text.proofs.TextLemmas.{same_piece}
use Rattle.program_text.proofs.declarations.write_block_inputs.Goals as goal

pub returns : goal.returns
returns c =
    same_piece _ _ (λ t. section_text (codes "VAR_INPUT\n") t) _ _ c.in_ok-write_section.ensures
    (c.bytes.ensures ∙ c.in_ok-declared.ensures)
