use Rattle.std.proofs.Common.{◌∙◌}
use Rattle.std.specs.Prelude.{codes}
use Rattle.program_text.specs.ProgramText.{section_text}
use Rattle.program_text.proofs.TextLemmas.{three_pieces, same_piece}
use Rattle.program_text.proofs.text.write_contacts.Goals as goal

pub returns : goal.returns
returns c =
    three_pieces _ _ _ _ _ _ _ c.in_ok-push.ensures.ok
    (same_piece _ _ (λ t. section_text (codes "VAR_INPUT\n") t) _ _ c.in_ok-write_section.ensures
    (c.bytes.ensures ∙ c.in_ok-inputs.ensures))
    (same_piece _ _ (λ t. section_text (codes "VAR_OUTPUT\n") t) _ _ c.in_ok-write_section-2.ensures
    (c.bytes-2.ensures ∙ c.in_ok-outputs.ensures))
