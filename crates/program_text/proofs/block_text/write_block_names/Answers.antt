use Rattle.std.specs.Prelude.{codes}
use Rattle.structured_text.specs.Spelling.{names_text}
use Rattle.program_text.specs.ProgramText.{section_text, block_inputs}
use Rattle.program_text.proofs.TextLemmas.{three_pieces, same_piece}
use Rattle.program_text.proofs.block_text.write_block_names.Goals as goal

pub returns : goal.returns
returns c =
    let paths = c.args.station.now.switch_paths in
    three_pieces _ _ _ _ _ _ _
    (same_piece _ _ (λ ns. section_text (codes "VAR_INPUT\n") (block_inputs paths ns)) _ _
    c.in_ok-write_block_inputs.ensures c.deref.ensures.value)
    (same_piece _ _ (λ ns. section_text (codes "VAR_OUTPUT\n") (names_text paths ns)) _ _
    c.in_ok-write_names_section.ensures c.deref-2.ensures.value)
    (same_piece _ _ (λ ns. section_text (codes "VAR\n") (names_text paths ns)) _ _
    c.in_ok-write_names_section-2.ensures c.deref-3.ensures.value)
