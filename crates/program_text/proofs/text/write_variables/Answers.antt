use Rattle.std.proofs.Common.{◌∙◌, ◌++◌, [], ap}
use Rattle.std.specs.Prelude.{codes}
use Rattle.structured_text.specs.Spelling.{names_text}
use Rattle.program_text.specs.ProgramText.{section_text, instances_text}
use Rattle.program_text.proofs.TextLemmas.{two_pieces, same_piece}
use Rattle.program_text.proofs.text.write_variables.Goals as goal

pub returns : goal.returns
returns c =
    let paths = c.args.station.now.switch_paths in
    let steps = c.args.formed.now.steps.items in
    let first =
    same_piece _ _ (λ xs. instances_text 0 xs) _ _ c.in_ok-write_instances.ensures c.deref.ensures.value
    ∙ ap (λ t. t ++ instances_text 0 steps) c.new-declared.ensures in
    same_piece _ _ (λ t. section_text (codes "VAR\n") t) _ _ c.in_ok-write_section.ensures
    (c.bytes.ensures
    ∙ two_pieces [] _ _ _ _ first
    (same_piece _ _ (λ ns. names_text paths ns) _ _ c.in_ok-write_names.ensures c.deref-2.ensures.value))
