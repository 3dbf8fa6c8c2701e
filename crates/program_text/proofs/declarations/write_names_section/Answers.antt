use Rattle.std.proofs.Common.{◌∙◌, ◌++◌, ap}
use Rattle.structured_text.specs.Spelling.{names_text}
use Rattle.program_text.specs.ProgramText.{section_text}
use Rattle.program_text.proofs.TextLemmas.{same_piece}
use Rattle.program_text.proofs.declarations.write_names_section.Goals as goal

pub returns : goal.returns
returns c =
    let paths = c.args.station.now.switch_paths in
    same_piece _ _ (λ t. section_text c.args.kind.now t) _ _ c.in_ok-write_section.ensures
    (c.bytes.ensures
    ∙ (c.in_ok-write_names.ensures ∙ ap (λ t. t ++ names_text paths c.args.names.now) c.new-declared.ensures))
