use Rattle.std.proofs.Common.{◌∙◌, ◌++◌, [], length, ap, subst, sym}
use Rattle.std.specs.List.{flat_map}
use Rattle.structured_text.specs.declared.name.Name.{Name}
use Rattle.structured_text.specs.Spelling.{names_text, true_names_text}
use Rattle.structured_text.specs.Within.{NamesWithin}
use Rattle.program_text.specs.ProgramText.{unless_may}
use Rattle.program_text.proofs.KeptNames.{may_within, others_within}
use Rattle.program_text.proofs.TextLemmas.{two_pieces, same_piece}
use Rattle.program_text.proofs.declarations.inputs_of.Goals as goal

pub write_names-requires : goal.write_names-requires
write_names-requires c =
    let count = length c.args.station.now.switches in
    subst (NamesWithin count) (sym (c.deref.ensures.value ∙ c.in_ok-others.ensures))
    (others_within count c.args.names.now c.requires)

pub write_true_names-requires : goal.write_true_names-requires
write_true_names-requires c =
    let count = length c.args.station.now.switches in
    subst (NamesWithin count) (sym (c.deref-2.ensures.value ∙ c.in_ok-may.ensures))
    (may_within count c.args.names.now c.requires)

pub returns : goal.returns
returns c =
    let paths = c.args.station.now.switch_paths in
    let others = flat_map (λ (n : Name). unless_may n) c.args.names.now in
    let first =
    same_piece _ _ (λ ns. names_text paths ns) _ _ c.in_ok-write_names.ensures
    (c.deref.ensures.value ∙ c.in_ok-others.ensures)
    ∙ ap (λ t. t ++ names_text paths others) c.new-declared.ensures in
    two_pieces [] _ _ _ _ first
    (same_piece _ _ (λ ns. true_names_text paths ns) _ _ c.in_ok-write_true_names.ensures
    (c.deref-2.ensures.value ∙ c.in_ok-may.ensures))
