use Rattle.program_text.specs.ProgramText.{steps_text}
use Rattle.program_text.proofs.TextLemmas.{four_pieces, same_piece}
use Rattle.program_text.proofs.text.write_wiring.Goals as goal

pub returns : goal.returns
returns c =
    let d = c.args.station.now in
    four_pieces _ _ _ _ _ _ _ _ _ c.in_ok-write_contacts.ensures c.in_ok-write_variables.ensures
    (same_piece _ _ (λ xs. steps_text d c.args.formed.now.blocks.items 0 xs) _ _
    (same_piece _ _ (λ bs. steps_text d bs 0 c.deref-2.result.now) _ _ c.in_ok-write_steps.ensures c.deref.ensures.value)
    c.deref-2.ensures.value) c.in_ok-push.ensures.ok
