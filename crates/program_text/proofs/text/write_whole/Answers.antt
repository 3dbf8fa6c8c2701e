use Rattle.program_text.specs.ProgramText.{blocks_text}
use Rattle.program_text.proofs.TextLemmas.{three_pieces, same_piece}
use Rattle.program_text.proofs.text.write_whole.Goals as goal

pub returns : goal.returns
returns c =
    three_pieces _ _ _ _ _ _ _ c.in_ok-push.ensures.ok
    (same_piece _ _ (λ bs. blocks_text c.args.station.now 0 bs) _ _ c.in_ok-write_blocks.ensures c.deref.ensures.value)
    c.in_ok-write_wiring.ensures
