use Rattle.program_text.specs.ProgramText.{lines_text}
use Rattle.program_text.proofs.TextLemmas.{four_pieces, same_piece}
use Rattle.program_text.proofs.block_text.write_block.Goals as goal

pub returns : goal.returns
returns c =
    four_pieces _ _ _ _ _ _ _ _ _ c.in_ok-write_block_head.ensures c.in_ok-write_block_names.ensures
    (same_piece _ _ (λ ls. lines_text c.args.station.now ls) _ _ c.in_ok-write_lines.ensures c.deref.ensures.value)
    c.in_ok-push.ensures.ok
