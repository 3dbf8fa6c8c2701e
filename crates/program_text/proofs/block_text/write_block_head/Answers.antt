use Rattle.program_text.proofs.TextLemmas.{five_pieces}
use Rattle.program_text.proofs.block_text.write_block_head.Goals as goal

pub returns : goal.returns
returns c =
    five_pieces _ _ _ _ _ _ _ _ _ _ _ c.in_ok-write_heading.ensures c.in_ok-write_exchange.ensures
    c.in_ok-push.ensures.ok c.in_ok-push_decimal.ensures.ok c.in_ok-push-2.ensures.ok
